use Rattle.std.proofs.Common.{◌≡◌, ◌++◌}
use Rattle.ink_generator.specs.Generated.{lines, send_line}
use Rattle.ink_generator.proofs.module.put_sends.Given as goal

-- the lines so far are written
abbrev pub invariant-loop-before : goal.invariant-loop-before
invariant-loop-before l = l.out.items ≡ l.initial.out.items ++ lines send_line l.before
