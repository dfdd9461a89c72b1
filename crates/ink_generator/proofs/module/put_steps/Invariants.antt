use Rattle.std.proofs.Common.{◌≡◌, ◌++◌}
use Rattle.ink_generator.specs.Generated.{lines, step_line}
use Rattle.ink_generator.proofs.module.put_steps.Given as goal

-- the lines so far are written
abbrev pub invariant-loop-before : goal.invariant-loop-before
invariant-loop-before l = l.out.items ≡ l.initial.out.items ++ lines step_line l.before
