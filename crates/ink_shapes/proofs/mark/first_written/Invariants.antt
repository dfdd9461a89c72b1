use Rattle.std.proofs.Common.{◌≡◌, drop}
use Rattle.ink_shapes.specs.Marks.{first_written}
use Rattle.ink_shapes.proofs.mark.first_written.Given as goal

-- it is the first of those that are left
abbrev pub invariant-loop-mark : goal.invariant-loop-mark
invariant-loop-mark l =
    first_written l.marks l.written ≡ first_written (drop l.mark-index l.marks) l.written
