use Rattle.std.proofs.Common.{◌≡◌, ◌++◌, drop}
use Rattle.ink_paths.specs.Paths.{moved_in}
use Rattle.ink_paths.proofs.moved.moved_of.Given as goal

abbrev pub invariant-loop-point : goal.invariant-loop-point
invariant-loop-point l = l.moved.items ++ moved_in (drop l.point-index l.points) ≡ moved_in l.points
