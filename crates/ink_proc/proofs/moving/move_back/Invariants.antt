use Rattle.std.proofs.Common.{◌≡◌, ◌≤◌, take, length}
use Rattle.ink_proc.proofs.MovingLemmas.{restored}
use Rattle.ink_proc.proofs.moving.move_back.Given as goal

abbrev pub invariant-loop-value : goal.invariant-loop-value
invariant-loop-value l = record {
  so_far : restored (take (length l.values) l.numbers) l.values l.registers ≡ restored l.numbers l.fn.values l.fn.registers;
  count : length l.values ≤ length l.numbers;
}

abbrev pub decreases-loop-value : goal.decreases-loop-value
decreases-loop-value l = length l.values
