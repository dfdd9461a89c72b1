use Rattle.std.proofs.Common.{◌≡◌, ◌+◌, ◌++◌, drop, length}
use Rattle.std.specs.Vec.{vec_capacity, vec_len}
use Rattle.ink_proc.proofs.moving.move_behind.Given as goal

abbrev pub invariant-loop-index : goal.invariant-loop-index
invariant-loop-index l = record {
  so_far : l.front.items ++ drop l.index l.values ≡ l.fn.front.items ++ l.fn.values;
  count : length l.values ≡ length l.fn.values;
  room : vec_len l.front ≡ vec_len l.fn.front + l.index;
  capacity : vec_capacity l.front ≡ vec_capacity l.fn.front;
}
