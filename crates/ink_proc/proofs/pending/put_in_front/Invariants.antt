use Rattle.std.proofs.Common.{◌≡◌, ◌+◌, ◌≤◌, ◌++◌, length, reverse}
use Rattle.std.specs.Vec.{vec_capacity, vec_len}
use Rattle.ink_proc.proofs.pending.put_in_front.Given as goal

abbrev pub invariant-loop-value : goal.invariant-loop-value
invariant-loop-value l = record {
  so_far : l.values ++ reverse l.items.items ≡ l.fn.values ++ reverse l.fn.items.items;
  room : vec_len l.items + length l.values ≤ vec_capacity l.items;
}

abbrev pub decreases-loop-value : goal.decreases-loop-value
decreases-loop-value l = length l.values
