use Rattle.std.proofs.Common.{◌≡◌, ◌≤◌, ◌-◌}
use Rattle.std.specs.Vec.{vec_capacity, vec_len}
use Rattle.ink_code.specs.Process.{padded}
use Rattle.ink_proc.proofs.moving.pad.Given as goal

abbrev pub invariant-loop-values : goal.invariant-loop-values
invariant-loop-values l = record {
  so_far : padded l.most l.values.items ≡ padded l.most l.fn.values.items;
  room : l.most ≤ vec_capacity l.values;
}

abbrev pub decreases-loop-values : goal.decreases-loop-values
decreases-loop-values l = l.most - vec_len l.values
