use Rattle.std.proofs.Common.{◌≡◌, None, replicate}
use Rattle.ink_matrix.proofs.rows.anys.Given as goal

abbrev pub invariant-loop : goal.invariant-loop
invariant-loop l = l.parts.items ≡ replicate l.counter None
