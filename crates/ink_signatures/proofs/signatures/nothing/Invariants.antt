use Rattle.std.proofs.Common.{◌≡◌, None, replicate}
use Rattle.ink_signatures.proofs.signatures.nothing.Given as goal

abbrev pub invariant-loop : goal.invariant-loop
invariant-loop l = l.table.items ≡ replicate l.counter None
