use Rattle.std.proofs.Common.{◌≡◌}
use Rattle.ink_signatures.proofs.own.own_types.Given as goal

abbrev pub invariant-loop-index : goal.invariant-loop-index
invariant-loop-index l = l.types.kinds ≡ l.initial.types.kinds
