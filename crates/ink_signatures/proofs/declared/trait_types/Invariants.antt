use Rattle.std.proofs.Common.{◌≡◌}
use Rattle.ink_signatures.proofs.declared.trait_types.Given as goal

abbrev pub invariant-loop-index : goal.invariant-loop-index
invariant-loop-index l = l.state.types.kinds ≡ l.initial.state.types.kinds
