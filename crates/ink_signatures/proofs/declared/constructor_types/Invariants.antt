use Rattle.std.proofs.Common.{◌≡◌}
use Rattle.ink_signatures.proofs.declared.constructor_types.Given as goal

abbrev pub invariant-loop-constructor : goal.invariant-loop-constructor
invariant-loop-constructor l = l.state.types.kinds ≡ l.initial.state.types.kinds
