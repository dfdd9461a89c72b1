use Rattle.std.proofs.Common.{◌≡◌}
use Rattle.ink_signatures.proofs.declared.slot_types.Given as goal

abbrev pub invariant-loop-entry : goal.invariant-loop-entry
invariant-loop-entry l = l.state.types.kinds ≡ l.initial.state.types.kinds
