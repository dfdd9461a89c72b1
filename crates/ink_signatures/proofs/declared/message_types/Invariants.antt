use Rattle.std.proofs.Common.{◌≡◌}
use Rattle.ink_signatures.proofs.declared.message_types.Given as goal

abbrev pub invariant-loop-parameter : goal.invariant-loop-parameter
invariant-loop-parameter l = l.state.types.kinds ≡ l.initial.state.types.kinds
