use Rattle.std.proofs.Common.{◌≡◌}
use Rattle.ink_signatures.proofs.declared.field_types.Given as goal

abbrev pub invariant-loop-field : goal.invariant-loop-field
invariant-loop-field l = l.state.types.kinds ≡ l.initial.state.types.kinds
