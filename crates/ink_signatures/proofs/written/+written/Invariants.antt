use Rattle.std.proofs.Common.{◌≡◌, ◌+◌, ◌*◌}
use Rattle.ink_signatures.proofs.written.+written.Given as goal

abbrev pub decreases-type_from : goal.decreases-type_from
decreases-type_from l = 2 * l.number + 1

abbrev pub decreases-parts_of : goal.decreases-parts_of
decreases-parts_of l = 2 * l.parent

abbrev pub invariant-parts_of-loop-part : goal.invariant-parts_of-loop-part
invariant-parts_of-loop-part l = l.state.types.kinds ≡ l.initial.state.types.kinds
