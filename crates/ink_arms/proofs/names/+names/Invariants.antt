use Rattle.std.proofs.Common.{◌+◌, ◌*◌}
use Rattle.ink_arms.proofs.names.+names.Given as goal

abbrev pub decreases-is_bound_in : goal.decreases-is_bound_in
decreases-is_bound_in l = 2 * l.number + 1

abbrev pub decreases-is_bound_in_any : goal.decreases-is_bound_in_any
decreases-is_bound_in_any l = 2 * l.parent

abbrev pub decreases-is_bound_in_fields : goal.decreases-is_bound_in_fields
decreases-is_bound_in_fields l = 2 * l.parent
