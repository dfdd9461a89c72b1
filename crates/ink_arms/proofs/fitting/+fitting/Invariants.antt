use Rattle.std.proofs.Common.{◌+◌, ◌*◌}
use Rattle.ink_arms.proofs.fitting.+fitting.Given as goal

abbrev pub decreases-is_tested : goal.decreases-is_tested
decreases-is_tested l = 2 * l.number + 1

abbrev pub decreases-is_any_tested : goal.decreases-is_any_tested
decreases-is_any_tested l = 2 * l.parent

abbrev pub decreases-are_all_tested : goal.decreases-are_all_tested
decreases-are_all_tested l = 2 * l.parent

abbrev pub decreases-is_any_field_tested : goal.decreases-is_any_field_tested
decreases-is_any_field_tested l = 2 * l.parent
