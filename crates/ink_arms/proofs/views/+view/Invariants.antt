use Rattle.std.proofs.Common.{◌+◌, ◌*◌}
use Rattle.ink_arms.proofs.views.+view.Given as goal

abbrev pub decreases-view_pattern : goal.decreases-view_pattern
decreases-view_pattern l = 3 * l.number + 1

abbrev pub decreases-view_object : goal.decreases-view_object
decreases-view_object l = 3 * l.number

abbrev pub decreases-view_part : goal.decreases-view_part
decreases-view_part l = 3 * l.number + 2

abbrev pub decreases-view_alternatives : goal.decreases-view_alternatives
decreases-view_alternatives l = 3 * l.parent
