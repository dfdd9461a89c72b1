use Rattle.std.proofs.Common.{◌+◌, ◌*◌}
use Rattle.ink_arms.proofs.binding.+bind.Given as goal

abbrev pub decreases-bind_pattern : goal.decreases-bind_pattern
decreases-bind_pattern l = 3 * l.number + 1

abbrev pub decreases-bind_owned : goal.decreases-bind_owned
decreases-bind_owned l = 3 * l.number

abbrev pub decreases-bind_below : goal.decreases-bind_below
decreases-bind_below l = 3 * l.number

abbrev pub decreases-bind_part : goal.decreases-bind_part
decreases-bind_part l = 3 * l.number + 2

abbrev pub decreases-bind_alternatives : goal.decreases-bind_alternatives
decreases-bind_alternatives l = 3 * l.parent
