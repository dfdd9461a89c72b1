use Rattle.std.proofs.Common.{◌+◌, ◌*◌}
use Rattle.ink_unique.proofs.walk.+walk.Given as goal

abbrev pub decreases-walk : goal.decreases-walk
decreases-walk l = 8 * l.number + 7

abbrev pub decreases-walk_inner : goal.decreases-walk_inner
decreases-walk_inner l = 8 * l.number + 6

abbrev pub decreases-walk_lists : goal.decreases-walk_lists
decreases-walk_lists l = 8 * l.number + 5

abbrev pub decreases-walk_child : goal.decreases-walk_child
decreases-walk_child l = 8 * l.number + 4

abbrev pub decreases-walk_call : goal.decreases-walk_call
decreases-walk_call l = 8 * l.parent + 4

abbrev pub decreases-walk_arms : goal.decreases-walk_arms
decreases-walk_arms l = 8 * l.parent + 3

abbrev pub decreases-walk_arm : goal.decreases-walk_arm
decreases-walk_arm l = 8 * l.parent + 2

abbrev pub decreases-walk_guard : goal.decreases-walk_guard
decreases-walk_guard l = 8 * l.parent + 1

abbrev pub decreases-walk_all : goal.decreases-walk_all
decreases-walk_all l = 8 * l.parent + 1

abbrev pub decreases-walk_arguments : goal.decreases-walk_arguments
decreases-walk_arguments l = 8 * l.parent + 1
