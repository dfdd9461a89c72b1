use Rattle.std.proofs.Common.{◌+◌, ◌*◌}
use Rattle.ink_lower.proofs.walk.+walk.Given as goal

abbrev pub decreases-walk : goal.decreases-walk
decreases-walk l = 16 * l.number + 15

abbrev pub decreases-walk_inner : goal.decreases-walk_inner
decreases-walk_inner l = 16 * l.number + 14

abbrev pub decreases-walk_called : goal.decreases-walk_called
decreases-walk_called l = 16 * l.number + 13

abbrev pub decreases-walk_stated : goal.decreases-walk_stated
decreases-walk_stated l = 16 * l.number + 16

abbrev pub decreases-walk_block : goal.decreases-walk_block
decreases-walk_block l = 16 * l.parent + 5

abbrev pub decreases-walk_loop : goal.decreases-walk_loop
decreases-walk_loop l = 16 * l.number + 5

abbrev pub decreases-walk_let : goal.decreases-walk_let
decreases-walk_let l = 16 * l.number + 5

abbrev pub decreases-walk_root : goal.decreases-walk_root
decreases-walk_root l = 16 * l.path + 16

abbrev pub decreases-walk_operand : goal.decreases-walk_operand
decreases-walk_operand l = 16 * l.number + 16

abbrev pub decreases-walk_operands : goal.decreases-walk_operands
decreases-walk_operands l = 16 * l.parent + 3

abbrev pub decreases-walk_arguments : goal.decreases-walk_arguments
decreases-walk_arguments l = 16 * l.parent + 3

abbrev pub decreases-walk_field : goal.decreases-walk_field
decreases-walk_field l = 16 * l.number + 5

abbrev pub decreases-walk_call : goal.decreases-walk_call
decreases-walk_call l = 16 * l.number + 5

abbrev pub decreases-walk_operator : goal.decreases-walk_operator
decreases-walk_operator l = 16 * l.number + 5

abbrev pub decreases-walk_listed : goal.decreases-walk_listed
decreases-walk_listed l = 16 * l.number + 5

abbrev pub decreases-walk_new : goal.decreases-walk_new
decreases-walk_new l = 16 * l.number + 5

abbrev pub decreases-walk_borrow : goal.decreases-walk_borrow
decreases-walk_borrow l = 16 * l.number + 5

abbrev pub decreases-walk_write : goal.decreases-walk_write
decreases-walk_write l = 16 * l.number + 5

abbrev pub decreases-walk_condition : goal.decreases-walk_condition
decreases-walk_condition l = 16 * l.number + 5

abbrev pub decreases-walk_side : goal.decreases-walk_side
decreases-walk_side l = 16 * l.parent + 4

abbrev pub decreases-walk_value : goal.decreases-walk_value
decreases-walk_value l = 16 * l.parent + 2

abbrev pub decreases-walk_match : goal.decreases-walk_match
decreases-walk_match l = 16 * l.number + 5

abbrev pub decreases-walk_arms : goal.decreases-walk_arms
decreases-walk_arms l = 16 * l.parent + 4

abbrev pub decreases-walk_arm : goal.decreases-walk_arm
decreases-walk_arm l = 16 * l.parent + 3

abbrev pub decreases-walk_guard : goal.decreases-walk_guard
decreases-walk_guard l = 16 * l.parent + 2
