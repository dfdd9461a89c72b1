use Rattle.std.proofs.Common.{◌+◌, ◌*◌}
use Rattle.ink_check.proofs.walk.+walk.Given as goal

abbrev pub decreases-walk : goal.decreases-walk
decreases-walk l = 16 * l.number + 15

abbrev pub decreases-walk_simple : goal.decreases-walk_simple
decreases-walk_simple l = 16 * l.spot.number + 14

abbrev pub decreases-walk_outer : goal.decreases-walk_outer
decreases-walk_outer l = 16 * l.spot.number + 13

abbrev pub decreases-walk_called : goal.decreases-walk_called
decreases-walk_called l = 16 * l.spot.number + 12

abbrev pub decreases-walk_operand : goal.decreases-walk_operand
decreases-walk_operand l = 16 * l.number + 16

abbrev pub decreases-walk_field : goal.decreases-walk_field
decreases-walk_field l = 16 * l.spot.number + 5

abbrev pub decreases-walk_typed_let : goal.decreases-walk_typed_let
decreases-walk_typed_let l = 16 * l.spot.number + 5

abbrev pub decreases-walk_place : goal.decreases-walk_place
decreases-walk_place l = 16 * l.number + 5

abbrev pub decreases-walk_block : goal.decreases-walk_block
decreases-walk_block l = 16 * l.spot.number + 5

abbrev pub decreases-walk_match : goal.decreases-walk_match
decreases-walk_match l = 16 * l.spot.number + 5

abbrev pub decreases-walk_guard : goal.decreases-walk_guard
decreases-walk_guard l = 16 * l.condition + 16

abbrev pub decreases-walk_panic : goal.decreases-walk_panic
decreases-walk_panic l = 16 * l.spot.number + 5

abbrev pub decreases-walk_array : goal.decreases-walk_array
decreases-walk_array l = 16 * l.spot.number + 5

abbrev pub decreases-walk_new : goal.decreases-walk_new
decreases-walk_new l = 16 * l.spot.number + 5

abbrev pub decreases-walk_call : goal.decreases-walk_call
decreases-walk_call l = 16 * l.spot.number + 5

abbrev pub decreases-walk_operator : goal.decreases-walk_operator
decreases-walk_operator l = 16 * l.spot.number + 5

abbrev pub decreases-walk_arguments : goal.decreases-walk_arguments
decreases-walk_arguments l = 16 * l.spot.number + 3
