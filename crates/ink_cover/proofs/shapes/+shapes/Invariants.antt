use Rattle.std.proofs.Common.{◌+◌, ◌*◌}
use Rattle.ink_cover.proofs.shapes.+shapes.Given as goal

abbrev pub decreases-part_of : goal.decreases-part_of
decreases-part_of l = 4 * l.number + 3

abbrev pub decreases-push_shapes : goal.decreases-push_shapes
decreases-push_shapes l = 4 * l.number + 2

abbrev pub decreases-push_all : goal.decreases-push_all
decreases-push_all l = 4 * l.parent + 1

abbrev pub decreases-constructor_parts : goal.decreases-constructor_parts
decreases-constructor_parts l = 4 * l.parent + 1

abbrev pub decreases-field_parts : goal.decreases-field_parts
decreases-field_parts l = 4 * l.parent + 1
