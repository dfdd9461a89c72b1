use Rattle.std.proofs.Common.{◌+◌, ◌*◌}
use Rattle.ink_declare.proofs.patterns.+bind.Given as goal

abbrev pub decreases-bind : goal.decreases-bind
decreases-bind l = 2 * l.number + 1

abbrev pub decreases-bind_all : goal.decreases-bind_all
decreases-bind_all l = 2 * l.parent

abbrev pub decreases-bind_fields : goal.decreases-bind_fields
decreases-bind_fields l = 2 * l.parent
