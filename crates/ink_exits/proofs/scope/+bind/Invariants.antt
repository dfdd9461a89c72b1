use Rattle.std.proofs.Common.{◌≡◌, ◌+◌, ◌*◌, drop}
use Rattle.ink_forms.specs.Views as view
use Rattle.ink_exits.specs.Scopes.{bind_all, bind_fields}
use Rattle.ink_exits.proofs.scope.+bind.Given as goal

abbrev pub decreases-bind : goal.decreases-bind
decreases-bind l = 2 * l.number + 1

abbrev pub decreases-bind_all : goal.decreases-bind_all
decreases-bind_all l = 2 * l.parent

abbrev pub decreases-bind_first : goal.decreases-bind_first
decreases-bind_first l = 2 * l.parent

abbrev pub decreases-bind_fields : goal.decreases-bind_fields
decreases-bind_fields l = 2 * l.parent

abbrev pub invariant-bind_all-loop-part : goal.invariant-bind_all-loop-part
invariant-bind_all-loop-part l = bind_all (view.pats l.arena (drop l.part-index l.part-items)) l.scope.items ≡ bind_all (view.pats l.arena l.part-items) l.initial.scope.items

abbrev pub invariant-bind_fields-loop-field : goal.invariant-bind_fields-loop-field
invariant-bind_fields-loop-field l = bind_fields (view.fields l.arena (drop l.field-index l.field-items)) l.scope.items ≡ bind_fields (view.fields l.arena l.field-items) l.initial.scope.items
