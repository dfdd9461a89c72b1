use Rattle.std.proofs.Common.{◌*◌, ◌+◌, All, take}
use Rattle.ink_forms.specs.Views as view
use Rattle.ink_patterns.specs.Makes.{AreTypes}
use Rattle.ink_patterns.specs.Types.{types_at}
use Rattle.ink_patterns.proofs.written.+types.Given as goal

abbrev pub decreases-types : goal.decreases-types
decreases-types l = 2 * l.depth + 1

abbrev pub decreases-written_type : goal.decreases-written_type
decreases-written_type l = 2 * l.depth

-- the types so far are there
abbrev pub invariant-types-loop-item : goal.invariant-types-loop-item
invariant-types-loop-item l = record {
  made : AreTypes (types_at l.surface (take l.item-index l.items)) l.initial.arena l.arena l.numbers.items;
  below : All (view.IsBefore (view.count l.arena)) l.numbers.items;
  keeps : view.Keeps l.initial.arena l.arena;
}
