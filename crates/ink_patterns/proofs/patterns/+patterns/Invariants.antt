use Rattle.std.proofs.Common.{◌*◌, ◌+◌, All, map, take}
use Rattle.ink_forms.specs.Views as view
use Rattle.ink_patterns.specs.Makes.{ArePats, AreFields}
use Rattle.ink_patterns.specs.Patterns.{patterns_at, field_at}
use Rattle.ink_patterns.proofs.patterns.+patterns.Given as goal

abbrev pub decreases-patterns : goal.decreases-patterns
decreases-patterns l = 2 * l.depth + 1

abbrev pub decreases-field_patterns : goal.decreases-field_patterns
decreases-field_patterns l = 2 * l.depth + 1

abbrev pub decreases-pattern : goal.decreases-pattern
decreases-pattern l = 2 * l.depth

-- the patterns so far are there
abbrev pub invariant-patterns-loop-item : goal.invariant-patterns-loop-item
invariant-patterns-loop-item l = record {
  made : ArePats (patterns_at l.surface (take l.item-index l.items)) l.initial.arena l.arena l.numbers.items;
  below : All (view.IsBefore (view.count l.arena)) l.numbers.items;
  keeps : view.Keeps l.initial.arena l.arena;
}

-- the fields so far are there
abbrev pub invariant-field_patterns-loop-named : goal.invariant-field_patterns-loop-named
invariant-field_patterns-loop-named l = record {
  made : AreFields (map (field_at l.surface) (take l.named-index l.fields)) l.initial.arena l.arena l.made.items;
  below : All (view.IsFieldBefore (view.count l.arena)) l.made.items;
  keeps : view.Keeps l.initial.arena l.arena;
}
