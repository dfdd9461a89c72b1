use Rattle.std.proofs.Common.{◌≡◌, map, take}
use Rattle.ink_patterns.specs.Patterns.{field_of, field_at}
use Rattle.ink_patterns.proofs.pattern_form.field_parts.Given as goal

-- the fields so far
abbrev pub invariant-loop-item : goal.invariant-loop-item
invariant-loop-item l = map (field_at l.surface) l.fields.items ≡ map (field_of l.surface) (take l.item-index l.item-items)
