use Rattle.std.proofs.Common.{map, ap, ◌∙◌, rules}
use Rattle.std.proofs.lemmas.List.{take_all}
use Rattle.ink_grammar.specs.Views.{tree_at}
use Rattle.ink_patterns.specs.Patterns.{field_of}
use Rattle.ink_patterns.proofs.Listed.{fields_at_items}
use Rattle.ink_patterns.proofs.pattern_form.field_parts.Goals as goal

pub returns : goal.returns
returns c =
    let x = c.args.surface.now in
    let items = c.in_ok-items.items.items in
    let all = take_all c.loop-item.item-index items (search rules) in
    c.loop-item.invariant ∙ ap (map (field_of x)) (search (rules, all)) ∙ fields_at_items x items (tree_at x.module.now c.args.list) c.in_ok-items.ensures
