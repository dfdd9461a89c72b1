use Rattle.std.proofs.Common.{◌≡◌, ap, ◌∙◌, subst, IfOk}
use Rattle.ink_types.specs.Table.{type_at}
use Rattle.ink_types.specs.TypeTerms.{TypeTerm, borrow_of}
use Rattle.ink_row_types.specs.Slots.{given, option}
use Rattle.ink_row_types.proofs.Borrows.{borrowed}
use Rattle.ink_row_types.proofs.slots.option_of_borrow.Goals as goal

pub returns-in-Ok-clause-means : goal.returns-in-Ok-clause-means
returns-in-Ok-clause-means c =
    let e = c.in-Ok.ensures.means ∙ ap (borrow_of _ c.args.kind) c.in_ok-item.ensures.means ∙ borrowed _ c.args.kind in
    subst (λ (x : TypeTerm). IfOk c.given.result (λ t. type_at c.given.new.types t ≡ given option x)) e c.given.ensures.means
