use Rattle.ink_forms.specs.Views as view
use Rattle.ink_forms.proofs.Grown.{items_length}
use Rattle.ink_forms.proofs.Lists.{term_made}
use Rattle.ink_forms.proofs.arena.Arena.push_expr.Goals as goal

pub returns-clause-made : goal.returns-clause-made
returns-clause-made c =
    let old = c.args.self.now in
    term_made (view.items_of old) (view.items_of c.push.new.self) c.in_ok-number.number (view.count old) c.in_ok-number.ensures.number
    (items_length (view.lists_of old) old.nodes.items) (λ n. view.expr_tree old n c.args.start c.args.place c.args.expr) c.in_ok-number.ensures.items
