use Rattle.ink_forms.specs.Views as view
use Rattle.ink_forms.proofs.Readers.{term_reads}
use Rattle.ink_forms.proofs.arena.Arena.expr.Goals as goal

pub returns-clause-term : goal.returns-clause-term
returns-clause-term c =
    term_reads (view.lists_of c.args.self.now) c.args.self.now.nodes.items c.args.number c.args.self.now.fit _ c.deref.ensures.value c.node_at.result c.expr_of.result c.node_at.ensures c.expr_of.ensures
