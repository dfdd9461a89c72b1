use Rattle.ink_forms.specs.Views as view
use Rattle.ink_forms.proofs.Readers.{method_reads}
use Rattle.ink_forms.proofs.arena.Arena.method.Goals as goal

pub returns-clause-method : goal.returns-clause-method
returns-clause-method c =
    method_reads (view.lists_of c.args.self.now) c.args.self.now.nodes.items c.args.number c.args.self.now.fit _ c.deref.ensures.value c.node_at.result c.method_of.result c.node_at.ensures c.method_of.ensures
