use Rattle.ink_forms.specs.Views as view
use Rattle.ink_forms.proofs.Readers.{written_reads}
use Rattle.ink_forms.proofs.arena.Arena.written.Goals as goal

pub returns-clause-written : goal.returns-clause-written
returns-clause-written c =
    written_reads (view.lists_of c.args.self.now) c.args.self.now.nodes.items c.args.number c.args.self.now.fit _ c.deref.ensures.value c.node_at.result c.written_of.result c.node_at.ensures c.written_of.ensures
