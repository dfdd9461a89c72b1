use Rattle.ink_forms.specs.Views as view
use Rattle.ink_forms.proofs.Readers.{parameter_reads}
use Rattle.ink_forms.proofs.arena.Arena.parameter.Goals as goal

pub returns-clause-parameter : goal.returns-clause-parameter
returns-clause-parameter c =
    parameter_reads (view.lists_of c.args.self.now) c.args.self.now.nodes.items c.args.number c.args.self.now.fit _ c.deref.ensures.value c.node_at.result c.parameter_of.result c.node_at.ensures c.parameter_of.ensures
