use Rattle.ink_forms.specs.Views as view
use Rattle.ink_forms.proofs.Readers.{pat_reads}
use Rattle.ink_forms.proofs.arena.Arena.pattern.Goals as goal

pub returns-clause-pattern : goal.returns-clause-pattern
returns-clause-pattern c =
    pat_reads (view.lists_of c.args.self.now) c.args.self.now.nodes.items c.args.number c.args.self.now.fit _ c.deref.ensures.value c.node_at.result c.pattern_of.result c.node_at.ensures c.pattern_of.ensures
