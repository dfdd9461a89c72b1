use Rattle.ink_grammar.specs.Built as built
use Rattle.ink_grammar.proofs.Grown.{last_place, no_last_place}
use Rattle.ink_grammar.proofs.builder.Builder.is_place.Goals as goal

pub returns-in-Some : goal.returns-in-Some
returns-in-Some c = last_place (built.trees c.args.self.now.nodes.items) c.args.self.now.values.items c.in-Some.value.now (rw c.deref.ensures.value at c.in-Some.ensures.value)

pub returns-in-None : goal.returns-in-None
returns-in-None c = no_last_place (built.trees c.args.self.now.nodes.items) c.args.self.now.values.items (rw c.deref.ensures.value at c.in-None.ensures.value)
