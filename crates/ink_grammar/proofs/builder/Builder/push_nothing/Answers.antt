use Rattle.ink_grammar.specs.Views as view
use Rattle.ink_grammar.proofs.Grown.{nothing_pushed}
use Rattle.ink_grammar.proofs.builder.Builder.push_nothing.Goals as goal

pub returns : goal.returns
returns c = nothing_pushed c.args.self.now.nodes.items (view.found c.args.self.now) (view.found c.push_value.new.self) c.args.self.now.order.few c.in_ok-push_value.ensures
