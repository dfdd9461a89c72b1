use Rattle.ink_grammar.proofs.Grown.{pushed_value}
use Rattle.ink_grammar.proofs.builder.Builder.push_value.Goals as goal

pub returns : goal.returns
returns c = pushed_value c.args.self.now.nodes.items c.args.self.now.values.items c.push.new.self.items c.args.node c.args.start c.in_ok-push.ensures.items
