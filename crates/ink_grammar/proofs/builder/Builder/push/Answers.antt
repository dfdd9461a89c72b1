use Rattle.std.proofs.Common.{arith}
use Rattle.std.proofs.Common.{true}
use Rattle.ink_grammar.proofs.Grown.{pushed}
use Rattle.ink_grammar.proofs.Postorder.{added}
use Rattle.ink_grammar.proofs.builder.Builder.push.Goals as goal

pub returns : goal.returns
returns c = pushed c.args.self.now.nodes.items c.push.new.self.items c.args.self.now.values.items c.push-2.new.self.items c.args.node c.args.start c.args.is_place c.len-number.result c.args.self.now.known (omega arith) (omega arith) c.in_ok-push.ensures.items c.in_ok-push-2.ensures.items

pub invariant_of-self-2-clause-order : goal.invariant_of-self-2-clause-order
invariant_of-self-2-clause-order c = added true c.args.self.now.nodes.items c.push.new.self.items c.args.node c.in_ok-push.ensures.items (omega arith) c.requires c.args.self.now.order
