use Rattle.std.proofs.Common.{arith}
use Rattle.ink_grammar.proofs.Grown.{popped_first, popped_start, popped_rest, unpopped_first, unpopped_start, unpopped_rest}
use Rattle.ink_grammar.proofs.builder.Builder.pop.Goals as goal

pub returns-in-Some-clause-tree : goal.returns-in-Some-clause-tree
returns-in-Some-clause-tree c = popped_first c.args.self.now.nodes.items c.args.self.now.values.items c.pop.new.self.items c.in-Some.value c.in-Some.ensures.items

pub returns-in-Some-clause-start : goal.returns-in-Some-clause-start
returns-in-Some-clause-start c = popped_start c.args.self.now.nodes.items c.args.self.now.values.items c.pop.new.self.items c.in-Some.value c.in-Some.ensures.items

pub returns-in-Some-clause-found : goal.returns-in-Some-clause-found
returns-in-Some-clause-found c = popped_rest c.args.self.now.nodes.items c.args.self.now.values.items c.pop.new.self.items c.in-Some.value c.in-Some.ensures.items

pub returns-in-None-clause-tree : goal.returns-in-None-clause-tree
returns-in-None-clause-tree c = unpopped_first c.args.self.now.nodes.items c.args.self.now.values.items c.pop.new.self.items c.in-None.ensures.items (omega (arith, c.in-None.ensures.cases.0, c.args.self.now.values.ok.0)) c.args.self.now.order.few

pub returns-in-None-clause-start : goal.returns-in-None-clause-start
returns-in-None-clause-start c = unpopped_start c.args.self.now.nodes.items c.args.self.now.values.items c.pop.new.self.items c.in-None.ensures.items (omega (arith, c.in-None.ensures.cases.0, c.args.self.now.values.ok.0))

pub returns-in-None-clause-found : goal.returns-in-None-clause-found
returns-in-None-clause-found c = unpopped_rest c.args.self.now.nodes.items c.args.self.now.values.items c.pop.new.self.items c.in-None.ensures.items (omega (arith, c.in-None.ensures.cases.0, c.args.self.now.values.ok.0))
