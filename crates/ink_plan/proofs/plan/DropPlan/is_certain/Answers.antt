use Rattle.std.proofs.Common.{arith, refl, rules}
use Rattle.ink_plan.specs.Plans.{IsCertainAt}
use Rattle.ink_plan.proofs.Between.{one_more}
use Rattle.ink_plan.proofs.plan.DropPlan.is_certain.Goals as goal

pub returns-then-not-is_certain_at : goal.returns-then-not-is_certain_at
returns-then-not-is_certain_at c =
    (λ h. cc, λ all. let holds = c.is_certain_at.ensures.1 (all c.loop-node.node c.loop-node.auto.node c.loop-node-test.true) in cc)

pub loop-node-preserved : goal.loop-node-preserved
loop-node-preserved c =
    one_more (λ node. IsCertainAt c.args.self.now.exits c.args.self.now.checked.now node) c.args.first c.loop-node.node
    c.loop-node.invariant (c.is_certain_at.ensures.0 (search rules))

pub returns : goal.returns
returns c = (λ h node low high. c.loop-node.invariant node low (omega arith), λ h. refl)
