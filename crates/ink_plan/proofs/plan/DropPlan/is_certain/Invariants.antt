use Rattle.std.proofs.Common.{◌≤◌, ◌<◌, ℕ}
use Rattle.ink_plan.specs.Plans.{IsCertainAt}
use Rattle.ink_plan.proofs.plan.DropPlan.is_certain.Given as goal

abbrev pub invariant-loop-node : goal.invariant-loop-node
invariant-loop-node l = (node : ℕ) → l.first ≤ node → node < l.node → IsCertainAt l.self.exits l.self.checked.now node
