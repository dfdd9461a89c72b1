use Rattle.std.proofs.Common.{◌≡◌, ◌++◌, drop}
use Rattle.std.specs.Prelude.{filter_map}
use Rattle.ink_plan.specs.Plans.{ends}
use Rattle.ink_plan.proofs.plan.DropPlan.at.Given as goal

abbrev pub invariant-loop-variable : goal.invariant-loop-variable
invariant-loop-variable l = l.planned.items ++ filter_map (ends l.self.checked.now.found.moves l.exit) (drop l.variable-index l.variable-items) ≡ filter_map (ends l.self.checked.now.found.moves l.exit) l.variable-items
