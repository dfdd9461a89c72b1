use Rattle.ink_plan.proofs.plan.DropPlan.is_certain_at.Goals as goal

pub returns-then-are_left_certain : goal.returns-then-are_left_certain
returns-then-are_left_certain c = (λ h. record { leaves = c.are_left_certain.ensures.0 c.if-are_left_certain.true; writes = c.is_write_certain.ensures.0 h }, λ h. c.is_write_certain.ensures.1 h.writes)

pub returns-else-are_left_certain : goal.returns-else-are_left_certain
returns-else-are_left_certain c = (λ h. cc, λ h. c.are_left_certain.ensures.1 h.leaves)
