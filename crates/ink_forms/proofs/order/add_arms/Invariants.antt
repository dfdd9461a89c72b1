use Rattle.std.proofs.Common.{◌≡◌, ◌++◌, drop}
use Rattle.ink_forms.specs.Order.{arm_steps}
use Rattle.ink_forms.proofs.order.add_arms.Given as goal

abbrev pub invariant-loop-arm : goal.invariant-loop-arm
invariant-loop-arm l = l.steps.items ++ arm_steps (drop l.arm-index l.arms) ≡ l.initial.steps.items ++ arm_steps l.arms
