use Rattle.std.proofs.Common.{◌≡◌, ◌++◌, drop}
use Rattle.ink_forms.specs.Order.{argument_steps}
use Rattle.ink_forms.proofs.order.add_arguments.Given as goal

abbrev pub invariant-loop-argument : goal.invariant-loop-argument
invariant-loop-argument l = l.steps.items ++ argument_steps (drop l.argument-index l.arguments) ≡ l.initial.steps.items ++ argument_steps l.arguments
