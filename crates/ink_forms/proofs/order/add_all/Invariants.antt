use Rattle.std.proofs.Common.{◌≡◌, ◌++◌, drop}
use Rattle.ink_forms.specs.Order.{steps}
use Rattle.ink_forms.proofs.order.add_all.Given as goal

abbrev pub invariant-loop-number : goal.invariant-loop-number
invariant-loop-number l = l.steps.items ++ steps (drop l.number-index l.numbers) ≡ l.initial.steps.items ++ steps l.numbers
