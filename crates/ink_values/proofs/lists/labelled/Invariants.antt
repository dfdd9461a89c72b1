use Rattle.std.proofs.Common.{ℕ, All}
use Rattle.ink_forms.specs.Views as view
use Rattle.ink_values.proofs.lists.labelled.Given as goal

-- the arguments so far are where their values are
abbrev pub invariant-loop-index : goal.invariant-loop-index
invariant-loop-index l = (n : ℕ) → All (view.IsBefore n) l.numbers → All (view.IsArgumentBefore n) l.made.items
