use Rattle.std.proofs.Common.{◌≤◌, All}
use Rattle.ink_forms.specs.Views as view
use Rattle.ink_desugar.proofs.methods.parameters.Given as goal

-- the parameters so far are there
abbrev pub invariant-loop-item : goal.invariant-loop-item
invariant-loop-item l = record {
  below : All (view.IsBefore (view.count l.arena)) l.numbers.items;
  grows : view.count l.initial.arena ≤ view.count l.arena;
}
