use Rattle.std.proofs.Common.{◌*◌, ◌+◌, ◌<◌, ◌≤◌, All}
use Rattle.ink_forms.specs.Views as view
use Rattle.ink_values.proofs.values.+values.Given as goal

-- only a value is one node deeper: what stands between two values counts down from three
abbrev pub decreases-value : goal.decreases-value
decreases-value l = 4 * l.depth

abbrev pub decreases-composed : goal.decreases-composed
decreases-composed l = 4 * l.depth + 3

abbrev pub decreases-values : goal.decreases-values
decreases-values l = 4 * l.depth + 2

abbrev pub decreases-arms_made : goal.decreases-arms_made
decreases-arms_made l = 4 * l.depth + 2

abbrev pub decreases-text : goal.decreases-text
decreases-text l = 4 * l.depth + 2

abbrev pub decreases-updated : goal.decreases-updated
decreases-updated l = 4 * l.depth + 2

abbrev pub decreases-decided : goal.decreases-decided
decreases-decided l = 4 * l.depth + 2

abbrev pub decreases-guard : goal.decreases-guard
decreases-guard l = 4 * l.depth + 1

abbrev pub decreases-piece : goal.decreases-piece
decreases-piece l = 4 * l.depth + 1

abbrev pub decreases-side_value : goal.decreases-side_value
decreases-side_value l = 4 * l.depth + 1

-- what was made so far is there
abbrev pub invariant-values-loop-item : goal.invariant-values-loop-item
invariant-values-loop-item l = record {
  below : All (view.IsBefore (view.count l.arena)) l.numbers.items;
  grows : view.count l.initial.arena ≤ view.count l.arena;
}

abbrev pub invariant-arms_made-loop-part : goal.invariant-arms_made-loop-part
invariant-arms_made-loop-part l = record {
  below : All (view.IsArmBefore (view.count l.arena)) l.made.items;
  grows : view.count l.initial.arena ≤ view.count l.arena;
}

-- the text so far is there
abbrev pub invariant-text-loop-item : goal.invariant-text-loop-item
invariant-text-loop-item l = record {
  below : l.joined < view.count l.arena;
  grows : view.count l.initial.arena ≤ view.count l.arena;
}
