use Rattle.std.proofs.Common.{◌≤◌, ◌-◌, ℕ, length}
use Rattle.ink_tables.specs.Lines.{IsSplitAt}
use Rattle.ink_tables.proofs.lines.count_up_to.Given as goal

-- the count is between the two ends
abbrev pub invariant-loop-low : goal.invariant-loop-low
invariant-loop-low l = record {
  order : l.low ≤ l.high;
  within : l.high ≤ length l.numbers;
  from : (count : ℕ) → IsSplitAt l.most l.numbers count → l.low ≤ count;
  to : (count : ℕ) → IsSplitAt l.most l.numbers count → count ≤ l.high;
}

abbrev pub decreases-loop-low : goal.decreases-loop-low
decreases-loop-low l = l.high - l.low
