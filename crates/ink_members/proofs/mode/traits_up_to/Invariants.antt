use Rattle.std.proofs.Common.{◌≤◌, ◌-◌, length}
use Rattle.ink_members.proofs.mode.traits_up_to.Given as goal

abbrev pub invariant-loop-low : goal.invariant-loop-low
invariant-loop-low l = record {
  order : l.low ≤ l.high;
  within : l.high ≤ length l.traits;
}

abbrev pub decreases-loop-low : goal.decreases-loop-low
decreases-loop-low l = l.high - l.low
