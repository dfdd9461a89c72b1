use Rattle.std.proofs.Common.{◌<◌, ◌≤◌, length}
use Rattle.ink_moves.proofs.events.bind.Given as goal

abbrev pub invariant-loop-variable : goal.invariant-loop-variable
invariant-loop-variable l = record {
  grows : length l.initial.flow ≤ length l.flow;
  within : l.first < length l.flow;
}
