use Rattle.std.proofs.Common.{◌+◌, ◌*◌, ◌<◌, ◌≤◌, All, length}
use Rattle.ink_moves.proofs.build.+build.Given as goal

abbrev pub decreases-build_whole : goal.decreases-build_whole
decreases-build_whole l = 8 * l.number + 5

abbrev pub decreases-build_early : goal.decreases-build_early
decreases-build_early l = 8 * l.number + 4

abbrev pub decreases-build_late : goal.decreases-build_late
decreases-build_late l = 8 * l.number + 4

abbrev pub decreases-build_steps : goal.decreases-build_steps
decreases-build_steps l = 8 * l.number + 3

abbrev pub decreases-build_step : goal.decreases-build_step
decreases-build_step l = 8 * l.step.node + 6

abbrev pub decreases-build_loop : goal.decreases-build_loop
decreases-build_loop l = 8 * l.parent + 3

abbrev pub decreases-build_match : goal.decreases-build_match
decreases-build_match l = 8 * l.parent + 3

abbrev pub decreases-build_arms : goal.decreases-build_arms
decreases-build_arms l = 8 * l.parent + 2

abbrev pub decreases-build_arm : goal.decreases-build_arm
decreases-build_arm l = 8 * l.parent + 1

abbrev pub decreases-build_guard : goal.decreases-build_guard
decreases-build_guard l = 8 * l.parent

abbrev pub decreases-build_steps-loop-step : goal.decreases-build_steps-loop-step
decreases-build_steps-loop-step l = length l.steps.items

abbrev pub invariant-build_steps-loop-step : goal.invariant-build_steps-loop-step
invariant-build_steps-loop-step l = record {
  below : All (λ step. step.node < l.number) l.steps.items;
  grows : length l.initial.flow ≤ length l.flow;
  within : l.next < length l.flow;
}

abbrev pub invariant-build_arms-loop-index : goal.invariant-build_arms-loop-index
invariant-build_arms-loop-index l = record {
  grows : length l.initial.flow ≤ length l.flow;
  within : l.rest < length l.flow;
}
