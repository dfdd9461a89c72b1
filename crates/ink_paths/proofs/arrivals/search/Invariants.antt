use Rattle.std.proofs.Common.{◌≡◌, ◌*◌, false, length}
use Rattle.ink_paths.specs.States.{state, next_states, Walks, left}
use Rattle.ink_paths.proofs.arrivals.search.Given as goal

abbrev pub invariant-loop-state : goal.invariant-loop-state
invariant-loop-state l = record {
  same : l.count ≡ length l.points;
  size : length l.marks.seen.items ≡ 2 * l.count;
  walks : Walks (next_states l.points l.variable) (state l.start false) l.marks.seen.items l.marks.todo.items;
}

abbrev pub decreases-loop-state : goal.decreases-loop-state
decreases-loop-state l = left l.marks.seen.items l.marks.todo.items
