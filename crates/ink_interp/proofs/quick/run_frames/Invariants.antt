use Rattle.std.proofs.Common.{◌≤◌}
use Rattle.ink_quick.specs.Makes.{Runs}
use Rattle.ink_interp.proofs.quick.run_frames.Given as goal

abbrev pub invariant-loop : goal.invariant-loop
invariant-loop l = record {
  low : l.made ≤ l.most;
  runs : Runs l.code l.limits l.made l.fn.frames l.frames;
}
