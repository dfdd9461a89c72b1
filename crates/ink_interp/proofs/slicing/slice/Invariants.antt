use Rattle.std.proofs.Common.{◌≤◌}
use Rattle.ink_interp.proofs.SliceLemmas.{Leads}
use Rattle.ink_proc.specs.State.{state_of}
use Rattle.ink_interp.proofs.slicing.slice.Given as goal

abbrev pub invariant-loop : goal.invariant-loop
invariant-loop l = record {
  leads : Leads l.code l.limits (state_of l.fn.proc) l.made (state_of l.proc);
  low : l.counter ≤ l.made;
  high : l.made ≤ l.turns;
}
