use Rattle.std.proofs.Common.{◌≡◌, ℕ, List, vec_len}
use Rattle.ink_leasing.specs.Leases.{Lease}
use Rattle.ink_worker.specs.Hands.{Carries}
use Rattle.ink_worker.proofs.slices.run_all.Given as goal

abbrev pub invariant-loop-index : goal.invariant-loop-index
invariant-loop-index g l = record {
  count : vec_len l.hand ≡ l.index-end;
  hand : (f : g.row.S-Fixed.Denot) (lease : Lease) (journal : List ℕ) → g.S.Workable.fits f l.code l.limits → Carries {W = g.row.S-Work.Denot} lease (g.S.Workable.is_run f journal) l.fn.hand.items → Carries {W = g.row.S-Work.Denot} lease (g.S.Workable.is_run f journal) l.hand.items;
}
