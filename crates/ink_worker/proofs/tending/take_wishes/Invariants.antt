use Rattle.std.proofs.Common.{◌≡◌, ◌≢◌, ℕ, vec_len}
use Rattle.ink_worker.specs.Hands.{Carries}
use Rattle.ink_worker.proofs.tending.take_wishes.Given as goal

abbrev pub invariant-loop-process : goal.invariant-loop-process
invariant-loop-process g l = record {
  others : (k : ℕ) → k ≢ l.seat → g.S.Leasable.lease l.state k ≡ g.S.Leasable.lease l.fn.state k;
  journal : g.S.Leasable.journal l.state ≡ g.S.Leasable.journal l.fn.state;
  stands : (f : g.row.S-Fixed.Denot) → g.S.Leasable.stands_for l.fn.state f → g.S.Leasable.stands_for l.state f;
  hand : (f : g.row.S-Fixed.Denot) → g.S.Leasable.stands_for l.fn.state f → Carries {W = g.row.S-Work.Denot} (g.S.Leasable.lease l.fn.state l.seat) (g.S.Workable.is_run f (g.S.Leasable.journal l.fn.state)) l.fn.hand.items → Carries {W = g.row.S-Work.Denot} (g.S.Leasable.lease l.state l.seat) (g.S.Workable.is_run f (g.S.Leasable.journal l.state)) l.hand.items;
}

abbrev pub decreases-loop-process : goal.decreases-loop-process
decreases-loop-process g l = vec_len l.plan.wishes
