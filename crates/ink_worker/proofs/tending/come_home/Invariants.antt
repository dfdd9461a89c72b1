use Rattle.std.proofs.Common.{List, ℕ, vec_len}
use Rattle.ink_worker.proofs.HomeLemmas.{Homing}
use Rattle.ink_worker.proofs.tending.come_home.Given as goal

abbrev pub invariant-loop-held : goal.invariant-loop-held
invariant-loop-held g l = Homing g.S.Leasable.lease g.S.Leasable.journal g.S.Leasable.stands_for g.S.Workable.is_run (λ f (limits : List ℕ). g.S.Workable.fits f l.code limits) l.seat l.fn.state l.fn.hand.items l.state l.hand.items

abbrev pub decreases-loop-held : goal.decreases-loop-held
decreases-loop-held g l = vec_len l.hand
