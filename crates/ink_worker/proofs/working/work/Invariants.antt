use Rattle.std.proofs.Common.{◌≡◌, Some}
use Rattle.crossbeam_queue.specs.SegTies.{IsSegPassOf}
use Rattle.ink_lease.specs.Rule.{view, IsIdle, IsSameSeat}
use Rattle.ink_worker.specs.Hands.{Carries}
use Rattle.ink_worker.specs.Turns.{Stays}
use Rattle.ink_worker.proofs.working.work.Given as goal

abbrev pub invariant-loop : goal.invariant-loop
invariant-loop g l = record {
  can_next : (goal.iterator-loop g).can_next l.iterator';
  finite : (goal.iterator-loop g).is_finite l.iterator';
  same : IsSameSeat l.fn.pass.seat l.pass.seat;
  idle : IsIdle l.pass.seat;
  stays : Stays (view l.fn.pass.seat) (view l.pass.seat);
  deck : IsSegPassOf l.deck.common l.seat.own.entry;
  hand : (f : g.row.S-Fixed.Denot) → (view l.fn.pass.seat).fixed ≡ Some f → g.S.Workable.fits f l.code l.limits → Carries {W = g.row.S-Work.Denot} (view l.pass.seat).lease (g.S.Workable.is_run f (view l.pass.seat).seen) l.hand.items;
}
