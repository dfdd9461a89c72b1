use Rattle.ink_lease.specs.Rule.{view}
use Rattle.ink_worker.proofs.HomeLemmas.{carries_then, stands_then}
use Rattle.ink_worker.proofs.TurnLemmas.{after_give, in_hand, owed, stays_on}
use Rattle.ink_worker.proofs.turns.take_turn.Goals as goal

pub tend-after-requires : goal.tend-after-requires
tend-after-requires g c =
    let known = c.requires.hand in record {
      hand = (
        known.0,
        known.1,
        stands_then g.S.Leasable.lease g.S.Leasable.journal g.S.Leasable.stands_for g.S.Workable.is_run g.S.Leasable.apart g.met.S.Workable.stays known.0 (view c.args.pass.seat) c.turn-state.result.0 known.2 c.turn-state.ensures.took,
        known.3,
        carries_then g.S.Leasable.lease g.S.Leasable.journal g.S.Leasable.stands_for g.S.Workable.is_run g.S.Leasable.apart g.met.S.Workable.stays known.0 c.first-seat.result (view c.args.pass.seat) c.turn-state.result.0 c.args.hand.now.items
            c.first-seat.ensures known.2 c.turn-state.ensures.took known.4,
      );
    }

pub give-requires-clause-owes : goal.give-requires-clause-owes
give-requires-clause-owes g c =
    let known = c.requires.hand in (
      c.turn-state.result.0,
      c.turn-state.ensures.won.1,
      owed g.S.Leasable.lease g.S.Leasable.journal g.S.Leasable.stands_for c.first-seat.result known.0 (view c.args.pass.seat) (view c.turn-state.result.1.seat) c.turn-state.result.0 c.tend-after.new.state (view c.turn-state.result.1.seat).lost
          c.first-seat.ensures c.turn-state.ensures.view known.2 c.turn-state.ensures.took
          (c.tend-after.ensures.stands known.0 known.1
          (stands_then g.S.Leasable.lease g.S.Leasable.journal g.S.Leasable.stands_for g.S.Workable.is_run g.S.Leasable.apart g.met.S.Workable.stays known.0 (view c.args.pass.seat) c.turn-state.result.0 known.2 c.turn-state.ensures.took) known.3
          (carries_then g.S.Leasable.lease g.S.Leasable.journal g.S.Leasable.stands_for g.S.Workable.is_run g.S.Leasable.apart g.met.S.Workable.stays known.0 c.first-seat.result (view c.args.pass.seat) c.turn-state.result.0 c.args.hand.now.items
          c.first-seat.ensures known.2 c.turn-state.ensures.took known.4))
          c.tend-after.ensures.others c.tend-after.ensures.journal,
    )

pub returns-clause-stays : goal.returns-clause-stays
returns-clause-stays g c =
    stays_on g.S.Leasable.lease g.S.Leasable.journal g.S.Leasable.stands_for g.S.Leasable.at_rest c.first-seat.result (view c.args.pass.seat) (view c.give.result.seat) c.turn-state.result.0 c.tend-after.new.state (view c.turn-state.result.1.seat).lost
    (after_give g.S.Leasable.lease g.S.Leasable.journal g.S.Leasable.stands_for g.S.Leasable.at_rest (view c.args.pass.seat) (view c.turn-state.result.1.seat) (view c.give.result.seat) c.turn-state.result.0 c.tend-after.new.state (view c.turn-state.result.1.seat).lost c.turn-state.ensures.view c.give.ensures.view)
    c.turn-state.ensures.took c.tend-after.ensures.journal

pub returns-clause-hand : goal.returns-clause-hand
returns-clause-hand g c = λ f limits fixed fit carries.
    in_hand g.S.Leasable.lease g.S.Leasable.journal g.S.Leasable.stands_for g.S.Leasable.at_rest (g.S.Workable.is_run f) c.first-seat.result (view c.args.pass.seat) (view c.give.result.seat) c.turn-state.result.0 c.tend-after.new.state (view c.turn-state.result.1.seat).lost c.tend-after.new.hand.items
    c.first-seat.ensures
    (after_give g.S.Leasable.lease g.S.Leasable.journal g.S.Leasable.stands_for g.S.Leasable.at_rest (view c.args.pass.seat) (view c.turn-state.result.1.seat) (view c.give.result.seat) c.turn-state.result.0 c.tend-after.new.state (view c.turn-state.result.1.seat).lost c.turn-state.ensures.view c.give.ensures.view)
    (c.tend-after.ensures.hand f limits
    (stands_then g.S.Leasable.lease g.S.Leasable.journal g.S.Leasable.stands_for g.S.Workable.is_run g.S.Leasable.apart g.met.S.Workable.stays f (view c.args.pass.seat) c.turn-state.result.0 fixed c.turn-state.ensures.took) fit
    (carries_then g.S.Leasable.lease g.S.Leasable.journal g.S.Leasable.stands_for g.S.Workable.is_run g.S.Leasable.apart g.met.S.Workable.stays f c.first-seat.result (view c.args.pass.seat) c.turn-state.result.0 c.args.hand.now.items
    c.first-seat.ensures fixed c.turn-state.ensures.took carries))
