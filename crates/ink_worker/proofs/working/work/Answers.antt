use Rattle.std.proofs.Common.{◌∙◌}
use Rattle.ink_lease.specs.Rule.{view}
use Rattle.ink_worker.proofs.TurnLemmas.{stays_through}
use Rattle.ink_worker.proofs.working.work.Goals as goal

pub take_turn-requires-clause-hand : goal.take_turn-requires-clause-hand
take_turn-requires-clause-hand g c =
    let known = c.requires.code in (
      known.0,
      c.args.limits.now,
      c.loop.invariant.stays.fixed ∙ known.1,
      known.2,
      c.run_all.ensures known.0 (view c.loop.pass.seat).lease (view c.loop.pass.seat).seen known.2 (c.loop.invariant.hand known.0 known.1 known.2),
    )

pub loop-preserved-then-is_empty : goal.loop-preserved-then-is_empty
loop-preserved-then-is_empty g c = record {
  can_next = tt;
  finite = tt;
  same = (c.take_turn.ensures.same.0.0 ∙ c.loop.invariant.same.0, c.take_turn.ensures.same.0.1 ∙ c.loop.invariant.same.1);
  idle = c.take_turn.ensures.same.1;
  stays = stays_through (view c.args.pass.seat) (view c.loop.pass.seat) (view c.take_turn.result.0.seat) c.loop.invariant.stays c.take_turn.ensures.stays;
  deck = c.await_one.ensures;
  hand = λ f fixed fits.
      c.take_turn.ensures.hand f c.args.limits.now (c.loop.invariant.stays.fixed ∙ fixed) fits
      (c.run_all.ensures f (view c.loop.pass.seat).lease (view c.loop.pass.seat).seen fits (c.loop.invariant.hand f fixed fits));
}

pub loop-preserved : goal.loop-preserved
loop-preserved g c = record {
  can_next = tt;
  finite = tt;
  same = (c.take_turn.ensures.same.0.0 ∙ c.loop.invariant.same.0, c.take_turn.ensures.same.0.1 ∙ c.loop.invariant.same.1);
  idle = c.take_turn.ensures.same.1;
  stays = stays_through (view c.args.pass.seat) (view c.loop.pass.seat) (view c.take_turn.result.0.seat) c.loop.invariant.stays c.take_turn.ensures.stays;
  deck = c.tell.ensures;
  hand = λ f fixed fits.
      c.take_turn.ensures.hand f c.args.limits.now (c.loop.invariant.stays.fixed ∙ fixed) fits
      (c.run_all.ensures f (view c.loop.pass.seat).lease (view c.loop.pass.seat).seen fits (c.loop.invariant.hand f fixed fits));
}
