use Rattle.std.proofs.Common.{◌∙◌}
use Rattle.ink_rounds.proofs.LentLemmas.{rest_homeward}
use Rattle.ink_rounds.proofs.round.give_all_up.Goals as goal

pub loop-one-preserved : goal.loop-one-preserved
loop-one-preserved g c = record {
  stands = c.in-Ok.ensures.leaves.stands;
  comes = rest_homeward c.args.code.now c.loop-one.world.post c.give_up.new.world.post c.loop-one.lent.items c.pop.new.self.items c.in-Some.one c.in-Some.ensures.items c.loop-one.invariant.comes c.in-Ok.ensures.leaves;
  written = λ first written. c.in-Ok.ensures.written first (c.loop-one.invariant.written first written);
  limits = c.in-Ok.ensures.limits ∙ c.loop-one.invariant.limits;
  journal = c.in-Ok.ensures.journal ∙ c.loop-one.invariant.journal;
}
