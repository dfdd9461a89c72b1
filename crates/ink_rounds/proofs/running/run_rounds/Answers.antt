use Rattle.std.proofs.Common.{◌∙◌}
use Rattle.ink_rounds.proofs.running.run_rounds.Goals as goal

-- src/running.rt:75:5
pub loop-preserved : goal.loop-preserved
loop-preserved g c = record {
  stands = c.in-Ok-true.ensures.stands;
  written = λ first written. c.in-Ok-true.ensures.written first (c.loop.invariant.written first written);
  limits = c.in-Ok-true.ensures.limits ∙ c.loop.invariant.limits;
}

pub returns-in-Ok-false-clause-fault : goal.returns-in-Ok-false-clause-fault
returns-in-Ok-false-clause-fault g c = record {
  stands = c.in-Ok-false.ensures.stands;
  written = λ first written. c.in-Ok-false.ensures.written first (c.loop.invariant.written first written);
  limits = c.in-Ok-false.ensures.limits ∙ c.loop.invariant.limits;
}
