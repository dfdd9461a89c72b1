use Rattle.ink_law_replays.proofs.NextLemmas.{reply_wrong, step_wrong}
use Rattle.ink_law_replays.proofs.laws.wrong_stands.Goals as goal

pub returns-clause-step : goal.returns-clause-step
returns-clause-step c s m limits first journal run process before turns stood fails = step_wrong m limits first journal run process before turns stood fails

pub returns-clause-reply : goal.returns-clause-reply
returns-clause-reply c s m limits first journal run process before waiting wish turns stood comes enabled none =
    reply_wrong m limits first journal run process before waiting wish turns stood comes enabled none
