use Rattle.ink_law_turns.proofs.Commuting.{ahead_put, led_goes}
use Rattle.ink_law_turns.proofs.laws.steps_keep_ahead.Goals as goal

pub returns-clause-step : goal.returns-clause-step
returns-clause-step c s m = led_goes m

pub returns-clause-run : goal.returns-clause-run
returns-clause-run c s m limits first = ahead_put m limits first
