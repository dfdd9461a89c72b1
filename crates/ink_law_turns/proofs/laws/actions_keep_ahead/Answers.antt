use Rattle.ink_law_turns.proofs.Commuting.{ahead_acts}
use Rattle.ink_law_turns.proofs.laws.actions_keep_ahead.Goals as goal

pub returns : goal.returns
returns c s m limits first = ahead_acts m limits first
