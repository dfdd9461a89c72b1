use Rattle.ink_law_turns.proofs.Determined.{stands_beyond}
use Rattle.ink_law_turns.proofs.laws.entries_of_others_leave.Goals as goal

pub returns : goal.returns
returns c s m limits = stands_beyond m limits
