use Rattle.ink_law_replays.proofs.NextLemmas.{waits_no_turn, absent_no_turn, panicked_no_turn}
use Rattle.ink_law_replays.proofs.laws.waiting_makes_no_turn.Goals as goal

pub returns-clause-waits : goal.returns-clause-waits
returns-clause-waits c s m limits run process waits = waits_no_turn m limits run process waits

pub returns-clause-absent : goal.returns-clause-absent
returns-clause-absent c s m limits run process absent = absent_no_turn m limits run process absent

pub returns-clause-panicked : goal.returns-clause-panicked
returns-clause-panicked c s m limits run process panic made = panicked_no_turn m limits run process panic made
