use Rattle.ink_law_ownership.proofs.Worlds.{replay_apart, ahead_apart}
use Rattle.ink_law_ownership.proofs.laws.names_stand_apart.Goals as goal

pub returns-clause-replay : goal.returns-clause-replay
returns-clause-replay c = replay_apart

pub returns-clause-ahead : goal.returns-clause-ahead
returns-clause-ahead c = ahead_apart
