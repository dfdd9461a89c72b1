use Rattle.ink_law_replays.proofs.NextLemmas.{idle_at_take, held_at_get, absent}
use Rattle.ink_law_replays.proofs.laws.statuses_tell_next.Goals as goal

pub returns-clause-take : goal.returns-clause-take
returns-clause-take c s m limits first state stands process at = idle_at_take m limits first state stands process at

pub returns-clause-get : goal.returns-clause-get
returns-clause-get c s m limits first state stands process future at = held_at_get m limits first state stands process future at

pub returns-clause-absent : goal.returns-clause-absent
returns-clause-absent c s m limits first state stands process at = absent m limits first state stands process at
