use Rattle.ink_law_replays.proofs.NextLemmas.{stands_waits, stands_ready}
use Rattle.ink_law_replays.proofs.laws.next_stands.Goals as goal

pub returns-clause-waits : goal.returns-clause-waits
returns-clause-waits c s m limits first journal run process before waiting wish turns stood comes waits =
    stands_waits m limits first journal run process before waiting wish turns stood comes waits

pub returns-clause-ready : goal.returns-clause-ready
returns-clause-ready c s m limits first journal run process before waiting wish turns stood comes enabled =
    stands_ready m limits first journal run process before waiting wish turns stood comes enabled
