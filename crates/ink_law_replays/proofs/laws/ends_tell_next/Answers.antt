use Rattle.ink_law_replays.proofs.NextLemmas.{full_ready, over_spent, panic_last}
use Rattle.ink_law_replays.proofs.laws.ends_tell_next.Goals as goal

pub returns-clause-panicked : goal.returns-clause-panicked
returns-clause-panicked c s m limits first state stands process calm halt = panic_last m limits first state stands process calm halt

pub returns-clause-full : goal.returns-clause-full
returns-clause-full c s m limits first state stands process halt = full_ready m limits first state stands process halt

pub returns-clause-spent : goal.returns-clause-spent
returns-clause-spent c s m limits first state stands process steps halt = over_spent m limits first state stands process steps halt
