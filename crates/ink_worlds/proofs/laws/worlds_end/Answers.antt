use Rattle.ink_worlds.proofs.Stands.{sink_fails}
use Rattle.ink_worlds.proofs.laws.worlds_end.Goals as goal

pub returns : goal.returns
returns c s m limits first = sink_fails m limits first
