use Rattle.ink_replay.proofs.LookLemmas.{first_is_least}
use Rattle.ink_replay.proofs.rest.first_stop.Goals as goal

pub stop_at-requires-clause-first : goal.stop_at-requires-clause-first
stop_at-requires-clause-first g c = first_is_least c.loop.world.post.statuses.items c.in-Some.process c.in-Some.ensures
