use Rattle.ink_replay.proofs.RestLemmas.{ended_means}
use Rattle.ink_replay.proofs.replaying.stop_of.Goals as goal

pub returns-in-Ok-Ended-clause-means : goal.returns-in-Ok-Ended-clause-means
returns-in-Ok-Ended-clause-means g c =
    ended_means c.args.code.now c.in-Ok-Ended.end c.args.world.now.post c.make_entries.new.world.post _ _ c.requires.right (rw c.in-Ok-Ended.field-0-is at c.in-Ok-Ended.ensures.keeps) (rw c.in-Ok-Ended.field-0-is at c.in-Ok-Ended.ensures.ends)
