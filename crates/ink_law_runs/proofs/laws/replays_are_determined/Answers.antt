use Rattle.ink_law_runs.proofs.Replayed.{replay_of, turns_of, replays_once}
use Rattle.ink_law_runs.proofs.laws.replays_are_determined.Goals as goal

pub returns-clause-turns : goal.returns-clause-turns
returns-clause-turns c code limits journal world = (turns_of code limits journal world, replay_of code limits journal world)

pub returns-clause-once : goal.returns-clause-once
returns-clause-once c = replays_once
