use Rattle.ink_law_runs.proofs.Replayed.{ahead_of, ahead_back}
use Rattle.ink_law_runs.proofs.laws.ahead_by_process.Goals as goal

pub returns : goal.returns
returns c code limits journal world = (ahead_of code limits journal world, ahead_back code limits journal world)
