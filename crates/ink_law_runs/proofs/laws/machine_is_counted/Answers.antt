use Rattle.ink_law_runs.proofs.Counted.{code_is_counted}
use Rattle.ink_law_runs.proofs.laws.machine_is_counted.Goals as goal

pub returns : goal.returns
returns c = code_is_counted
