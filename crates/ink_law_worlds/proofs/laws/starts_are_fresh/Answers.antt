use Rattle.ink_law_worlds.proofs.Home.{fresh_for}
use Rattle.ink_law_worlds.proofs.laws.starts_are_fresh.Goals as goal

pub returns : goal.returns
returns c = fresh_for
