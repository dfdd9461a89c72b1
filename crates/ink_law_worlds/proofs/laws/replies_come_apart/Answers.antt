use Rattle.ink_law_worlds.proofs.Home.{apart_for}
use Rattle.ink_law_worlds.proofs.laws.replies_come_apart.Goals as goal

pub returns : goal.returns
returns c = apart_for
