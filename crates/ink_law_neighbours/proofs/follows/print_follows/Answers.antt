use Rattle.ink_law_neighbours.proofs.Begun.{begun, follows}
use Rattle.ink_law_neighbours.proofs.follows.print_follows.Goals as goal

pub returns-clause-follows : goal.returns-clause-follows
returns-clause-follows c = λ source tree is. follows tree is

pub returns-clause-begun : goal.returns-clause-begun
returns-clause-begun c = λ source tree is. begun tree is
