use Rattle.ink_worlds.proofs.Stands.{checks_out}
use Rattle.ink_worlds.proofs.laws.worlds_lend.Goals as goal

pub returns-clause-world : goal.returns-clause-world
returns-clause-world c s m limits first state process seat p stands at home = (checks_out m limits first state process seat p stands at home).0

pub returns-clause-lent : goal.returns-clause-lent
returns-clause-lent c s m limits first state process seat p stands at home = (checks_out m limits first state process seat p stands at home).1

pub returns-clause-within : goal.returns-clause-within
returns-clause-within c s m limits first state process p stands at home = (checks_out m limits first state process 0 p stands at home).2
