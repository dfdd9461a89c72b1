use Rattle.ink_words.proofs.WordLemmas.{value_next}
use Rattle.ink_words.proofs.progress.behind_word.Goals as goal

pub returns-in_ok-arguments-in-Some-clause-some : goal.returns-in_ok-arguments-in-Some-clause-some
returns-in_ok-arguments-in-Some-clause-some c = rw c.in-Some.is
    (value_next c.args.command c.in-Some.setting c.args.before.arguments c.in_ok-arguments-in-Some.arguments c.args.word.now c.in_ok-arguments-in-Some.ensures.some)

pub returns-in-None-clause-some : goal.returns-in-None-clause-some
returns-in-None-clause-some c = rw c.in-None.is c.behind_argument.ensures.some

pub returns-in-None-clause-none : goal.returns-in-None-clause-none
returns-in-None-clause-none c = rw c.in-None.is c.behind_argument.ensures.none
