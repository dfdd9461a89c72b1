use Rattle.ink_words.proofs.WordLemmas.{nothing, no_command, wrong_command, wrong_behind, only_order}
use Rattle.ink_words.proofs.order.read_words.Goals as goal

pub returns-in_default-clause-wrong : goal.returns-in_default-clause-wrong
returns-in_default-clause-wrong c = rw (nothing c.args.words.now c.in_default.ensures.cases) no_command

pub returns-in_default-of-clause-wrong : goal.returns-in_default-of-clause-wrong
returns-in_default-of-clause-wrong c =
    rw c.in-Some.ensures.cases.0 (wrong_command c.in-Some.first.now c.in-Some.words.now c.in_default-of.ensures.none)

pub returns-in-Err-clause-wrong : goal.returns-in-Err-clause-wrong
returns-in-Err-clause-wrong c =
    rw c.in-Some.ensures.cases.0 (wrong_behind c.in-Some-of.command c.in-Some.first.now c.in-Some.words.now c.in-Err.wrong.right c.in-Some-of.ensures.some c.in-Err.ensures.wrong)

pub returns-in-Ok-clause-only : goal.returns-in-Ok-clause-only
returns-in-Ok-clause-only c = λ other. rw c.in-Some.ensures.cases.0
    (only_order c.in-Some-of.command c.in-Some.first.now c.in-Some.words.now _ other c.in-Some-of.ensures.some c.in-Ok.ensures.only)
