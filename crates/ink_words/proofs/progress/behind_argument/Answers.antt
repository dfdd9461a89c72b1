use Rattle.ink_words.proofs.WordLemmas.{operand_next}
use Rattle.ink_words.proofs.progress.behind_argument.Goals as goal

pub returns-then-is_name-clause-some : goal.returns-then-is_name-clause-some
returns-then-is_name-clause-some c =
    operand_next c.args.command c.args.arguments c.in_ok-arguments.arguments c.args.word.now (c.is_name.ensures.0 c.if-is_name.true)
    c.in_ok-arguments.ensures.some
