use Rattle.std.proofs.Common.{arith}
use Rattle.ink_words.proofs.LimitLemmas.{no_option}
use Rattle.ink_words.proofs.command.limit_of.Goals as goal

pub returns-clause-none : goal.returns-clause-none
returns-clause-none c = no_option c.args.word.now (λ k below. c.loop-limit.invariant k (omega (arith, below, c.loop-limit-test.false)))
