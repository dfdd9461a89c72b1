use Rattle.ink_journal.proofs.Front.{front_leads, front_nowhere}
use Rattle.ink_journal.proofs.step.behind_front.Goals as goal

pub returns-then-not-is_front-clause-none : goal.returns-then-not-is_front-clause-none
returns-then-not-is_front-clause-none c =
    front_nowhere c.args.index c.args.byte (λ at. let told = c.is_front.ensures.1 at in let isnt = c.if-not-is_front.true in cc)

pub returns-then-index-lt5-clause-some : goal.returns-then-index-lt5-clause-some
returns-then-index-lt5-clause-some c = front_leads c.args.index c.args.byte (c.is_front.ensures.0 c.if-not-is_front.false) c.if-index-lt5.true
