use Rattle.ink_journal.proofs.Entries.{if_some, if_none}
use Rattle.ink_journal.proofs.step.behind.Goals as goal

pub returns-in-Entry-clause-some : goal.returns-in-Entry-clause-some
returns-in-Entry-clause-some c = rw c.in-Entry.is (if_some c.behind_entry.result (λ step leads. leads c.args.most) c.behind_entry.ensures.some)

pub returns-in-Entry-clause-none : goal.returns-in-Entry-clause-none
returns-in-Entry-clause-none c = rw c.in-Entry.is (if_none c.behind_entry.result (λ nowhere. nowhere c.args.most) c.behind_entry.ensures.none)

pub returns-in-Front-clause-some : goal.returns-in-Front-clause-some
returns-in-Front-clause-some c = rw c.in-Front.is (if_some c.behind_front.result (λ step leads. leads c.args.most) c.behind_front.ensures.some)

pub returns-in-Front-clause-none : goal.returns-in-Front-clause-none
returns-in-Front-clause-none c = rw c.in-Front.is (if_none c.behind_front.result (λ nowhere. nowhere c.args.most) c.behind_front.ensures.none)

pub returns-in-Count-clause-some : goal.returns-in-Count-clause-some
returns-in-Count-clause-some c = rw c.in-Count.is c.behind_count.ensures.some

pub returns-in-Count-clause-none : goal.returns-in-Count-clause-none
returns-in-Count-clause-none c = rw c.in-Count.is c.behind_count.ensures.none
