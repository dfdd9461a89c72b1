use Rattle.std.proofs.Common.{sym}
use Rattle.ink_journal.proofs.Entries.{count_goes_on, entries_open}
use Rattle.ink_journal.proofs.step.behind_count.Goals as goal

pub returns-in-Some-clause-open : goal.returns-in-Some-clause-open
returns-in-Some-clause-open c =
    count_goes_on c.args.most c.args.place c.in-Some.place c.in_ok-number.number c.in_ok-number.ensures.some.1 (sym c.in-Some.ensures)

pub returns-in-None-clause-open : goal.returns-in-None-clause-open
returns-in-None-clause-open c = entries_open c.args.most c.in_ok-number.number
