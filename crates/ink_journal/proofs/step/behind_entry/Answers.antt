use Rattle.std.proofs.Common.{◌∙◌, ◌-◌, sym}
use Rattle.ink_journal.proofs.Entries.{entry_open, entries_open, entry_ends}
use Rattle.ink_journal.proofs.step.behind_entry.Goals as goal

pub returns-in-Some-clause-open : goal.returns-in-Some-clause-open
returns-in-Some-clause-open c = λ most.
    entry_open most c.args.left c.args.place c.in-Some.place c.in_ok-number.number c.in_ok-number.ensures.some.1 (sym c.in-Some.ensures) c.if-left-eq0.false

pub returns-in-None-2-clause-some : goal.returns-in-None-2-clause-some
returns-in-None-2-clause-some c = λ most.
    entry_ends most c.args.left c.args.place c.args.number c.args.byte c.in_ok-number.number (sym c.next.ensures ∙ c.in-None-2.is) c.ranges.byte.fits
    c.in_ok-number.ensures.some.0 c.in_ok-number.ensures.some.1 c.if-number-eq0.false c.if-left-eq0.false

pub returns-in-None-2-clause-open : goal.returns-in-None-2-clause-open
returns-in-None-2-clause-open c = λ most. entries_open most (c.args.left - 1)
