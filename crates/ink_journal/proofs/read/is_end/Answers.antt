use Rattle.ink_journal.proofs.Ends.{front_end}
use Rattle.ink_journal.proofs.read.is_end.Goals as goal

pub returns-in-Front : goal.returns-in-Front
returns-in-Front c = λ most entries. rw c.in-Front.is (front_end c.in-Front.field-0 most entries)
