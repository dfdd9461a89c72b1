use Rattle.ink_law_ownership.proofs.Lengths.{mail-for-each}
use Rattle.ink_law_ownership.proofs.laws.each_process_has_mail.Goals as goal

pub returns : goal.returns
returns c = mail-for-each
