use Rattle.ink_law_parsing.proofs.Rereads.{print_read}
use Rattle.ink_law_parsing.proofs.print_parses.Goals as goal

pub returns : goal.returns
returns c = record { parses = print_read }
