use Rattle.ink_law_scanning.proofs.Lexing.{pieces-lex}
use Rattle.ink_law_scanning.proofs.lexes.pieces_lex.Goals as goal

pub returns : goal.returns
returns c = pieces-lex
