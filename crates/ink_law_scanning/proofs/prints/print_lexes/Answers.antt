use Rattle.ink_print.specs.Printed.{pieces}
use Rattle.ink_law_scanning.proofs.prints.print_lexes.Goals as goal

pub returns : goal.returns
returns c = λ source tree is.
    c.pieces_lex.ensures source (pieces tree) (c.print_follows.ensures.begun source tree is) (c.print_follows.ensures.follows source tree is)
