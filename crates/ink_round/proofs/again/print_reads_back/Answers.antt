use Rattle.ink_reading.specs.Phases.{seen_by_grammar}
use Rattle.ink_print.specs.Layout.{print}
use Rattle.ink_round.proofs.again.print_reads_back.Goals as goal

pub returns : goal.returns
returns c = λ source tokens tree are parses.
    let nests = c.tokens_nest.ensures source tokens are in
    let well_formed = c.well_formed_trees.ensures.well_formed source (seen_by_grammar source tokens) tree nests parses in
    let lexed = c.print_lexes.ensures source tree well_formed in
    let printed = print source tree in
    let again = c.print_parses.ensures.parses source printed tree (seen_by_grammar printed lexed.0) lexed.2 well_formed lexed.3 in
    record { tokens = lexed.0; again = again.0; lexed = lexed.1; parsed = again.1; alike = again.2 }
