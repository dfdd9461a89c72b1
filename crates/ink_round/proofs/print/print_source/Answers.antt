use Rattle.std.proofs.Common.{sym, subst}
use Rattle.ink_grammar.specs.Views.{tree}
use Rattle.ink_round.specs.ReadsBack.{ReadsBack}
use Rattle.ink_round.proofs.print.print_source.Goals as goal

pub returns : goal.returns
returns c =
    let source = c.args.source.now in
    let tokens = c.in_ok-reading.reading.tokens.items in
    let module' = tree c.in_ok-reading.reading.«module» in
    let read = c.in_ok-reading.ensures in
    let back = c.print_reads_back.ensures source tokens module' read.comes.lexed read.comes.parsed in
    let print = c.in_ok-text.ensures in
    record { tokens = tokens; tree = module'; reads = read; print = print; back = subst (λ text. ReadsBack source text module') (sym print) back }
