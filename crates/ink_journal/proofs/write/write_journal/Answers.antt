use Rattle.std.proofs.Common.{◌≡◌, ◌∙◌, ℕ, List, sym, ap, take, ◌++◌, length}
use Rattle.ink_journal.specs.File.{front, word, words}
use Rattle.ink_journal.proofs.Words.{took, words_more}
use Rattle.ink_journal.proofs.write.write_journal.Goals as goal

pub loop-index-preserved : goal.loop-index-preserved
loop-index-preserved c =
    let entries = c.args.journal.now.entries in
    let process = c.entry.result in
    let written : c.to_be_bytes-in-loop-index.result ≡ word process = c.to_be_bytes-in-loop-index.ensures in
    c.in_ok-extend_from_slice-3.ensures.items
    ∙ ap (λ (bs : List ℕ). bs ++ c.to_be_bytes-in-loop-index.result) c.loop-index.invariant
    ∙ ap (λ (ws : List ℕ). front ++ word (length entries) ++ (words (take c.loop-index.index entries) ++ ws)) written
    ∙ ap (λ (ws : List ℕ). front ++ word (length entries) ++ ws) (sym (words_more (take c.loop-index.index entries) process))
    ∙ ap (λ (es : List ℕ). front ++ word (length entries) ++ words es) (sym (took entries c.loop-index.index process c.entry.ensures))
