use Rattle.std.proofs.Common.{◌≡◌, ◌++◌, length, take}
use Rattle.ink_journal.specs.File.{front, word, words}
use Rattle.ink_journal.proofs.write.write_journal.Given as goal

-- the front, the count and the entries so far are written
abbrev pub invariant-loop-index : goal.invariant-loop-index
invariant-loop-index l = l.bytes.items ≡ front ++ word (length l.journal.entries) ++ words (take l.index l.journal.entries)
