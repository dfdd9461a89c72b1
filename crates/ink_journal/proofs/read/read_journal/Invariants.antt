use Rattle.std.proofs.Common.{take}
use Rattle.ink_journal.proofs.Runs.{Reaches}
use Rattle.ink_journal.proofs.read.read_journal.Given as goal

-- the bytes so far lead here, with the entries that stand in the journal
abbrev pub invariant-loop-right : goal.invariant-loop-right
invariant-loop-right l = Reaches l.most (take l.right l.bytes) l.here l.journal.entries
