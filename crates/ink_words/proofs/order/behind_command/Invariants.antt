use Rattle.std.proofs.Common.{take}
use Rattle.ink_words.proofs.WordLemmas.{Reaches}
use Rattle.ink_words.proofs.order.behind_command.Given as goal

-- the words so far lead to what was given
abbrev pub invariant-loop-right : goal.invariant-loop-right
invariant-loop-right l = Reaches l.command (take l.right l.words) l.progress.awaited l.progress.arguments
