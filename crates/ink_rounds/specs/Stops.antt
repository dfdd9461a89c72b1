-- Where a run in rounds stops.
use Rattle.std.specs.Prelude.{ℕ, Option, None, Some}
use Rattle.ink_post.specs.declared.answer.End.{End}
use Rattle.ink_post.specs.declared.answer.End.TheVariants as end
use Rattle.ink_rounds.specs.declared.running.Stop.{Stop}
use Rattle.ink_rounds.specs.declared.running.Stop.TheVariants.{Ended, RoundLimit}

-- the stop of a world with this end: without one the limit of rounds
abbrev pub stop_in : ℕ → Option End → Stop
stop_in budget None = RoundLimit budget
stop_in budget (Some end) = Ended end

-- this holds, unless the code of a process is wrong
abbrev pub UnlessWrong : Stop → Type 0 → Type 0
UnlessWrong (Ended (end.Wrong process)) Holds = Unit {0}
UnlessWrong other Holds = Holds
