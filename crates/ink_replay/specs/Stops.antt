-- Where a replay stops, and which entries were made.
use Rattle.std.specs.Prelude.{◌≡◌, ℕ, ◌⊎◌, Option, None, Some, List}
use Rattle.ink_code.specs.declared.code.Code.{Code}
use Rattle.ink_post.specs.declared.answer.End.{End}
use Rattle.ink_post.specs.declared.answer.End.TheVariants as end
use Rattle.ink_post.specs.declared.post.Post.{Post}
use Rattle.ink_replay.specs.Entries.{Begins, IsNext, KeepsTo, NextIs}
use Rattle.ink_replay.specs.Calm.{AreAtRest}
use Rattle.ink_replay.specs.Ends.{EndsAs, IsLeastReady, Means, StopsAt, WaitsBefore}
use Rattle.ink_replay.specs.Keeps.{GotWhole, IsUncut, Keeps, StopsWrong}
use Rattle.ink_replay.specs.declared.replaying.ReplayStop.{ReplayStop}
use Rattle.ink_replay.specs.declared.replaying.ReplayStop.TheVariants as stop
use Rattle.ink_run.specs.Sinks.{SinkState}

-- all of the given entries were made, and each process before this one waits; or the next entry is of this process
abbrev pub IsSpentAt : Code → List ℕ → ℕ → List ℕ → List ℕ → Type 0
IsSpentAt code limits process given made =
    ((made ≡ given) × WaitsBefore code limits made process) ⊎ (Begins given made × NextIs process given made)

-- all of the given entries were made, or the next one is of this process
abbrev pub IsAtEntry : ℕ → List ℕ → List ℕ → Type 0
IsAtEntry process given made = (made ≡ given) ⊎ (Begins given made × NextIs process given made)

-- which of the given entries were made where the run ended so
abbrev pub MadeTo : Code → List ℕ → End → List ℕ → List ℕ → Type 0
MadeTo code limits end.SinkFailed given made = Begins given made
MadeTo code limits (end.Events process) given made = Begins given made × NextIs process given made
MadeTo code limits (end.Local process steps) given made = IsSpentAt code limits process given made
MadeTo code limits (end.Wrong process) given made = IsAtEntry process given made
MadeTo code limits end.Quiet given made = made ≡ given
MadeTo code limits (end.Waiting process) given made = made ≡ given
MadeTo code limits (end.Panicked process) given made = made ≡ given

-- which of the given entries were made
abbrev pub MadeBy : Code → List ℕ → ReplayStop → List ℕ → List ℕ → Type 0
MadeBy code limits (stop.Ended end) given made = MadeTo code limits end given made
MadeBy code limits (stop.JournalEnds process) given made = made ≡ given
MadeBy code limits (stop.BadEntry entry) given made = IsNext entry given made

-- what is kept up to a stop
abbrev pub KeepsUntil : Code → ReplayStop → Post → Post → SinkState → SinkState → Type 0
KeepsUntil code (stop.Ended end) old new before after = KeepsTo code end old new before after
KeepsUntil code (stop.JournalEnds process) old new before after = Keeps code old new before after
KeepsUntil code (stop.BadEntry entry) old new before after = Keeps code old new before after

-- this holds, unless the code of a process is wrong
abbrev pub UnlessWrong : ReplayStop → Type 0 → Type 0
UnlessWrong (stop.Ended (end.Wrong process)) Holds = Unit {0}
UnlessWrong other Holds = Holds

-- what a look found at a process that is the least that is ready: nothing, where it waits
abbrev pub FindsStop : Code → Option ReplayStop → Post → Post → SinkState → SinkState → Type 0
FindsStop code None old new before after = Keeps code old new before after × (new.halt ≡ None) × AreAtRest new.statuses.items
FindsStop code (Some (stop.Ended (end.Local at steps))) old new before after =
    Keeps code old new before after × EndsAs (end.Local at steps) new × WaitsBefore code new.limits new.journal.entries at
FindsStop code (Some (stop.Ended (end.Wrong at))) old new before after = StopsWrong code at old new before after
FindsStop code (Some (stop.JournalEnds at)) old new before after =
    Keeps code old new before after × (new.halt ≡ None) × IsLeastReady code new.limits new.journal.entries at
FindsStop code other old new before after = ⊥

-- how a run stands whose entries were all made
abbrev pub StandsBehind : Code → ReplayStop → Post → Type 0
StandsBehind code (stop.Ended (end.Local process steps)) post = WaitsBefore code post.limits post.journal.entries process
StandsBehind code (stop.Ended (end.Events process)) post = ⊥
StandsBehind code (stop.Ended end.SinkFailed) post = ⊥
StandsBehind code (stop.BadEntry entry) post = ⊥
StandsBehind code other post = Unit {0}

-- where the run goes on, or an entry can't be made, the output didn't fail and no limit was met
abbrev pub UncutAt : ReplayStop → Post → Type 0
UncutAt (stop.Ended end) post = Unit {0}
UncutAt (stop.JournalEnds process) post = IsUncut post.halt
UncutAt (stop.BadEntry entry) post = IsUncut post.halt

-- the output of the journal went out whole, unless the output failed
abbrev pub WroteBy : Code → List ℕ → List ℕ → ReplayStop → SinkState → SinkState → Type 0
WroteBy code limits journal (stop.Ended end.SinkFailed) before after = Unit {0}
WroteBy code limits journal other before after = GotWhole code limits journal before after

-- where a run stops whose entries were all made, and what that means
pub record Behind (code : Code) (stop : ReplayStop) (old new : Post) (before after : SinkState) : Type 0 where
  pub keeps : KeepsUntil code stop old new before after
  pub at : StopsAt stop new
  pub means : Means code new.limits new.journal.entries stop
  pub stands : StandsBehind code stop new
  pub uncut : UncutAt stop new
