-- What a run of a code comes to, and what it wrote.
use Rattle.std.specs.Prelude.{◌≡◌, ℕ, ◌<◌, ◌⊎◌, List, [], ◌∷◌, ◌++◌, length, take, Option, None, Some}
use Rattle.ink_code.specs.Process.{Process}
use Rattle.ink_code.specs.Trees.{Parcel}
use Rattle.ink_code.specs.declared.code.Code.{Code}
use Rattle.ink_devices.specs.Outside.{appended, greatest_count}
use Rattle.ink_law_runs.specs.CodeMachine.{code_machine, opening_run}
use Rattle.ink_law_turns.specs.Turns.{Run, Turns}
use Rattle.ink_causes.specs.Devices.{Change, SinkState, HasFailed, Gets}
use Rattle.ink_causes.specs.declared.cause.Cause.{Cause}
use Rattle.ink_causes.specs.declared.cause.Cause.TheVariants.{Quiet, WriteFault, OutOfMemory, Waiting, EventLimit, LocalLimit, RoundLimit, JournalEnds, BadEntry, Panicked, Wrong}
use Rattle.ink_post.specs.declared.answer.End.{End}
use Rattle.ink_post.specs.declared.answer.End.TheVariants as end
use Rattle.ink_post.specs.declared.post.Post.{Post}
use Rattle.ink_replay.specs.declared.replaying.ReplayStop.{ReplayStop}
use Rattle.ink_replay.specs.declared.replaying.ReplayStop.TheVariants as replay
use Rattle.ink_rounds.specs.declared.running.Stop.{Stop}
use Rattle.ink_rounds.specs.declared.running.Stop.TheVariants as rounds
use Rattle.ink_run.specs.Sinks as run
use Rattle.ink_run.specs.Written.{IsWritten}
use Rattle.ink_commands.specs.Meanings.{CauseMeans, ReplayMeans}
use Rattle.ink_worlds.specs.declared.halt.Halt.{Halt}
use Rattle.ink_worlds.specs.declared.halt.Halt.TheVariants as halt

-- a cause with which a run stops
abbrev pub StopsRun : Cause → Type 0
StopsRun Quiet = Unit {0}
StopsRun (Waiting process) = Unit {0}
StopsRun (Panicked process) = Unit {0}
StopsRun (EventLimit process) = Unit {0}
StopsRun (LocalLimit process steps) = Unit {0}
StopsRun (RoundLimit rounds) = Unit {0}
StopsRun (Wrong process) = Unit {0}
StopsRun WriteFault = Unit {0}
StopsRun OutOfMemory = Unit {0}
StopsRun cause = ⊥

-- a cause with which a replay stops
abbrev pub StopsReplay : Cause → Type 0
StopsReplay (JournalEnds process) = Unit {0}
StopsReplay (BadEntry entry) = Unit {0}
StopsReplay cause = StopsRun cause

-- the cause that an end is
abbrev pub cause_by : End → Cause
cause_by end.Quiet = Quiet
cause_by (end.Waiting process) = Waiting process
cause_by (end.Panicked process) = Panicked process
cause_by end.SinkFailed = WriteFault
cause_by (end.Events process) = EventLimit process
cause_by (end.Local process steps) = LocalLimit process steps
cause_by (end.Wrong process) = Wrong process

-- the output of the turns of the journal's entries went out, whole
pub record Replays (code : Code) (limits journal : List ℕ) (out : Change SinkState) : Type 0 where
  pub run : Run Process Parcel
  pub turns : Turns (code_machine code limits) limits (opening_run code) journal run
  pub gets : Gets out run.shared.output

-- the output of all turns but the last went out, and of the line that the last one prints a part, cut before its end
pub record ReplaysCut (code : Code) (limits journal : List ℕ) (out : Change SinkState) : Type 0 where
  pub earlier : List ℕ
  pub last : ℕ
  pub entries : journal ≡ earlier ++ last ∷ []
  pub run : Run Process Parcel
  pub turns : Turns (code_machine code limits) limits (opening_run code) earlier run
  pub whole : Run Process Parcel
  pub all_turns : Turns (code_machine code limits) limits (opening_run code) journal whole
  pub line : List ℕ
  pub prints : whole.shared.output ≡ run.shared.output ++ line
  pub count : ℕ
  pub cut : count < length line
  pub contents : out.after.contents ≡ appended out.before.contents (run.shared.output ++ take count line)
  pub failed : HasFailed out

-- what a run wrote that stopped for this cause
abbrev pub Wrote : Cause → Code → List ℕ → List ℕ → Change SinkState → Type 0
Wrote WriteFault code limits journal out = ReplaysCut code limits journal out
Wrote cause code limits journal out = Replays code limits journal out

-- what a run wrote where a sink was so at first
abbrev pub seen : run.SinkState → SinkState
seen sink = record { contents = sink.contents; faults = sink.faults }

abbrev pub WroteFrom : Cause → Code → List ℕ → List ℕ → run.SinkState → run.SinkState → Type 0
WroteFrom cause code limits journal first after = Wrote cause code limits journal (record { before = seen first; after = seen after })

-- what ended a run is no failure of the output
abbrev pub IsUncut : Option Halt → Type 0
IsUncut (Some halt.SinkFailed) = ⊥
IsUncut other = Unit {0}

-- a cause for which a run stops at once
abbrev pub StopsAtOnce : Cause → Type 0
StopsAtOnce OutOfMemory = Unit {0}
StopsAtOnce (Wrong process) = Unit {0}
StopsAtOnce cause = ⊥

-- where a sink got what the journal of a world says, it is what a run writes that stops for this cause: here, or behind
-- what the world makes further
abbrev pub WroteAll : Cause → Code → Post → run.SinkState → Type 0
WroteAll cause code post after =
    (first : run.SinkState) → first.faults < greatest_count → IsWritten code post first after → WroteFrom cause code post.limits post.journal.entries first after

abbrev pub WritesUpTo : Cause → Code → Post → Post → run.SinkState → run.SinkState → Type 0
WritesUpTo cause code old new before after =
    (first : run.SinkState) → first.faults < greatest_count → IsWritten code old first before → WroteFrom cause code new.limits new.journal.entries first after

-- what went out is the output of the journal still, where the output didn't fail before
abbrev pub StillReplays : Code → Post → Post → run.SinkState → run.SinkState → Type 0
StillReplays code old new before after =
    (first : run.SinkState) → IsUncut old.halt → IsWritten code old first before → Replays code new.limits new.journal.entries (record { before = seen first; after = seen after })

-- a panic
abbrev pub IsPanic : Cause → Type 0
IsPanic (Panicked process) = Unit {0}
IsPanic cause = ⊥

-- a run that stopped for a cause: without memory for the report of a panic that is the cause
abbrev pub StopsAs : Cause → Cause → Type 0
StopsAs stopped cause = (cause ≡ stopped) ⊎ ((cause ≡ OutOfMemory) × IsPanic stopped)

-- the cause that the stop of a run in rounds is
abbrev pub rounds_cause : Stop → Cause
rounds_cause (rounds.Ended end) = cause_by end
rounds_cause (rounds.RoundLimit budget) = RoundLimit budget

-- the cause that the stop of a replay is
abbrev pub replay_cause : ReplayStop → Cause
replay_cause (replay.Ended end) = cause_by end
replay_cause (replay.JournalEnds process) = JournalEnds process
replay_cause (replay.BadEntry entry) = BadEntry entry

-- the output of the journal's turns went out, whole or cut
abbrev pub ReplaysSome : Code → List ℕ → List ℕ → Change SinkState → Type 0
ReplaysSome code limits journal out = Replays code limits journal out ⊎ ReplaysCut code limits journal out

-- What a run in rounds wrote that stopped for this cause. Without memory the output may have failed in the same round. Of a
-- run whose code is wrong it isn't claimed.
abbrev pub WroteRounds : Cause → Code → List ℕ → List ℕ → Change SinkState → Type 0
WroteRounds (Wrong process) code limits journal out = Unit {0}
WroteRounds OutOfMemory code limits journal out = ReplaysSome code limits journal out
WroteRounds cause code limits journal out = Wrote cause code limits journal out

-- what a code wrote that ran, in rounds where a number of them is given
abbrev pub WroteIn : Option ℕ → Cause → Code → List ℕ → List ℕ → Change SinkState → Type 0
WroteIn None cause code limits journal out = Wrote cause code limits journal out
WroteIn (Some rounds) cause code limits journal out = WroteRounds cause code limits journal out

-- what came of a code that ran, in rounds where a number of them is given
pub record RanCode (code : Code) (limits : List ℕ) (rounds : Option ℕ) (cause : Cause) (journal : List ℕ) (out : Change SinkState) : Type 0 where
  pub stops : StopsRun cause
  pub means : CauseMeans code limits rounds journal cause
  pub wrote : WroteIn rounds cause code limits journal out

-- what came of a code that was replayed by these entries
pub record ReplayedCode (code : Code) (limits entries : List ℕ) (cause : Cause) (journal : List ℕ) (out : Change SinkState) : Type 0 where
  pub stops : StopsReplay cause
  pub means : ReplayMeans code limits entries journal cause
  pub wrote : Wrote cause code limits journal out
