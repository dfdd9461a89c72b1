-- A replay refuses only what is no journal.
use Rattle.std.specs.Prelude.{ℕ, List, take}
use Rattle.ink_code.specs.declared.code.Code.{Code}
use Rattle.ink_code.specs.Process.{Process}
use Rattle.ink_code.specs.Trees.{Parcel}
use Rattle.ink_law_replays.specs.Next.{HasNoTurn}
use Rattle.ink_law_runs.specs.CodeMachine.{code_machine, opening_run}
use Rattle.ink_law_turns.specs.Turns.{Run, Turns}
use Rattle.ink_post.specs.declared.post.Post.{Post}
use Rattle.ink_replay.specs.declared.entries.Entered.{Entered}
use Rattle.ink_replay.specs.declared.entries.Entered.TheVariants as entered
use Rattle.ink_replay.specs.declared.entries.Entries.{Entries}
use Rattle.ink_replay.specs.declared.entries.Entries.TheVariants as all
use Rattle.ink_replay.specs.declared.replaying.ReplayStop.{ReplayStop}
use Rattle.ink_replay.specs.declared.replaying.ReplayStop.TheVariants as stop

-- in the run after the journal's turns the process has no turn
pub record IsStuck (code : Code) (process : ℕ) (post : Post) : Type 0 where
  pub run : Run Process Parcel
  pub turns : Turns (code_machine code post.limits) post.limits (opening_run code) post.journal.entries run
  pub stuck : HasNoTurn (code_machine code post.limits) post.limits run process

-- so it is where an entry of the process can't be made
abbrev pub FailsStuck : Code → ℕ → Entered → Post → Type 0
FailsStuck code process entered.Made post = Unit {0}
FailsStuck code process entered.Fails post = IsStuck code process post
FailsStuck code process (entered.Ends end) post = Unit {0}

-- no run of the code has this journal
abbrev pub IsNoJournal : Code → List ℕ → List ℕ → Type 0
IsNoJournal code limits journal = (run : Run Process Parcel) → Turns (code_machine code limits) limits (opening_run code) journal run → ⊥

-- no run has the given entries up to the one that can't be made
abbrev pub RefusesIn : Code → List ℕ → Entries → List ℕ → Type 0
RefusesIn code limits all.All given = Unit {0}
RefusesIn code limits (all.Bad entry) given = IsNoJournal code limits (take entry given)
RefusesIn code limits (all.Ended end) given = Unit {0}

abbrev pub Refuses : Code → List ℕ → ReplayStop → List ℕ → Type 0
Refuses code limits (stop.Ended end) given = Unit {0}
Refuses code limits (stop.JournalEnds process) given = Unit {0}
Refuses code limits (stop.BadEntry entry) given = IsNoJournal code limits (take entry given)
