-- What became of an entry, and of all entries of a journal.
use Rattle.std.specs.Prelude.{◌≡◌, ◌≤◌, ℕ, ◌+◌, Some, List, [], ◌∷◌, ◌++◌, length, slice_get, take}
use Rattle.ink_code.specs.declared.code.Code.{Code}
use Rattle.ink_post.specs.declared.answer.End.{End}
use Rattle.ink_post.specs.declared.answer.End.TheVariants as end
use Rattle.ink_post.specs.declared.post.Post.{Post}
use Rattle.ink_replay.specs.Keeps.{IsUncut, Keeps, StopsWrong}
use Rattle.ink_replay.specs.declared.entries.Entered.{Entered}
use Rattle.ink_replay.specs.declared.entries.Entered.TheVariants as entered
use Rattle.ink_replay.specs.declared.entries.Entries.{Entries}
use Rattle.ink_replay.specs.declared.entries.Entries.TheVariants as all
use Rattle.ink_run.specs.Sinks.{SinkState}
use Rattle.ink_run.specs.declared.applied.Applied.{Applied}
use Rattle.ink_run.specs.declared.applied.Applied.TheVariants as applied

-- what it means for an entry that its process came to this
abbrev pub entered_by : ℕ → Applied → Entered
entered_by process applied.Moved = entered.Made
entered_by process applied.Panicked = entered.Made
entered_by process applied.Kept = entered.Fails
entered_by process applied.Waits = entered.Fails
entered_by process applied.SinkFailed = entered.Ends end.SinkFailed
entered_by process applied.JournalFull = entered.Ends (end.Events process)
entered_by process (applied.Spent steps) = entered.Ends (end.Local process steps)
entered_by process applied.Wrong = entered.Ends (end.Wrong process)

-- the journal got an entry of the process
abbrev pub Adds : ℕ → Post → Post → Type 0
Adds process old new = new.journal.entries ≡ old.journal.entries ++ process ∷ []

-- the journal is as before
abbrev pub AddsNone : Post → Post → Type 0
AddsNone old new = new.journal.entries ≡ old.journal.entries

-- the run ended so at an entry of the process
abbrev pub EndsAt : Code → ℕ → End → Post → Post → SinkState → SinkState → Type 0
EndsAt code process end.SinkFailed old new before after = Keeps code old new before after × Adds process old new
EndsAt code process (end.Events at) old new before after = Keeps code old new before after × AddsNone old new × (at ≡ process)
EndsAt code process (end.Local at steps) old new before after = Keeps code old new before after × AddsNone old new × (at ≡ process)
EndsAt code process (end.Wrong at) old new before after = StopsWrong code at old new before after × AddsNone old new × (at ≡ process)
EndsAt code process other old new before after = ⊥

-- what became of an entry of the process
abbrev pub Enters : Code → ℕ → Entered → Post → Post → SinkState → SinkState → Type 0
Enters code process entered.Made old new before after = Keeps code old new before after × Adds process old new
Enters code process entered.Fails old new before after = Keeps code old new before after × AddsNone old new
Enters code process (entered.Ends end) old new before after = EndsAt code process end old new before after

-- these are the first entries of those that were given
abbrev pub Begins : List ℕ → List ℕ → Type 0
Begins given made = made ≡ take (length made) given

-- the next of the given entries is of this process
abbrev pub NextIs : ℕ → List ℕ → List ℕ → Type 0
NextIs process given made = slice_get given (length made) ≡ Some process

-- the run ended so at one of the given entries, where these were made
abbrev pub EndsIn : End → List ℕ → List ℕ → Type 0
EndsIn end.SinkFailed given made = Begins given made
EndsIn (end.Events process) given made = Begins given made × NextIs process given made
EndsIn (end.Local process steps) given made = Begins given made × NextIs process given made
EndsIn (end.Wrong process) given made = Begins given made × NextIs process given made
EndsIn other given made = ⊥

-- this entry, counted from 1, is the next of those that were given
abbrev pub IsNext : ℕ → List ℕ → List ℕ → Type 0
IsNext entry given made = Begins given made × (entry ≡ length made + 1) × (entry ≤ length given)

-- which entries were made
abbrev pub EntersAll : Entries → List ℕ → List ℕ → Type 0
EntersAll all.All given made = made ≡ given
EntersAll (all.Bad entry) given made = IsNext entry given made
EntersAll (all.Ended end) given made = EndsIn end given made

-- behind an entry that was made, or can't be, the output didn't fail and no limit was met
abbrev pub EntersUncut : Entered → Post → Type 0
EntersUncut entered.Made post = IsUncut post.halt
EntersUncut entered.Fails post = IsUncut post.halt
EntersUncut (entered.Ends end) post = Unit {0}

-- what is kept up to an end
abbrev pub KeepsTo : Code → End → Post → Post → SinkState → SinkState → Type 0
KeepsTo code (end.Wrong process) old new before after = StopsWrong code process old new before after
KeepsTo code other old new before after = Keeps code old new before after

abbrev pub KeepsAll : Code → Entries → Post → Post → SinkState → SinkState → Type 0
KeepsAll code (all.Ended end) old new before after = KeepsTo code end old new before after
KeepsAll code all.All old new before after = Keeps code old new before after
KeepsAll code (all.Bad entry) old new before after = Keeps code old new before after

-- where all entries were made, or one can't be, the output didn't fail and no limit was met
abbrev pub UncutAll : Entries → Post → Type 0
UncutAll all.All post = IsUncut post.halt
UncutAll (all.Bad entry) post = IsUncut post.halt
UncutAll (all.Ended end) post = Unit {0}
