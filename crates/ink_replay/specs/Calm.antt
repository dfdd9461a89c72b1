-- How the processes of a run stand between two entries.
use Rattle.std.specs.Prelude.{◌≡◌, ◌<◌, ℕ, None, Some, List}
use Rattle.ink_base.specs.Numbered.{numbered}
use Rattle.ink_post.specs.declared.post.Post.{Post}
use Rattle.ink_replay.specs.declared.entries.Entered.{Entered}
use Rattle.ink_replay.specs.declared.entries.Entered.TheVariants as entered
use Rattle.ink_replay.specs.declared.entries.Entries.{Entries}
use Rattle.ink_replay.specs.declared.entries.Entries.TheVariants as all
use Rattle.ink_worlds.specs.declared.status.Status.{Status}
use Rattle.ink_worlds.specs.declared.status.Status.TheVariants.{Ready, Out, Idle, Held, Stopped}

-- it isn't lent and it isn't stopped
abbrev pub IsAtRest : Status → Type 0
IsAtRest Ready = Unit {0}
IsAtRest (Out seat ran) = ⊥
IsAtRest Idle = Unit {0}
IsAtRest (Held future) = Unit {0}
IsAtRest Stopped = ⊥

abbrev pub AreAtRest : List Status → Type 0
AreAtRest statuses = (process : ℕ) (status : Status) → numbered statuses process ≡ Some status → IsAtRest status

-- no process before this one is ready
abbrev pub NoneReadyBefore : ℕ → List Status → Type 0
NoneReadyBefore process statuses = (other : ℕ) → other < process → numbered statuses other ≡ Some Ready → ⊥

-- so they all stand where no panic was made
abbrev pub IsCalm : Post → Type 0
IsCalm post = post.text ≡ None → AreAtRest post.statuses.items

-- so it is behind an entry that was made
abbrev pub EntersCalm : Entered → Post → Type 0
EntersCalm entered.Made post = IsCalm post
EntersCalm entered.Fails post = Unit {0}
EntersCalm (entered.Ends end) post = Unit {0}

abbrev pub CalmAll : Entries → Post → Type 0
CalmAll all.All post = IsCalm post
CalmAll (all.Bad entry) post = Unit {0}
CalmAll (all.Ended end) post = Unit {0}
