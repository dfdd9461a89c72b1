-- A kept world beside a run in rounds as the machine has it.
use Rattle.std.specs.Prelude.{◌≡◌, ◌≢◌, ◌+◌, ◌≤◌, ℕ, Bool, true, false, Option, None, Some, Ok, List, [], ◌∷◌, ◌++◌, length, map}
use Rattle.std.specs.List.{list_any}
use Rattle.ink_base.specs.declared.limits.Limit.TheVariants as limit
use Rattle.ink_base.specs.Ends.{End, Panicked, EventLimit, LocalLimit}
use Rattle.ink_base.specs.Limits.{limit_of}
use Rattle.ink_base.specs.Numbered.{set_numbered}
use Rattle.ink_code.specs.declared.code.Code.{Code}
use Rattle.ink_code.specs.Machine.{Outcome, Went, Wants, Panics, Spent}
use Rattle.ink_code.specs.Process.{Process}
use Rattle.ink_code.specs.Rounds.{RoundState, checked_in, round}
use Rattle.ink_code.specs.Rounds as machine
use Rattle.ink_code.specs.Slice.{slice_of}
use Rattle.ink_post.specs.Worlds.{CodeState, home_of, world_of}
use Rattle.ink_post.specs.declared.answer.Came.{Came}
use Rattle.ink_post.specs.declared.answer.Came.TheVariants as came
use Rattle.ink_post.specs.declared.post.Post.{Post}
use Rattle.ink_proc.specs.State.{state_of}
use Rattle.ink_rounds.specs.declared.lent.Lent.{Lent}
use Rattle.ink_statuses.specs.Readings.{is_stopped}
use Rattle.ink_steps.specs.Answers.{action_of}
use Rattle.ink_worlds.specs.Standing.{text_in}
use Rattle.ink_worlds.specs.declared.halt.Halt.{Halt}
use Rattle.ink_worlds.specs.declared.halt.Halt.TheVariants as halt
use Rattle.ink_worlds.specs.declared.status.Status.{Status}
use Rattle.ink_worlds.specs.declared.status.Status.TheVariants.{Ready, Out, Idle, Held, Stopped}

-- the status of a process at home
abbrev pub status_of : machine.Status → Status
status_of machine.Ready = Ready
status_of machine.Idle = Idle
status_of (machine.Held future) = Held future
status_of machine.Stopped = Stopped

-- the end of a run that a check-in ended. Of a sink that fails the machine knows nothing
abbrev pub ended_by : Option Halt → Option End
ended_by None = None
ended_by (Some (halt.Panicked process)) = Some (Panicked process)
ended_by (Some (halt.Events process)) = Some (EventLimit process)
ended_by (Some (halt.Local process steps)) = Some (LocalLimit process steps)
ended_by (Some halt.SinkFailed) = None

-- processes that are lent, each by its number, as they went
abbrev pub Gone : Type 0
Gone = List (ℕ × Process)

-- a list with something else at the number of each of these
abbrev pub put_at_each : {X : Type 0} → (ℕ × Process → X) → Gone → List X → List X
put_at_each put [] xs = xs
put_at_each put (x ∷ gone) xs = put_at_each put gone (set_numbered xs x.0 (put x))

-- their homes are empty
abbrev pub homes_without : Gone → List (Option Process) → List (Option Process)
homes_without gone homes = put_at_each (λ (x : ℕ × Process). None) gone homes

-- and each is out under the seat of its own number
abbrev pub statuses_without : Gone → List Status → List Status
statuses_without gone statuses = put_at_each (λ (x : ℕ × Process). Out x.0 x.1.ran) gone statuses

-- these have other numbers than that one, up to the last that there is
abbrev pub AreOthers : ℕ → ℕ → Gone → Type 0
AreOthers number last [] = Unit {0}
AreOthers number last (x ∷ gone) = (number ≢ x.0) × (x.0 ≤ last) × AreOthers number last gone

-- a world is the machine's, but for the processes that are lent
pub record IsAs (gone : Gone) (state : CodeState) (run : RoundState) : Type 0 where
  pub homes : state.homes ≡ homes_without gone (map (λ (p : Process). Some p) run.world.processes)
  pub statuses : state.statuses ≡ statuses_without gone (map status_of run.statuses)
  pub shared : state.shared ≡ run.world.shared
  pub journal : state.journal ≡ run.journal
  pub text : state.text ≡ text_in run.world.panic
  pub ended : run.ended ≡ ended_by state.halt
  -- a process stops only where the run ended
  pub stopped : state.halt ≡ None → list_any is_stopped state.statuses ≡ false

-- these entries, and then others
pub record Begins (shorter longer : List ℕ) : Type 0 where
  pub rest : List ℕ
  pub is : longer ≡ shorter ++ rest

-- a kept world follows the machine: it is as that has it, unless a sink failed or there was no memory, and its journal is a
-- beginning of the machine's always
pub record Follows (whole : Bool) (gone : Gone) (post : Post) (run : RoundState) : Type 0 where
  pub exact : whole ≡ true → post.halt ≢ Some halt.SinkFailed → IsAs gone (world_of post run.world.shared.output) run
  pub begins : Begins post.journal.entries run.journal

-- what a process comes home with is what its slice came to
abbrev pub IsOutcome : Came → Process → Outcome → Type 0
IsOutcome came.Went p outcome = outcome ≡ Ok (Went, p)
IsOutcome came.GivesUp p outcome = ⊥
IsOutcome (came.Wants wish) p outcome = outcome ≡ Ok (Wants (action_of wish), p)
IsOutcome (came.Panics text) p outcome = outcome ≡ Ok (Panics text, p)
IsOutcome (came.Spent steps) p outcome = outcome ≡ Ok (Spent steps, p)
IsOutcome came.Wrong p outcome = Unit {0}

-- no action comes of it
abbrev pub MakesNothing : Came → Type 0
MakesNothing came.Went = Unit {0}
MakesNothing came.GivesUp = Unit {0}
MakesNothing (came.Wants wish) = ⊥
MakesNothing (came.Panics text) = ⊥
MakesNothing (came.Spent steps) = ⊥
MakesNothing came.Wrong = Unit {0}

-- with what a process comes home whose action is never made
abbrev pub idle_came : Came → Came
idle_came came.Wrong = came.Wrong
idle_came other = came.GivesUp

abbrev pub slice_from : Code → List ℕ → Process → Outcome
slice_from code limits p = slice_of (limit_of limit.Slice limits) code limits p

-- a process that went so came to what its slice came to, and to no action where there was no memory for that
pub record CameFrom (code : Code) (limits : List ℕ) (p : Process) (x : Lent) : Type 0 where
  pub whole : x.is_whole ≡ true → IsOutcome x.came (state_of x.proc) (slice_from code limits p)
  pub idle : x.is_whole ≡ false → MakesNothing x.came

-- and so did each of these
abbrev pub AllCameFrom : Code → List ℕ → Gone → List Lent → Type 0
AllCameFrom code limits [] [] = Unit {0}
AllCameFrom code limits [] (x ∷ lent) = ⊥
AllCameFrom code limits (g ∷ gone) [] = ⊥
AllCameFrom code limits (g ∷ gone) (x ∷ lent) = (x.number ≡ g.0) × CameFrom code limits g.1 x × AllCameFrom code limits gone lent

-- the machine's check-ins of lent processes, in this order
abbrev pub all_checked_in : Code → List ℕ → Gone → RoundState → RoundState
all_checked_in code limits [] run = run
all_checked_in code limits (g ∷ gone) run = all_checked_in code limits gone (checked_in code limits g.0 (slice_from code limits g.1) run)

-- lent processes as they went
abbrev pub gone_of : List Lent → Gone
gone_of [] = []
gone_of (x ∷ lent) = (x.number, state_of x.proc) ∷ gone_of lent

abbrev pub gone_if : ℕ → Status → Option Process → Gone → Gone
gone_if number Ready (Some p) gone = (number, p) ∷ gone
gone_if number Ready None gone = gone
gone_if number (Out seat ran) home gone = gone
gone_if number Idle home gone = gone
gone_if number (Held future) home gone = gone
gone_if number Stopped home gone = gone

-- the processes that are ready, by number from the first one on
abbrev pub ready_from : ℕ → List Status → List (Option Process) → Gone
ready_from first [] homes = []
ready_from first (status ∷ statuses) [] = []
ready_from first (status ∷ statuses) (home ∷ homes) = gone_if first status home (ready_from (first + 1) statuses homes)

abbrev pub ready_in : Post → Gone
ready_in post = ready_from 1 post.statuses.items (map home_of post.homes.items)

-- these went, by number, and are the first of those that were ready; without memory they are not all of them
pub record LendsAll (whole : Bool) (old new : Post) (gone : Gone) : Type 0 where
  pub rest : Gone
  pub ready : gone ++ rest ≡ ready_in old
  pub all : whole ≡ true → rest ≡ []
  pub after : (output : List ℕ) → world_of new output ≡ (let state = world_of old output in record state { homes = homes_without gone state.homes; statuses = statuses_without gone state.statuses })

-- these are other processes each, up to the last that there is
abbrev pub AreApart : ℕ → Gone → Type 0
AreApart last [] = Unit {0}
AreApart last (x ∷ gone) = AreOthers x.0 last gone × AreApart last gone

-- a world follows the machine but for processes that are lent, and these come home with what their slices came to
pub record Awaits (code : Code) (gone : Gone) (lent : List Lent) (post : Post) (run : RoundState) : Type 0 where
  pub follows : Follows true gone post run
  pub came : AllCameFrom code post.limits gone lent
  pub last : ℕ
  pub apart : AreApart last gone
  pub processes : last ≤ length run.world.processes
  pub statuses : last ≤ length run.statuses

-- the first of these came home, as in the machine
abbrev pub FollowsNext : Code → Bool → Lent → Post → Post → Type 0
FollowsNext code whole x old new =
    (g : ℕ × Process) (gone : Gone) (lent : List Lent) (run : RoundState) → Awaits code (g ∷ gone) (x ∷ lent) old run
    → Follows whole gone new (checked_in code old.limits g.0 (slice_from code old.limits g.1) run)

-- all of these came home, as in the machine
abbrev pub FollowsAll : Code → Bool → List Lent → Post → Post → Type 0
FollowsAll code whole lent old new =
    (gone : Gone) (run : RoundState) → Awaits code gone lent old run → Follows whole [] new (all_checked_in code old.limits gone run)

-- a world that goes on follows the machine through a round
abbrev pub FollowsRound : Code → Bool → Post → Post → Type 0
FollowsRound code whole old new =
    (run : RoundState) → old.halt ≡ None → Follows true [] old run → Follows whole [] new (round code old.limits run)
