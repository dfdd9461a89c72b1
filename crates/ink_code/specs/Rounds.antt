-- Runs in rounds: each process that is ready makes a slice, and then their actions are made by number.
use Rattle.std.specs.Prelude.{ℕ, zero, suc, ◌+◌, ◌==◌, nat_le, if◌then◌else◌, Bool, true, false, Option, None, Some, Ok, Err, List, [], ◌∷◌, ◌++◌, length, map}
use Rattle.std.specs.List.{list_any}
use Rattle.ink_base.specs.declared.limits.Limit.TheVariants as limit
use Rattle.ink_base.specs.Actions.{Action, is_enabled, as_made}
use Rattle.ink_base.specs.Actions as action
use Rattle.ink_base.specs.Ends.{Standing, Enabled, AtTake, AtGet, Endless, Rests, RoundsMade, End, Panicked, EventLimit, LocalLimit, end_of}
use Rattle.ink_base.specs.Limits.{limit_of}
use Rattle.ink_base.specs.Numbered.{numbered, set_numbered}
use Rattle.ink_code.specs.declared.code.Code.{Code}
use Rattle.ink_code.specs.Machine.{Stepped, Went, Wants, Panics, Spent, Outcome}
use Rattle.ink_code.specs.Process.{Process}
use Rattle.ink_code.specs.Runs.{World, opening_world, process_after, after_made}
use Rattle.ink_code.specs.Slice.{slice_of}
use Rattle.ink_code.specs.Trees.{Parcel}

-- how a process stands between rounds
pub data Status : Type 0 where
  -- it makes a slice in the next round
  Ready : Status
  -- it is at a take, and has no unread message
  Idle : Status
  -- it is at a get of this future, which is neither set nor broken
  Held : (future : ℕ) → Status
  -- it makes no further slice
  Stopped : Status

-- a run in rounds as it stands
pub record RoundState : Type 0 where
  pub world : World
  pub statuses : List Status
  pub journal : List ℕ
  pub ended : Option End

-- a run in rounds as it begins
abbrev pub first_state : Code → RoundState
first_state code = record { world = opening_world code; statuses = Ready ∷ []; journal = []; ended = None }

-- a run with a process as its slice left it, and its status
abbrev pub back_in : ℕ → Process → Status → RoundState → RoundState
back_in number p status state =
    let world = state.world in
    record state {
      world = record world { processes = set_numbered world.processes number p };
      statuses = set_numbered state.statuses number status;
    }

-- a run that ends with the slice of a process
abbrev pub ends_with : End → ℕ → Process → RoundState → RoundState
ends_with end number p state = let kept = back_in number p Stopped state in record kept { ended = Some end }

abbrev pub woken_from_take : Status → Status
woken_from_take Ready = Ready
woken_from_take Idle = Ready
woken_from_take (Held future) = Held future
woken_from_take Stopped = Stopped

abbrev pub woken_from_get : ℕ → Status → Status
woken_from_get made Ready = Ready
woken_from_get made Idle = Idle
woken_from_get made (Held future) = if future == made then Ready else Held future
woken_from_get made Stopped = Stopped

abbrev pub woken_at : Option Status → List Status → ℕ → List Status
woken_at None statuses number = statuses
woken_at (Some status) statuses number = set_numbered statuses number (woken_from_take status)

-- the statuses after an action: a message wakes its receiver, what is set or broken wakes those that wait for it, and a
-- new process is ready
abbrev pub woken : Action Parcel → List Status → List Status
woken (action.Send to method parcel) statuses = woken_at (numbered statuses to) statuses to
woken (action.SetFuture future parcel) statuses = map (woken_from_get future) statuses
woken (action.BreakFuture future) statuses = map (woken_from_get future) statuses
woken (action.Spawn kind parcel) statuses = statuses ++ Ready ∷ []
woken other statuses = statuses

abbrev pub end_by : Action Parcel → ℕ → Option End
end_by (action.Panic text) number = Some (Panicked number)
end_by other number = None

abbrev pub status_after : Option End → Status
status_after None = Ready
status_after (Some end) = Stopped

-- a run with a process that stays where it was and makes no further slice: its instruction is wrong, or its reply
-- can't be put
abbrev pub stopped_at : ℕ → RoundState → RoundState
stopped_at number state = record state { statuses = set_numbered state.statuses number Stopped }

-- a run after an action that a process made, which left the process so
abbrev pub acted : Action Parcel → ℕ → Option Process → RoundState → RoundState
acted made number None state = stopped_at number state
acted made number (Some left) state =
    record {
      world = after_made made number left state.world;
      statuses = woken made (set_numbered state.statuses number (status_after (end_by made number)));
      journal = state.journal ++ number ∷ [];
      ended = end_by made number;
    }

abbrev pub made_by : Code → Action Parcel → ℕ → Process → RoundState → RoundState
made_by code made number p state = acted made number (process_after code made number state.world.shared p) state

-- how a process waits for an action that can't be made now
abbrev pub waits_at : Action Parcel → Status
waits_at (action.GetFuture future) = Held future
waits_at other = Idle

-- a wanted action is made where it can be and the journal has room
abbrev pub acts : Code → List ℕ → Action Parcel → ℕ → Process → RoundState → RoundState
acts code limits wish number p state =
    if is_enabled wish number state.world.shared
    then (if nat_le (limit_of limit.Events limits) (length state.journal)
    then ends_with (EventLimit number) number p state
    else made_by code (as_made wish state.world.shared limits) number p state)
    else back_in number p (waits_at wish) state

-- what a slice came to is done, while the run goes on
abbrev pub comes_back : Code → List ℕ → Stepped → ℕ → Process → RoundState → RoundState
comes_back code limits Went number p state = back_in number p Ready state
comes_back code limits (Wants wish) number p state = acts code limits wish number p state
comes_back code limits (Panics text) number p state = acts code limits (action.Panic text) number p state
comes_back code limits (Spent steps) number p state = ends_with (LocalLimit number steps) number p state

abbrev pub unless_ended : Option End → RoundState → RoundState → RoundState
unless_ended None ended further = further
unless_ended (Some end) ended further = ended

-- the check-in of a process: after an end it only comes back, and one with a wrong instruction stays where it was
unfoldable pub checked_in : Code → List ℕ → ℕ → Outcome → RoundState → RoundState
checked_in code limits number (Err why) state = stopped_at number state
checked_in code limits number (Ok (stepped, p)) state =
    unless_ended state.ended (back_in number p Stopped state) (comes_back code limits stepped number p state)

-- the slice of a process, where it is ready
abbrev pub slice_if : Code → List ℕ → Status → Process → Option Outcome
slice_if code limits Ready p = Some (slice_of (limit_of limit.Slice limits) code limits p)
slice_if code limits Idle p = None
slice_if code limits (Held future) p = None
slice_if code limits Stopped p = None

-- the slices of all processes that are ready
unfoldable pub slices_of : Code → List ℕ → List Status → List Process → List (Option Outcome)
slices_of code limits [] processes = []
slices_of code limits (status ∷ statuses) [] = []
slices_of code limits (status ∷ statuses) (p ∷ processes) = slice_if code limits status p ∷ slices_of code limits statuses processes

-- the check-ins of the processes that made slices, by number from the first one on
unfoldable pub each_checked_in : Code → List ℕ → ℕ → List (Option Outcome) → RoundState → RoundState
each_checked_in code limits first [] state = state
each_checked_in code limits first (None ∷ rest) state = each_checked_in code limits (first + 1) rest state
each_checked_in code limits first (Some outcome ∷ rest) state =
    each_checked_in code limits (first + 1) rest (checked_in code limits first outcome state)

-- one round, which changes nothing after an end
unfoldable pub round : Code → List ℕ → RoundState → RoundState
round code limits state =
    unless_ended state.ended state (each_checked_in code limits 1 (slices_of code limits state.statuses state.world.processes) state)

-- so many rounds
unfoldable pub rounds : Code → List ℕ → ℕ → RoundState
rounds code limits zero = first_state code
rounds code limits (suc made) = round code limits (rounds code limits made)

abbrev pub is_to_run : Status → Bool
is_to_run Ready = true
is_to_run Idle = false
is_to_run (Held future) = false
is_to_run Stopped = false

-- how a process with a status stands where the run ends
abbrev pub standing_of : Status → Standing
standing_of Ready = Enabled
standing_of Idle = AtTake
standing_of (Held future) = AtGet
standing_of Stopped = Endless

abbrev pub end_found : Option End → Bool → ℕ → RoundState → Option End
end_found (Some end) ready made state = Some end
end_found None true made state = end_of None (RoundsMade made) false (map standing_of state.statuses)
end_found None false made state = end_of None Rests false (map standing_of state.statuses)

-- the end of a run of so many rounds: that at which it stopped, or the limit of rounds where a process is ready, or that
-- all of them wait
abbrev pub end_of_rounds : ℕ → RoundState → Option End
end_of_rounds made state = end_found state.ended (list_any is_to_run state.statuses) made state
