-- How a run ends, as one function of what it came to.
use Rattle.std.specs.Prelude.{ℕ, ◌+◌, Bool, true, false, Option, None, Some, List, [], ◌∷◌}
use Rattle.ink_base.specs.Numbered.{numbered}

-- how a process stands after the last event
pub data Standing : Type 0 where
  -- its next action can be made
  Enabled : Standing
  -- its next action is a take, and it has no unread message
  AtTake : Standing
  -- its next action is a get, and the future is neither set nor broken
  AtGet : Standing
  -- it made so many steps since its last event, none of them an action, and may make no more
  Spent : (steps : ℕ) → Standing
  -- it comes to no action
  Endless : Standing

-- why a run makes no further event
pub data Stop : Type 0 where
  -- no process is to run
  Rests : Stop
  -- the first check-in that can end the run is that of this process
  CheckedIn : (process : ℕ) → Stop
  -- that many rounds were made, no more are allowed, and the run didn't end in them
  RoundsMade : (rounds : ℕ) → Stop
  -- it is a replay, and each entry of the given journal was made
  EntriesMade : Stop
  -- it is a replay, and this entry, counted from 1, of this process can't be made
  EntryFails : (entry process : ℕ) → Stop

pub data End : Type 0 where
  -- the last event is a panic of this process
  Panicked : (process : ℕ) → End
  -- nothing can be made, and this is the least process that waits at a get
  Waiting : (process : ℕ) → End
  -- each process waits for a message
  Quiet : End
  -- the journal is at its limit, and the next action of this process can be made
  EventLimit : (process : ℕ) → End
  -- this process made so many steps since its last event, which is the limit
  LocalLimit : (process steps : ℕ) → End
  -- so many rounds were made, which is the limit, and the run didn't end
  RoundLimit : (rounds : ℕ) → End
  -- the given journal ends, and this is the least process whose next action can be made
  JournalEnds : (process : ℕ) → End
  -- this entry of the given journal can't be made
  BadEntry : (entry : ℕ) → End

-- whether each process waits, at a take or at a get
abbrev pub all_wait : List Standing → Bool
all_wait [] = true
all_wait (Enabled ∷ rest) = false
all_wait (AtTake ∷ rest) = all_wait rest
all_wait (AtGet ∷ rest) = all_wait rest
all_wait (Spent steps ∷ rest) = false
all_wait (Endless ∷ rest) = false

-- the end where each process waits; these have the numbers from the first one on
abbrev pub waiting_end : ℕ → List Standing → End
waiting_end first [] = Quiet
waiting_end first (Enabled ∷ rest) = waiting_end (first + 1) rest
waiting_end first (AtTake ∷ rest) = waiting_end (first + 1) rest
waiting_end first (AtGet ∷ rest) = Waiting first
waiting_end first (Spent steps ∷ rest) = waiting_end (first + 1) rest
waiting_end first (Endless ∷ rest) = waiting_end (first + 1) rest

abbrev pub end_if : Bool → End → Option End
end_if false end = None
end_if true end = Some end

-- the end of a run in which no process is to run
abbrev pub rest_end : List Standing → Option End
rest_end processes = end_if (all_wait processes) (waiting_end 1 processes)

-- the end at a check-in of a process that stands so: a spent process ends the run whether the journal has room or not
abbrev pub check_in_end : ℕ → Option Standing → Bool → Option End
check_in_end process None is_full = None
check_in_end process (Some Enabled) is_full = end_if is_full (EventLimit process)
check_in_end process (Some AtTake) is_full = None
check_in_end process (Some AtGet) is_full = None
check_in_end process (Some (Spent steps)) is_full = Some (LocalLimit process steps)
check_in_end process (Some Endless) is_full = None

-- the end of a replay whose entries were made: of the processes by number the first that is spent or enabled decides,
-- and where there is none, they all wait
abbrev pub entries_end : ℕ → List Standing → Option End → Option End
entries_end first [] others = others
entries_end first (Enabled ∷ rest) others = Some (JournalEnds first)
entries_end first (AtTake ∷ rest) others = entries_end (first + 1) rest others
entries_end first (AtGet ∷ rest) others = entries_end (first + 1) rest others
entries_end first (Spent steps ∷ rest) others = Some (LocalLimit first steps)
entries_end first (Endless ∷ rest) others = entries_end (first + 1) rest others

-- the end of a replay at an entry that can't be made: a process that is spent comes to no action there
abbrev pub entry_end : ℕ → ℕ → Option Standing → Option End
entry_end entry process None = Some (BadEntry entry)
entry_end entry process (Some Enabled) = None
entry_end entry process (Some AtTake) = Some (BadEntry entry)
entry_end entry process (Some AtGet) = Some (BadEntry entry)
entry_end entry process (Some (Spent steps)) = Some (LocalLimit process steps)
entry_end entry process (Some Endless) = Some (BadEntry entry)

-- an entry after a panic can't be made, and else the panic is the end
abbrev pub panicked_end : ℕ → Stop → Option End
panicked_end process Rests = Some (Panicked process)
panicked_end process (CheckedIn other) = Some (Panicked process)
panicked_end process (RoundsMade rounds) = Some (Panicked process)
panicked_end process EntriesMade = Some (Panicked process)
panicked_end process (EntryFails entry other) = Some (BadEntry entry)

-- the end of a run: `panicked` is the process whose panic is the last event, `is_full` tells whether the journal of a
-- run that is no replay is at its limit, and `processes` how each process stands
abbrev pub end_of : Option ℕ → Stop → Bool → List Standing → Option End
end_of (Some process) stop is_full processes = panicked_end process stop
end_of None Rests is_full processes = rest_end processes
end_of None (CheckedIn process) is_full processes = check_in_end process (numbered processes process) is_full
end_of None (RoundsMade rounds) is_full processes = Some (RoundLimit rounds)
end_of None EntriesMade is_full processes = entries_end 1 processes (rest_end processes)
end_of None (EntryFails entry process) is_full processes = entry_end entry process (numbered processes process)
