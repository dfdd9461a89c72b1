use Rattle.std.specs.Prelude.{◌≡◌, ℕ, ◌-◌, ◌<◌, ◌⊎◌, List, ◌++◌, length, take, min, Contains, slice_get, unwrap_or, Result, Ok, Err}
use Rattle.ink_devices.specs.declared.faults.Faults.{Faults}
use Rattle.ink_devices.specs.declared.outside.Failed.{Failed}
use Rattle.ink_devices.specs.declared.outside.FileFault.{FileFault}
use Rattle.ink_devices.specs.declared.outside.FileFault.TheVariants as fault
use Rattle.ink_devices.specs.Outside.{one_more}
use Rattle.ink_devices.specs.Stored.{File}

-- what a contract sees of files in memory: the files, the numbers of the calls that are to fail, how many calls were
-- made, and the faults
pub record MemFilesView : Type 0 where
  pub files : List File
  pub planned : List ℕ
  pub calls : ℕ
  pub reads : Faults
  pub writes : Faults

-- a call has the next number, and fails just where the plan has that number or the call is amiss. Want of memory is
-- no call
abbrev pub MeetsPlan : {T : Type 0} → Result T FileFault → MemFilesView → MemFilesView → Type 0 → Type 0
MeetsPlan (Ok x) old new IsAmiss =
    (new.planned ≡ old.planned) × (new.calls ≡ one_more old.calls) × ¬ Contains old.planned new.calls × ¬ IsAmiss
MeetsPlan (Err fault.OutOfMemory) old new IsAmiss = new ≡ old
MeetsPlan (Err fault.Failed) old new IsAmiss =
    (new.planned ≡ old.planned) × (new.calls ≡ one_more old.calls) × (Contains old.planned new.calls ⊎ IsAmiss)

-- what a contract sees of a sink in memory: its bytes, for how many it has room, the numbers of the calls that are to
-- fail, the most that each call takes, how many calls were made, and how many of them failed
pub record MemSinkView : Type 0 where
  pub bytes : List ℕ
  pub room : ℕ
  pub planned : List ℕ
  pub most : List ℕ
  pub calls : ℕ
  pub faults : ℕ

-- how many of so many bytes a call takes, where the plan says the most that each call does
abbrev pub taken_count : List ℕ → ℕ → ℕ → ℕ
taken_count most call count = min count (unwrap_or (slice_get most (call - 1)) count)

-- a call that is to take so many of a piece's bytes fails: the plan has its number, or lets it take nothing of a piece
-- that has bytes, or the room that is left is too small
abbrev pub IsAmiss : List ℕ → ℕ → ℕ → ℕ → ℕ → Type 0
IsAmiss planned call taken count left = Contains planned call ⊎ (((taken ≡ 0) × (0 < count)) ⊎ (left < taken))

-- a write takes as many bytes as the plan says, and fails just where it is amiss
abbrev pub WritesByPlan : Result ℕ Failed → MemSinkView → MemSinkView → List ℕ → Type 0
WritesByPlan (Ok taken) old new piece =
    let call = one_more old.calls in
    (taken ≡ taken_count old.most call (length piece)) × ¬ IsAmiss old.planned call taken (length piece) (old.room - length old.bytes)
    × (new ≡ record old { bytes = old.bytes ++ take taken piece; calls = call })
WritesByPlan (Err failed) old new piece =
    let call = one_more old.calls in
    let taken = taken_count old.most call (length piece) in
    IsAmiss old.planned call taken (length piece) (old.room - length old.bytes)
    × (new ≡ record old { calls = call; faults = one_more old.faults })
