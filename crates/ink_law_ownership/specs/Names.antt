-- Where the names of objects stand in a run: in the heaps of its processes, in unread messages and in futures.
use Rattle.std.specs.Prelude.{◌≡◌, ℕ, ◌+◌, ◌<◌, ◌≤◌, Some, IsSomeAnd, List}
use Rattle.std.specs.List.{sum_by}
use Rattle.ink_base.specs.declared.future.FutureState.{FutureState}
use Rattle.ink_base.specs.declared.future.FutureState.TheVariants.{Open, Set, Broken, Taken}
use Rattle.ink_base.specs.declared.ident.ObjectId.{ObjectId}
use Rattle.ink_base.specs.Futures.{Futures}
use Rattle.ink_base.specs.Messages.{Mail, Mailbox}
use Rattle.ink_base.specs.Numbered.{numbered}
use Rattle.ink_code.specs.Owned.{times_there}
use Rattle.ink_code.specs.Process.{Process}
use Rattle.ink_code.specs.Runs.{World}
use Rattle.ink_code.specs.Trees.{Parcel}

-- in how many heaps a name stands
abbrev pub times_in_heaps : ObjectId → List Process → ℕ
times_in_heaps id processes = sum_by (λ p. times_there id p.objects) processes

-- in how many unread messages
abbrev pub times_in_box : ObjectId → Mailbox Parcel → ℕ
times_in_box id box = sum_by (λ message. times_there id message.values.objects) box.unread

abbrev pub times_in_mail : ObjectId → Mail Parcel → ℕ
times_in_mail id mail = sum_by (times_in_box id) mail

-- in how many futures
abbrev pub times_in_future : ObjectId → FutureState Parcel → ℕ
times_in_future id Open = 0
times_in_future id (Set parcel) = times_there id parcel.objects
times_in_future id Broken = 0
times_in_future id Taken = 0

abbrev pub times_in_futures : ObjectId → Futures Parcel → ℕ
times_in_futures id futures = sum_by (times_in_future id) futures

-- in how many of all of them
abbrev pub times_in_world : ObjectId → World → ℕ
times_in_world id world =
    times_in_heaps id world.processes + times_in_mail id world.shared.mail + times_in_futures id world.shared.futures

-- the process that the name tells has made so many objects
abbrev pub WasMade : ObjectId → List Process → Type 0
WasMade id processes = IsSomeAnd (numbered processes id.process) (λ p. id.serial ≤ p.made)

-- each name stands in one heap, one unread message or one future alone, no process has made fewer objects than its names
-- tell, and each process has the number at which it stands
pub record StandApart (world : World) : Type 0 where
  pub once : (id : ObjectId) → times_in_world id world ≤ 1
  pub made : (id : ObjectId) → 0 < times_in_world id world → WasMade id world.processes
  pub numbers : (number : ℕ) (p : Process) → numbered world.processes number ≡ Some p → p.number ≡ number
