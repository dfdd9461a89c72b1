-- What the calls of the futures answer.
use Rattle.std.specs.Prelude.{◌≡◌, ◌+◌, ◌<◌, ◌≤◌, ℕ, Bool, false, Option, Some, Result, Ok, Err}
use Rattle.std.specs.Prelude.{length}
use Rattle.std.specs.Option.{option_map_or}
use Rattle.ink_base.specs.Futures.{Futures, is_open, is_ready, after_make}
use Rattle.ink_base.specs.Numbered.{numbered}
use Rattle.ink_base.specs.declared.future.FutureState.{FutureState}
use Rattle.ink_base.specs.declared.future.FutureState.TheVariants.{Set, Broken}
use Rattle.ink_code.specs.Trees.{Parcel}
use Rattle.ink_numbered.specs.Roomy.{Roomy}
use Rattle.ink_promise.specs.declared.answer.FuturesFault.{FuturesFault}
use Rattle.ink_promise.specs.declared.answer.FuturesFault.TheVariants as fault
use Rattle.ink_promise.specs.declared.answer.Got.{Got}
use Rattle.ink_promise.specs.declared.answer.Got.TheVariants as got
use Rattle.ink_promise.specs.declared.answer.NotYet.{NotYet}

-- whether a future is there and open
abbrev pub is_open_at : Futures Parcel → ℕ → Bool
is_open_at futures number = option_map_or is_open (numbered futures number) false

-- a value that was set, a future that was broken, or one that is neither
abbrev pub IsGetAnswer : Result Got NotYet → Futures Parcel → ℕ → Type 0
IsGetAnswer (Ok (got.Held value)) futures number = numbered futures number ≡ Some (Set value)
IsGetAnswer (Ok got.Broken) futures number = numbered futures number ≡ Some Broken
IsGetAnswer (Err _) futures number = option_map_or is_ready (numbered futures number) false ≡ false

-- a future more, which has the next number, unless so many were made
abbrev pub IsMakeAnswer : Result ℕ FuturesFault → Roomy (FutureState Parcel) → Roomy (FutureState Parcel) → ℕ → Type 0
IsMakeAnswer (Ok number) old new most = (length old.items < most) × (number ≡ length old.items + 1) × (new.items ≡ after_make old.items)
IsMakeAnswer (Err fault.Full) old new most = (most ≤ length old.items) × (new ≡ old)
IsMakeAnswer (Err fault.OutOfMemory) old new most = (old.spare < 1) × (new ≡ old)
