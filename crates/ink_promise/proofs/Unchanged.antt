-- What becomes of the futures where the one of a number is known.
use Rattle.std.proofs.Common.{◌≡◌, ℕ, true, false, Option, None, Some, List, refl, ap, sym, ◌∙◌}
use Rattle.std.specs.Option.{option_map_or}
use Rattle.ink_base.specs.Futures.{Futures, is_open, is_ready, after_set, after_break, after_get, after_value_back, change_at, changed_future}
use Rattle.ink_base.specs.Numbered.{numbered, set_numbered}
use Rattle.ink_base.specs.declared.future.FutureState.{FutureState}
use Rattle.ink_base.specs.declared.future.FutureState.TheVariants.{Open, Set, Broken, Taken}
use Rattle.ink_code.specs.Trees.{Parcel}
use Rattle.ink_law_turns.proofs.Numbering.{set_numbered-same}
use Rattle.ink_promise.specs.Answers.{is_open_at}

abbrev State : Type 0
State = FutureState Parcel

set_at : (futures : Futures Parcel) (number : ℕ) (value : Parcel) (o : Option State) → numbered futures number ≡ o → option_map_or is_open o false ≡ false → change_at o futures number (λ state. after_set state value) ≡ futures
set_at futures number value None at e = refl
set_at futures number value (Some Open) at e = absurd (cc)
set_at futures number value (Some (Set had)) at e = set_numbered-same futures number (Set had) at
set_at futures number value (Some Broken) at e = set_numbered-same futures number Broken at
set_at futures number value (Some Taken) at e = set_numbered-same futures number Taken at

pub set_stays : (futures : Futures Parcel) (number : ℕ) (value : Parcel) → is_open_at futures number ≡ false → changed_future futures number (λ state. after_set state value) ≡ futures
set_stays futures number value e = set_at futures number value (numbered futures number) refl e

break_at : (futures : Futures Parcel) (number : ℕ) (o : Option State) → numbered futures number ≡ o → option_map_or is_open o false ≡ false → change_at o futures number after_break ≡ futures
break_at futures number None at e = refl
break_at futures number (Some Open) at e = absurd (cc)
break_at futures number (Some (Set had)) at e = set_numbered-same futures number (Set had) at
break_at futures number (Some Broken) at e = set_numbered-same futures number Broken at
break_at futures number (Some Taken) at e = set_numbered-same futures number Taken at

pub break_stays : (futures : Futures Parcel) (number : ℕ) → is_open_at futures number ≡ false → changed_future futures number after_break ≡ futures
break_stays futures number e = break_at futures number (numbered futures number) refl e

-- a future that is open, and what is set in its place
open_at : (futures : Futures Parcel) (number : ℕ) (change : State → State) (o : Option State) → option_map_or is_open o false ≡ true → set_numbered futures number (change Open) ≡ change_at o futures number change
open_at futures number change None e = absurd (cc)
open_at futures number change (Some Open) e = refl
open_at futures number change (Some (Set had)) e = absurd (cc)
open_at futures number change (Some Broken) e = absurd (cc)
open_at futures number change (Some Taken) e = absurd (cc)

pub set_open : (futures : Futures Parcel) (number : ℕ) (value : Parcel) → is_open_at futures number ≡ true → set_numbered futures number (Set value) ≡ changed_future futures number (λ state. after_set state value)
set_open futures number value e = open_at futures number (λ state. after_set state value) (numbered futures number) e

pub break_open : (futures : Futures Parcel) (number : ℕ) → is_open_at futures number ≡ true → set_numbered futures number Broken ≡ changed_future futures number after_break
break_open futures number e = open_at futures number after_break (numbered futures number) e

get_at : (futures : Futures Parcel) (number : ℕ) (o : Option State) → numbered futures number ≡ o → option_map_or is_ready o false ≡ false → change_at o futures number after_get ≡ futures
get_at futures number None at e = refl
get_at futures number (Some Open) at e = set_numbered-same futures number Open at
get_at futures number (Some (Set had)) at e = absurd (cc)
get_at futures number (Some Broken) at e = absurd (cc)
get_at futures number (Some Taken) at e = set_numbered-same futures number Taken at

pub get_stays : (futures : Futures Parcel) (number : ℕ) → option_map_or is_ready (numbered futures number) false ≡ false → changed_future futures number after_get ≡ futures
get_stays futures number e = get_at futures number (numbered futures number) refl e

pub get_broken : (futures : Futures Parcel) (number : ℕ) → numbered futures number ≡ Some Broken → changed_future futures number after_get ≡ futures
get_broken futures number e = ap (λ (o : Option State). change_at o futures number after_get) e ∙ set_numbered-same futures number Broken e

pub get_set : (futures : Futures Parcel) (number : ℕ) (value : Parcel) → numbered futures number ≡ Some (Set value) → set_numbered futures number Taken ≡ changed_future futures number after_get
get_set futures number value e = sym (ap (λ (o : Option State). change_at o futures number after_get) e)

pub back_taken : (futures : Futures Parcel) (number : ℕ) (value : Parcel) → numbered futures number ≡ Some Taken → set_numbered futures number (Set value) ≡ changed_future futures number (λ state. after_value_back state value)
back_taken futures number value e = sym (ap (λ (o : Option State). change_at o futures number (λ state. after_value_back state value)) e)
