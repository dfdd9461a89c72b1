-- One more value is moved out of registers, or into them.
use Rattle.std.proofs.Common.{◌≡◌, ◌≢◌, ℕ, suc, ◌+◌, ◌-◌, ◌<◌, Option, None, Some, Result, Ok, Err, List, [], ◌∷◌, ◌++◌, length, get_or, set, drop, take, replicate, refl, sym, ap, ◌∙◌, arith, add-one, append_assoc, length-append}
use Rattle.std.specs.List.{slice_get}
use Rattle.std.proofs.Math.Seq.{drop-cons}
use Rattle.std.proofs.lemmas.Grind.{take_at_read}
use Rattle.std.proofs.lemmas.List.{drop-set-lt, length-take-le, set-set, set-get_or}
use Rattle.std.proofs.lemmas.Option.{get_or_from_slice_get, slice_get_within}
use Rattle.ink_base.specs.declared.value.Value.{Value}
use Rattle.ink_base.specs.declared.value.Value.TheVariants.{Empty}
use Rattle.ink_base.specs.declared.value.Value.TheVariants as v
use Rattle.ink_code.specs.declared.wrong.Wrong.{Wrong}
use Rattle.ink_code.specs.declared.wrong.Wrong.TheVariants as wrong
use Rattle.ink_code.specs.declared.frame.Frame.{Frame}
use Rattle.ink_code.specs.Process.{register, with_register, held, with_first, moved, where_there, given_out, padded}

abbrev pub Parts : Type 0
Parts = Result (List Value × List Value) Wrong

-- values that were moved before, and those of the rest
abbrev pub behind : List Value → Parts → Parts
behind values (Err why) = Err why
behind values (Ok parts) = Ok (values ++ parts.0, parts.1)

pub moved_stops : (values : List Value) (numbers : List ℕ) (index : ℕ) (registers : List Value) (why : Wrong) → index < length numbers → held (slice_get registers (get_or numbers index 0)) ≡ Err why → behind values (moved (drop index numbers) registers) ≡ Err why
moved_stops values numbers index registers why low stops =
    ap (λ rest. behind values (moved rest registers)) (drop-cons numbers index 0 low)
    ∙ ap (λ first. behind values (with_first first (moved (drop (suc index) numbers) (set registers (get_or numbers index 0) Empty)))) stops

behind_first : (values : List Value) (value : Value) (parts : Parts) → behind values (with_first (Ok value) parts) ≡ behind (values ++ value ∷ []) parts
behind_first values value (Err why) = refl
behind_first values value (Ok parts) = ap (λ (all : List Value). Ok (all, parts.1)) (sym (append_assoc values (value ∷ []) parts.0))

pub moved_more : (values : List Value) (numbers : List ℕ) (index : ℕ) (registers : List Value) (value : Value) → index < length numbers → held (slice_get registers (get_or numbers index 0)) ≡ Ok value → behind values (moved (drop index numbers) registers) ≡ behind (values ++ value ∷ []) (moved (drop (index + 1) numbers) (set registers (get_or numbers index 0) Empty))
moved_more values numbers index registers value low goes =
    ap (λ rest. behind values (moved rest registers)) (drop-cons numbers index 0 low)
    ∙ ap (λ first. behind values (with_first first (moved (drop (suc index) numbers) (set registers (get_or numbers index 0) Empty)))) goes
    ∙ behind_first values value _
    ∙ ap (λ next. behind (values ++ value ∷ []) (moved (drop next numbers) (set registers (get_or numbers index 0) Empty))) (sym (add-one index))

-- one more empty value leaves one less to come
pub padded_next : (most : ℕ) (values : List Value) → length values < most → padded most (values ++ Empty ∷ []) ≡ padded most values
padded_next most values low =
    let rest : ℕ = most - length (values ++ Empty ∷ []) in
    let less : most - length values ≡ suc rest = omega (arith, length-append values (Empty ∷ [])) in
    append_assoc values (Empty ∷ []) (replicate rest Empty) ∙ ap (λ count. values ++ replicate count Empty) (sym less)

wrong_absent : (had : Option Value) → where_there {A = List Value} had (Err wrong.Absent) ≡ Err wrong.Absent
wrong_absent None = refl
wrong_absent (Some value) = refl

-- values and registers that are not as many
pub given_apart : (numbers : List ℕ) (values registers : List Value) → length numbers ≢ length values → given_out numbers values registers ≡ Err wrong.Absent
given_apart [] [] registers differ = elim (differ refl) [ ]
given_apart [] (value ∷ values) registers differ = refl
given_apart (number ∷ numbers) [] registers differ = refl
given_apart (number ∷ numbers) (value ∷ values) registers differ =
    ap (where_there (slice_get registers number)) (given_apart numbers values (set registers number value) (λ same. differ (ap suc same)))
    ∙ wrong_absent (slice_get registers number)

goes_on : (had : Option Value) (registers left : List Value) (rest : List Value → Result (List Value) Wrong) → where_there had (Ok registers) ≡ Ok left → where_there had (rest registers) ≡ rest left
goes_on None registers left rest put = cc
goes_on (Some value) registers left rest put = let same : registers ≡ left = cc in ap rest same

stops : (had : Option Value) (registers : List Value) (why : Wrong) (rest : Result (List Value) Wrong) → where_there had (Ok registers) ≡ Err why → where_there had rest ≡ Err why
stops None registers why rest put = cc
stops (Some value) registers why rest put = cc

-- the next value, and behind it those that are left
pub left_of : (values : List Value) (index : ℕ) (value : Value) → slice_get values index ≡ Some value → value ∷ drop (index + 1) (set values index Empty) ≡ drop index values
left_of values index value had =
    let low : index < length values = slice_get_within values index value had in
    let is : get_or values index Empty ≡ value = get_or_from_slice_get values index value Empty had in
    ap (λ rest. value ∷ rest) (drop-set-lt (index + 1) values index Empty (omega arith))
    ∙ ap (λ next. value ∷ drop next values) (add-one index)
    ∙ ap (λ first. first ∷ drop (suc index) values) (sym is)
    ∙ sym (drop-cons values index Empty low)

-- the next register and the next value stand in front of what is left
next_of : (numbers : List ℕ) (values registers : List Value) (index : ℕ) (value : Value) → index < length numbers → slice_get values index ≡ Some value → given_out (drop index numbers) (drop index values) registers ≡ where_there (slice_get registers (get_or numbers index 0)) (given_out (drop (index + 1) numbers) (drop (index + 1) (set values index Empty)) (set registers (get_or numbers index 0) value))
next_of numbers values registers index value low had =
    ap (λ rest. given_out rest (drop index values) registers) (drop-cons numbers index 0 low ∙ ap (λ next. get_or numbers index 0 ∷ drop next numbers) (sym (add-one index)))
    ∙ ap (λ rest. given_out (get_or numbers index 0 ∷ drop (index + 1) numbers) rest registers) (sym (left_of values index value had))

pub given_more : (numbers : List ℕ) (values registers left : List Value) (index : ℕ) (value : Value) → index < length numbers → slice_get values index ≡ Some value → given_out (get_or numbers index 0 ∷ []) (value ∷ []) registers ≡ Ok left → given_out (drop index numbers) (drop index values) registers ≡ given_out (drop (index + 1) numbers) (drop (index + 1) (set values index Empty)) left
given_more numbers values registers left index value low had put =
    next_of numbers values registers index value low had
    ∙ goes_on (slice_get registers (get_or numbers index 0)) (set registers (get_or numbers index 0) value) left (λ there. given_out (drop (index + 1) numbers) (drop (index + 1) (set values index Empty)) there) put

-- values in the registers that they were moved out of, the first one put last
abbrev pub restored : List ℕ → List Value → List Value → List Value
restored [] values registers = registers
restored (number ∷ numbers) [] registers = registers
restored (number ∷ numbers) (value ∷ values) registers = set (restored numbers values registers) number value

-- the last number and the last value go first
pub restored_last : (numbers : List ℕ) (values : List Value) (number : ℕ) (value : Value) (registers : List Value) → length values ≡ length numbers → restored (numbers ++ number ∷ []) (values ++ value ∷ []) registers ≡ restored numbers values (set registers number value)
restored_last [] [] number value registers same = refl
restored_last [] (other ∷ values) number value registers same = cc
restored_last (other ∷ numbers) [] number value registers same = cc
restored_last (one ∷ numbers) (other ∷ values) number value registers same =
    ap (λ rest. set rest one other) (restored_last numbers values number value registers (omega (arith, same)))

-- one more value is put back
pub restored_more : (numbers : List ℕ) (values more registers : List Value) (index : ℕ) (value : Value) → more ≡ values ++ value ∷ [] → index ≡ length values → index < length numbers → restored (take (length more) numbers) more registers ≡ restored (take index numbers) values (set registers (get_or numbers index 0) value)
restored_more numbers values more registers index value grown count low =
    let longer : length more ≡ index + 1 = ap length grown ∙ omega (arith, length-append values (value ∷ []), count) in
    let kept : length (take index numbers) ≡ index = omega (arith, length-take-le index numbers (omega arith)) in
    ap (λ most. restored (take most numbers) more registers) longer
    ∙ ap (λ front. restored front more registers) (take_at_read numbers index 0 low).1
    ∙ ap (λ (all : List Value). restored (take index numbers ++ get_or numbers index 0 ∷ []) all registers) grown
    ∙ restored_last (take index numbers) values (get_or numbers index 0) value registers (omega (arith, count, kept))

abbrev values_in : List Value → Parts → List Value
values_in other (Err why) = other
values_in other (Ok parts) = parts.0

abbrev left_in : List Value → Parts → List Value
left_in other (Err why) = other
left_in other (Ok parts) = parts.1

-- a value that is held is what stands there
is_there : (had : Option Value) (value : Value) → held had ≡ Ok value → had ≡ Some value
is_there None value is = cc
is_there (Some (v.Int number)) value is = cc
is_there (Some (v.Bool truth)) value is = cc
is_there (Some v.Nil) value is = cc
is_there (Some (v.Txt text)) value is = cc
is_there (Some (v.Own id)) value is = cc
is_there (Some (v.Bor id)) value is = cc
is_there (Some (v.Proc process)) value is = cc
is_there (Some (v.Future future)) value is = cc
is_there (Some (v.Promise future)) value is = cc
is_there (Some v.Empty) value is = cc

-- a value that is put back where it was taken leaves the registers as they were
pub put_again : (registers : List Value) (number : ℕ) (value : Value) → held (slice_get registers number) ≡ Ok value → set (set registers number Empty) number value ≡ registers
put_again registers number value is =
    let found : get_or registers number Empty ≡ value = get_or_from_slice_get registers number value Empty (is_there _ value is) in
    set-set registers number Empty value ∙ ap (set registers number) (sym found) ∙ set-get_or registers number Empty

-- the first value is put back behind the others
first_undone : (number : ℕ) (numbers : List ℕ) (values left before : List Value) (had : Result Value Wrong) (rest : Parts) → held (slice_get before number) ≡ had → ((others : List Value) → rest ≡ Ok (others, left) → restored numbers others left ≡ set before number Empty) → with_first had rest ≡ Ok (values, left) → restored (number ∷ numbers) values left ≡ before
first_undone number numbers values left before (Err why) rest is others parts = cc
first_undone number numbers values left before (Ok value) (Err why) is others parts = cc
first_undone number numbers values left before (Ok value) (Ok (found, kept)) is others parts =
    let same : value ∷ found ≡ values = ap (values_in []) parts in
    let end : kept ≡ left = ap (left_in []) parts in
    let rest : Ok (found, kept) ≡ Ok (found, left) = ap (λ (end : List Value). Ok (found, end)) end in
    ap (λ (all : List Value). restored (number ∷ numbers) all left) (sym same)
    ∙ ap (λ (put : List Value). set put number value) (others found rest)
    ∙ put_again before number value is

-- values that are put back leave the registers as they were before these were moved out
pub moved_undone : (numbers : List ℕ) (before values left : List Value) → moved numbers before ≡ Ok (values, left) → restored numbers values left ≡ before
moved_undone [] before values left parts = sym (ap (left_in before) parts)
moved_undone (number ∷ numbers) before values left parts =
    first_undone number numbers values left before (held (slice_get before number)) (moved numbers (set before number Empty)) refl
    (λ others rest. moved_undone numbers (set before number Empty) others left rest) parts

-- a value that is given back to its register leaves the frames as they were
pub given_back : (number : ℕ) (value : Value) (before : List Frame) → held (register before number) ≡ Ok value → with_register number value (with_register number Empty before) ≡ before
unfolding register with_register
given_back number value [] had = cc
given_back number value (frame ∷ outer) had = ap (λ (put : List Value). record frame { registers = put } ∷ outer) (put_again frame.registers number value had)

-- one more value is moved behind the others
pub behind_more : (room more values left : List Value) (index : ℕ) (value : Value) → more ≡ room ++ value ∷ [] → left ≡ set values index Empty → slice_get values index ≡ Some value → more ++ drop (index + 1) left ≡ room ++ drop index values
behind_more room more values left index value grown put had =
    ap (λ (all : List Value). all ++ drop (index + 1) left) grown
    ∙ append_assoc room (value ∷ []) (drop (index + 1) left)
    ∙ ap (λ (kept : List Value). room ++ value ∷ drop (index + 1) kept) put
    ∙ ap (λ (rest : List Value). room ++ rest) (left_of values index value had)
