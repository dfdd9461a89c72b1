-- What a row of the built-in methods comes to, and the forms in which rows are written.
use Rattle.std.specs.Prelude.{ℕ, ℤ, pos, negsuc, ◌==◌, ◌-◌, ◌^◌, ◌&&◌, int_le, nat_lt, if◌then◌else◌, Bool, Option, None, Some, Result, Ok, Err, List, [], ◌∷◌}
use Rattle.std.specs.FinMap.{len}
use Rattle.ink_base.specs.declared.ident.ObjectId.{ObjectId}
use Rattle.ink_base.specs.declared.value.Value.{Value}
use Rattle.ink_base.specs.declared.value.Value.TheVariants as v
use Rattle.ink_base.specs.Panics.{overflow_text}
use Rattle.ink_base.specs.declared.object.Object.{Object}
use Rattle.ink_code.specs.declared.wrong.Wrong.{Wrong}
use Rattle.ink_code.specs.declared.wrong.Wrong.TheVariants as wrong
use Rattle.ink_code.specs.Full.{full_text}
use Rattle.ink_code.specs.Kinds.{option_kind, some_tag, none_tag}
use Rattle.ink_code.specs.Machine.{needs, after, with_objects}
use Rattle.ink_code.specs.Makes.{with_made}
use Rattle.ink_code.specs.Objects.{lent, object_at, after_copy, after_borrow}
use Rattle.ink_code.specs.Process.{Process, next_id}

-- what a row comes to: a value, or a panic with a text
pub data Computed : Type 0 where
  Gives : (value : Value) → Computed
  Raises : (text : List ℕ) → Computed

-- of a row that only computes, what it comes to, or in which way it is wrong
abbrev pub Computation : Type 0
Computation = Result Computed Wrong

-- of a row that works on objects, that with the process after it, which a panic leaves out of account
abbrev pub RowOutcome : Type 0
RowOutcome = Result (Computed × Process) Wrong

abbrev pub computes : Value → Computation
computes value = Ok (Gives value)

abbrev pub raises : List ℕ → Computation
raises text = Ok (Raises text)

abbrev pub gives : Value → Process → RowOutcome
gives value p = Ok (Gives value, p)

abbrev pub fails : List ℕ → Process → RowOutcome
fails text p = Ok (Raises text, p)

-- a panic where there is a text for one
unfoldable pub unless_fails : Option (List ℕ) → Process → RowOutcome → RowOutcome
unless_fails None p further = further
unless_fails (Some text) p further = fails text p

-- the operands of a row, of which there have to be so many
abbrev pub no_operand : {B : Type 0} → List Value → Result B Wrong → Result B Wrong
no_operand [] further = further
no_operand (value ∷ others) further = Err wrong.Absent

abbrev pub single : List Value → Result Value Wrong
single [] = Err wrong.Absent
single (value ∷ []) = Ok value
single (value ∷ other ∷ others) = Err wrong.Absent

abbrev pub pair : List Value → Result (Value × Value) Wrong
pair [] = Err wrong.Absent
pair (one ∷ []) = Err wrong.Absent
pair (one ∷ other ∷ []) = Ok (one, other)
pair (one ∷ other ∷ another ∷ others) = Err wrong.Absent

abbrev pub int_of : Value → Result ℤ Wrong
int_of (v.Int number) = Ok number
int_of value = Err wrong.Kind

-- whether a number is an Int
abbrev pub is_int : ℤ → Bool
is_int number = int_le (negsuc (2 ^ 63 - 1)) number && int_le number (pos (2 ^ 63 - 1))

-- a number as an Int, or a panic where it isn't one
abbrev pub int_or_overflow : ℤ → Computation
int_or_overflow number = if is_int number then computes (v.Int number) else raises overflow_text

-- the place that an index names among so many, where it is one of them
abbrev pub place_in : ℤ → ℕ → Option ℕ
place_in (pos place) size = if nat_lt place size then Some place else None
place_in (negsuc below) size = None

abbrev pub borrowed_by : Value → Result ObjectId Wrong
borrowed_by (v.Bor id) = Ok id
borrowed_by value = Err wrong.Kind

-- the receiver of a row that reads or changes it is a borrow of an object of that type, which ends with the row
abbrev pub receives : ℕ → List Value → Process → (ObjectId → Object → List Value → Process → RowOutcome) → RowOutcome
receives kind [] p further = Err wrong.Absent
receives kind (receiver ∷ operands) p further =
    after (borrowed_by receiver) (λ id. after (object_at p.objects id) (λ found. needs (found.kind == kind) wrong.Kind
    (after (after_borrow id p.objects) (λ objects. further id found operands (with_objects objects p)))))

-- the limits of a row that makes an object: first those that live, then those that the process ever made
abbrev pub unless_row_full : List ℕ → Process → RowOutcome → RowOutcome
unless_row_full limits p further = unless_fails (full_text limits (len p.objects) p.made) p further

-- a new object is given
abbrev pub gives_made : ℕ → ℕ → List Value → Process → RowOutcome
gives_made kind tag fields p = gives (v.Own (next_id p)) (with_made kind tag fields p)

-- a new Option of that value is given, or one of none
abbrev pub gives_option : Option Value → Process → RowOutcome
gives_option None p = gives_made option_kind none_tag [] p
gives_option (Some value) p = gives_made option_kind some_tag (value ∷ []) p

-- a new Option of a borrow of that value is given, or one of none
abbrev pub gives_lent : Option Value → Process → RowOutcome
gives_lent None p = gives_option None p
gives_lent (Some value) p = after (after_copy (lent value) p.objects) (λ objects. gives_option (Some (lent value)) (with_objects objects p))
