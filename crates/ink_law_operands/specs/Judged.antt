-- The law on the operands of rows.
use Rattle.std.specs.Prelude.{◌≡◌, ℕ, ◌+◌, ◌==◌, true, None, Some, Ok, List, [], ◌∷◌, drop, take}
use Rattle.std.specs.List.{slice_get}
use Rattle.ink_base.specs.declared.ident.ObjectId.{ObjectId}
use Rattle.ink_base.specs.declared.object.Object.{Object}
use Rattle.ink_base.specs.declared.row.Kind.{Kind}
use Rattle.ink_base.specs.declared.row.Kind.TheVariants as kind
use Rattle.ink_base.specs.declared.value.Value.{Value}
use Rattle.ink_base.specs.Objects.{Objects}
use Rattle.ink_base.specs.Rows.{Row, rows}
use Rattle.ink_code.specs.declared.code.Code.{Code}
use Rattle.ink_code.specs.declared.wrong.Wrong.{Wrong}
use Rattle.ink_code.specs.Kinds.{array_kind, option_kind}
use Rattle.ink_code.specs.Objects.{object_at, after_borrow}
use Rattle.ink_code.specs.Prims.{value_rows, row_step}
use Rattle.ink_code.specs.Process.{Process}
use Rattle.ink_code.specs.RowNumbers as number
use Rattle.ink_law_operands.specs.Taken.{wrong_in, taken, slot_of, on_object}

-- the row of that number is wrong exactly where its values aren't those of the table, and in the same way
abbrev pub JudgesValues : ℕ → Row → Type 0
JudgesValues number row =
    (limits : List ℕ) (values : List Value) → wrong_in (value_rows limits number values) ≡ wrong_in (taken (slot_of row.receiver ∷ row.operands) values)

-- that holds of each row of Int, Bool and String
abbrev pub ValueRowsJudge : Type 0
ValueRowsJudge =
    ((index : ℕ) (row : Row) → slice_get (take number.first_of_bool rows) index ≡ Some row → JudgesValues index row)
    × ((index : ℕ) (row : Row) → slice_get (drop number.first_of_bool (take number.first_of_string rows)) index ≡ Some row → JudgesValues (number.first_of_bool + index) row)
    × ((index : ℕ) (row : Row) → slice_get (drop number.first_of_string (take number.first_of_array rows)) index ≡ Some row → JudgesValues (number.first_of_string + index) row)

-- the number of the machine's type of objects
abbrev pub kind_number : Kind → ℕ
kind_number kind.Array = array_kind
kind_number other = option_kind

-- the receiver is an object of the row's type that is there, and has a borrow which can end
pub record IsReceived (row : Row) (id : ObjectId) (p : Process) : Type 0 where
  pub object : Object
  pub objects : Objects
  pub is_there : object_at p.objects id ≡ Ok object
  pub is_of_kind : (object.kind == kind_number row.receiver) ≡ true
  pub is_lent : after_borrow id p.objects ≡ Ok objects

-- the row of that number is wrong where its operands aren't those of the table, and in the same way
abbrev pub JudgesOperands : ℕ → Row → Type 0
JudgesOperands number row =
    (code : Code) (limits : List ℕ) (id : ObjectId) (operands : List Value) (p : Process) (why : Wrong) → IsReceived row id p
    → wrong_in (taken row.operands operands) ≡ Some why
    → wrong_in (row_step code limits number (on_object row.mode id operands) p) ≡ Some why

-- that holds of each row of Array, and of those of Option, which are five
abbrev pub ObjectRowsJudge : Type 0
ObjectRowsJudge =
    (index : ℕ) (row : Row) → slice_get (drop number.first_of_array (take (number.option_as_mut + 1) rows)) index ≡ Some row → JudgesOperands (number.first_of_array + index) row

-- the row of that number isn't wrong where its operands are those of the table, and the object has no fields
abbrev pub TakesOperands : ℕ → Row → Type 0
TakesOperands number row =
    (code : Code) (limits : List ℕ) (id : ObjectId) (operands : List Value) (p : Process) (received : IsReceived row id p)
    → received.object.fields ≡ []
    → wrong_in (taken row.operands operands) ≡ None
    → wrong_in (row_step code limits number (on_object row.mode id operands) p) ≡ None

-- that holds of each row of Array
abbrev pub ArrayRowsTake : Type 0
ArrayRowsTake =
    (index : ℕ) (row : Row) → slice_get (drop number.first_of_array (take number.first_of_option rows)) index ≡ Some row → TakesOperands (number.first_of_array + index) row
