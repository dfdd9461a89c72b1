-- The receiver of a row: a borrow, which ends with the row.
use Rattle.std.specs.Prelude.{◌≡◌, ℕ, ◌==◌, true, Some, Result, Ok, Err, List, [], ◌∷◌}
use Rattle.std.specs.FinMap.{get}
use Rattle.ink_base.specs.declared.ident.ObjectId.{ObjectId}
use Rattle.ink_base.specs.declared.object.Object.{Object}
use Rattle.ink_base.specs.declared.value.Value.{Value}
use Rattle.ink_base.specs.declared.value.Value.TheVariants.{Bor}
use Rattle.ink_base.specs.Objects.{Objects, changed_object, counted_down, is_counted}
use Rattle.ink_code.specs.declared.wrong.Wrong.{Wrong}
use Rattle.ink_code.specs.declared.wrong.Wrong.TheVariants as wrong
use Rattle.ink_code.specs.Machine.{needs, after}
use Rattle.ink_code.specs.Objects.{object_at, after_borrow}
use Rattle.ink_code.specs.Rows.{borrowed_by, no_operand}

-- the object that a receiver borrows and its name, the operands behind it, and the objects after the borrow ended
pub record Received : Type 0 where
  pub id : ObjectId
  pub found : Object
  pub operands : List Value
  pub left : Objects

-- what the receiver among the values of a row stands for, which is a borrow of an object of that type
unfoldable pub received : ℕ → List Value → Objects → Result Received Wrong
received kind [] objects = Err wrong.Absent
received kind (receiver ∷ operands) objects =
    after (borrowed_by receiver) (λ id. after (object_at objects id) (λ found. needs (found.kind == kind) wrong.Kind
    (after (after_borrow id objects) (λ left. Ok (record { id = id; found = found; operands = operands; left = left })))))

-- the same, where there is no other operand
unfoldable pub received_alone : ℕ → List Value → Objects → Result Received Wrong
received_alone kind values objects = after (received kind values objects) (λ one. no_operand one.operands (Ok one))

-- the values are a borrow of that object, which is there with a count, and the operands
pub record Receives (answer : Result Received Wrong) (id : ObjectId) (operands values : List Value) (objects : Objects) : Type 0 where
  pub found : Object
  pub stands : answer ≡ Ok (record { id = id; found = found; operands = operands; left = changed_object objects id counted_down })
  pub behind : values ≡ Bor id ∷ operands
  pub there : get objects id ≡ Some found
  pub counted : is_counted (get objects id) ≡ true
