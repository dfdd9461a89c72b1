-- What the first tests of a row that puts an item in an array told.
use Rattle.std.specs.Prelude.{◌≡◌, ℕ, ℤ, Some, Ok, List, length}
use Rattle.std.specs.Option.{option_map}
use Rattle.std.specs.FinMap.{get}
use Rattle.ink_base.specs.declared.ident.ObjectId.{ObjectId}
use Rattle.ink_base.specs.declared.value.Value.{Value}
use Rattle.ink_base.specs.Objects.{Objects}
use Rattle.ink_code.specs.Kinds.{array_kind}
use Rattle.ink_code.specs.Rows.{single, pair, int_of}
use Rattle.ink_object_rows.specs.Receiver.{Receives, received}

-- the values are a borrow of an array, which has so many items, and the item that goes behind them
pub record IsItemGiven (values : List Value) (objects : Objects) (id : ObjectId) (value : Value) (size : ℕ) : Type 0 where
  pub operands : List Value
  pub all : Receives (received array_kind values objects) id operands values objects
  pub lone : single operands ≡ Ok value
  pub sized : option_map (λ object. length object.fields) (get objects id) ≡ Some size

-- the values are a borrow of an array, which has so many items, an index, and the item that goes there
pub record IsPlaceGiven (values : List Value) (objects : Objects) (id : ObjectId) (value : Value) (index : ℤ) (size : ℕ) : Type 0 where
  pub operands : List Value
  pub one : Value
  pub all : Receives (received array_kind values objects) id operands values objects
  pub two : pair operands ≡ Ok (one, value)
  pub number : int_of one ≡ Ok index
  pub sized : option_map (λ object. length object.fields) (get objects id) ≡ Some size
