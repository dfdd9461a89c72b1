-- What the operands of a row are.
use Rattle.std.specs.Prelude.{◌≡◌, ℕ, ℤ, Ok, List}
use Rattle.ink_base.specs.declared.value.Value.{Value}
use Rattle.ink_code.specs.Moves.{text_of}
use Rattle.ink_code.specs.Rows.{pair, int_of}

-- the operands are two Ints, which have these numbers
pub record AreInts (values : List Value) (a b : ℤ) : Type 0 where
  pub one : Value
  pub other : Value
  pub two : pair values ≡ Ok (one, other)
  pub first : int_of one ≡ Ok a
  pub second : int_of other ≡ Ok b

-- the operands are two texts, which have these bytes
pub record AreTexts (values : List Value) (a b : List ℕ) : Type 0 where
  pub one : Value
  pub other : Value
  pub two : pair values ≡ Ok (one, other)
  pub first : text_of one ≡ Ok a
  pub second : text_of other ≡ Ok b
