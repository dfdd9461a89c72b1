-- The table of the built-in methods. The rows are numbered from 0, in this order.
use Rattle.std.specs.Prelude.{ℕ, Bool, true, false, List, [], ◌∷◌, codes}
use Rattle.ink_base.specs.declared.row.Kind.{Kind}
use Rattle.ink_base.specs.declared.row.Kind.TheVariants as kind
use Rattle.ink_base.specs.declared.row.Mode.{Mode}
use Rattle.ink_base.specs.declared.row.Mode.TheVariants.{Read, Mutate, Move, Static}
use Rattle.ink_base.specs.declared.row.Slot.{Slot}
use Rattle.ink_base.specs.declared.row.Slot.TheVariants.{Int, Bool as Truth, Str, Nil, Stdout, Item, Pair, OptItem, OptRef, OptMut}

-- a built-in method: its name, the type that has it and how it takes the receiver, its operands and its result, whether
-- the result is a new object that nothing else names, and whether it may hold a borrow of the receiver
pub record Row : Type 0 where
  pub name : List ℕ
  pub receiver : Kind
  pub mode : Mode
  pub operands : List Slot
  pub result : Slot
  pub fresh : Bool
  pub borrows : Bool

-- a row whose result is neither fresh nor a borrow
abbrev pub plain : Kind → Mode → List ℕ → List Slot → Slot → Row
plain receiver mode name operands result =
    record { name = name; receiver = receiver; mode = mode; operands = operands; result = result; fresh = false; borrows = false }

-- a row that makes an Option, which may hold a borrow of the receiver's parts
abbrev pub fresh_option : Bool → Kind → Mode → List ℕ → List Slot → Slot → Row
fresh_option borrows receiver mode name operands result =
    record { name = name; receiver = receiver; mode = mode; operands = operands; result = result; fresh = true; borrows = borrows }

unfoldable pub rows : List Row
rows =
    plain kind.Int Read (codes "+") (Int ∷ []) Int
    ∷ plain kind.Int Read (codes "-") (Int ∷ []) Int
    ∷ plain kind.Int Read (codes "*") (Int ∷ []) Int
    ∷ plain kind.Int Read (codes "/") (Int ∷ []) Int
    ∷ plain kind.Int Read (codes "%") (Int ∷ []) Int
    ∷ plain kind.Int Read (codes "==") (Int ∷ []) Truth
    ∷ plain kind.Int Read (codes "!=") (Int ∷ []) Truth
    ∷ plain kind.Int Read (codes "<") (Int ∷ []) Truth
    ∷ plain kind.Int Read (codes "<=") (Int ∷ []) Truth
    ∷ plain kind.Int Read (codes ">") (Int ∷ []) Truth
    ∷ plain kind.Int Read (codes ">=") (Int ∷ []) Truth
    ∷ plain kind.Int Read (codes "&") (Int ∷ []) Int
    ∷ plain kind.Int Read (codes "|") (Int ∷ []) Int
    ∷ plain kind.Int Read (codes "^") (Int ∷ []) Int
    ∷ plain kind.Int Read (codes "<<") (Int ∷ []) Int
    ∷ plain kind.Int Read (codes ">>") (Int ∷ []) Int
    ∷ plain kind.Int Read (codes "to_string") [] Str
    ∷ plain kind.Bool Read (codes "==") (Truth ∷ []) Truth
    ∷ plain kind.Bool Read (codes "!=") (Truth ∷ []) Truth
    ∷ plain kind.Bool Read (codes "false?") [] Truth
    ∷ plain kind.Bool Read (codes "to_string") [] Str
    ∷ plain kind.Str Read (codes "+") (Str ∷ []) Str
    ∷ plain kind.Str Read (codes "==") (Str ∷ []) Truth
    ∷ plain kind.Str Read (codes "!=") (Str ∷ []) Truth
    ∷ plain kind.Str Read (codes "size") [] Int
    ∷ plain kind.Str Read (codes "empty?") [] Truth
    ∷ plain kind.Str Read (codes "byte") (Int ∷ []) Int
    ∷ plain kind.Str Read (codes "starts_with?") (Str ∷ []) Truth
    ∷ plain kind.Str Read (codes "to_string") [] Str
    ∷ plain kind.Array Read (codes "size") [] Int
    ∷ plain kind.Array Read (codes "empty?") [] Truth
    ∷ plain kind.Array Mutate (codes "push") (Item ∷ []) Nil
    ∷ fresh_option false kind.Array Mutate (codes "pop") [] OptItem
    ∷ fresh_option true kind.Array Read (codes "get") (Int ∷ []) OptRef
    ∷ fresh_option true kind.Array Mutate (codes "get_mut") (Int ∷ []) OptMut
    ∷ plain kind.Array Mutate (codes "set") (Int ∷ Item ∷ []) Nil
    ∷ plain kind.Array Mutate (codes "swap") (Int ∷ Item ∷ []) Item
    ∷ plain kind.Array Mutate (codes "clear") [] Nil
    ∷ plain kind.Option Read (codes "some?") [] Truth
    ∷ plain kind.Option Read (codes "none?") [] Truth
    ∷ plain kind.Option Move (codes "get") [] Item
    ∷ fresh_option true kind.Option Read (codes "as_ref") [] OptRef
    ∷ fresh_option true kind.Option Mutate (codes "as_mut") [] OptMut
    ∷ plain kind.Future Move (codes "get") [] Item
    ∷ plain kind.Promise Move (codes "set") (Item ∷ []) Nil
    ∷ plain kind.Future Static (codes "new") [] Pair
    ∷ plain kind.Stdout Read (codes "print") (Str ∷ []) Nil
    ∷ plain kind.Stdout Static (codes "new") [] Stdout
    ∷ []
