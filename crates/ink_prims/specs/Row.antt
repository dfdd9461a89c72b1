-- A row as the table keeps it.
use Rattle.std.specs.Prelude.{ℕ, ◌&&◌, Bool, true, false, Option, None, Some, List, [], ◌∷◌}
use Rattle.std.specs.Str.{bytes_eq}
use Rattle.ink_base.specs.declared.row.Kind.{Kind}
use Rattle.ink_base.specs.declared.row.Kind.TheVariants as kind
use Rattle.ink_base.specs.declared.row.Mode.{Mode}
use Rattle.ink_base.specs.declared.row.Slot.{Slot}
use Rattle.ink_base.specs.Rows.{Row as KnownRow}
use Rattle.ink_prims.specs.declared.row.Row.{Row}

-- what a contract sees of a row
pub record RowView : Type 0 where
  pub name : List ℕ
  pub receiver : Kind
  pub mode : Mode
  pub operands : List (Option Slot)
  pub result : Slot
  pub fresh : Bool
  pub borrows : Bool

abbrev pub view_of : Row → RowView
view_of row = record {
  name = row.name.now;
  receiver = row.receiver;
  mode = row.mode;
  operands = row.operands;
  result = row.result;
  fresh = row.fresh;
  borrows = row.borrows;
}

-- whether two types are one
abbrev pub is_same_kind : Kind → Kind → Bool
is_same_kind kind.Int kind.Int = true
is_same_kind kind.Bool kind.Bool = true
is_same_kind kind.Str kind.Str = true
is_same_kind kind.Array kind.Array = true
is_same_kind kind.Option kind.Option = true
is_same_kind kind.Future kind.Future = true
is_same_kind kind.Promise kind.Promise = true
is_same_kind kind.Stdout kind.Stdout = true
is_same_kind one other = false

-- whether a row is that type's method of that name
unfoldable pub is_row_of : List ℕ → Kind → RowView → Bool
is_row_of name kind row = bytes_eq row.name name && is_same_kind row.receiver kind

-- the operands of a row as they are kept, of which there are two at most
abbrev pub operands_of : List Slot → List (Option Slot)
operands_of [] = None ∷ None ∷ []
operands_of (first ∷ []) = Some first ∷ None ∷ []
operands_of (first ∷ second ∷ others) = Some first ∷ Some second ∷ []

-- a row of the definitions as it is kept
unfoldable pub row_of : KnownRow → RowView
row_of row =
    record {
      name = row.name;
      receiver = row.receiver;
      mode = row.mode;
      operands = operands_of row.operands;
      result = row.result;
      fresh = row.fresh;
      borrows = row.borrows;
    }
