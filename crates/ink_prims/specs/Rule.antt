-- The rule that each row of the table keeps: which slots go with which receiver, and what makes a new object.
use Rattle.std.specs.Prelude.{◌&&◌, ◌||◌, not, nat_le, nat_lt, Bool, true, false, List, [], ◌∷◌, length}
use Rattle.std.specs.List.{list_all, list_any}
use Rattle.std.specs.Str.{bytes_eq}
use Rattle.ink_base.specs.declared.row.Kind.{Kind}
use Rattle.ink_base.specs.declared.row.Kind.TheVariants as kind
use Rattle.ink_base.specs.declared.row.Slot.{Slot}
use Rattle.ink_base.specs.declared.row.Slot.TheVariants as slot
use Rattle.ink_base.specs.Rows.{Row}
use Rattle.ink_prims.specs.Row.{is_same_kind}

abbrev pub is_int : Slot → Bool
is_int slot.Int = true
is_int other = false

abbrev pub is_truth : Slot → Bool
is_truth slot.Bool = true
is_truth other = false

abbrev pub is_text : Slot → Bool
is_text slot.Str = true
is_text other = false

abbrev pub is_item : Slot → Bool
is_item slot.Item = true
is_item other = false

-- whether a row of that receiver may have such an operand
abbrev pub goes_into : Kind → Slot → Bool
goes_into kind.Int given = is_int given
goes_into kind.Bool given = is_truth given
goes_into kind.Str given = is_text given || is_int given
goes_into kind.Array given = is_int given || is_item given
goes_into kind.Option given = false
goes_into kind.Future given = false
goes_into kind.Promise given = is_item given
goes_into kind.Stdout given = is_text given

-- whether a slot is an Option that a row makes
abbrev pub is_made : Slot → Bool
is_made slot.OptInt = true
is_made slot.OptStr = true
is_made slot.OptItem = true
is_made slot.OptRef = true
is_made slot.OptMut = true
is_made other = false

-- whether a slot is an Option of a borrow
abbrev pub is_lent : Slot → Bool
is_lent slot.OptRef = true
is_lent slot.OptMut = true
is_lent other = false

abbrev pub same : Bool → Bool → Bool
same true other = other
same false other = not other

-- whether a row has a name that isn't empty, at most two operands, all of slots that its receiver takes, and a result
-- that is fresh exactly where it is an Option that the row makes, and borrows exactly where that is of a borrow
abbrev pub keeps_rule : Row → Bool
keeps_rule row =
    nat_lt 0 (length row.name) && nat_le (length row.operands) 2
    && list_all (goes_into row.receiver) row.operands && same row.fresh (is_made row.result) && same row.borrows (is_lent row.result)

-- whether two rows are one method: of one type, and of one name
abbrev pub is_same_method : Row → Row → Bool
is_same_method one other = bytes_eq one.name other.name && is_same_kind one.receiver other.receiver

-- whether no method stands twice
abbrev pub are_apart : List Row → Bool
are_apart [] = true
are_apart (row ∷ rest) = not (list_any (is_same_method row) rest) && are_apart rest
