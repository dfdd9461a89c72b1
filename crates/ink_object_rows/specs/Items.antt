-- What rows change of the items of an array.
use Rattle.std.specs.Prelude.{ℤ, ◌-◌, Option, List, length, take, slice_get}
use Rattle.std.specs.Option.{option_map}
use Rattle.ink_base.specs.declared.ident.ObjectId.{ObjectId}
use Rattle.ink_base.specs.declared.value.Value.{Value}
use Rattle.ink_base.specs.Objects.{Objects, changed_object, counted_down}
use Rattle.ink_code.specs.ArrayRows.{item_at}
use Rattle.ink_code.specs.Objects.{lent, with_fields}
use Rattle.ink_code.specs.Rows.{place_in}

-- the last item
abbrev pub last_item : List Value → Option Value
last_item items = slice_get items (length items - 1)

-- the items but for the last
abbrev pub other_items : List Value → List Value
other_items items = take (length items - 1) items

-- a borrow of the item that an index names
abbrev pub lent_item : ℤ → List Value → Option Value
lent_item index items = option_map lent (item_at items (place_in index (length items)))

-- the objects after a borrow of an array ended, and the array has these items
unfoldable pub after_row : Objects → ObjectId → List Value → Objects
after_row objects id items = changed_object (changed_object objects id counted_down) id (with_fields items)
