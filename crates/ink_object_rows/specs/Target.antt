-- The place of an array in which a row puts an item, once all tests of the row are made.
use Rattle.std.specs.Prelude.{◌≡◌, ℕ, ℤ, Bool, true, false, Option, None, Some, Result, Ok, Err, List, length, slice_get}
use Rattle.std.specs.FinMap.{get}
use Rattle.ink_base.specs.declared.ident.ObjectId.{ObjectId}
use Rattle.ink_base.specs.declared.object.Object.{Object}
use Rattle.ink_base.specs.declared.value.Value.{Value}
use Rattle.ink_base.specs.Objects.{Objects, changed_object, counted_down, is_counted}
use Rattle.ink_base.specs.Panics.{cycle_text, index_text}
use Rattle.ink_code.specs.declared.wrong.Wrong.{Wrong}
use Rattle.ink_code.specs.declared.wrong.Wrong.TheVariants as wrong
use Rattle.ink_code.specs.Machine.{after, with_objects}
use Rattle.ink_code.specs.Kinds.{array_kind}
use Rattle.ink_code.specs.Process.{Process}
use Rattle.ink_code.specs.Rows.{RowOutcome, fails, pair, int_of, place_in}
use Rattle.ink_code.specs.Trees.{is_under}
use Rattle.ink_object_rows.specs.Receiver.{Received, received}
use Rattle.ink_object_rows.specs.declared.target.Target.{Target}
use Rattle.ink_object_rows.specs.declared.target.Target.TheVariants as target
use Rattle.ink_rows.specs.declared.computed.RowFault.{RowFault}
use Rattle.ink_rows.specs.declared.computed.RowFault.TheVariants as fault

-- the array, the place and the new and the old item of it, and the objects after the receiver's borrow ended
pub record Spot : Type 0 where
  pub id : ObjectId
  pub place : ℕ
  pub value : Value
  pub old : Value
  pub left : Objects

-- what the tests come to: a panic, or a place
pub data Tested : Type 0 where
  Fails : (text : List ℕ) (left : Objects) → Tested
  Goes : (spot : Spot) → Tested

-- the last test: a panic where the array is in the tree of the new item
abbrev pub cycle_tested : Bool → Received → Value → ℕ → Value → Result Tested Wrong
cycle_tested true one value place old = Ok (Fails cycle_text one.left)
cycle_tested false one value place old = Ok (Goes (record { id = one.id; place = place; value = value; old = old; left = one.left }))

-- the test before, where an old item stands in the place
abbrev pub old_tested : Option Value → Received → Value → ℕ → Result Tested Wrong
old_tested None one value place = Err wrong.Absent
old_tested (Some old) one value place = cycle_tested (is_under one.id value one.left) one value place old

-- and that of the index: a panic where it names no place
abbrev pub place_tested : Option ℕ → ℤ → Received → Value → Result Tested Wrong
place_tested None index one value = Ok (Fails (index_text index (length one.found.fields)) one.left)
place_tested (Some place) index one value = old_tested (slice_get one.found.fields place) one value place

-- the tests of a row that puts an item in a place of an array
unfoldable pub tested : List Value → Objects → Result Tested Wrong
tested values objects =
    after (received array_kind values objects) (λ one. after (pair one.operands) (λ both. after (int_of both.0) (λ index.
    place_tested (place_in index (length one.found.fields)) index one both.1)))

-- a panic as told, and else what the row does with the place
abbrev pub on_tested : (Spot → Process → RowOutcome) → Process → Tested → RowOutcome
on_tested further p (Fails text left) = fails text (with_objects left p)
on_tested further p (Goes spot) = further spot (with_objects spot.left p)

-- the tests came to that place of an array that is there
pub record HasSpot (values : List Value) (objects : Objects) (id : ObjectId) (place : ℕ) : Type 0 where
  pub found : Object
  pub value : Value
  pub old : Value
  pub stands : tested values objects ≡ Ok (Goes (record { id = id; place = place; value = value; old = old; left = changed_object objects id counted_down }))
  pub there : get objects id ≡ Some found
  pub counted : is_counted (get objects id) ≡ true
  pub had : slice_get found.fields place ≡ Some old
  pub last : slice_get values 2 ≡ Some value
  pub three : length values ≡ 3

-- the answer is what the tests come to; it can be that there is no memory
abbrev pub IsTarget : Result Target RowFault → List Value → Objects → Type 0
IsTarget (Ok (target.Item id place)) values objects = HasSpot values objects id place
IsTarget (Ok (target.Panic text)) values objects = (left : Objects) × (tested values objects ≡ Ok (Fails text left))
IsTarget (Err (fault.Wrong why)) values objects = tested values objects ≡ Err why
IsTarget (Err fault.OutOfMemory) values objects = Unit {0}
