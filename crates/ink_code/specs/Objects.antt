-- What is read of the objects of a process, and what borrows do to them.
use Rattle.std.specs.Prelude.{ℕ, nat_lt, if◌then◌else◌, Option, None, Some, Result, Ok, Err, List, slice_get}
use Rattle.std.specs.FinMap.{get, insert}
use Rattle.ink_base.specs.declared.ident.ObjectId.{ObjectId}
use Rattle.ink_base.specs.declared.value.Value.{Value}
use Rattle.ink_base.specs.declared.value.Value.TheVariants as v
use Rattle.ink_base.specs.declared.object.Object.{Object}
use Rattle.ink_base.specs.Objects.{Objects, counted_up, counted_down}
use Rattle.ink_code.specs.declared.wrong.Wrong.{Wrong}
use Rattle.ink_code.specs.declared.wrong.Wrong.TheVariants as wrong

-- an object that is there, or the instruction is wrong
abbrev pub there : Option Object → Result Object Wrong
there None = Err wrong.Object
there (Some object) = Ok object

-- the object of that name
unfoldable pub object_at : Objects → ObjectId → Result Object Wrong
object_at objects id = there (get objects id)

abbrev pub placed : Option Value → Result Value Wrong
placed None = Err wrong.Absent
placed (Some value) = Ok value

abbrev pub field_in : Option Object → ℕ → Result Value Wrong
field_in None field = Err wrong.Object
field_in (Some object) field = placed (slice_get object.fields field)

-- what a field of the object of that name holds
unfoldable pub field_at : Objects → ObjectId → ℕ → Result Value Wrong
field_at objects id field = field_in (get objects id) field

-- an object with other fields
abbrev pub with_fields : List Value → Object → Object
with_fields fields object = record object { fields = fields }

-- what a borrow of a value is: an owner gives a borrow, and any other gives itself
abbrev pub lent : Value → Value
lent (v.Own id) = v.Bor id
lent value = value

-- the object that a value owns or borrows
abbrev pub object_of : Value → Result ObjectId Wrong
object_of (v.Own id) = Ok id
object_of (v.Bor id) = Ok id
object_of value = Err wrong.Kind

-- the object that a value owns
abbrev pub owned_by : Value → Result ObjectId Wrong
owned_by (v.Own id) = Ok id
owned_by value = Err wrong.Kind

abbrev pub count_up_if : Option Object → Objects → ObjectId → Result Objects Wrong
count_up_if None objects id = Err wrong.Object
count_up_if (Some object) objects id = Ok (insert objects id (counted_up object))

-- the objects after a copy of a value was made: a borrow is counted, and only a value or a borrow is copied
unfoldable pub after_copy : Value → Objects → Result Objects Wrong
after_copy (v.Int number) objects = Ok objects
after_copy (v.Bool truth) objects = Ok objects
after_copy v.Nil objects = Ok objects
after_copy (v.Txt text) objects = Ok objects
after_copy (v.Own id) objects = Err wrong.Kind
after_copy (v.Bor id) objects = count_up_if (get objects id) objects id
after_copy (v.Proc process) objects = Ok objects
after_copy (v.Future future) objects = Err wrong.Kind
after_copy (v.Promise future) objects = Err wrong.Kind
after_copy v.Empty objects = Err wrong.Empty

abbrev pub count_down_if : Option Object → Objects → ObjectId → Result Objects Wrong
count_down_if None objects id = Err wrong.Object
count_down_if (Some object) objects id =
    if nat_lt 0 object.count then Ok (insert objects id (counted_down object)) else Err wrong.Object

-- the objects after a borrow of that one ended: it has to be counted
unfoldable pub after_borrow : ObjectId → Objects → Result Objects Wrong
after_borrow id objects = count_down_if (get objects id) objects id
