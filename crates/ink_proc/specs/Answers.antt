-- What the answers of a process say of it before and after the call.
use Rattle.std.specs.Prelude.{◌≡◌, ◌<◌, ℕ, Some, None, Result, Ok, Err, List, ◌∷◌, ◌++◌, drop}
use Rattle.std.specs.FinMap.{get, remove}
use Rattle.ink_base.specs.declared.ident.ObjectId.{ObjectId}
use Rattle.ink_base.specs.declared.object.Object.{Object}
use Rattle.ink_base.specs.declared.value.Value.{Value}
use Rattle.ink_base.specs.declared.value.Value.TheVariants.{Empty}
use Rattle.ink_base.specs.Objects.{Objects}
use Rattle.ink_code.specs.declared.frame.Frame.{Frame}
use Rattle.ink_code.specs.declared.wrong.Wrong.{Wrong}
use Rattle.ink_code.specs.Process.{held, register, with_register, entered}
use Rattle.ink_proc.specs.declared.fault.EnterFault.{EnterFault}
use Rattle.ink_proc.specs.declared.fault.EnterFault.TheVariants as enter
use Rattle.ink_proc.specs.declared.fault.WaitFault.{WaitFault}
use Rattle.ink_proc.specs.declared.fault.WaitFault.TheVariants as wait
use Rattle.ink_proc.specs.declared.fault.TakeApartFault.{TakeApartFault}
use Rattle.ink_proc.specs.declared.fault.TakeApartFault.TheVariants as apart

-- the values that were moved out, and what is left
abbrev pub IsMoved : {A : Type 0} → Result (List Value) Wrong → A → Result (List Value × A) Wrong → Type 0
IsMoved (Ok values) left parts = parts ≡ Ok (values, left)
IsMoved (Err why) left parts = parts ≡ Err why

-- what values were moved into
abbrev pub IsPutAnswer : {A : Type 0} → Result (Unit {0}) Wrong → A → Result A Wrong → Type 0
IsPutAnswer (Ok _) new put = put ≡ Ok new
IsPutAnswer (Err why) new put = put ≡ Err why

-- a new frame with the values that were moved out of the others; without memory all is as before
abbrev pub IsEnterAnswer : Result (Unit {0}) EnterFault → List Frame → List Frame → ℕ → ℕ → Result (List Value × List Frame) Wrong → Type 0
IsEnterAnswer (Ok _) old new method registers parts =
    (moved : List Value × List Frame) × (parts ≡ Ok moved) × (new ≡ entered method registers moved.0 moved.1)
IsEnterAnswer (Err (enter.Wrong why)) old new method registers parts = parts ≡ Err why
IsEnterAnswer (Err enter.OutOfMemory) old new method registers parts = new ≡ old

-- the value of a register waits in front of the others, and the register is empty; else all is as before
abbrev pub IsWaitAnswer : Result (Unit {0}) WaitFault → List Frame → List Frame → List Value → List Value → ℕ → Type 0
IsWaitAnswer (Ok _) frames left old new number =
    (value : Value) × (held (register frames number) ≡ Ok value) × (left ≡ with_register number Empty frames) × (new ≡ value ∷ old)
IsWaitAnswer (Err (wait.Wrong why)) frames left old new number =
    (held (register frames number) ≡ Err why) × (left ≡ frames) × (new ≡ old)
IsWaitAnswer (Err wait.OutOfMemory) frames left old new number = (left ≡ frames) × (new ≡ old)

-- the object goes, and its fields wait in the place of the first; else all is as before
abbrev pub IsTakeApartAnswer : Result (Unit {0}) TakeApartFault → Objects → Objects → List Value → List Value → ObjectId → Type 0
IsTakeApartAnswer (Ok _) objects left old new id =
    (object : Object) × (get objects id ≡ Some object) × (object.count ≡ 0) × (left ≡ remove objects id) × (new ≡ object.fields ++ drop 1 old)
IsTakeApartAnswer (Err apart.Absent) objects left old new id = (get objects id ≡ None) × (left ≡ objects) × (new ≡ old)
IsTakeApartAnswer (Err (apart.Borrowed count)) objects left old new id =
    (object : Object) × (get objects id ≡ Some object) × (0 < count) × (object.count ≡ count) × (left ≡ objects) × (new ≡ old)
IsTakeApartAnswer (Err apart.OutOfMemory) objects left old new id = (left ≡ objects) × (new ≡ old)
