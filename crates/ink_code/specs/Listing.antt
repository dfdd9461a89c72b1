-- The listing of a code.
use Rattle.std.specs.Prelude.{ℕ, ◌+◌, List, [], ◌∷◌, ◌++◌, codes}
use Rattle.std.specs.List.{flat_map}
use Rattle.std.specs.Fmt.{decimal}
use Rattle.ink_code.specs.declared.code.Code.{Code}
use Rattle.ink_code.specs.declared.method.Method.{Method}
use Rattle.ink_code.specs.declared.instr.Instr.{Instr}
use Rattle.ink_code.specs.declared.instr.Instr.TheVariants as i

-- the name of an instruction
unfoldable pub name_of : Instr → List ℕ
name_of (i.Const to constant) = codes "Const"
name_of (i.Move to from) = codes "Move"
name_of (i.Copy to from) = codes "Copy"
name_of (i.Borrow to from) = codes "Borrow"
name_of (i.Exchange one other) = codes "Exchange"
name_of (i.MyProc to) = codes "MyProc"
name_of (i.Make to kind tag fields) = codes "Make"
name_of (i.MakeArray to items) = codes "MakeArray"
name_of (i.Load to object field) = codes "Load"
name_of (i.LoadBorrow to object field) = codes "LoadBorrow"
name_of (i.Store to object field from) = codes "Store"
name_of (i.Tag to object) = codes "Tag"
name_of (i.TakeApart to object) = codes "TakeApart"
name_of (i.Drop from) = codes "Drop"
name_of (i.DropMaybe from) = codes "DropMaybe"
name_of (i.Jump place) = codes "Jump"
name_of (i.JumpIf on place) = codes "JumpIf"
name_of (i.Invoke to method arguments) = codes "Invoke"
name_of (i.InvokeBound to slot arguments) = codes "InvokeBound"
name_of (i.Return from) = codes "Return"
name_of (i.Prim row to operands) = codes "Prim"
name_of (i.Panic text) = codes "Panic"
name_of (i.Spawn to kind fields) = codes "Spawn"
name_of (i.Send process method arguments) = codes "Send"
name_of (i.Print text) = codes "Print"
name_of (i.FutureNew future promise) = codes "FutureNew"
name_of (i.FutureGet to future) = codes "FutureGet"
name_of (i.PromiseSet promise from) = codes "PromiseSet"

-- the operands of an instruction, in the order in which it is written
unfoldable pub operands_of : Instr → List ℕ
operands_of (i.Const to constant) = to ∷ constant ∷ []
operands_of (i.Move to from) = to ∷ from ∷ []
operands_of (i.Copy to from) = to ∷ from ∷ []
operands_of (i.Borrow to from) = to ∷ from ∷ []
operands_of (i.Exchange one other) = one ∷ other ∷ []
operands_of (i.MyProc to) = to ∷ []
operands_of (i.Make to kind tag fields) = to ∷ kind ∷ tag ∷ fields
operands_of (i.MakeArray to items) = to ∷ items
operands_of (i.Load to object field) = to ∷ object ∷ field ∷ []
operands_of (i.LoadBorrow to object field) = to ∷ object ∷ field ∷ []
operands_of (i.Store to object field from) = to ∷ object ∷ field ∷ from ∷ []
operands_of (i.Tag to object) = to ∷ object ∷ []
operands_of (i.TakeApart to object) = to ++ object ∷ []
operands_of (i.Drop from) = from ∷ []
operands_of (i.DropMaybe from) = from ∷ []
operands_of (i.Jump place) = place ∷ []
operands_of (i.JumpIf on place) = on ∷ place ∷ []
operands_of (i.Invoke to method arguments) = to ∷ method ∷ arguments
operands_of (i.InvokeBound to slot arguments) = to ∷ slot ∷ arguments
operands_of (i.Return from) = from ∷ []
operands_of (i.Prim row to operands) = row ∷ to ∷ operands
operands_of (i.Panic text) = text ∷ []
operands_of (i.Spawn to kind fields) = to ∷ kind ∷ fields
operands_of (i.Send process method arguments) = process ∷ method ∷ arguments
operands_of (i.Print text) = text ∷ []
operands_of (i.FutureNew future promise) = future ∷ promise ∷ []
operands_of (i.FutureGet to future) = to ∷ future ∷ []
operands_of (i.PromiseSet promise from) = promise ∷ from ∷ []

-- a number behind a space
unfoldable pub number_text : ℕ → List ℕ
number_text number = codes " " ++ decimal number

-- numbers, each behind a space
unfoldable pub numbers_text : List ℕ → List ℕ
numbers_text numbers = flat_map number_text numbers

-- the line of an instruction: two spaces, its place, its name and its operands
unfoldable pub instr_text : ℕ → Instr → List ℕ
instr_text place instr =
    codes "  " ++ decimal place ++ codes " " ++ name_of instr ++ numbers_text (operands_of instr) ++ codes "\n"

-- the lines of instructions, of which the first has this place
unfoldable pub body_text : ℕ → List Instr → List ℕ
body_text place [] = []
body_text place (instr ∷ rest) = instr_text place instr ++ body_text (place + 1) rest

-- the line of a method, and those of its instructions
unfoldable pub method_text : Method → List ℕ
method_text method =
    codes "method " ++ method.name ++ codes " registers " ++ decimal method.registers ++ codes "\n" ++ body_text 0 method.body

-- the lines of all methods
unfoldable pub listing_text : Code → List ℕ
listing_text code = flat_map method_text code.methods
