-- What a code names, and that it is there.
use Rattle.std.specs.Prelude.{◌≡◌, ◌<◌, ◌⊎◌, ℕ, List, All, length}
use Rattle.ink_code.specs.declared.code.Code.{Code}
use Rattle.ink_code.specs.declared.code.Impl.{Impl}
use Rattle.ink_code.specs.declared.instr.Instr.{Instr}
use Rattle.ink_code.specs.declared.instr.Instr.TheVariants as i
use Rattle.ink_code.specs.declared.method.Method.{Method}
use Rattle.ink_ranges.specs.declared.sizes.Sizes.{Sizes}

-- each is below a bound
abbrev pub AreBelow : ℕ → List ℕ → Type 0
AreBelow bound = All (λ n. n < bound)

-- a row that is there and is no action: those from 43 on are actions, but for the last, which makes a Stdout
abbrev pub IsPlainRow : ℕ → Type 0
IsPlainRow row = (row < 43) ⊎ (row ≡ 47)

-- an instruction that acts names nothing beyond these sizes; no other is one
abbrev pub IsActionWithin : Sizes → Instr → Type 0
IsActionWithin s (i.Panic text) = text < s.registers
IsActionWithin s (i.Spawn to kind fields) = (to < s.registers) × (kind < s.kinds) × AreBelow s.registers fields
IsActionWithin s (i.Send process method arguments) = (process < s.registers) × (method < s.methods) × AreBelow s.registers arguments
IsActionWithin s (i.Print text) = text < s.registers
IsActionWithin s (i.FutureNew future promise) = (future < s.registers) × (promise < s.registers)
IsActionWithin s (i.FutureGet to future) = (to < s.registers) × (future < s.registers)
IsActionWithin s (i.PromiseSet promise from) = (promise < s.registers) × (from < s.registers)
IsActionWithin s other = ⊥

-- nor does one that calls, returns or computes
abbrev pub IsCallWithin : Sizes → Instr → Type 0
IsCallWithin s (i.Invoke to method arguments) = (to < s.registers) × (method < s.methods) × AreBelow s.registers arguments
IsCallWithin s (i.InvokeBound to slot arguments) = (to < s.registers) × AreBelow s.registers arguments
IsCallWithin s (i.Return from) = from < s.registers
IsCallWithin s (i.Prim row to operands) = IsPlainRow row × (to < s.registers) × AreBelow s.registers operands
IsCallWithin s other = IsActionWithin s other

-- nor one that makes, reads or writes an object
abbrev pub IsObjectWithin : Sizes → Instr → Type 0
IsObjectWithin s (i.Make to kind tag fields) = (to < s.registers) × (kind < s.kinds) × AreBelow s.registers fields
IsObjectWithin s (i.MakeArray to items) = (to < s.registers) × AreBelow s.registers items
IsObjectWithin s (i.Load to object field) = (to < s.registers) × (object < s.registers)
IsObjectWithin s (i.LoadBorrow to object field) = (to < s.registers) × (object < s.registers)
IsObjectWithin s (i.Store to object field from) = (to < s.registers) × (object < s.registers) × (from < s.registers)
IsObjectWithin s (i.Tag to object) = (to < s.registers) × (object < s.registers)
IsObjectWithin s (i.TakeApart to object) = AreBelow s.registers to × (object < s.registers)
IsObjectWithin s other = IsCallWithin s other

-- nor any other
abbrev pub IsInstrWithin : Sizes → Instr → Type 0
IsInstrWithin s (i.Const to constant) = (to < s.registers) × (constant < s.constants)
IsInstrWithin s (i.Move to from) = (to < s.registers) × (from < s.registers)
IsInstrWithin s (i.Copy to from) = (to < s.registers) × (from < s.registers)
IsInstrWithin s (i.Borrow to from) = (to < s.registers) × (from < s.registers)
IsInstrWithin s (i.Exchange one other) = (one < s.registers) × (other < s.registers)
IsInstrWithin s (i.MyProc to) = to < s.registers
IsInstrWithin s (i.Drop from) = from < s.registers
IsInstrWithin s (i.DropMaybe from) = from < s.registers
IsInstrWithin s (i.Jump place) = place < s.places
IsInstrWithin s (i.JumpIf on place) = (on < s.registers) × (place < s.places)
IsInstrWithin s other = IsObjectWithin s other

-- how much a method of a code can name
abbrev pub sizes_of : Code → Method → Sizes
sizes_of code method = record {
  registers = method.registers;
  places = length method.body;
  methods = length code.methods;
  constants = length code.constants;
  kinds = length code.kinds;
}

-- each instruction has its line, and names what is there
abbrev pub IsMethodWithin : Code → Method → Type 0
IsMethodWithin code method = (length method.lines ≡ length method.body) × All (IsInstrWithin (sizes_of code method)) method.body

abbrev pub IsImplWithin : Code → Impl → Type 0
IsImplWithin code one = (one.kind < length code.kinds) × (one.method < length code.methods)

-- all that a code names is there
abbrev pub IsWithin : Code → Type 0
IsWithin code = All (IsMethodWithin code) code.methods × All (IsImplWithin code) code.impls
    × (code.main_kind < length code.kinds) × (code.main < length code.methods)

-- no test at run time of whether a variable is there
abbrev pub IsNoTest : Instr → Type 0
IsNoTest (i.DropMaybe from) = ⊥
IsNoTest other = Unit {0}

abbrev pub HasNoTests : Method → Type 0
HasNoTests method = All IsNoTest method.body
