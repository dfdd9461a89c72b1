-- A code process as plain data, and its registers.
use Rattle.std.specs.Prelude.{ℕ, ◌+◌, ◌-◌, Option, None, Some, Result, Ok, Err, List, [], ◌∷◌, ◌++◌, length, replicate, slice_get, slice_set}
use Rattle.std.specs.List.{swap}
use Rattle.ink_base.specs.declared.ident.ObjectId.{ObjectId}
use Rattle.ink_base.specs.declared.value.Value.{Value}
use Rattle.ink_base.specs.declared.value.Value.TheVariants.{Empty}
use Rattle.ink_code.specs.declared.frame.Frame.{Frame}
use Rattle.ink_code.specs.declared.wrong.Wrong.{Wrong}
use Rattle.ink_code.specs.declared.wrong.Wrong.TheVariants as wrong
use Rattle.ink_base.specs.Objects.{Objects}

-- a process: its number, its type, how many objects it made, its frames with the innermost in front, its objects, the
-- values that wait to be dropped with the next in front, and how many steps it made since its last action
pub record Process : Type 0 where
  pub number : ℕ
  pub kind : ℕ
  pub made : ℕ
  pub frames : List Frame
  pub objects : Objects
  pub pending : List Value
  pub ran : ℕ

-- the name of the object that a process makes next
abbrev pub next_id : Process → ObjectId
next_id p = record { process = p.number; serial = p.made + 1 }

-- the name of the state of a process of that number: it is the first object that the process makes
abbrev pub state_name : ℕ → ObjectId
state_name number = record { process = number; serial = 1 }

abbrev pub state_id : Process → ObjectId
state_id p = state_name p.number

-- a process of a type that made its state alone, and waits for its first message
abbrev pub started : ℕ → ℕ → Objects → Process
started number kind objects =
    record { number = number; kind = kind; made = 1; frames = []; objects = objects; pending = []; ran = 0 }

-- a value that is there
abbrev pub held : Option Value → Result Value Wrong
held None = Err wrong.Absent
held (Some Empty) = Err wrong.Empty
held (Some value) = Ok value

-- what a register of the innermost frame holds
unfoldable pub register : List Frame → ℕ → Option Value
register [] number = None
register (frame ∷ outer) number = slice_get frame.registers number

-- the frames with a register set, where it is there
unfoldable pub with_register : ℕ → Value → List Frame → List Frame
with_register number value [] = []
with_register number value (frame ∷ outer) = record frame { registers = slice_set frame.registers number value } ∷ outer

-- the frames with two registers in each other's place
unfoldable pub with_swapped : ℕ → ℕ → List Frame → List Frame
with_swapped one other [] = []
with_swapped one other (frame ∷ outer) = record frame { registers = swap frame.registers one other } ∷ outer

-- the frames, of which the innermost goes on at a place
unfoldable pub at_place : ℕ → List Frame → List Frame
at_place place [] = []
at_place place (frame ∷ outer) = record frame { place = place } ∷ outer

abbrev pub with_first : Result Value Wrong → Result (List Value × List Value) Wrong → Result (List Value × List Value) Wrong
with_first (Err why) rest = Err why
with_first (Ok value) (Err why) = Err why
with_first (Ok value) (Ok rest) = Ok (value ∷ rest.0, rest.1)

-- the values of registers, each of which is there at its turn, and the registers without them
abbrev pub moved : List ℕ → List Value → Result (List Value × List Value) Wrong
moved [] registers = Ok ([], registers)
moved (number ∷ numbers) registers =
    with_first (held (slice_get registers number)) (moved numbers (slice_set registers number Empty))

abbrev pub in_frame : Frame → List Frame → Result (List Value × List Value) Wrong → Result (List Value × List Frame) Wrong
in_frame frame outer (Err why) = Err why
in_frame frame outer (Ok parts) = Ok (parts.0, record frame { registers = parts.1 } ∷ outer)

-- the values of registers of the innermost frame, and the frames without them
unfoldable pub taken_out : List ℕ → List Frame → Result (List Value × List Frame) Wrong
taken_out numbers [] = Err wrong.Absent
taken_out numbers (frame ∷ outer) = in_frame frame outer (moved numbers frame.registers)

abbrev pub where_there : {A : Type 0} → Option Value → Result A Wrong → Result A Wrong
where_there None rest = Err wrong.Absent
where_there (Some had) rest = rest

-- the registers after values went to so many of them, one after another, each of which has to be there
abbrev pub given_out : List ℕ → List Value → List Value → Result (List Value) Wrong
given_out [] [] registers = Ok registers
given_out [] (value ∷ values) registers = Err wrong.Absent
given_out (number ∷ numbers) [] registers = Err wrong.Absent
given_out (number ∷ numbers) (value ∷ values) registers =
    where_there (slice_get registers number) (given_out numbers values (slice_set registers number value))

abbrev pub with_registers : Frame → List Frame → Result (List Value) Wrong → Result (List Frame) Wrong
with_registers frame outer (Err why) = Err why
with_registers frame outer (Ok registers) = Ok (record frame { registers = registers } ∷ outer)

-- the frames after values went to registers of the innermost one
unfoldable pub put_out : List ℕ → List Value → List Frame → Result (List Frame) Wrong
put_out numbers values [] = Err wrong.Absent
put_out numbers values (frame ∷ outer) = with_registers frame outer (given_out numbers values frame.registers)

-- values, and behind them empty places up to so many
abbrev pub padded : ℕ → List Value → List Value
padded most values = values ++ replicate (most - length values) Empty

-- the frames with a new one, which has so many registers, and these values in the first of them
abbrev pub entered : ℕ → ℕ → List Value → List Frame → List Frame
entered method registers values frames =
    (record { method = method; place = 0; registers = padded registers values }) ∷ frames
