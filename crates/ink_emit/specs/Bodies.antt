-- The code of a method as it grows.
use Rattle.std.specs.Prelude.{◌≡◌, ◌+◌, ◌-◌, ℕ, Bool, true, false, not, List, [], Option, Some, None, map, filter, reverse, length, slice_get, slice_set}
use Rattle.ink_code.specs.declared.instr.Instr.{Instr}
use Rattle.ink_code.specs.declared.instr.Instr.TheVariants as i
use Rattle.ink_emit.specs.declared.held.Held.{Held}
use Rattle.ink_emit.specs.declared.held.Holding.{Holding}
use Rattle.ink_emit.specs.declared.held.Holding.TheVariants as holding

-- the greatest number of instructions
abbrev pub most : ℕ
most = 0x80000000

abbrev pub taken_away : Holding → Bool
taken_away holding.Operand = true
taken_away holding.Temporary = false

-- an instruction takes the value away
abbrev pub is_operand : Held → Bool
is_operand one = taken_away one.holding

abbrev pub is_temporary : Held → Bool
is_temporary one = not (taken_away one.holding)

abbrev pub register_of : Held → ℕ
register_of one = one.register

-- the registers of operands, in order
abbrev pub operands : List Held → List ℕ
operands held = map register_of (filter is_operand held)

abbrev pub temporaries : List Held → List Held
temporaries held = filter is_temporary held

abbrev pub dropped : ℕ → Instr
dropped register = i.Drop register

-- what drops some, the newest first
abbrev pub drops : List Held → List Instr
drops held = map dropped (reverse (map register_of held))

-- one more than the newest, and the first above the variables where there is none
abbrev pub above : ℕ → Option Held → ℕ
above variables None = variables
above variables (Some newest) = newest.register + 1

-- the first register above all that are held
abbrev pub free : ℕ → List Held → ℕ
free variables held = above variables (slice_get held (length held - 1))

-- a jump to another place; any other instruction stays
abbrev pub led : Instr → ℕ → Instr
led (i.Jump place) to = i.Jump to
led (i.JumpIf on place) to = i.JumpIf on to
led other to = other

abbrev pub led_in : List Instr → ℕ → Option Instr → ℕ → List Instr
led_in code place None to = code
led_in code place (Some instr) to = slice_set code place (led instr to)

-- the jump at a place leads to another place
abbrev pub led_at : List Instr → ℕ → ℕ → List Instr
led_at code place to = led_in code place (slice_get code place) to
