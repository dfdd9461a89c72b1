-- Which instruction stands where.
use Rattle.std.specs.Prelude.{ℕ, Option, None, Some, slice_get}
use Rattle.ink_code.specs.declared.code.Code.{Code}
use Rattle.ink_code.specs.declared.method.Method.{Method}
use Rattle.ink_code.specs.declared.instr.Instr.{Instr}

-- the instruction at a place of a method, where there is such a method
abbrev pub in_body : Option Method → ℕ → Option Instr
in_body None place = None
in_body (Some method) place = slice_get method.body place

-- the instruction at a place of the method of a number
abbrev pub fetch : Code → ℕ → ℕ → Option Instr
fetch code method place = in_body (slice_get code.methods method) place
