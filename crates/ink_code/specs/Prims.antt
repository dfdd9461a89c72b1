-- The instruction that does a row of the built-in methods. The rows of futures, promises and of a print are actions,
-- and have instructions of their own.
use Rattle.std.specs.Prelude.{ℕ, nat_lt, if◌then◌else◌, Ok, List}
use Rattle.ink_base.specs.declared.value.Value.{Value}
use Rattle.ink_code.specs.declared.code.Code.{Code}
use Rattle.ink_code.specs.ArrayRows.{array_rows}
use Rattle.ink_code.specs.BoolRows.{bool_rows}
use Rattle.ink_code.specs.IntRows.{int_rows}
use Rattle.ink_code.specs.Machine.{Outcome, after, panics, settles, has, put}
use Rattle.ink_code.specs.OptionRows.{option_rows}
use Rattle.ink_code.specs.Process.{Process, taken_out}
use Rattle.ink_code.specs.RowNumbers as rows
use Rattle.ink_code.specs.Rows.{Computed, Gives, Raises, Computation, RowOutcome}
use Rattle.ink_code.specs.TextRows.{text_rows}

-- a row that only computes leaves the process as it is
abbrev pub leaves : Process → Computation → RowOutcome
leaves p computation = after computation (λ computed. Ok (computed, p))

-- the rows that only compute: those of Int, Bool and String
unfoldable pub value_rows : List ℕ → ℕ → List Value → Computation
value_rows limits row values =
    if nat_lt row rows.first_of_bool then int_rows row values
    else (if nat_lt row rows.first_of_string then bool_rows row values
    else text_rows limits row values)

-- a row on values, which were moved to it
unfoldable pub row_step : Code → List ℕ → ℕ → List Value → Process → RowOutcome
row_step code limits row values p =
    if nat_lt row rows.first_of_array then leaves p (value_rows limits row values)
    else (if nat_lt row rows.first_of_option then array_rows limits row values p
    else option_rows code limits row values p)

-- what the row came to, from a process and after its operands were moved: a value goes to a register, and a panic leaves
-- the process as it was
abbrev pub tells : ℕ → ℕ → Process → Computed × Process → Outcome
tells next to p (Gives value, q) = settles next q.pending (put to value q)
tells next to p (Raises text, q) = panics text p

-- a row is done, to which registers are moved
unfoldable pub prim_step : Code → List ℕ → ℕ → ℕ → ℕ → List ℕ → Process → Outcome
prim_step code limits next row to operands p =
    has to p (after (taken_out operands p.frames) (λ parts.
    after (row_step code limits row parts.0 (record p { frames = parts.1 })) (λ told. tells next to p told)))
