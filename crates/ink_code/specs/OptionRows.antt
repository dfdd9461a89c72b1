-- The rows of Option, and that which makes a Stdout.
use Rattle.std.specs.Prelude.{ℕ, ◌==◌, nat_lt, not, if◌then◌else◌, Bool, Option, None, Some, Err, List, [], slice_get}
use Rattle.std.specs.FinMap.{remove}
use Rattle.ink_base.specs.declared.value.Value.{Value}
use Rattle.ink_base.specs.declared.value.Value.TheVariants as v
use Rattle.ink_base.specs.Panics.{drop_text, no_value_text}
use Rattle.ink_code.specs.declared.code.Code.{Code}
use Rattle.ink_base.specs.declared.object.Object.{Object}
use Rattle.ink_code.specs.declared.wrong.Wrong.TheVariants as wrong
use Rattle.ink_code.specs.Machine.{given, needs, when, after, with_objects}
use Rattle.ink_code.specs.Kinds.{option_kind, stdout_kind, some_tag}
use Rattle.ink_code.specs.Objects.{object_at, owned_by}
use Rattle.ink_code.specs.Process.{Process}
use Rattle.ink_code.specs.RowNumbers as rows
use Rattle.ink_code.specs.Rows.{RowOutcome, gives, fails, no_operand, single, receives, unless_row_full, gives_lent, gives_made}

-- whether an Option has a value
abbrev pub has_value : Object → Bool
has_value found = found.tag == some_tag

unfoldable pub some_row : List Value → Process → RowOutcome
some_row values p =
    receives option_kind values p (λ id found operands q. no_operand operands (gives (v.Bool (has_value found)) q))

unfoldable pub none_row : List Value → Process → RowOutcome
none_row values p =
    receives option_kind values p (λ id found operands q. no_operand operands (gives (v.Bool (not (has_value found))) q))

-- the Option is given up, and its value is given: a panic where a borrow of it is counted, and then where it has none
unfoldable pub value_row : Code → List Value → Process → RowOutcome
value_row code values p =
    after (single values) (λ value. after (owned_by value) (λ id. after (object_at p.objects id) (λ found.
    needs (found.kind == option_kind) wrong.Kind
    (when (nat_lt 0 found.count) (given wrong.Absent (slice_get code.kinds found.kind) (λ name. fails (drop_text name found.count) p))
    (when (not (has_value found)) (fails no_value_text p)
    (given wrong.Absent (slice_get found.fields 0) (λ item. gives item (with_objects (remove p.objects id) p))))))))

abbrev pub lends_value : Bool → Option Value → Process → RowOutcome
lends_value held item p = if held then given wrong.Absent item (λ value. gives_lent (Some value) p) else gives_lent None p

-- a borrow of the value is given in a new Option
unfoldable pub as_ref_row : List ℕ → List Value → Process → RowOutcome
as_ref_row limits values p =
    receives option_kind values p (λ id found operands q. no_operand operands (unless_row_full limits q
    (lends_value (has_value found) (slice_get found.fields 0) q)))

-- a new Stdout is given
unfoldable pub stdout_row : List ℕ → List Value → Process → RowOutcome
stdout_row limits values p = no_operand values (unless_row_full limits p (gives_made stdout_kind 0 [] p))

-- the rows by number
unfoldable pub option_rows : Code → List ℕ → ℕ → List Value → Process → RowOutcome
option_rows code limits row values p =
    if row == rows.option_is_some then some_row values p
    else (if row == rows.option_is_none then none_row values p
    else (if row == rows.option_get then value_row code values p
    else (if row == rows.option_as_ref then as_ref_row limits values p
    else (if row == rows.option_as_mut then as_ref_row limits values p
    else (if row == rows.stdout_new then stdout_row limits values p
    else Err wrong.Absent)))))
