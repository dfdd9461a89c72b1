-- The rows that work on objects are wrong where the table says so of their operands.
use Rattle.std.proofs.Common.{◌≡◌, ℕ, ℤ, ◌+◌, true, Some, Result, Ok, Err, List, [], ◌∷◌, ap, ◌∙◌}
use Rattle.std.specs.Prelude.{◌==◌, ◌-◌, ◌++◌, pos, not, length, slice_get, drop, take}
use Rattle.ink_base.specs.declared.ident.ObjectId.{ObjectId}
use Rattle.ink_base.specs.declared.object.Object.{Object}
use Rattle.ink_base.specs.declared.row.Slot.TheVariants as slot
use Rattle.ink_base.specs.declared.value.Value.{Value}
use Rattle.ink_base.specs.declared.value.Value.TheVariants as v
use Rattle.ink_base.specs.declared.limits.Limit.TheVariants as limit
use Rattle.ink_base.specs.Actions.{reached}
use Rattle.ink_base.specs.Objects.{Objects}
use Rattle.ink_base.specs.Rows.{rows}
use Rattle.ink_code.specs.declared.wrong.Wrong.{Wrong}
use Rattle.ink_code.specs.declared.wrong.Wrong.TheVariants as wrong
use Rattle.ink_code.specs.ArrayRows.{unless_cycle, with_items, with_item, item_at, at_item, array_rows, size_row, empty_row, push_row, pop_row, get_row, set_row, swap_row, clear_row}
use Rattle.ink_code.specs.Kinds.{array_kind, option_kind}
use Rattle.ink_code.specs.Machine.{after, needs, with_objects}
use Rattle.ink_code.specs.Objects.{object_at, after_borrow}
use Rattle.ink_code.specs.OptionRows.{has_value, lends_value, option_rows, some_row, none_row, value_row, as_ref_row}
use Rattle.ink_code.specs.Prims.{row_step}
use Rattle.ink_code.specs.Process.{Process}
use Rattle.ink_code.specs.RowNumbers as number
use Rattle.ink_code.specs.Rows.{RowOutcome, gives, unless_fails, unless_row_full, gives_option, gives_lent, place_in, receives, no_operand, single, pair, int_of}
use Rattle.ink_law_operands.proofs.Each.{Each, each-row}
use Rattle.ink_law_operands.specs.Judged.{ObjectRowsJudge, JudgesOperands}
use Rattle.ink_law_operands.specs.Taken.{wrong_in, of_slots, taken}

abbrev pub Further : Type 0
Further = ObjectId → Object → List Value → Process → RowOutcome

met : {A B : Type 0} (r : Result A Wrong) (a : A) (further : A → Result B Wrong) → r ≡ Ok a → after r further ≡ further a
unfolding after
met r a further is = ap (λ r. after r further) is

-- a row with its receiver is what comes behind it
pub at_receiver : (kind : ℕ) (further : Further) (id : ObjectId) (operands : List Value) (p : Process) (object : Object) (objects : Objects) → object_at p.objects id ≡ Ok object → (object.kind == kind) ≡ true → after_borrow id p.objects ≡ Ok objects → receives kind (v.Bor id ∷ operands) p further ≡ further id object operands (with_objects objects p)
unfolding after needs
at_receiver kind further id operands p object objects is_there is_of_kind is_lent =
    met (object_at p.objects id) object _ is_there
    ∙ ap (λ test. needs test wrong.Kind (after (after_borrow id p.objects) (λ objects. further id object operands (with_objects objects p)))) is_of_kind
    ∙ met (after_borrow id p.objects) objects _ is_lent

-- what becomes of operands behind a receiver is what becomes of the row
refused : (kind : ℕ) (further : Further) (id : ObjectId) (operands : List Value) (p : Process) (why : Wrong) (object : Object) (objects : Objects) → object_at p.objects id ≡ Ok object → (object.kind == kind) ≡ true → after_borrow id p.objects ≡ Ok objects → wrong_in (further id object operands (with_objects objects p)) ≡ Some why → wrong_in (receives kind (v.Bor id ∷ operands) p further) ≡ Some why
refused kind further id operands p why object objects is_there is_of_kind is_lent told =
    ap wrong_in (at_receiver kind further id operands p object objects is_there is_of_kind is_lent) ∙ told

none : (operands : List Value) (further : RowOutcome) (why : Wrong) → wrong_in (taken [] operands) ≡ Some why → wrong_in (no_operand operands further) ≡ Some why
none [] further why told = absurd (cc)
none (x ∷ others) further why told = told

an_item : (operands : List Value) (further : Value → RowOutcome) (why : Wrong) → wrong_in (taken (slot.Item ∷ []) operands) ≡ Some why → wrong_in (after (single operands) further) ≡ Some why
unfolding after
an_item [] further why told = told
an_item (x ∷ []) further why told = absurd (cc)
an_item (x ∷ y ∷ others) further why told = told

at_int : {A : Type 0} (r : Result A Wrong) (further : A → RowOutcome) (x : Value) (why : Wrong) → wrong_in (after (after r (λ a. Ok x)) (λ one. of_slots [] [])) ≡ Some why → wrong_in (after r further) ≡ Some why
unfolding after
at_int (Err other) further x why told = told
at_int (Ok a) further x why told = absurd (cc)

an_int : (operands : List Value) (further : Value → ℤ → RowOutcome) (why : Wrong) → wrong_in (taken (slot.Int ∷ []) operands) ≡ Some why → wrong_in (after (single operands) (λ value. after (int_of value) (further value))) ≡ Some why
unfolding after
an_int [] further why told = told
an_int (x ∷ []) further why told = at_int (int_of x) _ x why told
an_int (x ∷ y ∷ others) further why told = told

int_and_item : (operands : List Value) (further : Value × Value → ℤ → RowOutcome) (why : Wrong) → wrong_in (taken (slot.Int ∷ slot.Item ∷ []) operands) ≡ Some why → wrong_in (after (pair operands) (λ both. after (int_of both.0) (further both))) ≡ Some why
unfolding after
int_and_item [] further why told = told
int_and_item (x ∷ []) further why told = told
int_and_item (x ∷ y ∷ []) further why told = at_int (int_of x) _ x why told
int_and_item (x ∷ y ∷ z ∷ others) further why told = told

-- a row that takes its receiver has nothing beside it
alone : (id : ObjectId) (operands : List Value) (further : Value → RowOutcome) (why : Wrong) → wrong_in (taken [] operands) ≡ Some why → wrong_in (after (single (v.Own id ∷ operands)) further) ≡ Some why
unfolding after
alone id [] further why told = absurd (cc)
alone id (x ∷ others) further why told = told

-- what the rows do behind their operands
abbrev pub pushes : List ℕ → ObjectId → Object → Process → Value → RowOutcome
pushes limits id found q value =
    unless_fails (reached limit.Array (length found.fields) limits) q (unless_cycle id value q (gives v.Nil (with_items id (found.fields ++ value ∷ []) q)))

abbrev pub pops : List ℕ → ObjectId → Object → Process → RowOutcome
pops limits id found q =
    unless_row_full limits q (let last = length found.fields - 1 in gives_option (slice_get found.fields last) (with_items id (take last found.fields) q))

abbrev pub lends : List ℕ → Object → Process → ℤ → RowOutcome
lends limits found q index = unless_row_full limits q (gives_lent (item_at found.fields (place_in index (length found.fields))) q)

abbrev pub sets : ObjectId → Object → Process → Value × Value → ℤ → RowOutcome
sets id found q both index =
    at_item index found.fields q (place_in index (length found.fields)) (λ place old. unless_cycle id both.1 q
    (let written = with_item id place both.1 q in gives v.Nil (record written { pending = old ∷ q.pending })))

abbrev pub swaps : ObjectId → Object → Process → Value × Value → ℤ → RowOutcome
swaps id found q both index =
    at_item index found.fields q (place_in index (length found.fields)) (λ place old. unless_cycle id both.1 q (gives old (with_item id place both.1 q)))

abbrev pub clears : ObjectId → Object → Process → RowOutcome
clears id found q = let emptied = with_items id [] q in gives v.Nil (record emptied { pending = found.fields ++ q.pending })

abbrev lends_option : List ℕ → Object → Process → RowOutcome
lends_option limits found q = unless_row_full limits q (lends_value (has_value found) (slice_get found.fields 0) q)

-- each row of Array, and each of Option, in the order of the table
object-rows : Each (drop number.first_of_array (take (number.option_as_mut + 1) rows)) (λ index. JudgesOperands (number.first_of_array + index))
unfolding rows row_step array_rows option_rows size_row empty_row push_row pop_row get_row set_row swap_row clear_row some_row none_row value_row as_ref_row
object-rows = (
  λ code limits id operands p why r told. refused array_kind (λ id found operands q. no_operand operands (gives (v.Int (pos (length found.fields))) q)) id operands p why r.object r.objects r.is_there r.is_of_kind r.is_lent (none operands _ why told),
  (
    λ code limits id operands p why r told. refused array_kind (λ id found operands q. no_operand operands (gives (v.Bool (length found.fields == 0)) q)) id operands p why r.object r.objects r.is_there r.is_of_kind r.is_lent (none operands _ why told),
    (
      λ code limits id operands p why r told. refused array_kind (λ id found operands q. after (single operands) (pushes limits id found q)) id operands p why r.object r.objects r.is_there r.is_of_kind r.is_lent (an_item operands _ why told),
      (
        λ code limits id operands p why r told. refused array_kind (λ id found operands q. no_operand operands (pops limits id found q)) id operands p why r.object r.objects r.is_there r.is_of_kind r.is_lent (none operands _ why told),
        (
          λ code limits id operands p why r told. refused array_kind (λ id found operands q. after (single operands) (λ value. after (int_of value) (lends limits found q))) id operands p why r.object r.objects r.is_there r.is_of_kind r.is_lent (an_int operands _ why told),
          (
            λ code limits id operands p why r told. refused array_kind (λ id found operands q. after (single operands) (λ value. after (int_of value) (lends limits found q))) id operands p why r.object r.objects r.is_there r.is_of_kind r.is_lent (an_int operands _ why told),
            (
              λ code limits id operands p why r told. refused array_kind (λ id found operands q. after (pair operands) (λ both. after (int_of both.0) (sets id found q both))) id operands p why r.object r.objects r.is_there r.is_of_kind r.is_lent (int_and_item operands _ why told),
              (
                λ code limits id operands p why r told. refused array_kind (λ id found operands q. after (pair operands) (λ both. after (int_of both.0) (swaps id found q both))) id operands p why r.object r.objects r.is_there r.is_of_kind r.is_lent (int_and_item operands _ why told),
                (
                  λ code limits id operands p why r told. refused array_kind (λ id found operands q. no_operand operands (clears id found q)) id operands p why r.object r.objects r.is_there r.is_of_kind r.is_lent (none operands _ why told),
                  (
                    λ code limits id operands p why r told. refused option_kind (λ id found operands q. no_operand operands (gives (v.Bool (has_value found)) q)) id operands p why r.object r.objects r.is_there r.is_of_kind r.is_lent (none operands _ why told),
                    (
                      λ code limits id operands p why r told. refused option_kind (λ id found operands q. no_operand operands (gives (v.Bool (not (has_value found))) q)) id operands p why r.object r.objects r.is_there r.is_of_kind r.is_lent (none operands _ why told),
                      (
                        λ code limits id operands p why r told. alone id operands _ why told,
                        (
                          λ code limits id operands p why r told. refused option_kind (λ id found operands q. no_operand operands (lends_option limits found q)) id operands p why r.object r.objects r.is_there r.is_of_kind r.is_lent (none operands _ why told),
                          (
                            λ code limits id operands p why r told. refused option_kind (λ id found operands q. no_operand operands (lends_option limits found q)) id operands p why r.object r.objects r.is_there r.is_of_kind r.is_lent (none operands _ why told),
                            tt,
                          ),
                        ),
                      ),
                    ),
                  ),
                ),
              ),
            ),
          ),
        ),
      ),
    ),
  ),
)

pub object-rows-judge : ObjectRowsJudge
object-rows-judge index row there = each-row _ _ object-rows index row there
