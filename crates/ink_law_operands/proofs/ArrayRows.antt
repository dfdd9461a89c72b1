-- The rows of Array take all operands that the table lets in.
use Rattle.std.proofs.Common.{◌≡◌, ℕ, ℤ, ◌+◌, Bool, true, false, Option, None, Some, Result, Ok, Err, List, [], ◌∷◌, refl, sym, ap, subst, ◌∙◌, arith}
use Rattle.std.proofs.lemmas.Bool.{le-ltb}
use Rattle.std.specs.Prelude.{◌==◌, ◌-◌, if◌then◌else◌, pos, negsuc, length, slice_get, drop, take}
use Rattle.ink_base.specs.declared.ident.ObjectId.{ObjectId}
use Rattle.ink_base.specs.declared.limits.Limit.TheVariants as limit
use Rattle.ink_base.specs.declared.object.Object.{Object}
use Rattle.ink_base.specs.declared.row.Slot.TheVariants as slot
use Rattle.ink_base.specs.declared.value.Value.{Value}
use Rattle.ink_base.specs.declared.value.Value.TheVariants as v
use Rattle.ink_base.specs.Actions.{reached}
use Rattle.ink_base.specs.Objects.{Objects}
use Rattle.ink_base.specs.Rows.{rows}
use Rattle.ink_code.specs.declared.wrong.Wrong.{Wrong}
use Rattle.ink_code.specs.ArrayRows.{item_at, at_item, array_rows, size_row, empty_row, push_row, pop_row, get_row, set_row, swap_row, clear_row}
use Rattle.ink_code.specs.Kinds.{array_kind}
use Rattle.ink_code.specs.Machine.{after, when, with_objects}
use Rattle.ink_code.specs.Objects.{object_at, after_borrow}
use Rattle.ink_code.specs.Prims.{row_step}
use Rattle.ink_code.specs.Process.{Process}
use Rattle.ink_code.specs.RowNumbers as number
use Rattle.ink_code.specs.Rows.{RowOutcome, gives, unless_fails, unless_row_full, gives_option, gives_lent, place_in, receives, no_operand, single, pair, int_of}
use Rattle.ink_code.specs.Trees.{is_under}
use Rattle.ink_law_operands.proofs.Each.{Each, each-row}
use Rattle.ink_law_operands.proofs.ObjectRows.{Further, at_receiver, pushes, pops, lends, sets, swaps, clears}
use Rattle.ink_law_operands.specs.Judged.{ArrayRowsTake, TakesOperands}
use Rattle.ink_law_operands.specs.Taken.{wrong_in, of_slots, taken}

accepted : (further : Further) (id : ObjectId) (operands : List Value) (p : Process) (object : Object) (objects : Objects) → object_at p.objects id ≡ Ok object → (object.kind == array_kind) ≡ true → after_borrow id p.objects ≡ Ok objects → wrong_in (further id object operands (with_objects objects p)) ≡ None → wrong_in (receives array_kind (v.Bor id ∷ operands) p further) ≡ None
accepted further id operands p object objects is_there is_of_kind is_lent told =
    ap wrong_in (at_receiver array_kind further id operands p object objects is_there is_of_kind is_lent) ∙ told

none : (operands : List Value) (further : RowOutcome) → wrong_in (taken [] operands) ≡ None → wrong_in further ≡ None → wrong_in (no_operand operands further) ≡ None
none [] further told fine = fine
none (x ∷ others) further told fine = absurd (cc)

an_item : (operands : List Value) (further : Value → RowOutcome) → wrong_in (taken (slot.Item ∷ []) operands) ≡ None → ((value : Value) → wrong_in (further value) ≡ None) → wrong_in (after (single operands) further) ≡ None
unfolding after
an_item [] further told fine = absurd (cc)
an_item (x ∷ []) further told fine = fine x
an_item (x ∷ y ∷ others) further told fine = absurd (cc)

at_int : {A : Type 0} (r : Result A Wrong) (further : A → RowOutcome) (x : Value) → wrong_in (after (after r (λ a. Ok x)) (λ one. of_slots [] [])) ≡ None → ((a : A) → wrong_in (further a) ≡ None) → wrong_in (after r further) ≡ None
unfolding after
at_int (Err other) further x told fine = absurd (cc)
at_int (Ok a) further x told fine = fine a

an_int : (operands : List Value) (further : Value → ℤ → RowOutcome) → wrong_in (taken (slot.Int ∷ []) operands) ≡ None → ((value : Value) (index : ℤ) → wrong_in (further value index) ≡ None) → wrong_in (after (single operands) (λ value. after (int_of value) (further value))) ≡ None
unfolding after
an_int [] further told fine = absurd (cc)
an_int (x ∷ []) further told fine = at_int (int_of x) _ x told (fine x)
an_int (x ∷ y ∷ others) further told fine = absurd (cc)

int_and_item : (operands : List Value) (further : Value × Value → ℤ → RowOutcome) → wrong_in (taken (slot.Int ∷ slot.Item ∷ []) operands) ≡ None → ((both : Value × Value) (index : ℤ) → wrong_in (further both index) ≡ None) → wrong_in (after (pair operands) (λ both. after (int_of both.0) (further both))) ≡ None
unfolding after
int_and_item [] further told fine = absurd (cc)
int_and_item (x ∷ []) further told fine = absurd (cc)
int_and_item (x ∷ y ∷ []) further told fine = at_int (int_of x) _ x told (fine (x, y))
int_and_item (x ∷ y ∷ z ∷ others) further told fine = absurd (cc)

unless : (told : Option (List ℕ)) (q : Process) (further : RowOutcome) → wrong_in further ≡ None → wrong_in (unless_fails told q further) ≡ None
unfolding unless_fails
unless None q further fine = fine
unless (Some text) q further fine = refl

unless_row : (limits : List ℕ) (q : Process) (further : RowOutcome) → wrong_in further ≡ None → wrong_in (unless_row_full limits q further) ≡ None
unless_row limits q further fine = unless _ q further fine

when_either : (test : Bool) (one other : RowOutcome) → wrong_in one ≡ None → wrong_in other ≡ None → wrong_in (when test one other) ≡ None
unfolding when
when_either true one other first second = first
when_either false one other first second = second

option_given : (item : Option Value) (q : Process) → wrong_in (gives_option item q) ≡ None
option_given None q = refl
option_given (Some value) q = refl

no_item : (items : List Value) (place : Option ℕ) → items ≡ [] → item_at items place ≡ None
no_item items None empty = refl
no_item items (Some place) empty = subst (λ (items : List Value). slice_get items place ≡ None) (sym empty) refl

nothing_lent : (limits : List ℕ) (items : List Value) (place : Option ℕ) (q : Process) → items ≡ [] → wrong_in (unless_row_full limits q (gives_lent (item_at items place) q)) ≡ None
nothing_lent limits items place q empty =
    unless_row limits q (gives_lent (item_at items place) q) (ap (λ item. wrong_in (gives_lent item q)) (no_item items place empty))

no_place : (index : ℤ) → place_in index 0 ≡ None
no_place (pos place) = ap (λ test. if test then Some place else None) (le-ltb place 0 (omega arith))
no_place (negsuc below) = refl

at_none : (index : ℤ) (items : List Value) (q : Process) (further : ℕ → Value → RowOutcome) → items ≡ [] → wrong_in (at_item index items q (place_in index (length items)) further) ≡ None
at_none index items q further empty =
    subst (λ (items : List Value). wrong_in (at_item index items q (place_in index (length items)) further) ≡ None) (sym empty)
    (ap (λ place. wrong_in (at_item index [] q place further)) (no_place index))

-- each row of Array, in the order of the table
array-rows : Each (drop number.first_of_array (take number.first_of_option rows)) (λ index. TakesOperands (number.first_of_array + index))
unfolding rows row_step array_rows size_row empty_row push_row pop_row get_row set_row swap_row clear_row
array-rows = (
  λ code limits id operands p r empty told. accepted (λ id found operands q. no_operand operands (gives (v.Int (pos (length found.fields))) q)) id operands p r.object r.objects r.is_there r.is_of_kind r.is_lent (none operands _ told refl),
  (
    λ code limits id operands p r empty told. accepted (λ id found operands q. no_operand operands (gives (v.Bool (length found.fields == 0)) q)) id operands p r.object r.objects r.is_there r.is_of_kind r.is_lent (none operands _ told refl),
    (
      λ code limits id operands p r empty told. accepted (λ id found operands q. after (single operands) (pushes limits id found q)) id operands p r.object r.objects r.is_there r.is_of_kind r.is_lent (an_item operands _ told (λ value. unless (reached limit.Array (length r.object.fields) limits) _ _ (when_either (is_under id value (with_objects r.objects p).objects) _ _ refl refl))),
      (
        λ code limits id operands p r empty told. accepted (λ id found operands q. no_operand operands (pops limits id found q)) id operands p r.object r.objects r.is_there r.is_of_kind r.is_lent (none operands _ told (unless_row limits _ _ (option_given (slice_get r.object.fields (length r.object.fields - 1)) _))),
        (
          λ code limits id operands p r empty told. accepted (λ id found operands q. after (single operands) (λ value. after (int_of value) (lends limits found q))) id operands p r.object r.objects r.is_there r.is_of_kind r.is_lent (an_int operands _ told (λ value index. nothing_lent limits r.object.fields (place_in index (length r.object.fields)) _ empty)),
          (
            λ code limits id operands p r empty told. accepted (λ id found operands q. after (single operands) (λ value. after (int_of value) (lends limits found q))) id operands p r.object r.objects r.is_there r.is_of_kind r.is_lent (an_int operands _ told (λ value index. nothing_lent limits r.object.fields (place_in index (length r.object.fields)) _ empty)),
            (
              λ code limits id operands p r empty told. accepted (λ id found operands q. after (pair operands) (λ both. after (int_of both.0) (sets id found q both))) id operands p r.object r.objects r.is_there r.is_of_kind r.is_lent (int_and_item operands _ told (λ both index. at_none index r.object.fields _ _ empty)),
              (
                λ code limits id operands p r empty told. accepted (λ id found operands q. after (pair operands) (λ both. after (int_of both.0) (swaps id found q both))) id operands p r.object r.objects r.is_there r.is_of_kind r.is_lent (int_and_item operands _ told (λ both index. at_none index r.object.fields _ _ empty)),
                (
                  λ code limits id operands p r empty told. accepted (λ id found operands q. no_operand operands (clears id found q)) id operands p r.object r.objects r.is_there r.is_of_kind r.is_lent (none operands _ told refl),
                  tt,
                ),
              ),
            ),
          ),
        ),
      ),
    ),
  ),
)

pub array-rows-take : ArrayRowsTake
array-rows-take index row there = each-row _ _ array-rows index row there
