-- What the rows that put an item in a place come to, once their tests are made.
use Rattle.std.proofs.Common.{◌≡◌, ℕ, ℤ, Bool, true, false, Option, None, Some, Result, Ok, Err, List, ◌∷◌, length, refl, ◌∙◌}
use Rattle.std.specs.List.{slice_get}
use Rattle.ink_base.specs.declared.value.Value.{Value}
use Rattle.ink_base.specs.declared.value.Value.TheVariants as v
use Rattle.ink_base.specs.Panics.{cycle_text}
use Rattle.ink_code.specs.declared.wrong.Wrong.{Wrong}
use Rattle.ink_code.specs.ArrayRows.{set_row, swap_row, at_item, found_item, unless_cycle, with_item}
use Rattle.ink_code.specs.Machine.{after, when, with_objects}
use Rattle.ink_code.specs.Kinds.{array_kind}
use Rattle.ink_code.specs.Process.{Process}
use Rattle.ink_code.specs.Rows.{RowOutcome, gives, fails, pair, int_of, place_in, receives}
use Rattle.ink_code.specs.Trees.{is_under}
use Rattle.ink_object_rows.specs.Receiver.{Received, received}
use Rattle.ink_object_rows.specs.Target.{Spot, cycle_tested, old_tested, place_tested, tested, on_tested}
use Rattle.ink_object_rows.proofs.ReceiverLemmas.{receives-received}

-- what a row does with a place
abbrev pub Doing : Type 0
Doing = Spot → Process → RowOutcome

abbrev spot_of : Received → Value → ℕ → Value → Spot
spot_of one value place old = record { id = one.id; place = place; value = value; old = old; left = one.left }

cycle_alike : (test : Bool) (one : Received) (value : Value) (place : ℕ) (old : Value) (further : Doing) (p : Process) → when test (fails cycle_text (with_objects one.left p)) (further (spot_of one value place old) (with_objects one.left p)) ≡ after (cycle_tested test one value place old) (on_tested further p)
unfolding when after
cycle_alike true one value place old further p = refl
cycle_alike false one value place old further p = refl

old_alike : (old : Option Value) (one : Received) (value : Value) (place : ℕ) (further : Doing) (p : Process) → found_item old place (λ place old. unless_cycle one.id value (with_objects one.left p) (further (spot_of one value place old) (with_objects one.left p))) ≡ after (old_tested old one value place) (on_tested further p)
unfolding after
old_alike None one value place further p = refl
old_alike (Some old) one value place further p = cycle_alike (is_under one.id value one.left) one value place old further p

place_alike : (place : Option ℕ) (index : ℤ) (one : Received) (value : Value) (further : Doing) (p : Process) → at_item index one.found.fields (with_objects one.left p) place (λ place old. unless_cycle one.id value (with_objects one.left p) (further (spot_of one value place old) (with_objects one.left p))) ≡ after (place_tested place index one value) (on_tested further p)
unfolding after
place_alike None index one value further p = refl
place_alike (Some place) index one value further p = old_alike (slice_get one.found.fields place) one value place further p

under : {A B : Type 0} (answer : Result A Wrong) (one : A → RowOutcome) (first : A → Result B Wrong) (second : B → RowOutcome) → ((a : A) → one a ≡ after (first a) second) → after answer one ≡ after (after answer first) second
unfolding after
under (Err why) one first second same = refl
under (Ok a) one first second same = same a

puts : (values : List Value) (p : Process) (further : Doing) → receives array_kind values p (λ id found operands q. after (pair operands) (λ both. after (int_of both.0) (λ index. at_item index found.fields q (place_in index (length found.fields)) (λ place old. unless_cycle id both.1 q (further (record { id = id; place = place; value = both.1; old = old; left = q.objects }) q))))) ≡ after (tested values p.objects) (on_tested further p)
unfolding tested
puts values p further =
    receives-received array_kind values p (λ id found operands q. after (pair operands) (λ both. after (int_of both.0) (λ index. at_item index found.fields q (place_in index (length found.fields)) (λ place old. unless_cycle id both.1 q (further (record { id = id; place = place; value = both.1; old = old; left = q.objects }) q)))))
    ∙ under (received array_kind values p.objects) _ _ (on_tested further p) (λ one. under (pair one.operands) _ _ (on_tested further p) (λ both. under (int_of both.0) _ _ (on_tested further p) (λ index. place_alike (place_in index (length one.found.fields)) index one both.1 further p)))

-- a set: the old item waits to be dropped
abbrev pub setting : Doing
setting spot q = gives v.Nil (record (with_item spot.id spot.place spot.value q) { pending = spot.old ∷ q.pending })

-- a swap: the old item is given
abbrev pub swapping : Doing
swapping spot q = gives spot.old (with_item spot.id spot.place spot.value q)

pub set_row-tested : (values : List Value) (p : Process) → set_row values p ≡ after (tested values p.objects) (on_tested setting p)
unfolding set_row
set_row-tested values p = puts values p setting

pub swap_row-tested : (values : List Value) (p : Process) → swap_row values p ≡ after (tested values p.objects) (on_tested swapping p)
unfolding swap_row
swap_row-tested values p = puts values p swapping

pub ruleset put = (set_row-tested, swap_row-tested)
