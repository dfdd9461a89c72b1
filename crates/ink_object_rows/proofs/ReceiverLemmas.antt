-- A row begins with its receiver.
use Rattle.std.proofs.Common.{◌≡◌, ◌<◌, ℕ, Bool, true, false, Option, None, Some, Result, Ok, Err, List, [], ◌∷◌, refl, sym, ap, ◌∙◌, rules, cond}
use Rattle.std.specs.Prelude.{◌==◌, nat_lt}
use Rattle.std.specs.FinMap.{get, insert}
use Rattle.std.specs.Option.{option_map, option_map_or}
use Rattle.ink_base.specs.declared.ident.ObjectId.{ObjectId}
use Rattle.ink_base.specs.declared.object.Object.{Object}
use Rattle.ink_base.specs.declared.value.Value.{Value}
use Rattle.ink_base.specs.declared.value.Value.TheVariants.{Bor}
use Rattle.ink_base.specs.Objects.{Objects, changed_object, change_found, counted_down, is_counted}
use Rattle.ink_code.specs.declared.wrong.Wrong.{Wrong}
use Rattle.ink_code.specs.declared.wrong.Wrong.TheVariants as wrong
use Rattle.ink_code.specs.Machine.{needs, after, with_objects}
use Rattle.ink_code.specs.Objects.{object_at, there, after_borrow, count_down_if}
use Rattle.ink_code.specs.Process.{Process}
use Rattle.ink_code.specs.Rows.{RowOutcome, borrowed_by, receives, no_operand}
use Rattle.ink_object_rows.specs.Receiver.{Received, Receives, received, received_alone}

-- what a row does with what its receiver stands for
abbrev pub Further : Type 0
Further = ObjectId → Object → List Value → Process → RowOutcome

-- that, done
abbrev pub on : Further → Process → Received → RowOutcome
on further p one = further one.id one.found one.operands (with_objects one.left p)

abbrev one_of : ObjectId → Object → List Value → Objects → Result Received Wrong
one_of id found operands left = Ok (record { id = id; found = found; operands = operands; left = left })

at_end : (left : Result Objects Wrong) (id : ObjectId) (found : Object) (operands : List Value) (p : Process) (further : Further) → after left (λ objects. further id found operands (with_objects objects p)) ≡ after (after left (one_of id found operands)) (on further p)
unfolding after
at_end (Err why) id found operands p further = refl
at_end (Ok left) id found operands p further = refl

at_kind : (test : Bool) (left : Result Objects Wrong) (id : ObjectId) (found : Object) (operands : List Value) (p : Process) (further : Further) → needs test wrong.Kind (after left (λ objects. further id found operands (with_objects objects p))) ≡ after (needs test wrong.Kind (after left (one_of id found operands))) (on further p)
unfolding after needs
at_kind true left id found operands p further = at_end left id found operands p further
at_kind false left id found operands p further = refl

at_found : (there : Result Object Wrong) (kind : ℕ) (left : Result Objects Wrong) (id : ObjectId) (operands : List Value) (p : Process) (further : Further) → after there (λ found. needs (found.kind == kind) wrong.Kind (after left (λ objects. further id found operands (with_objects objects p)))) ≡ after (after there (λ found. needs (found.kind == kind) wrong.Kind (after left (one_of id found operands)))) (on further p)
unfolding after
at_found (Err why) kind left id operands p further = refl
at_found (Ok found) kind left id operands p further = at_kind (found.kind == kind) left id found operands p further

at_receiver : (borrowed : Result ObjectId Wrong) (kind : ℕ) (operands : List Value) (p : Process) (further : Further) → after borrowed (λ id. after (object_at p.objects id) (λ found. needs (found.kind == kind) wrong.Kind (after (after_borrow id p.objects) (λ objects. further id found operands (with_objects objects p))))) ≡ after (after borrowed (λ id. after (object_at p.objects id) (λ found. needs (found.kind == kind) wrong.Kind (after (after_borrow id p.objects) (one_of id found operands))))) (on further p)
unfolding after
at_receiver (Err why) kind operands p further = refl
at_receiver (Ok id) kind operands p further = at_found (object_at p.objects id) kind (after_borrow id p.objects) id operands p further

-- a row works on what its receiver stands for
pub receives-received : (kind : ℕ) (values : List Value) (p : Process) (further : Further) → receives kind values p further ≡ after (received kind values p.objects) (on further p)
unfolding received after
receives-received kind [] p further = refl
receives-received kind (receiver ∷ operands) p further = at_receiver (borrowed_by receiver) kind operands p further

same : (one other : ℕ) → one ≡ other → (one == other) ≡ true
same one other is = search rules

above : (count : ℕ) → 0 < count → nat_lt 0 count ≡ true
above count some = search rules

received-there : (kind : ℕ) (objects : Objects) (id : ObjectId) (operands : List Value) (object : Object) → get objects id ≡ Some object → object.kind ≡ kind → 0 < object.count → received kind (Bor id ∷ operands) objects ≡ one_of id object operands (insert objects id (counted_down object))
unfolding received after needs object_at after_borrow
received-there kind objects id operands object has is some =
    ap (λ found. after (there found) (λ o. needs (o.kind == kind) wrong.Kind (after (count_down_if found objects id) (one_of id o operands)))) has
    ∙ ap (λ test. needs test wrong.Kind (after (cond (nat_lt 0 object.count) (Ok (insert objects id (counted_down object))) (Err wrong.Object)) (one_of id object operands))) (same object.kind kind is)
    ∙ ap (λ test. after (cond test (Ok (insert objects id (counted_down object))) (Err wrong.Object)) (one_of id object operands)) (above object.count some)

counted-there : (objects : Objects) (id : ObjectId) (object : Object) → get objects id ≡ Some object → insert objects id (counted_down object) ≡ changed_object objects id counted_down
unfolding changed_object
counted-there objects id object has = ap (λ found. change_found found objects id counted_down) (sym has)

receives_there : (kind : ℕ) (values : List Value) (objects : Objects) (id : ObjectId) (operands : List Value) (object : Object) → values ≡ Bor id ∷ operands → get objects id ≡ Some object → object.kind ≡ kind → 0 < object.count → Receives (received kind values objects) id operands values objects
receives_there kind values objects id operands object begins has is some = record {
  found = object;
  stands = ap (λ all. received kind all objects) begins ∙ received-there kind objects id operands object has is some ∙ ap (one_of id object operands) (counted-there objects id object has);
  behind = begins;
  there = has;
  counted = ap is_counted has ∙ above object.count some;
}

-- what the tests of a receiver tell
pub receives_found : (kind : ℕ) (values : List Value) (objects : Objects) (id : ObjectId) (operands : List Value) (had : Option Object) (tag count : ℕ) → values ≡ Bor id ∷ operands → get objects id ≡ had → option_map {U = ℕ × ℕ} (λ object. (object.kind, object.tag)) had ≡ Some (kind, tag) → option_map (λ object. object.count) had ≡ Some count → 0 < count → Receives (received kind values objects) id operands values objects
receives_found kind values objects id operands None tag count begins has kinds counts some = let no : None ≡ Some count = counts in cc
receives_found kind values objects id operands (Some object) tag count begins has kinds counts some =
    let kind_is : object.kind ≡ kind = ap (λ (o : Option (ℕ × ℕ)). option_map_or (λ pair. pair.0) o 0) kinds in
    let count_is : object.count ≡ count = cc in
    let counted : 0 < object.count = rw count_is some in
    receives_there kind values objects id operands object begins has kind_is counted

-- where there are no operands
pub alone : (kind : ℕ) (values : List Value) (objects : Objects) (id : ObjectId) (operands : List Value) → operands ≡ [] → Receives (received kind values objects) id operands values objects → Receives (received_alone kind values objects) id [] values objects
unfolding received_alone after
alone kind values objects id operands none all = record {
  found = all.found;
  stands =
      ap (λ answer. after answer (λ one. no_operand one.operands (Ok one))) (all.stands ∙ ap (λ o. Ok (record { id = id; found = all.found; operands = o; left = changed_object objects id counted_down })) none);
  behind = all.behind ∙ ap (λ o. Bor id ∷ o) none;
  there = all.there;
  counted = all.counted;
}

alone_end : (operands : List Value) (one : Received) (further : Received → RowOutcome) → no_operand operands (further one) ≡ after (no_operand operands (Ok one)) further
unfolding after
alone_end [] one further = refl
alone_end (value ∷ operands) one further = refl

alone_after : (answer : Result Received Wrong) (further : Received → RowOutcome) → after answer (λ one. no_operand one.operands (further one)) ≡ after (after answer (λ one. no_operand one.operands (Ok one))) further
unfolding after
alone_after (Err why) further = refl
alone_after (Ok one) further = alone_end one.operands one further

-- a row that takes no operands works on what its receiver stands for
pub receives-alone : (kind : ℕ) (values : List Value) (p : Process) (further : ObjectId → Object → Process → RowOutcome) → receives kind values p (λ id found operands q. no_operand operands (further id found q)) ≡ after (received_alone kind values p.objects) (λ one. further one.id one.found (with_objects one.left p))
unfolding received_alone
receives-alone kind values p further =
    receives-received kind values p (λ id found operands q. no_operand operands (further id found q))
    ∙ alone_after (received kind values p.objects) (λ one. further one.id one.found (with_objects one.left p))
