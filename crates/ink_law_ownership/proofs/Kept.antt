-- What a process keeps while a step works on it.
use Rattle.std.proofs.Common.{◌≡◌, ℕ, ◌+◌, ◌≤◌, Bool, true, false, List, [], ◌∷◌, refl, sym, ap, ◌∙◌, subst, arith, inl, inr, ◌⊎◌}
use Rattle.std.specs.FinMap.{empty}
use Rattle.ink_base.specs.declared.ident.ObjectId.{ObjectId}
use Rattle.ink_base.specs.declared.value.Value.{Value}
use Rattle.ink_base.specs.Objects.{Objects}
use Rattle.ink_code.specs.Machine.{Stepped, Went, Panics, went, stays, settles, panics}
use Rattle.ink_code.specs.Makes.{with_made}
use Rattle.ink_code.specs.Owned.{one_if, times_there}
use Rattle.ink_code.specs.Process.{Process, next_id}
use Rattle.ink_heap.proofs.ObjectsLemmas.{is_same, is_same-one}
use Rattle.ink_law_ownership.specs.Leaves.{IsNew, KeepsNames, StepLeaves}
use Rattle.ink_law_ownership.proofs.Counts.{NoMore, NoMore-same, NoMore-then, at_most_once, none_in_empty, times_there-put}
use Rattle.ink_law_ownership.proofs.Right.{Right, right}

-- the process made nothing yet
pub record Same (p q : Process) : Type 0 where
  pub number : q.number ≡ p.number
  pub kind : q.kind ≡ p.kind
  pub ran : q.ran ≡ p.ran
  pub made : q.made ≡ p.made
  pub objects : NoMore p.objects q.objects

-- it made at most one object
pub record Kept (p q : Process) : Type 0 where
  pub number : q.number ≡ p.number
  pub kind : q.kind ≡ p.kind
  pub ran : q.ran ≡ p.ran
  pub names : KeepsNames p q empty

pub same_itself : (p : Process) → Same p p
same_itself p = record { number = refl; kind = refl; ran = refl; made = refl; objects = NoMore-same p.objects }

-- with objects of which no name stands more often
pub same_with : (p q r : Process) → Same p q → r.number ≡ q.number → r.kind ≡ q.kind → r.ran ≡ q.ran → r.made ≡ q.made → NoMore q.objects r.objects → Same p r
same_with p q r s number kind ran made objects = record {
  number = number ∙ s.number;
  kind = kind ∙ s.kind;
  ran = ran ∙ s.ran;
  made = made ∙ s.made;
  objects = NoMore-then p.objects q.objects r.objects s.objects objects;
}

pub kept_same : (p q : Process) → Same p q → Kept p q
kept_same p q s =
    let equal = s.made in record {
      number = s.number;
      kind = s.kind;
      ran = s.ran;
      names = record {
        made = omega arith;
        names = λ id. let more = s.objects id in let none = none_in_empty id in inl (omega arith);
      };
    }

new_at : (p q : Process) (id : ObjectId) → Same p q → id ≡ next_id q → IsNew id p.number p.made (q.made + 1)
new_at p q id s is =
    let serial : id.serial ≡ q.made + 1 = ap (λ (n : ObjectId). n.serial) is in
    let equal = s.made in record {
      process = ap (λ (n : ObjectId). n.process) is ∙ s.number;
      later = omega arith;
      made = omega arith;
    }

-- an object that a process makes: it is put in under the next name
module _ (p q : Process) (kind tag : ℕ) (fields : List Value) (s : Same p q) where
  abbrev made : Process
  made = with_made kind tag fields q

  named : (id : ObjectId) (test : Bool) → is_same id (next_id q) ≡ test → (times_there id made.objects + times_there id empty ≤ times_there id p.objects) ⊎ (IsNew id p.number p.made (q.made + 1) × (times_there id made.objects + times_there id empty ≤ 1))
  named id true is =
      let once = at_most_once id made.objects in
      let none = none_in_empty id in
      inr (new_at p q id s (is_same-one id (next_id q) is), omega arith)
  named id false is =
      let put = times_there-put id (next_id q) (record { kind = kind; tag = tag; fields = fields; count = 0 }) q.objects in
      let more = s.objects id in
      let none = none_in_empty id in
      let no : one_if (is_same id (next_id q)) ≡ 0 = ap one_if is in
      inl (omega arith)

  pub kept_made : Kept p made
  kept_made =
      let equal = s.made in record {
        number = s.number;
        kind = s.kind;
        ran = s.ran;
        names = record { made = omega arith; names = λ id. named id (is_same id (next_id q)) refl };
      }

-- what is shown of a step
abbrev pub StepOf : Process → Stepped × Process → Type 0
StepOf p made = StepLeaves p made.0 made.1

names_on : (p q r : Process) (id : ObjectId) → r.made ≡ q.made → r.objects ≡ q.objects → (times_there id q.objects + times_there id empty ≤ times_there id p.objects) ⊎ (IsNew id p.number p.made q.made × (times_there id q.objects + times_there id empty ≤ 1)) → (times_there id r.objects + times_there id empty ≤ times_there id p.objects) ⊎ (IsNew id p.number p.made r.made × (times_there id r.objects + times_there id empty ≤ 1))
names_on p q r id made objects (inl old) =
    inl (subst (λ (o : Objects). times_there id o + times_there id empty ≤ times_there id p.objects) (sym objects) old)
names_on p q r id made objects (inr (new, once)) =
    let low = new.made in
    inr (record { process = new.process; later = new.later; made = omega arith }, subst (λ (o : Objects). times_there id o + times_there id empty ≤ 1) (sym objects) once)

pub kept_step : (p q r : Process) → Kept p q → r.number ≡ q.number → r.kind ≡ q.kind → r.made ≡ q.made → r.objects ≡ q.objects → r.ran ≡ q.ran + 1 → StepLeaves p Went r
kept_step p q r k number kind made objects ran =
    let n = k.names in
    let low = n.made in record {
      number = number ∙ k.number;
      kind = kind ∙ k.kind;
      ran = ran ∙ ap (λ (n : ℕ). n + 1) k.ran;
      names = record {
        made = omega arith;
        names = λ id. names_on p q r id made objects (n.names id);
      };
      gives = tt;
    }

pub went_right : (next : ℕ) (p q : Process) → Kept p q → Right (StepOf p) (went next q)
went_right next p q k = right (StepOf p) _ (kept_step p q _ k refl refl refl refl refl)

pub stays_right : (p q : Process) → Kept p q → Right (StepOf p) (stays q)
stays_right p q k = right (StepOf p) _ (kept_step p q _ k refl refl refl refl refl)

pub settles_right : (next : ℕ) (left : List Value) (p q : Process) → Kept p q → Right (StepOf p) (settles next left q)
unfolding settles
settles_right next [] p q k = went_right next p q k
settles_right next (value ∷ others) p q k = stays_right p q k

-- a step at which the process stays as it was
pub idle : (p : Process) → KeepsNames p p empty
idle p = record { made = omega arith; names = λ id. let none = none_in_empty id in inl (omega arith) }

pub panics_right : (text : List ℕ) (p : Process) → Right (StepOf p) (panics text p)
panics_right text p =
    right (StepOf p) (Panics text, p) (record { number = refl; kind = refl; ran = omega arith; names = idle p; gives = refl })
