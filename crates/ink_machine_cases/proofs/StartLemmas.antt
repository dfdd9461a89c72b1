-- With which objects a process starts: its state alone, without fields.
use Rattle.std.proofs.Common.{◌≡◌, ℕ, ◌+◌, Bool, true, false, cond, Option, None, Some, List, [], ◌∷◌, refl, sym, ap, ◌∙◌, subst, arith}
use Rattle.std.specs.Prelude.{IsSome}
use Rattle.std.specs.FinMap.{empty, get, insert, get-empty, get-insert}
use Rattle.ink_base.specs.declared.ident.ObjectId.{ObjectId}
use Rattle.ink_base.specs.declared.object.Object.{Object}
use Rattle.ink_base.specs.declared.value.Value.TheVariants.{Own}
use Rattle.ink_base.specs.Ident.{id_cmp}
use Rattle.ink_base.specs.Objects.{Objects}
use Rattle.ink_base.proofs.IdentLemmas.{id_cmp_total}
use Rattle.ink_code.specs.Owned.{times_owned_by, AreOwnedOnce}
use Rattle.ink_code.specs.Process.{state_name}
use Rattle.ink_heap.proofs.ObjectsLemmas.{is_same, is_same-one}
use Rattle.ink_parcel.proofs.OwnedLemmas.{times_owned_in-insert, times_owned_in-empty, times_there-insert, times_there-empty}
use Rattle.ink_proc.specs.Starts.{CanStart}

one_there : (test : Bool) (object : Object) → IsSome (cond test (Some object) None) → test ≡ true
one_there true object there = refl
one_there false object there = there

module _ (number : ℕ) (object : Object) (none : object.fields ≡ []) where
  abbrev objects : Objects
  objects = insert empty (state_name number) object

  found_at : (id : ObjectId) → get objects id ≡ cond (is_same id (state_name number)) (Some object) None
  found_at id =
      get-insert id_cmp_total empty (state_name number) object id
      ∙ ap (cond (is_same id (state_name number)) (Some object)) (get-empty id_cmp id)

  alone : (id : ObjectId) → IsSome (get objects id) → id ≡ state_name number
  alone id there =
      is_same-one id (state_name number) (one_there (is_same id (state_name number)) object (subst IsSome (found_at id) there))

  owned_once : AreOwnedOnce (Own (state_name number) ∷ []) objects
  owned_once n =
      let fields = times_owned_in-insert n (state_name number) object empty (get-empty id_cmp (state_name number)) in
      let nothing = times_owned_in-empty n in
      let no_field = ap (times_owned_by n) none in
      let there = times_there-insert n (state_name number) object empty (get-empty id_cmp (state_name number)) in
      let no_other = times_there-empty n in
      omega arith

  starts_alone : CanStart number (state_name number) objects
  starts_alone = record {
    named = refl;
    alone = λ id there same. alone id there;
    below = λ id there other. absurd (other (alone id there));
    owned = owned_once;
  }

-- a process can start with one object without fields, which is its state, where it was put among no others
pub can_start : (number : ℕ) (object : Object) (first before all : Objects) → object.fields ≡ [] → first ≡ empty → before ≡ first → all ≡ insert before (state_name number) object → CanStart number (state_name number) all
can_start number object first before all none is_empty same put =
    subst (CanStart number (state_name number)) (sym (put ∙ ap (λ objects. insert objects (state_name number) object) (same ∙ is_empty))) (starts_alone number object none)
