-- Putting the objects of some pairs into a heap, the last one first.
use Rattle.std.proofs.Common.{◌≡◌, Bool, true, false, cond, Option, Some, None, [], ◌∷◌, ◌++◌, refl, sym, ap, ◌∙◌, subst}
use Rattle.std.specs.Prelude.{IsSome}
use Rattle.std.proofs.lemmas.Option.{none-some}
use Rattle.std.specs.FinMap.{find, from_entries, get, insert, get-from_entries, get-insert}
use Rattle.ink_base.specs.declared.ident.ObjectId.{ObjectId}
use Rattle.ink_base.specs.Ident.{id_cmp}
use Rattle.ink_base.proofs.IdentLemmas.{id_cmp_total}
use Rattle.ink_base.specs.declared.object.Object.{Object}
use Rattle.ink_base.specs.Objects.{Objects}
use Rattle.ink_heap.specs.Pairs.{Pairs, AreApart}
use Rattle.ink_heap.proofs.ObjectsLemmas.{is_same, is_same-itself, is_same-turned, is_same-one}
use Rattle.ink_parcel.specs.Parts.{AreApartFrom, IsSplit, Splits}
use Rattle.ink_parcel.specs.Moves.{CanBePut, SplitsOff}
use Rattle.ink_parcel.proofs.MovesLemmas.{first_some, find-append_all}

-- what some objects and some pairs have under a name together
abbrev pub whole_of : Objects → Pairs → ObjectId → Option Object
whole_of objects pairs id = first_some (find id_cmp id pairs) (get objects id)

first_none : (front back : Option Object) → first_some front back ≡ None → (front ≡ None) × (back ≡ None)
first_none None back none = (refl, none)
first_none (Some object) back none = absurd (none-some object (sym none))

other_name : (test : Bool) (object : Object) → cond test (Some object) None ≡ None → test ≡ false
other_name true object none = absurd (none-some object (sym none))
other_name false object none = refl

-- the last pair has another name than those before
pub last_apart : (pairs : Pairs) (id : ObjectId) (object : Object) → AreApart (pairs ++ (id, object) ∷ []) → AreApart pairs × (find id_cmp id pairs ≡ None)
last_apart [] id object apart = (tt, refl)
last_apart (pair ∷ pairs) id object apart =
    let rest = last_apart pairs id object apart.1 in
    let none = first_none (find id_cmp pair.0 pairs) _ (sym (find-append_all pair.0 pairs ((id, object) ∷ [])) ∙ apart.0) in
    let other : is_same id pair.0 ≡ false =
    is_same-turned id pair.0 ∙ other_name (is_same pair.0 id) object none.1 in
    ((none.0, rest.0), ap (λ test. cond test (Some pair.1) (find id_cmp id pairs)) other ∙ rest.1)

some_last : (test : Bool) (front : Option Object) (object : Object) → test ≡ true → IsSome (first_some front (cond test (Some object) None))
some_last true None object is = refl
some_last true (Some had) object is = refl
some_last false front object is = absurd (cc)

some_front : (front back : Option Object) → IsSome front → IsSome (first_some front back)
some_front None back there = absurd (cc)
some_front (Some object) back there = refl

after_put : (test : Bool) (object : Object) (front was : Option Object) → (test ≡ true → front ≡ None) → (IsSome front → was ≡ None) → IsSome front → cond test (Some object) was ≡ None
after_put true object None was here absent there = absurd (cc)
after_put true object (Some had) was here absent there = absurd (none-some had (sym (here refl)))
after_put false object front was here absent there = absent there

put_last : (test : Bool) (object : Object) (front was : Option Object) → first_some front (cond test (Some object) was) ≡ first_some (first_some front (cond test (Some object) None)) was
put_last true object None was = refl
put_last true object (Some had) was = refl
put_last false object None was = refl
put_last false object (Some had) was = refl

split_whole : (whole rest part : Option Object) → whole ≡ first_some part rest → (IsSome part → rest ≡ None) → IsSplit whole rest part
split_whole whole rest None is absent = sym is
split_whole whole rest (Some object) is absent = (absent refl, is)

-- the last pair is put into the heap
module _ (objects : Objects) (pairs : Pairs) (id : ObjectId) (object : Object) (can : CanBePut objects (pairs ++ (id, object) ∷ [])) where
  find_last : (other : ObjectId) → find id_cmp other (pairs ++ (id, object) ∷ []) ≡ first_some (find id_cmp other pairs) (cond (is_same other id) (Some object) None)
  find_last other = find-append_all other pairs ((id, object) ∷ [])

  pub absent_last : get objects id ≡ None
  absent_last =
      can.1 id (subst IsSome (sym (find_last id)) (some_last (is_same id id) (find id_cmp id pairs) object (is_same-itself id)))

  pub CanBePut-last : CanBePut (insert objects id object) pairs
  CanBePut-last =
      let apart = last_apart pairs id object can.0 in (
        apart.0,
        λ other there.
            let none : is_same other id ≡ true → find id_cmp other pairs ≡ None =
            λ same. ap (λ name. find id_cmp name pairs) (is_same-one other id same) ∙ apart.1 in
            let absent : IsSome (find id_cmp other pairs) → get objects other ≡ None =
            λ front. can.1 other (subst IsSome (sym (find_last other)) (some_front (find id_cmp other pairs) _ front)) in
            get-insert id_cmp_total objects id object other
            ∙ after_put (is_same other id) object (find id_cmp other pairs) (get objects other) none absent there,
      )

  pub whole_of-last : (other : ObjectId) → whole_of (insert objects id object) pairs other ≡ whole_of objects (pairs ++ (id, object) ∷ []) other
  whole_of-last other =
      ap (first_some (find id_cmp other pairs)) (get-insert id_cmp_total objects id object other)
      ∙ put_last (is_same other id) object (find id_cmp other pairs) (get objects other)
      ∙ ap (λ found. first_some found (get objects other)) (sym (find_last other))

-- the same of the map of the pairs
pub Splits-put : (whole objects : Objects) (pairs : Pairs) → SplitsOff whole objects pairs → Splits whole objects (from_entries pairs)
Splits-put whole objects pairs split id =
    subst (IsSplit (get whole id) (get objects id)) (sym (get-from_entries id_cmp_total pairs id)) (split id)

pub CanBePut-apart : (objects part : Objects) (pairs : Pairs) → from_entries {R = id_cmp} pairs ≡ part → AreApart pairs → AreApartFrom objects part → CanBePut objects pairs
CanBePut-apart objects part pairs is apart from = (
  apart,
  λ id there.
      from id (subst IsSome (sym (get-from_entries id_cmp_total pairs id) ∙ ap (λ m. get m id) is) there),
)
