-- Where each object is owned once, the walk down a value comes to each object of its tree.
use Rattle.std.proofs.Common.{◌≡◌, ℕ, zero, suc, ◌+◌, ◌<◌, ◌≤◌, Bool, true, false, cond, if◌then◌else◌, Option, Some, None, List, [], ◌∷◌, ◌++◌, refl, sym, ap, ◌∙◌, subst, arith, inl, inr, ◌⊎◌}
use Rattle.std.specs.Prelude.{◌↔◌, Contains, IsTrue}
use Rattle.std.specs.Option.{is_some, option_map_or}
use Rattle.std.specs.FinMap.{get, remove, len, get-remove, len-remove}
use Rattle.std.proofs.lemmas.List.Elements.{Contains-append_left, Contains-append_right}
use Rattle.std.proofs.lemmas.List.Sums.{sum_by-cons}
use Rattle.std.proofs.lemmas.Option.{none-some}
use Rattle.ink_base.specs.declared.ident.ObjectId.{ObjectId}
use Rattle.ink_base.specs.declared.object.Object.{Object}
use Rattle.ink_base.specs.declared.value.Value.{Value}
use Rattle.ink_base.specs.declared.value.Value.TheVariants as v
use Rattle.ink_base.specs.Objects.{Objects, fields_in}
use Rattle.ink_base.specs.Tree.{InTree, owned, below}
use Rattle.ink_base.proofs.IdentLemmas.{id_cmp_total}
use Rattle.ink_code.specs.Owned.{one_if, owns, times_owned_by, times_owned_in, times_there, AreOwnedOnce}
use Rattle.ink_code.specs.Trees.{first_owned, meets_first, meets, is_under}
use Rattle.ink_code.proofs.TreeLemmas.{is_under_in_tree}
use Rattle.ink_heap.proofs.ObjectsLemmas.{is_same, is_same-one, is_same-itself}
use Rattle.ink_parcel.proofs.MovesLemmas.{positive, one_less}
use Rattle.ink_parcel.proofs.OwnedLemmas.{owned_first, times_owned_by-first, times_owned_by-append, times_owned_in-remove, times_there-remove}

-- an owner among values is counted

owns-itself : (id : ObjectId) → one_if (owns id (v.Own id)) ≡ 1
owns-itself id = ap one_if (is_same-itself id)

counted : (id : ObjectId) (values : List Value) → Contains values (v.Own id) → 0 < times_owned_by id values
counted id [] h = absurd (omega (arith, h.1))
counted id (value ∷ values) (zero, low, is) =
    let here : one_if (owns id value) ≡ 1 = ap (λ x. one_if (owns id x)) is ∙ owns-itself id in
    let all = sum_by-cons (λ x. one_if (owns id x)) value values in
    omega arith
counted id (value ∷ values) (suc k, low, is) =
    let behind = counted id values (k, omega arith, is) in
    let all = sum_by-cons (λ x. one_if (owns id x)) value values in
    omega arith

behind : (value : Value) (values : List Value) (x : Value) → Contains values x → Contains (value ∷ values) x
behind value values x h = Contains-append_right (value ∷ []) values x h

-- of two counts, one is there
one_of : (test : Bool) (n : ℕ) → 0 < one_if test + n → (test ≡ true) ⊎ (0 < n)
one_of true n some = inl refl
one_of false n some = inr (omega arith)

found_here : (id other : ObjectId) (values : List Value) → is_same id other ≡ true → Contains (v.Own other ∷ values) (v.Own id)
found_here id other values same =
    let one : v.Own other ≡ v.Own id = ap v.Own (sym (is_same-one id other same)) in
    (0, omega arith, one)

uncounted : (id : ObjectId) (value : Value) (values : List Value) → owns id value ≡ false → 0 < times_owned_by id (value ∷ values) → 0 < times_owned_by id values
uncounted id value values none some =
    let all = sum_by-cons (λ x. one_if (owns id x)) value values in
    let nothing : one_if (owns id value) ≡ 0 = ap one_if none in
    omega arith

-- and a counted one is among them
contained : (id : ObjectId) (values : List Value) → 0 < times_owned_by id values → Contains values (v.Own id)
contained id [] some = absurd (omega arith)
contained id (v.Own other ∷ values) some =
    let all = sum_by-cons (λ x. one_if (owns id x)) (v.Own other) values in
    elim (one_of (is_same id other) (times_owned_by id values) (omega arith)) [
      | inl same ↦ found_here id other values same
      | inr rest ↦ behind (v.Own other) values (v.Own id) (contained id values rest)
    ]
contained id (v.Int number ∷ values) some =
    behind (v.Int number) values (v.Own id) (contained id values (uncounted id (v.Int number) values refl some))
contained id (v.Bool truth ∷ values) some =
    behind (v.Bool truth) values (v.Own id) (contained id values (uncounted id (v.Bool truth) values refl some))
contained id (v.Nil ∷ values) some =
    behind v.Nil values (v.Own id) (contained id values (uncounted id v.Nil values refl some))
contained id (v.Txt text ∷ values) some =
    behind (v.Txt text) values (v.Own id) (contained id values (uncounted id (v.Txt text) values refl some))
contained id (v.Bor other ∷ values) some =
    behind (v.Bor other) values (v.Own id) (contained id values (uncounted id (v.Bor other) values refl some))
contained id (v.Proc process ∷ values) some =
    behind (v.Proc process) values (v.Own id) (contained id values (uncounted id (v.Proc process) values refl some))
contained id (v.Future future ∷ values) some =
    behind (v.Future future) values (v.Own id) (contained id values (uncounted id (v.Future future) values refl some))
contained id (v.Promise future ∷ values) some =
    behind (v.Promise future) values (v.Own id) (contained id values (uncounted id (v.Promise future) values refl some))
contained id (v.Empty ∷ values) some =
    behind v.Empty values (v.Own id) (contained id values (uncounted id v.Empty values refl some))

-- values that own nothing have no tree
no_tree : (fields : ObjectId → List Value) (values : List Value) → first_owned values ≡ None → {id : ObjectId} → InTree fields values id → ⊥
no_tree fields values none (owned object h) =
    let some = counted object values h in
    let nothing = times_owned_by-first object values in
    let is : times_owned_by object values ≡ 0 = nothing ∙ ap (λ found. owned_first object found) none in
    omega arith
no_tree fields values none (below above object t h) = no_tree fields values none t

-- an object of the tree is the first owner's, or in the tree of its fields and of the values behind it
module _ (fields : ObjectId → List Value) (values : List Value) (first : ObjectId) (rest : List Value) (is : first_owned values ≡ Some (first, rest)) where
  next_root : (id : ObjectId) → Contains values (v.Own id) → (id ≡ first) ⊎ InTree fields (fields first ++ rest) id
  next_root id h =
      let some = counted id values h in
      let all : times_owned_by id values ≡ one_if (is_same id first) + times_owned_by id rest =
      times_owned_by-first id values ∙ ap (λ found. owned_first id found) is in
      elim (one_of (is_same id first) (times_owned_by id rest) (omega arith)) [
        | inl same ↦ inl (is_same-one id first same)
        | inr more ↦ inr (owned id (Contains-append_right (fields first) rest (v.Own id) (contained id rest more)))
      ]

  next_below : (above id : ObjectId) → Contains (fields above) (v.Own id) → (above ≡ first) ⊎ InTree fields (fields first ++ rest) above → (id ≡ first) ⊎ InTree fields (fields first ++ rest) id
  next_below above id h (inl one) =
      inr (owned id (Contains-append_left (fields first) rest (v.Own id) (subst (λ n. Contains (fields n) (v.Own id)) one h)))
  next_below above id h (inr t) = inr (below above id t h)

  next_tree : {id : ObjectId} → InTree fields values id → (id ≡ first) ⊎ InTree fields (fields first ++ rest) id
  next_tree (owned object h) = next_root object h
  next_tree (below above object t h) = next_below above object h (next_tree t)

-- some of the objects, with the same fields
abbrev AreAmong : Objects → Objects → Type 0
AreAmong left objects = (id : ObjectId) (object : Object) → get left id ≡ Some object → get objects id ≡ Some object

removed_at : (test : Bool) (was : Option Object) (object : Object) → cond test None was ≡ Some object → was ≡ Some object
removed_at true was object is = absurd (none-some object is)
removed_at false was object is = is

AreAmong-remove : (left objects : Objects) (first : ObjectId) → AreAmong left objects → AreAmong (remove left first) objects
AreAmong-remove left objects first among id object has =
    among id object (removed_at (is_same id first) (get left id) object (sym (get-remove id_cmp_total left first id) ∙ has))

there_some : (found : Option Object) → 0 < one_if (is_some found) → (object : Object) × (found ≡ Some object)
there_some None some = absurd (omega arith)
there_some (Some object) some = (object, refl)

-- the values own these others and the objects that are left, each once
abbrev OwnedStill : List Value → List Value → Objects → Type 0
OwnedStill values others left =
    (n : ObjectId) → times_owned_by n values + times_owned_by n others + times_owned_in n left ≡ times_there n left

module _ (objects : Objects) (others : List Value) (id : ObjectId) where
  first_there : (values rest : List Value) (left : Objects) (first : ObjectId) → OwnedStill values others left → first_owned values ≡ Some (first, rest) → (object : Object) × (get left first ≡ Some object)
  first_there values rest left first once is =
      let all : times_owned_by first values ≡ one_if (is_same first first) + times_owned_by first rest =
      times_owned_by-first first values ∙ ap (λ found. owned_first first found) is in
      let one : one_if (is_same first first) ≡ 1 = ap one_if (is_same-itself first) in
      let sum = once first in
      there_some (get left first) (omega arith)

  once_next : (values rest : List Value) (left : Objects) (first : ObjectId) (object : Object) → OwnedStill values others left → first_owned values ≡ Some (first, rest) → get left first ≡ Some object → get objects first ≡ Some object → OwnedStill (fields_in objects first ++ rest) others (remove left first)
  once_next values rest left first object once is has there n =
      let fields : fields_in objects first ≡ object.fields = ap (λ found. option_map_or (λ (o : Object). o.fields) found []) there in
      let all : times_owned_by n values ≡ one_if (is_same n first) + times_owned_by n rest =
      times_owned_by-first n values ∙ ap (λ found. owned_first n found) is in
      let more : times_owned_by n (fields_in objects first ++ rest) ≡ times_owned_by n object.fields + times_owned_by n rest =
      times_owned_by-append n (fields_in objects first) rest ∙ ap (λ values. times_owned_by n values + times_owned_by n rest) fields in
      let less = times_owned_in-remove n first object left has in
      let gone = times_there-remove n first object left has in
      let sum = once n in
      omega arith

  one_fewer : (left : Objects) (first : ObjectId) (object : Object) (most : ℕ) → get left first ≡ Some object → len left ≤ suc most → len (remove left first) ≤ most
  one_fewer left first object most has low =
      let less : len (remove left first) + 1 ≡ len left =
      one_less (is_some (get left first)) (len left) (len (remove left first)) (ap is_some has) (positive left first object (len left) has refl) (len-remove id_cmp_total left first) in
      omega arith

  met_else : (first : ObjectId) (further : Bool) (same : Bool) → is_same first id ≡ same → ((id ≡ first) ⊎ (further ≡ true)) → (if same then true else further) ≡ true
  met_else first further true is met = refl
  met_else first further false is (inl one) =
      let itself : is_same first id ≡ true = ap (is_same first) one ∙ is_same-itself first in
      absurd (cc)
  met_else first further false is (inr met) = met

  sooner : (first : ObjectId) (A B : Type 0) → (A → B) → ((id ≡ first) ⊎ A) → (id ≡ first) ⊎ B
  sooner first A B go (inl one) = inl one
  sooner first A B go (inr a) = inr (go a)

  met_first : (most : ℕ) (values : List Value) (left : Objects) (further : List Value → Bool) (found : Option (ObjectId × List Value)) → first_owned values ≡ found → len left ≤ suc most → AreAmong left objects → OwnedStill values others left → ((more : List Value) (still : Objects) → len still ≤ most → AreAmong still objects → OwnedStill more others still → InTree (fields_in objects) more id → further more ≡ true) → InTree (fields_in objects) values id → meets_first id found objects further ≡ true
  met_first most values left further None is low among once goes tree = absurd (no_tree (fields_in objects) values is tree)
  met_first most values left further (Some (first, rest)) is low among once goes tree =
      let there = first_there values rest left first once is in
      let same = among first there.0 there.1 in
      let more = fields_in objects first ++ rest in
      let on = goes more (remove left first) (one_fewer left first there.0 most there.1 low) (AreAmong-remove left objects first among) (once_next values rest left first there.0 once is there.1 same) in
      met_else first (further more) (is_same first id) refl (sooner first (InTree (fields_in objects) more id) (further more ≡ true) on (next_tree (fields_in objects) values first rest is tree))

  none_left : (values : List Value) (left : Objects) (found : Option (ObjectId × List Value)) → first_owned values ≡ found → len left ≤ 0 → OwnedStill values others left → InTree (fields_in objects) values id → ⊥
  none_left values left None is low once tree = no_tree (fields_in objects) values is tree
  none_left values left (Some (first, rest)) is low once tree =
      let there = first_there values rest left first once is in
      let some = positive left first there.0 (len left) there.1 refl in
      absurd (omega arith)

  -- the walk that still has to look at these values, with so many objects left
  met : (most : ℕ) (values : List Value) (left : Objects) → len left ≤ most → AreAmong left objects → OwnedStill values others left → InTree (fields_in objects) values id → meets most id values objects ≡ true
  unfolding meets
  met zero values left low among once tree = absurd (none_left values left (first_owned values) refl low once tree)
  met (suc most) values left low among once tree =
      met_first most values left (λ more. meets most id more objects) (first_owned values) refl low among once (met most) tree

-- an object of the tree of a value is met, where each object is owned once
is_under_of_tree : (id : ObjectId) (value : Value) (others : List Value) (objects : Objects) → AreOwnedOnce (value ∷ others) objects → InTree (fields_in objects) (value ∷ []) id → is_under id value objects ≡ true
unfolding is_under
is_under_of_tree id value others objects once tree =
    met objects others id (len objects) (value ∷ []) objects (omega arith) (λ n object has. has) (λ n.
    let sum = once n in
    let all = times_owned_by-append n (value ∷ []) others in
    omega arith) tree

-- what a walk finds is in the tree
pub found_in_tree : (id : ObjectId) (value : Value) (objects : Objects) (found : Bool) → found ≡ is_under id value objects → IsTrue found → InTree (fields_in objects) (value ∷ []) id
found_in_tree id value objects found told is = is_under_in_tree id value objects (sym told ∙ is)

-- and exactly that, where each object is owned once
pub found_exactly : (id : ObjectId) (value : Value) (others : List Value) (objects : Objects) (found : Bool) → found ≡ is_under id value objects → AreOwnedOnce (value ∷ others) objects → IsTrue found ↔ InTree (fields_in objects) (value ∷ []) id
found_exactly id value others objects found told once =
    (found_in_tree id value objects found told, λ tree. told ∙ is_under_of_tree id value others objects once tree)
