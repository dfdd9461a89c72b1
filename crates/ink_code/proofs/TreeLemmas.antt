-- The walk by which an ownership cycle is found stays in the tree of the value.
use Rattle.std.proofs.Common.{◌≡◌, ℕ, zero, suc, Bool, true, false, if◌then◌else◌, Option, None, Some, List, [], ◌∷◌, ◌++◌, refl, ap, subst, inl, inr, arith}
use Rattle.std.specs.Prelude.{Contains}
use Rattle.std.specs.FinMap.{len}
use Rattle.std.specs.declared.cmp.Ordering.{Ordering}
use Rattle.std.specs.declared.cmp.Ordering.TheVariants.{Less, Equal, Greater}
use Rattle.std.specs.Ordering.{is_eq}
use Rattle.std.proofs.lemmas.List.Elements.{Contains-append_right, Contains-append_cases}
use Rattle.ink_base.specs.declared.ident.ObjectId.{ObjectId}
use Rattle.ink_base.specs.declared.value.Value.{Value}
use Rattle.ink_base.specs.declared.value.Value.TheVariants as v
use Rattle.ink_base.specs.Ident.{id_cmp}
use Rattle.ink_base.specs.Tree.{InTree, owned, below}
use Rattle.ink_base.proofs.IdentLemmas.{id_cmp_exact}
use Rattle.ink_base.specs.Objects.{Objects, fields_in}
use Rattle.ink_code.specs.Trees.{first_owned, meets_first, meets, is_under}

behind : (value : Value) (values : List Value) (x : Value) → Contains values x → Contains (value ∷ values) x
behind value values x h = Contains-append_right (value ∷ []) values x h

-- the first owner is among the values, and so is all that stands behind it
abbrev pub IsFirst : List Value → ObjectId → List Value → Type 0
IsFirst values id rest = Contains values (v.Own id) × ((x : Value) → Contains rest x → Contains values x)

later : (value : Value) (values : List Value) (id : ObjectId) (rest : List Value) → IsFirst values id rest → IsFirst (value ∷ values) id rest
later value values id rest (here, all) = (behind value values _ here, λ x h. behind value values x (all x h))

at_front : (first : ObjectId) (values : List Value) (id : ObjectId) (rest : List Value) → first ≡ id → values ≡ rest → IsFirst (v.Own first ∷ values) id rest
at_front first values id rest e f =
    let here : IsFirst (v.Own first ∷ values) first values = ((0, omega arith, refl), λ x h. behind (v.Own first) values x h) in
    let named : IsFirst (v.Own first ∷ values) id values = subst (λ (n : ObjectId). IsFirst (v.Own first ∷ values) n values) e here in
    subst (λ (others : List Value). IsFirst (v.Own first ∷ values) id others) f named

abbrev name_in : ObjectId → Option (ObjectId × List Value) → ObjectId
name_in other None = other
name_in other (Some found) = found.0

abbrev rest_in : List Value → Option (ObjectId × List Value) → List Value
rest_in other None = other
rest_in other (Some found) = found.1

pub first_is_first : (values : List Value) (id : ObjectId) (rest : List Value) → first_owned values ≡ Some (id, rest) → IsFirst values id rest
first_is_first [] id rest e = cc
first_is_first (v.Own first ∷ values) id rest e =
    let same : first ≡ id = ap (name_in first) e in
    let behind_it : values ≡ rest = ap (rest_in values) e in
    at_front first values id rest same behind_it
first_is_first (v.Int number ∷ values) id rest e = later _ values id rest (first_is_first values id rest e)
first_is_first (v.Bool truth ∷ values) id rest e = later _ values id rest (first_is_first values id rest e)
first_is_first (v.Nil ∷ values) id rest e = later _ values id rest (first_is_first values id rest e)
first_is_first (v.Txt text ∷ values) id rest e = later _ values id rest (first_is_first values id rest e)
first_is_first (v.Bor other ∷ values) id rest e = later _ values id rest (first_is_first values id rest e)
first_is_first (v.Proc process ∷ values) id rest e = later _ values id rest (first_is_first values id rest e)
first_is_first (v.Future future ∷ values) id rest e = later _ values id rest (first_is_first values id rest e)
first_is_first (v.Promise future ∷ values) id rest e = later _ values id rest (first_is_first values id rest e)
first_is_first (v.Empty ∷ values) id rest e = later _ values id rest (first_is_first values id rest e)

-- what is in the tree of values that are all in a tree is in that tree
pub in_wider : (fields : ObjectId → List Value) (values more : List Value) (id : ObjectId) → ((x : ObjectId) → Contains more (v.Own x) → InTree fields values x) → InTree fields more id → InTree fields values id
in_wider fields values more id wider (owned object h) = wider object h
in_wider fields values more id wider (below above object t h) = below above object (in_wider fields values more above wider t) h

-- what the values behind the first owner and the fields of its object own is in the tree of the values
wider_after : (objects : Objects) (values : List Value) (first : ObjectId) (rest : List Value) → IsFirst values first rest → (x : ObjectId) → Contains (fields_in objects first ++ rest) (v.Own x) → InTree (fields_in objects) values x
wider_after objects values first rest (here, all) x h =
    elim (Contains-append_cases (fields_in objects first) rest (v.Own x) h) [
      | inl in_fields ↦ below first x (owned first here) in_fields
      | inr in_rest ↦ owned x (all (v.Own x) in_rest)
    ]

equal_of : (r : Ordering) → is_eq r ≡ true → r ≡ Equal
equal_of Less e = cc
equal_of Equal e = refl
equal_of Greater e = cc

-- the walk goes on behind an owner
met_on : (objects : Objects) (values : List Value) (id first : ObjectId) (rest : List Value) (further : List Value → Bool) (same : Bool) → is_eq (id_cmp first id) ≡ same → IsFirst values first rest → ((more : List Value) → further more ≡ true → InTree (fields_in objects) more id) → (if same then true else further (fields_in objects first ++ rest)) ≡ true → InTree (fields_in objects) values id
met_on objects values id first rest further true e is_first sound h =
    let one : first ≡ id = id_cmp_exact first id (equal_of _ e) in
    subst (λ (n : ObjectId). InTree (fields_in objects) values n) one (owned first is_first.0)
met_on objects values id first rest further false e is_first sound h =
    in_wider (fields_in objects) values (fields_in objects first ++ rest) id (wider_after objects values first rest is_first) (sound _ h)

met_first : (objects : Objects) (values : List Value) (id : ObjectId) (further : List Value → Bool) (found : Option (ObjectId × List Value)) → first_owned values ≡ found → ((more : List Value) → further more ≡ true → InTree (fields_in objects) more id) → meets_first id found objects further ≡ true → InTree (fields_in objects) values id
met_first objects values id further None e sound h = cc
met_first objects values id further (Some (first, rest)) e sound h =
    met_on objects values id first rest further (is_eq (id_cmp first id)) refl (first_is_first values first rest e) sound h

-- where a walk down some values comes to an object, it is in their tree
pub meets_in_tree : (most : ℕ) (id : ObjectId) (values : List Value) (objects : Objects) → meets most id values objects ≡ true → InTree (fields_in objects) values id
unfolding meets
meets_in_tree zero id values objects h = cc
meets_in_tree (suc most) id values objects h =
    met_first objects values id (λ more. meets most id more objects) (first_owned values) refl (λ more. meets_in_tree most id more objects) h

-- so a panic at an ownership cycle tells the truth
pub is_under_in_tree : (id : ObjectId) (value : Value) (objects : Objects) → is_under id value objects ≡ true → InTree (fields_in objects) (value ∷ []) id
unfolding is_under
is_under_in_tree id value objects h = meets_in_tree (len objects) id (value ∷ []) objects h
