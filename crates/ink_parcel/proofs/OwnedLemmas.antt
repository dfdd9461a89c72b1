-- How often objects are owned, as objects are put in and taken out.
use Rattle.std.proofs.Common.{◌≡◌, ℕ, ◌+◌, Bool, true, false, cond, Option, Some, None, List, [], ◌∷◌, ◌++◌, length, refl, sym, ap, ◌∙◌, arith}
use Rattle.std.specs.List.{sum_by}
use Rattle.std.specs.Option.{is_some}
use Rattle.std.specs.declared.cmp.Ordering.{Ordering}
use Rattle.std.specs.declared.cmp.Ordering.TheVariants.{Less, Equal, Greater}
use Rattle.std.specs.Ordering.{is_eq}
use Rattle.std.specs.FinMap.{find, put, get, insert, remove, empty, entries, len-empty, len-entries, get-entries, get-empty, get-insert, get-remove, entries-insert, same_map}
use Rattle.std.specs.FinMap.Entries.{by_order}
use Rattle.std.proofs.lemmas.List.Sums.{sum_by-append, sum_by-cons}
use Rattle.std.proofs.lemmas.Option.{none-some}
use Rattle.ink_base.specs.declared.ident.ObjectId.{ObjectId}
use Rattle.ink_base.specs.declared.object.Object.{Object}
use Rattle.ink_base.specs.declared.value.Value.{Value}
use Rattle.ink_base.specs.declared.value.Value.TheVariants as v
use Rattle.ink_base.specs.Ident.{id_cmp}
use Rattle.ink_base.specs.Objects.{Objects}
use Rattle.ink_base.proofs.IdentLemmas.{id_cmp_total, id_cmp_exact}
use Rattle.ink_code.specs.Owned.{one_if, owns, times_owned_by, times_owned_in, times_there}
use Rattle.ink_code.specs.Trees.{first_owned}
use Rattle.ink_heap.specs.Pairs.{Pairs}
use Rattle.ink_heap.proofs.ObjectsLemmas.{is_same, is_same-itself, is_same-one}

-- sums over the entries of a map

sum-put_at : (f : ObjectId × Object → ℕ) (id : ObjectId) (object : Object) (entry : ObjectId × Object) (pairs : Pairs) (order : Ordering) → cond (is_eq order) (Some entry.1) (find id_cmp id pairs) ≡ None → (find id_cmp id pairs ≡ None → sum_by f (put id_cmp id object pairs) ≡ f (id, object) + sum_by f pairs) → sum_by f (by_order order ((id, object) ∷ entry ∷ pairs) ((entry.0, object) ∷ pairs) (entry ∷ put id_cmp id object pairs)) ≡ f (id, object) + sum_by f (entry ∷ pairs)
sum-put_at f id object entry pairs Less none rest = sum_by-cons f (id, object) (entry ∷ pairs)
sum-put_at f id object entry pairs Equal none rest = absurd (none-some entry.1 (sym none))
sum-put_at f id object entry pairs Greater none rest =
    let behind = rest none in
    let one = sum_by-cons f entry (put id_cmp id object pairs) in
    let other = sum_by-cons f entry pairs in
    omega arith

sum-put : (f : ObjectId × Object → ℕ) (id : ObjectId) (object : Object) (pairs : Pairs) → find id_cmp id pairs ≡ None → sum_by f (put id_cmp id object pairs) ≡ f (id, object) + sum_by f pairs
sum-put f id object [] none = omega arith
sum-put f id object (entry ∷ pairs) none =
    sum-put_at f id object entry pairs (id_cmp id entry.0) none (sum-put f id object pairs)

-- one object more

pub times_owned_in-insert : (n id : ObjectId) (object : Object) (objects : Objects) → get objects id ≡ None → times_owned_in n (insert objects id object) ≡ times_owned_by n object.fields + times_owned_in n objects
times_owned_in-insert n id object objects none =
    ap (sum_by (λ entry. times_owned_by n entry.1.fields)) (entries-insert id_cmp_total objects id object)
    ∙ sum-put (λ entry. times_owned_by n entry.1.fields) id object (entries objects) (sym (get-entries objects id) ∙ none)

there-insert_at : (test : Bool) (object : Object) (was : Option Object) → (test ≡ true → was ≡ None) → one_if (is_some (cond test (Some object) was)) ≡ one_if test + one_if (is_some was)
there-insert_at true object was none = ap (λ found. 1 + one_if (is_some found)) (sym (none refl))
there-insert_at false object was none = omega arith

pub times_there-insert : (n id : ObjectId) (object : Object) (objects : Objects) → get objects id ≡ None → times_there n (insert objects id object) ≡ one_if (is_same n id) + times_there n objects
times_there-insert n id object objects none =
    ap (λ found. one_if (is_some found)) (get-insert id_cmp_total objects id object n)
    ∙ there-insert_at (is_same n id) object (get objects n) (λ same. ap (get objects) (is_same-one n id same) ∙ none)

-- one object less

pub get-removed : (id : ObjectId) (objects : Objects) → get (remove objects id) id ≡ None
get-removed id objects =
    get-remove id_cmp_total objects id id ∙ ap (λ test. cond test None (get objects id)) (is_same-itself id)

back_at : (test : Bool) (object : Object) (was : Option Object) → (test ≡ true → was ≡ Some object) → was ≡ cond test (Some object) (cond test None was)
back_at true object was has = has refl
back_at false object was has = refl

pub put_back : (id : ObjectId) (object : Object) (objects : Objects) → get objects id ≡ Some object → objects ≡ insert (remove objects id) id object
put_back id object objects has =
    same_map id_cmp_total id_cmp_exact objects (insert (remove objects id) id object) (λ n.
    back_at (is_same n id) object (get objects n) (λ same. ap (get objects) (is_same-one n id same) ∙ has)
    ∙ sym (get-insert id_cmp_total (remove objects id) id object n ∙ ap (cond (is_same n id) (Some object)) (get-remove id_cmp_total objects id n)))

pub times_owned_in-remove : (n id : ObjectId) (object : Object) (objects : Objects) → get objects id ≡ Some object → times_owned_in n objects ≡ times_owned_by n object.fields + times_owned_in n (remove objects id)
times_owned_in-remove n id object objects has =
    ap (times_owned_in n) (put_back id object objects has)
    ∙ times_owned_in-insert n id object (remove objects id) (get-removed id objects)

pub times_there-remove : (n id : ObjectId) (object : Object) (objects : Objects) → get objects id ≡ Some object → times_there n objects ≡ one_if (is_same n id) + times_there n (remove objects id)
times_there-remove n id object objects has =
    ap (times_there n) (put_back id object objects has)
    ∙ times_there-insert n id object (remove objects id) (get-removed id objects)

-- no objects

none_of : (pairs : Pairs) → length pairs ≡ 0 → pairs ≡ []
none_of [] is = refl
none_of (pair ∷ pairs) is = absurd (omega arith)

pub times_owned_in-empty : (n : ObjectId) → times_owned_in n empty ≡ 0
times_owned_in-empty n =
    ap (sum_by (λ entry. times_owned_by n entry.1.fields)) (none_of (entries (empty {X = Object} {R = id_cmp})) (sym (len-entries (empty {X = Object} {R = id_cmp})) ∙ len-empty id_cmp Object))

pub times_there-empty : (n : ObjectId) → times_there n empty ≡ 0
times_there-empty n = ap (λ found. one_if (is_some found)) (get-empty id_cmp n)

there_of : (found : Option Object) (object : Object) → found ≡ Some object → one_if (is_some found) ≡ 1
there_of found object has = ap (λ f. one_if (is_some f)) has

pub times_there-some : (n : ObjectId) (object : Object) (objects : Objects) → get objects n ≡ Some object → times_there n objects ≡ 1
times_there-some n object objects has = there_of (get objects n) object has

none_from : (found : Option Object) → one_if (is_some found) ≡ 0 → found ≡ None
none_from None is = refl
none_from (Some object) is = absurd (omega arith)

pub times_there-none : (n : ObjectId) (objects : Objects) → times_there n objects ≡ 0 → get objects n ≡ None
times_there-none n objects is = none_from (get objects n) is

-- the first owner among values

abbrev pub owned_first : ObjectId → Option (ObjectId × List Value) → ℕ
owned_first n None = 0
owned_first n (Some (id, rest)) = one_if (is_same n id) + times_owned_by n rest

pub times_owned_by-first : (n : ObjectId) (values : List Value) → times_owned_by n values ≡ owned_first n (first_owned values)
times_owned_by-first n [] = refl
times_owned_by-first n (v.Own id ∷ values) = sum_by-cons (λ value. one_if (owns n value)) (v.Own id) values
times_owned_by-first n (v.Int number ∷ values) = times_owned_by-first n values
times_owned_by-first n (v.Bool truth ∷ values) = times_owned_by-first n values
times_owned_by-first n (v.Nil ∷ values) = times_owned_by-first n values
times_owned_by-first n (v.Txt text ∷ values) = times_owned_by-first n values
times_owned_by-first n (v.Bor id ∷ values) = times_owned_by-first n values
times_owned_by-first n (v.Proc process ∷ values) = times_owned_by-first n values
times_owned_by-first n (v.Future future ∷ values) = times_owned_by-first n values
times_owned_by-first n (v.Promise future ∷ values) = times_owned_by-first n values
times_owned_by-first n (v.Empty ∷ values) = times_owned_by-first n values

pub times_owned_by-append : (n : ObjectId) (xs ys : List Value) → times_owned_by n (xs ++ ys) ≡ times_owned_by n xs + times_owned_by n ys
times_owned_by-append n xs ys = sum_by-append (λ value. one_if (owns n value)) xs ys
