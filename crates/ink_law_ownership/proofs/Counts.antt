-- How often a name stands among objects that a step changed.
use Rattle.std.proofs.Common.{◌≡◌, ◌+◌, ◌≤◌, Bool, true, false, cond, Option, Some, None, Result, Ok, Err, refl, sym, ap, ◌∙◌, subst, arith, nat_lt, if◌then◌else◌}
use Rattle.std.specs.Option.{is_some, option_map}
use Rattle.std.specs.FinMap.{get, insert, remove, empty, get-empty, get-insert, get-remove}
use Rattle.ink_base.specs.declared.ident.ObjectId.{ObjectId}
use Rattle.ink_base.specs.declared.object.Object.{Object}
use Rattle.ink_base.specs.declared.value.Value.{Value}
use Rattle.ink_base.specs.declared.value.Value.TheVariants as v
use Rattle.ink_base.specs.Objects.{Objects, changed_object, counted_up, counted_down}
use Rattle.ink_base.specs.Ident.{id_cmp}
use Rattle.ink_base.proofs.IdentLemmas.{id_cmp_total}
use Rattle.ink_code.specs.declared.wrong.Wrong.{Wrong}
use Rattle.ink_code.specs.declared.wrong.Wrong.TheVariants as wrong
use Rattle.ink_code.specs.Objects.{after_copy, after_borrow, count_up_if, count_down_if}
use Rattle.ink_code.specs.Owned.{one_if, times_there}
use Rattle.ink_heap.proofs.ObjectsLemmas.{is_same, is_same-one, get-changed_object}

-- no name stands more often than before
abbrev pub NoMore : Objects → Objects → Type 0
NoMore old new = (id : ObjectId) → times_there id new ≤ times_there id old

pub NoMore-same : (objects : Objects) → NoMore objects objects
NoMore-same objects id = omega arith

pub NoMore-then : (a b c : Objects) → NoMore a b → NoMore b c → NoMore a c
NoMore-then a b c m n id = let one = m id in let other = n id in omega arith

changed_at : (test : Bool) (f : Object → Object) (here there : Option Object) → (test ≡ true → here ≡ there) → one_if (is_some (cond test (option_map f here) there)) ≤ one_if (is_some there)
changed_at true f None there same = let e = ap (λ found. one_if (is_some found)) (same refl) in omega arith
changed_at true f (Some object) there same = let e = ap (λ found. one_if (is_some found)) (same refl) in omega arith
changed_at false f here there same = omega arith

pub NoMore-changed : (objects : Objects) (id : ObjectId) (f : Object → Object) → NoMore objects (changed_object objects id f)
NoMore-changed objects id f n =
    let at = changed_at (is_same n id) f (get objects id) (get objects n) (λ same. sym (ap (get objects) (is_same-one n id same))) in
    subst (λ found. one_if (is_some found) ≤ times_there n objects) (sym (get-changed_object objects id f n)) at

removed_at : (test : Bool) (there : Option Object) → one_if (is_some (cond test None there)) ≤ one_if (is_some there)
removed_at true there = omega arith
removed_at false there = omega arith

pub NoMore-remove : (objects : Objects) (id : ObjectId) → NoMore objects (remove objects id)
NoMore-remove objects id n =
    subst (λ found. one_if (is_some found) ≤ times_there n objects) (sym (get-remove id_cmp_total objects id n)) (removed_at (is_same n id) (get objects n))

put_at : (test : Bool) (object : Object) (there : Option Object) → one_if (is_some (cond test (Some object) there)) ≤ one_if (is_some there) + one_if test
put_at true object there = omega arith
put_at false object there = omega arith

-- one object is put in
pub times_there-put : (n id : ObjectId) (object : Object) (objects : Objects) → times_there n (insert objects id object) ≤ times_there n objects + one_if (is_same n id)
times_there-put n id object objects =
    subst (λ found. one_if (is_some found) ≤ times_there n objects + one_if (is_same n id)) (sym (get-insert id_cmp_total objects id object n)) (put_at (is_same n id) object (get objects n))

again_at : (test : Bool) (object had : Object) (there : Option Object) → (test ≡ true → there ≡ Some had) → one_if (is_some (cond test (Some object) there)) ≤ one_if (is_some there)
again_at true object had there has = let e = ap (λ found. one_if (is_some found)) (has refl) in omega arith
again_at false object had there has = omega arith

-- or in the place of one that is there
NoMore-again : (objects : Objects) (id : ObjectId) (object had : Object) → get objects id ≡ Some had → NoMore objects (insert objects id object)
NoMore-again objects id object had has n =
    subst (λ found. one_if (is_some found) ≤ times_there n objects) (sym (get-insert id_cmp_total objects id object n)) (again_at (is_same n id) object had (get objects n) (λ same. ap (get objects) (is_same-one n id same) ∙ has))

abbrev right : Objects → Result Objects Wrong
right objects = Ok objects

right_of : (a b : Objects) → right a ≡ Ok b → a ≡ b
right_of a b is = cc

up_at : (found : Option Object) (objects new : Objects) (id : ObjectId) → get objects id ≡ found → count_up_if found objects id ≡ Ok new → NoMore objects new
up_at None objects new id has is = absurd (cc)
up_at (Some object) objects new id has is =
    subst (NoMore objects) (right_of (insert objects id (counted_up object)) new is) (NoMore-again objects id (counted_up object) object has)

same_right : (objects new : Objects) → right objects ≡ Ok new → NoMore objects new
same_right objects new is = subst (NoMore objects) (right_of objects new is) (NoMore-same objects)

pub NoMore-copy : (value : Value) (objects new : Objects) → after_copy value objects ≡ Ok new → NoMore objects new
unfolding after_copy
NoMore-copy (v.Int number) objects new is = same_right objects new is
NoMore-copy (v.Bool truth) objects new is = same_right objects new is
NoMore-copy v.Nil objects new is = same_right objects new is
NoMore-copy (v.Txt text) objects new is = same_right objects new is
NoMore-copy (v.Own id) objects new is = absurd (cc)
NoMore-copy (v.Bor id) objects new is = up_at (get objects id) objects new id refl is
NoMore-copy (v.Proc process) objects new is = same_right objects new is
NoMore-copy (v.Future future) objects new is = absurd (cc)
NoMore-copy (v.Promise future) objects new is = absurd (cc)
NoMore-copy v.Empty objects new is = absurd (cc)

down_if : (test : Bool) (objects new : Objects) (id : ObjectId) (object : Object) → get objects id ≡ Some object → (if test then right (insert objects id (counted_down object)) else Err wrong.Object) ≡ Ok new → NoMore objects new
down_if true objects new id object has is =
    subst (NoMore objects) (right_of (insert objects id (counted_down object)) new is) (NoMore-again objects id (counted_down object) object has)
down_if false objects new id object has is = absurd (cc)

down_at : (found : Option Object) (objects new : Objects) (id : ObjectId) → get objects id ≡ found → count_down_if found objects id ≡ Ok new → NoMore objects new
down_at None objects new id has is = absurd (cc)
down_at (Some object) objects new id has is = down_if (nat_lt 0 object.count) objects new id object has is

pub NoMore-borrow : (id : ObjectId) (objects new : Objects) → after_borrow id objects ≡ Ok new → NoMore objects new
unfolding after_borrow
NoMore-borrow id objects new is = down_at (get objects id) objects new id refl is

at_most : (found : Option Object) → one_if (is_some found) ≤ 1
at_most None = omega arith
at_most (Some object) = omega arith

pub at_most_once : (id : ObjectId) (objects : Objects) → times_there id objects ≤ 1
at_most_once id objects = at_most (get objects id)

pub none_in_empty : (id : ObjectId) → times_there id empty ≡ 0
none_in_empty id = ap (λ found. one_if (is_some found)) (get-empty id_cmp id)
