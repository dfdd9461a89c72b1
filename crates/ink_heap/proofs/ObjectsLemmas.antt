-- What a change of one object leaves of it and of the others.
use Rattle.std.proofs.Common.{◌≡◌, ◌+◌, Bool, true, false, cond, Option, Some, None, refl, sym, ap, ◌∙◌}
use Rattle.std.specs.Ordering.{eq_by_cmp}
use Rattle.std.specs.Cmp.{eq_by_cmp_equiv}
use Rattle.std.specs.Option.{is_some, option_map}
use Rattle.std.proofs.lemmas.Map.Views.{tells_apart}
use Rattle.std.specs.FinMap.{insert, get, len, get-insert, same_map, len-insert}
use Rattle.ink_base.specs.declared.ident.ObjectId.{ObjectId}
use Rattle.ink_base.specs.Ident.{id_cmp}
use Rattle.ink_base.proofs.IdentLemmas.{id_cmp_total, id_cmp_exact}
use Rattle.ink_base.specs.declared.object.Object.{Object}
use Rattle.ink_base.specs.Objects.{Objects, changed_object, change_found}

-- whether two names are one
abbrev pub is_same : ObjectId → ObjectId → Bool
is_same = eq_by_cmp id_cmp

pub is_same-itself : (id : ObjectId) → is_same id id ≡ true
is_same-itself id = (eq_by_cmp_equiv id_cmp_total).refl id

pub is_same-turned : (one other : ObjectId) → is_same one other ≡ is_same other one
is_same-turned one other = (eq_by_cmp_equiv id_cmp_total).symm one other

pub is_same-one : (one other : ObjectId) → is_same one other ≡ true → one ≡ other
is_same-one one other same = tells_apart {R = id_cmp} id_cmp_exact one other same

-- a change that gives the same of the object that is there
pub changed_object-alike : (objects : Objects) (id : ObjectId) (object : Object) (f g : Object → Object) → get objects id ≡ Some object → f object ≡ g object → changed_object objects id f ≡ changed_object objects id g
unfolding changed_object
changed_object-alike objects id object f g has same =
    ap (λ x. change_found x objects id f) has
    ∙ ap (insert objects id) same
    ∙ sym (ap (λ x. change_found x objects id g) has)

kept : {X : Type 0} (test : Bool) (x y : X) → (test ≡ true → y ≡ x) → cond test x y ≡ y
kept true x y same = sym (same refl)
kept false x y same = refl

-- a change that leaves it as it was
pub changed_object-same : (objects : Objects) (id : ObjectId) (object : Object) (f : Object → Object) → get objects id ≡ Some object → f object ≡ object → changed_object objects id f ≡ objects
unfolding changed_object
changed_object-same objects id object f has same =
    ap (λ x. change_found x objects id f) has
    ∙ same_map id_cmp_total id_cmp_exact _ _ (λ other.
    get-insert id_cmp_total objects id (f object) other
    ∙ kept (is_same other id) (Some (f object)) (get objects other) (λ t. ap (get objects) (is_same-one other id t) ∙ has ∙ ap Some (sym same)))

changed_at : (test : Bool) (was : Option Object) → (test ≡ true → was ≡ None) → was ≡ cond test None was
changed_at true was none = none refl
changed_at false was none = refl

get_found : (objects : Objects) (id : ObjectId) (f : Object → Object) (found : Option Object) → get objects id ≡ found → (other : ObjectId) → get (change_found found objects id f) other ≡ cond (is_same other id) (option_map f found) (get objects other)
get_found objects id f None is other =
    changed_at (is_same other id) (get objects other) (λ same. ap (get objects) (is_same-one other id same) ∙ is)
get_found objects id f (Some object) is other = get-insert id_cmp_total objects id (f object) other

-- the object of that name is changed, and all others stay
pub get-changed_object : (objects : Objects) (id : ObjectId) (f : Object → Object) (other : ObjectId) → get (changed_object objects id f) other ≡ cond (is_same other id) (option_map f (get objects id)) (get objects other)
unfolding changed_object
get-changed_object objects id f other = get_found objects id f (get objects id) refl other

len_found : (objects : Objects) (id : ObjectId) (f : Object → Object) (found : Option Object) → get objects id ≡ found → len (change_found found objects id f) ≡ len objects
len_found objects id f None is = refl
len_found objects id f (Some object) is =
    len-insert id_cmp_total objects id (f object)
    ∙ ap (λ has. cond (is_some has) (len objects) (len objects + 1)) is

-- as many objects live as before
pub len-changed_object : (objects : Objects) (id : ObjectId) (f : Object → Object) → len (changed_object objects id f) ≡ len objects
unfolding changed_object
len-changed_object objects id f = len_found objects id f (get objects id) refl

put_twice : {X : Type 0} (test : Bool) (new was old : X) → cond test new (cond test was old) ≡ cond test new old
put_twice true new was old = refl
put_twice false new was old = refl

-- an object that is changed after it was put in
pub changed_object-insert : (objects : Objects) (id : ObjectId) (object : Object) (f : Object → Object) → changed_object (insert objects id object) id f ≡ insert objects id (f object)
unfolding changed_object
changed_object-insert objects id object f =
    let has : get (insert objects id object) id ≡ Some object =
    get-insert id_cmp_total objects id object id
    ∙ ap (λ test. cond test (Some object) (get objects id)) (is_same-itself id) in
    ap (λ found. change_found found (insert objects id object) id f) has
    ∙ same_map id_cmp_total id_cmp_exact _ _ (λ other.
    get-insert id_cmp_total (insert objects id object) id (f object) other
    ∙ ap (cond (is_same other id) (Some (f object))) (get-insert id_cmp_total objects id object other)
    ∙ put_twice (is_same other id) (Some (f object)) (Some object) (get objects other)
    ∙ sym (get-insert id_cmp_total objects id (f object) other))
