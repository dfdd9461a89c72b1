-- What a write, a removal and a push at a name make of the map of some pairs.
use Rattle.std.proofs.Common.{◌≡◌, ℕ, zero, suc, ◌+◌, Bool, true, false, cond, Option, Some, None, [], ◌∷◌, ◌++◌, length, get_or, ◌<◌, set, refl, sym, ap, ◌∙◌, subst, arith}
use Rattle.std.specs.List.{slice_get, remove}
use Rattle.std.specs.Option.{is_some}
use Rattle.std.proofs.lemmas.Option.{none-some, same_Some, slice_get_read, get_or_from_slice_get}
use Rattle.std.specs.FinMap.{find, from_entries, insert, get, len, get-from_entries, get-insert, get-remove, same_map, from_entries_push, len-insert, len-empty}
use Rattle.std.specs.FinMap as map
use Rattle.std.specs.FinMap.Entries.{find-append}
use Rattle.ink_base.specs.declared.ident.ObjectId.{ObjectId}
use Rattle.ink_base.specs.Ident.{id_cmp}
use Rattle.ink_base.proofs.IdentLemmas.{id_cmp_total, id_cmp_exact}
use Rattle.ink_base.specs.declared.object.Object.{Object}
use Rattle.ink_heap.specs.Pairs.{Pairs, AreApart, HoldsName}
use Rattle.ink_base.specs.Objects.{changed_object, change_found}
use Rattle.ink_heap.specs.View.{HeapView}
use Rattle.ink_heap.proofs.ObjectsLemmas.{is_same, is_same-itself, is_same-turned, is_same-one, changed_object-same}

pub find_at : (pairs : Pairs) (index : ℕ) (id : ObjectId) (object : Object) → AreApart pairs → slice_get pairs index ≡ Some (id, object) → find id_cmp id pairs ≡ Some object
find_at [] index id object apart there = absurd (none-some _ there)
find_at (pair ∷ pairs) zero id object apart there =
    let x : pair ≡ (id, object) = same_Some _ _ there in
    subst (λ (y : ObjectId × Object). cond (is_same id y.0) (Some y.1) (find id_cmp id pairs) ≡ Some object) (sym x) (ap (λ b. cond b (Some object) (find id_cmp id pairs)) (is_same-itself id))
find_at (pair ∷ pairs) (suc index) id object apart there =
    let rest = find_at pairs index id object apart.1 there in
    elim (is_same id pair.0) as (λ b. is_same id pair.0 ≡ b → cond b (Some pair.1) (find id_cmp id pairs) ≡ Some object) [
      | true ↦ λ t. absurd (none-some object (sym apart.0 ∙ ap (λ other. find id_cmp other pairs) (sym (is_same-one id pair.0 t)) ∙ rest))
      | false ↦ λ t. rest
    ] refl

-- a name that stands further on is not the first one
not_both : (pair : ObjectId × Object) (pairs : Pairs) (index : ℕ) (id other : ObjectId) (object : Object) → AreApart (pair ∷ pairs) → slice_get pairs index ≡ Some (id, object) → is_same other pair.0 ≡ true → is_same other id ≡ true → ⊥
not_both pair pairs index id other object apart there s t =
    let x : pair.0 ≡ id = sym (is_same-one other pair.0 s) ∙ is_same-one other id t in
    none-some object (sym apart.0 ∙ ap (λ n. find id_cmp n pairs) x ∙ find_at pairs index id object apart.1 there)

swapped : {X : Type 0} (a b : Bool) (x y z : X) → (a ≡ true → b ≡ true → ⊥) → cond a x (cond b y z) ≡ cond b y (cond a x z)
swapped true true x y z n = absurd (n refl refl)
swapped true false x y z n = refl
swapped false true x y z n = refl
swapped false false x y z n = refl

twice : {X : Type 0} (a : Bool) (x y z : X) → cond a x z ≡ cond a x (cond a y z)
twice true x y z = refl
twice false x y z = refl

pub find-set : (pairs : Pairs) (index : ℕ) (id : ObjectId) (object next : Object) → AreApart pairs → slice_get pairs index ≡ Some (id, object) → (other : ObjectId) → find id_cmp other (set pairs index (id, next)) ≡ cond (is_same other id) (Some next) (find id_cmp other pairs)
find-set [] index id object next apart there other = absurd (none-some _ there)
find-set (pair ∷ pairs) zero id object next apart there other =
    let x : pair ≡ (id, object) = same_Some _ _ there in
    subst (λ (y : ObjectId × Object). cond (is_same other id) (Some next) (find id_cmp other pairs) ≡ cond (is_same other id) (Some next) (cond (is_same other y.0) (Some y.1) (find id_cmp other pairs))) (sym x) (twice (is_same other id) _ _ _)
find-set (pair ∷ pairs) (suc index) id object next apart there other =
    ap (cond (is_same other pair.0) (Some pair.1)) (find-set pairs index id object next apart.1 there other)
    ∙ swapped (is_same other pair.0) (is_same other id) _ _ _ (not_both pair pairs index id other object apart there)

hidden : {X : Type 0} (a : Bool) (x z n : X) → (a ≡ true → z ≡ n) → z ≡ cond a n (cond a x z)
hidden true x z n h = h refl
hidden false x z n h = refl

pub find-remove : (pairs : Pairs) (index : ℕ) (id : ObjectId) (object : Object) → AreApart pairs → slice_get pairs index ≡ Some (id, object) → (other : ObjectId) → find id_cmp other (remove pairs index) ≡ cond (is_same other id) None (find id_cmp other pairs)
find-remove [] index id object apart there other = absurd (none-some _ there)
find-remove (pair ∷ pairs) zero id object apart there other =
    let x : pair ≡ (id, object) = same_Some _ _ there in
    let y : pair.0 ≡ id = ap (λ (pair : ObjectId × Object). pair.0) x in
    subst (λ (y : ObjectId × Object). find id_cmp other pairs ≡ cond (is_same other id) None (cond (is_same other y.0) (Some y.1) (find id_cmp other pairs))) (sym x) (hidden (is_same other id) _ _ _ (λ t. ap (λ n. find id_cmp n pairs) (is_same-one other id t ∙ sym y) ∙ apart.0))
find-remove (pair ∷ pairs) (suc index) id object apart there other =
    ap (cond (is_same other pair.0) (Some pair.1)) (find-remove pairs index id object apart.1 there other)
    ∙ swapped (is_same other pair.0) (is_same other id) _ _ _ (not_both pair pairs index id other object apart there)

not_same : (pair : ObjectId × Object) (pairs : Pairs) (index : ℕ) (id : ObjectId) (object : Object) → AreApart (pair ∷ pairs) → slice_get pairs index ≡ Some (id, object) → is_same pair.0 id ≡ false
not_same pair pairs index id object apart there = elim (is_same pair.0 id) as (λ b. is_same pair.0 id ≡ b → b ≡ false) [ true ↦ λ t. absurd (not_both pair pairs index id pair.0 object apart there (is_same-itself pair.0) t) | false ↦ λ t. refl ] refl

pub AreApart-set : (pairs : Pairs) (index : ℕ) (id : ObjectId) (object next : Object) → AreApart pairs → slice_get pairs index ≡ Some (id, object) → AreApart (set pairs index (id, next))
AreApart-set [] index id object next apart there = absurd (none-some _ there)
AreApart-set (pair ∷ pairs) zero id object next apart there = (ap (λ n. find id_cmp n pairs) (sym (ap (λ (y : ObjectId × Object). y.0) (same_Some _ _ there))) ∙ apart.0, apart.1)
AreApart-set (pair ∷ pairs) (suc index) id object next apart there = (find-set pairs index id object next apart.1 there pair.0 ∙ ap (λ b. cond b (Some next) (find id_cmp pair.0 pairs)) (not_same pair pairs index id object apart there) ∙ apart.0, AreApart-set pairs index id object next apart.1 there)

pub AreApart-remove : (pairs : Pairs) (index : ℕ) (id : ObjectId) (object : Object) → AreApart pairs → slice_get pairs index ≡ Some (id, object) → AreApart (remove pairs index)
AreApart-remove [] index id object apart there = absurd (none-some _ there)
AreApart-remove (pair ∷ pairs) zero id object apart there = apart.1
AreApart-remove (pair ∷ pairs) (suc index) id object apart there = (find-remove pairs index id object apart.1 there pair.0 ∙ ap (λ b. cond b None (find id_cmp pair.0 pairs)) (not_same pair pairs index id object apart there) ∙ apart.0, AreApart-remove pairs index id object apart.1 there)

absent_parts : {X : Type 0} (b : Bool) (x : X) (z : Option X) → cond b (Some x) z ≡ None → (b ≡ false) × (z ≡ None)
absent_parts true x z h = absurd (none-some x (sym h))
absent_parts false x z h = (refl, h)

pub AreApart-push : (pairs : Pairs) (id : ObjectId) (object : Object) → AreApart pairs → find id_cmp id pairs ≡ None → AreApart (pairs ++ (id, object) ∷ [])
AreApart-push [] id object apart there = (refl, tt)
AreApart-push (pair ∷ pairs) id object apart there =
    let parts = absent_parts (is_same id pair.0) pair.1 (find id_cmp id pairs) there in
    (find-append id_cmp id_cmp_total pairs id object pair.0 parts.1 ∙ ap (λ b. cond b (Some object) (find id_cmp pair.0 pairs)) (is_same-turned pair.0 id ∙ parts.0) ∙ apart.0, AreApart-push pairs id object apart.1 parts.1)

-- what stands among the pairs, as the map tells it
pub get_at : (pairs : Pairs) (index : ℕ) (id : ObjectId) (object : Object) → AreApart pairs → slice_get pairs index ≡ Some (id, object) → get (from_entries {R = id_cmp} pairs) id ≡ Some object
get_at pairs index id object apart there = get-from_entries id_cmp_total pairs id ∙ find_at pairs index id object apart there

pub get_absent : (pairs : Pairs) (id : ObjectId) → find id_cmp id pairs ≡ None → get (from_entries {R = id_cmp} pairs) id ≡ None
get_absent pairs id h = get-from_entries id_cmp_total pairs id ∙ h

pub map-set : (pairs : Pairs) (index : ℕ) (id : ObjectId) (object next : Object) → AreApart pairs → slice_get pairs index ≡ Some (id, object) → from_entries {R = id_cmp} (set pairs index (id, next)) ≡ insert (from_entries pairs) id next
map-set pairs index id object next apart there = same_map id_cmp_total id_cmp_exact _ _ (λ other.
    get-from_entries id_cmp_total _ other ∙ find-set pairs index id object next apart there other
    ∙ sym (get-insert id_cmp_total (from_entries pairs) id next other ∙ ap (cond (is_same other id) (Some next)) (get-from_entries id_cmp_total pairs other)))

pub map-remove : (pairs : Pairs) (index : ℕ) (id : ObjectId) (object : Object) → AreApart pairs → slice_get pairs index ≡ Some (id, object) → from_entries {R = id_cmp} (remove pairs index) ≡ map.remove (from_entries pairs) id
map-remove pairs index id object apart there = same_map id_cmp_total id_cmp_exact _ _ (λ other.
    get-from_entries id_cmp_total _ other ∙ find-remove pairs index id object apart there other
    ∙ sym (get-remove id_cmp_total (from_entries pairs) id other ∙ ap (cond (is_same other id) None) (get-from_entries id_cmp_total pairs other)))

pub map-push : (pairs : Pairs) (id : ObjectId) (object : Object) → find id_cmp id pairs ≡ None → from_entries {R = id_cmp} (pairs ++ (id, object) ∷ []) ≡ insert (from_entries pairs) id object
map-push pairs id object h = from_entries_push id_cmp_total id_cmp_exact pairs id object h

pub map-changed : (pairs : Pairs) (index : ℕ) (id : ObjectId) (object : Object) (f : Object → Object) → AreApart pairs → slice_get pairs index ≡ Some (id, object) → from_entries {R = id_cmp} (set pairs index (id, f object)) ≡ changed_object (from_entries pairs) id f
unfolding changed_object
map-changed pairs index id object f apart there = map-set pairs index id object (f object) apart there ∙ sym (ap (λ x. change_found x (from_entries pairs) id f) (get_at pairs index id object apart there))

pub len-apart : (pairs : Pairs) → AreApart pairs → len (from_entries {R = id_cmp} pairs) ≡ length pairs
len-apart [] apart = len-empty id_cmp Object
len-apart (pair ∷ pairs) apart =
    len-insert id_cmp_total (from_entries pairs) pair.0 pair.1
    ∙ ap (λ x. cond (is_some x) (len (from_entries {R = id_cmp} pairs)) (len (from_entries {R = id_cmp} pairs) + 1)) (get_absent pairs pair.0 apart.0)
    ∙ ap (λ n. n + 1) (len-apart pairs apart.1) ∙ omega arith

-- the view of a heap with these pairs and this room
abbrev pub view_of : Pairs → ℕ → HeapView
view_of pairs room = record { objects = from_entries {R = id_cmp} pairs; spare = room }

-- the pair that was read at an index, where its name is the one that is looked for
pub HoldsName-read : (pairs : Pairs) (index : ℕ) (id : ObjectId) (pair : ObjectId × Object) → AreApart pairs → pair ≡ get_or pairs index pair → index < length pairs → (test : Bool) → test ≡ is_same id pair.0 → test ≡ true → HoldsName pairs index id
HoldsName-read pairs index id pair apart is low test s t =
    let x : id ≡ pair.0 = is_same-one id pair.0 (sym s ∙ t) in
    let there : slice_get pairs index ≡ Some (id, pair.1) =
    slice_get_read pairs (length pairs) index pair refl low is ∙ ap (λ n. Some (n, pair.1)) (sym x) in
    (low, (pair.1, there, get_at pairs index id pair.1 apart there))

-- What a heap is seen as, where its pairs and its room are known. The pair is one that was read at the index of a name.
module _ (pairs : Pairs) (room : ℕ) (view : HeapView) (seen : view_of pairs room ≡ view) (apart : AreApart pairs) where
  seen_objects : from_entries {R = id_cmp} pairs ≡ view.objects
  seen_objects = ap (λ v. v.objects) seen

  seen_spare : room ≡ view.spare
  seen_spare = ap (λ v. v.spare) seen

  pub len-seen : len view.objects ≡ length pairs
  len-seen = ap len (sym seen_objects) ∙ len-apart pairs apart

  pub get-seen_absent : (id : ObjectId) → get (from_entries {R = id_cmp} pairs) id ≡ None → get view.objects id ≡ None
  get-seen_absent id none = ap (λ n. get n id) (sym seen_objects) ∙ none

  pub find-seen_absent : (id : ObjectId) → get view.objects id ≡ None → find id_cmp id pairs ≡ None
  find-seen_absent id none = sym (get-from_entries id_cmp_total pairs id) ∙ ap (λ n. get n id) seen_objects ∙ none

  pub AreApart-put : (id : ObjectId) (object : Object) → get view.objects id ≡ None → AreApart (pairs ++ (id, object) ∷ [])
  AreApart-put id object none = AreApart-push pairs id object apart (find-seen_absent id none)

  pub objects-put : (id : ObjectId) (object : Object) → get view.objects id ≡ None → from_entries {R = id_cmp} (pairs ++ (id, object) ∷ []) ≡ insert view.objects id object
  objects-put id object none =
      map-push pairs id object (find-seen_absent id none) ∙ ap (λ n. insert n id object) seen_objects

  pub seen-absent : (id : ObjectId) (f : Object → Object) → get (from_entries {R = id_cmp} pairs) id ≡ None → view ≡ record view { objects = changed_object view.objects id f }
  unfolding changed_object
  seen-absent id f none =
      let same : view.objects ≡ changed_object view.objects id f =
      sym (ap (λ x. change_found x view.objects id f) (get-seen_absent id none)) in
      λ j. record view { objects = same j }

  module _ (index : ℕ) (id : ObjectId) (at : HoldsName pairs index id) (pair : ObjectId × Object) (is : pair ≡ get_or pairs index pair) where
    pub held-pair : pair ≡ (id, at.1.0)
    held-pair = is ∙ get_or_from_slice_get pairs index (id, at.1.0) pair at.1.1

    pub get-held : get view.objects id ≡ Some pair.1
    get-held =
        ap (λ n. get n id) (sym seen_objects)
        ∙ at.1.2
        ∙ ap (λ (y : ObjectId × Object). Some y.1) (sym held-pair)

    pub seen-changed : (f : Object → Object) → view_of (set pairs index (pair.0, f pair.1)) room ≡ record view { objects = changed_object view.objects id f }
    seen-changed f =
        let objects : from_entries {R = id_cmp} (set pairs index (pair.0, f pair.1)) ≡ changed_object view.objects id f =
        ap (λ (y : ObjectId × Object). from_entries {R = id_cmp} (set pairs index (y.0, f y.1))) held-pair
        ∙ map-changed pairs index id at.1.0 f apart at.1.1
        ∙ ap (λ n. changed_object n id f) seen_objects in
        λ j. record { objects = objects j; spare = seen_spare j }

    pub AreApart-changed : (f : Object → Object) → AreApart (set pairs index (pair.0, f pair.1))
    AreApart-changed f =
        subst (λ (y : ObjectId × Object). AreApart (set pairs index (y.0, f y.1))) (sym held-pair) (AreApart-set pairs index id at.1.0 (f at.1.0) apart at.1.1)

    pub seen-same : (f : Object → Object) → f pair.1 ≡ pair.1 → view_of (set pairs index (pair.0, f pair.1)) room ≡ view
    seen-same f same =
        seen-changed f ∙ (λ j. record view { objects = changed_object-same view.objects id pair.1 f get-held same j })

    pub objects-removed : from_entries {R = id_cmp} (remove pairs index) ≡ map.remove view.objects id
    objects-removed = map-remove pairs index id at.1.0 apart at.1.1 ∙ ap (λ n. map.remove n id) seen_objects

    pub AreApart-removed : AreApart (remove pairs index)
    AreApart-removed = AreApart-remove pairs index id at.1.0 apart at.1.1
