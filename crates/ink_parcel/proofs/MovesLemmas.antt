-- Moving objects out of a heap: one, several after one another, and all of a tree.
use Rattle.std.proofs.Common.{◌≡◌, ℕ, zero, suc, ◌+◌, ◌-◌, ◌<◌, Bool, true, false, cond, Option, Some, None, List, [], ◌∷◌, ◌++◌, length, refl, sym, ap, ◌∙◌, subst, arith, append_assoc, append-nil, length-append, below_more, inl, inr, get_or, take}
use Rattle.std.proofs.lemmas.List.{take_more}
use Rattle.std.proofs.Math.Seq.{take-length}
use Rattle.std.proofs.lemmas.List.Elements.{Contains-push_cases}
use Rattle.std.specs.Prelude.{Contains, IsSome}
use Rattle.std.specs.List.{slice_get}
use Rattle.std.specs.Option.{is_some, option_map_or}
use Rattle.std.proofs.lemmas.Option.{none-some, same_Some, slice_get_within, slice_get-get_or, slice_get_read, get_or_from_slice_get}
use Rattle.std.specs.FinMap.{find, from_entries, get, len, remove, get-from_entries, get-remove, get-empty, len-remove, empty_of_len, same_map}
use Rattle.ink_base.specs.declared.ident.ObjectId.{ObjectId}
use Rattle.ink_base.specs.declared.value.Value.{Value}
use Rattle.ink_base.specs.declared.value.Value.TheVariants.{Own, Nil}
use Rattle.ink_base.specs.Ident.{id_cmp}
use Rattle.ink_base.specs.Tree.{InTree, owned, below}
use Rattle.ink_base.proofs.IdentLemmas.{id_cmp_total, id_cmp_exact}
use Rattle.ink_base.specs.declared.object.Object.{Object}
use Rattle.ink_base.specs.Objects.{Objects, fields_in}
use Rattle.ink_heap.specs.Pairs.{Pairs, AreApart}
use Rattle.ink_heap.specs.View.{HeapView}
use Rattle.ink_heap.proofs.ObjectsLemmas.{is_same, is_same-itself, is_same-one}
use Rattle.ink_heap.proofs.PairsLemmas.{find_at}
use Rattle.ink_parcel.specs.Parts.{IsSplit, Splits, HoldsTree}
use Rattle.ink_parcel.specs.Moves.{SplitsOff, Moves, AreGone, fields_at, HaveBeenLookedAt}

-- the first of two that is there
abbrev pub first_some : Option Object → Option Object → Option Object
first_some None other = other
first_some (Some object) other = Some object

cond_first : (test : Bool) (object : Object) (all front back : Option Object) → all ≡ first_some front back → cond test (Some object) all ≡ first_some (cond test (Some object) front) back
cond_first true object all front back same = refl
cond_first false object all front back same = same

pub find-append_all : (id : ObjectId) (front back : Pairs) → find id_cmp id (front ++ back) ≡ first_some (find id_cmp id front) (find id_cmp id back)
find-append_all id [] back = refl
find-append_all id (pair ∷ front) back =
    cond_first (is_same id pair.0) pair.1 _ (find id_cmp id front) (find id_cmp id back) (find-append_all id front back)

first_some-cases : (front back : Option Object) (P : Type 0) → (IsSome front → P) → (IsSome back → P) → IsSome (first_some front back) → P
first_some-cases None back P f g there = g there
first_some-cases (Some object) back P f g there = f there

some_there : (found : Option Object) (object : Object) → found ≡ Some object → IsSome found
some_there None object is = absurd (none-some object is)
some_there (Some had) object is = refl

-- what is there in the part that goes first isn't in the one that goes next
IsSplit-once : (whole middle rest first next : Option Object) → IsSplit whole middle first → IsSplit middle rest next → IsSome first → next ≡ None
IsSplit-once whole middle rest None next s t there = absurd (cc)
IsSplit-once whole middle rest (Some object) None s t there = refl
IsSplit-once whole middle rest (Some object) (Some other) s t there = absurd (none-some other (sym s.0 ∙ t.1))

IsSplit-then : (whole middle rest first next : Option Object) → IsSplit whole middle first → IsSplit middle rest next → IsSplit whole rest (first_some first next)
IsSplit-then whole middle rest None None s t = t ∙ s
IsSplit-then whole middle rest None (Some object) s t = (t.0, sym s ∙ t.1)
IsSplit-then whole middle rest (Some object) None s t = (t ∙ s.0, s.1)
IsSplit-then whole middle rest (Some object) (Some other) s t = (t.0, s.1)

IsSplit-gone : (whole rest part : Option Object) → IsSplit whole rest part → whole ≡ None → rest ≡ None
IsSplit-gone whole rest None s gone = s ∙ gone
IsSplit-gone whole rest (Some object) s gone = s.0

there_at_head : (test : Bool) (object : Object) (found : Option Object) → test ≡ true → IsSome (cond test (Some object) found)
there_at_head true object found is = refl
there_at_head false object found is = absurd (cc)

there_behind : (test : Bool) (object : Object) (found : Option Object) → IsSome found → IsSome (cond test (Some object) found)
there_behind true object found there = refl
there_behind false object found there = there

pub AreApart-append : (front back : Pairs) → AreApart front → AreApart back → ((id : ObjectId) → IsSome (find id_cmp id front) → find id_cmp id back ≡ None) → AreApart (front ++ back)
AreApart-append [] back a b once = b
AreApart-append (pair ∷ front) back a b once =
    let alone = once pair.0 (there_at_head (is_same pair.0 pair.0) pair.1 (find id_cmp pair.0 front) (is_same-itself pair.0)) in (
      find-append_all pair.0 front back ∙ ap (λ found. first_some found (find id_cmp pair.0 back)) a.0 ∙ alone,
      AreApart-append front back a.1 b (λ id there. once id (there_behind (is_same id pair.0) pair.1 (find id_cmp id front) there)),
    )

false_true : false ≡ true → ⊥
false_true is = cc

-- no step
pub Moves-none : (names : ObjectId → Type 0) (heap : HeapView) (pairs : Pairs) → Moves names heap heap pairs pairs
Moves-none names heap pairs = record {
  more = [];
  grown = sym (append-nil pairs);
  apart = tt;
  split = λ id. refl;
  named = λ id there. absurd (false_true there);
  room = omega arith;
  total = omega arith;
}

-- names that are among others
pub Moves-among : {names others : ObjectId → Type 0} {before after : HeapView} {had has : Pairs} → Moves names before after had has → ((id : ObjectId) → names id → others id) → Moves others before after had has
Moves-among m among = record {
  more = m.more;
  grown = m.grown;
  apart = m.apart;
  split = m.split;
  named = λ id there. among id (m.named id there);
  room = m.room;
  total = m.total;
}

-- one step after another
pub Moves-then : {names : ObjectId → Type 0} {before middle after : HeapView} {had then has : Pairs} → Moves names before middle had then → Moves names middle after then has → Moves names before after had has
Moves-then {names = names} {before = before} {middle = middle} {after = after} {had = had} m n =
    let once : (id : ObjectId) → IsSome (find id_cmp id m.more) → find id_cmp id n.more ≡ None =
    λ id there. IsSplit-once (get before.objects id) (get middle.objects id) (get after.objects id) (find id_cmp id m.more) (find id_cmp id n.more) (m.split id) (n.split id) there in
    let both : length (m.more ++ n.more) ≡ length m.more + length n.more = length-append m.more n.more in
    let low = m.room in
    let high = n.room in
    let one = m.total in
    let two = n.total in
    record {
      more = m.more ++ n.more;
      grown = n.grown ∙ ap (λ pairs. pairs ++ n.more) m.grown ∙ append_assoc had m.more n.more;
      apart = AreApart-append m.more n.more m.apart n.apart once;
      split = λ id.
          subst (λ found. IsSplit (get before.objects id) (get after.objects id) found) (sym (find-append_all id m.more n.more)) (IsSplit-then (get before.objects id) (get middle.objects id) (get after.objects id) (find id_cmp id m.more) (find id_cmp id n.more) (m.split id) (n.split id));
      named = λ id there.
          first_some-cases (find id_cmp id m.more) (find id_cmp id n.more) (names id) (m.named id) (n.named id) (subst IsSome (find-append_all id m.more n.more) there);
      room = omega arith;
      total = omega arith;
    }

-- what isn't there doesn't come back
pub Moves-gone : {names : ObjectId → Type 0} {before after : HeapView} {had has : Pairs} → Moves names before after had has → (id : ObjectId) → get before.objects id ≡ None → get after.objects id ≡ None
Moves-gone {before = before} {after = after} m id gone =
    IsSplit-gone (get before.objects id) (get after.objects id) (find id_cmp id m.more) (m.split id) gone

pub AreGone-then : {names : ObjectId → Type 0} {before after : HeapView} {had has : Pairs} → Moves names before after had has → (values : List Value) → AreGone values before.objects → AreGone values after.objects
AreGone-then m values gone id owns = Moves-gone m id (gone id owns)

pub positive : (objects : Objects) (id : ObjectId) (object : Object) (n : ℕ) → get objects id ≡ Some object → len objects ≡ n → 0 < n
positive objects id object zero has none =
    absurd (none-some object (sym (get-empty id_cmp id) ∙ ap (λ m. get m id) (sym (empty_of_len objects none)) ∙ has))
positive objects id object (suc n) has some = omega arith

IsSplit-one : (test : Bool) (whole rest : Option Object) (object : Object) → rest ≡ cond test None whole → (test ≡ true → whole ≡ Some object) → IsSplit whole rest (cond test (Some object) None)
IsSplit-one true whole rest object left has = (left, has refl)
IsSplit-one false whole rest object left has = left

one_named : (test : Bool) (object : Object) (P : Type 0) → (test ≡ true → P) → IsSome (cond test (Some object) None) → P
one_named true object P f there = f refl
one_named false object P f there = absurd (cc)

pub one_less : (test : Bool) (n m : ℕ) → test ≡ true → 0 < n → m ≡ cond test (n - 1) n → m + 1 ≡ n
one_less true n m is some less = omega arith
one_less false n m is some less = absurd (cc)

-- one object
pub Moves-one : (before after : HeapView) (had : Pairs) (id : ObjectId) (object : Object) → get before.objects id ≡ Some object → after.objects ≡ remove before.objects id → before.spare < after.spare → Moves (λ other. other ≡ id) before after had (had ++ (id, object) ∷ [])
Moves-one before after had id object has taken room =
    let left : (other : ObjectId) → get after.objects other ≡ cond (is_same other id) None (get before.objects other) =
    λ other. ap (λ m. get m other) taken ∙ get-remove id_cmp_total before.objects id other in
    let less : len after.objects + 1 ≡ len before.objects =
    one_less (is_some (get before.objects id)) (len before.objects) (len after.objects) (ap is_some has) (positive before.objects id object (len before.objects) has refl) (ap len taken ∙ len-remove id_cmp_total before.objects id) in
    record {
      more = (id, object) ∷ [];
      grown = refl;
      apart = (refl, tt);
      split = λ other.
          IsSplit-one (is_same other id) (get before.objects other) (get after.objects other) object (left other) (λ same. ap (get before.objects) (is_same-one other id same) ∙ has);
      named = λ other there.
          one_named (is_same other id) object (other ≡ id) (λ same. is_same-one other id same) there;
      room = omega arith;
      total = less;
    }

pub get-taken : (before after : HeapView) (id : ObjectId) → after.objects ≡ remove before.objects id → get after.objects id ≡ None
get-taken before after id taken =
    ap (λ m. get m id) taken
    ∙ get-remove id_cmp_total before.objects id id
    ∙ ap (λ test. cond test None (get before.objects id)) (is_same-itself id)

-- where a name stands
found_here : (test : Bool) (pair : ObjectId × Object) (pairs : Pairs) (id : ObjectId) (object : Object) (found : Option Object) → (test ≡ true → id ≡ pair.0) → ((index : ℕ) × (slice_get (pair ∷ pairs) (suc index) ≡ Some (id, object)) → (index : ℕ) × (slice_get (pair ∷ pairs) index ≡ Some (id, object))) → (found ≡ Some object → (index : ℕ) × (slice_get (pair ∷ pairs) (suc index) ≡ Some (id, object))) → cond test (Some pair.1) found ≡ Some object → (index : ℕ) × (slice_get (pair ∷ pairs) index ≡ Some (id, object))
found_here true pair pairs id object found one later behind is =
    let same : pair.1 ≡ object = same_Some pair.1 object is in
    let name : pair.0 ≡ id = sym (one refl) in
    (zero, ap Some (λ j. (name j, same j)))
found_here false pair pairs id object found one later behind is = later (behind is)

pub find_place : (pairs : Pairs) (id : ObjectId) (object : Object) → find id_cmp id pairs ≡ Some object → (index : ℕ) × (slice_get pairs index ≡ Some (id, object))
find_place [] id object is = absurd (none-some object is)
find_place (pair ∷ pairs) id object is =
    found_here (is_same id pair.0) pair pairs id object (find id_cmp id pairs) (is_same-one id pair.0) (λ at. (suc at.0, at.1)) (find_place pairs id object) is

slice_get-append_within : {X : Type 0} (xs ys : List X) (i : ℕ) → i < length xs → slice_get (xs ++ ys) i ≡ slice_get xs i
slice_get-append_within [] ys i low = absurd (omega arith)
slice_get-append_within (x ∷ xs) ys zero low = refl
slice_get-append_within (x ∷ xs) ys (suc i) low = slice_get-append_within xs ys i (omega arith)

-- the pairs that were moved before stay in their places
pub fields_at-then : {names : ObjectId → Type 0} {before after : HeapView} {had has : Pairs} → Moves names before after had has → (index : ℕ) → index < length had → fields_at has index ≡ fields_at had index
fields_at-then {had = had} m index low =
    ap (λ pairs. fields_at pairs index) m.grown
    ∙ ap (λ found. option_map_or (λ pair. pair.1.fields) found []) (slice_get-append_within had m.more index low)

pub Moves-longer : {names : ObjectId → Type 0} {before after : HeapView} {had has : Pairs} → Moves names before after had has → (index : ℕ) → index < length had → index < length has
Moves-longer {had = had} m index low =
    let size = ap length m.grown ∙ length-append had m.more in omega arith

pub fields_at-read : (pairs : Pairs) (index : ℕ) (pair : ObjectId × Object) → index < length pairs → pair ≡ get_or pairs index pair → fields_at pairs index ≡ pair.1.fields
fields_at-read pairs index pair low is =
    ap (λ found. option_map_or (λ pair. pair.1.fields) found []) (slice_get_read pairs (length pairs) index pair refl low is)

-- one more was looked at
pub HaveBeenLookedAt-next : {names : ObjectId → Type 0} {before after : HeapView} {had has : Pairs} (count : ℕ) → Moves names before after had has → HaveBeenLookedAt had count before.objects → count < length had → AreGone (fields_at had count) after.objects → HaveBeenLookedAt has (count + 1) after.objects
HaveBeenLookedAt-next {after = after} {had = had} {has = has} count m looked low here =
    below_more (λ index. AreGone (fields_at has index) after.objects) count (λ index less.
    subst (λ fields. AreGone fields after.objects) (sym (fields_at-then m index (omega (arith, less, low)))) (AreGone-then m (fields_at had index) (looked index less))) (subst (λ fields. AreGone fields after.objects) (sym (fields_at-then m count low)) here)

pub owns_none : (fields : List Value) (object : ObjectId) → fields ≡ [] → Contains fields (Own object) → ⊥
owns_none [] object is owns = absurd (omega (arith, owns.1))
owns_none (value ∷ fields) object is owns = absurd (cc)

split_there : (whole rest part : Option Object) → IsSplit whole rest part → IsSome part → IsSome whole
split_there whole rest None s there = absurd (cc)
split_there whole rest (Some object) s there = some_there whole object s.1

split_absent : (whole rest part : Option Object) → IsSplit whole rest part → IsSome part → rest ≡ None
split_absent whole rest None s there = absurd (cc)
split_absent whole rest (Some object) s there = s.0

split_taken : (whole rest part : Option Object) → IsSplit whole rest part → rest ≡ None → IsSome whole → IsSome part
split_taken None rest None s gone there = absurd (cc)
split_taken (Some object) rest None s gone there = absurd (none-some object (sym gone ∙ s))
split_taken whole rest (Some object) s gone there = refl

-- where the values and each object that was moved were looked at, no object of the tree is left
module _ (whole rest : Objects) (values : List Value) (pairs : Pairs) (split : SplitsOff whole rest pairs) (roots : AreGone values rest) (looked : HaveBeenLookedAt pairs (length pairs) rest) where
  gone_below : (above object : ObjectId) (found : Option Object) → find id_cmp above pairs ≡ found → get rest above ≡ None → Contains (fields_in whole above) (Own object) → get rest object ≡ None
  gone_below above object None is gone owns =
      let same = subst (λ part. IsSplit (get whole above) (get rest above) part) is (split above) in
      let none : fields_in whole above ≡ [] =
      ap (λ found. option_map_or (λ o. o.fields) found []) (sym same ∙ gone) in
      absurd (owns_none (fields_in whole above) object none owns)
  gone_below above object (Some had) is gone owns =
      let same = subst (λ part. IsSplit (get whole above) (get rest above) part) is (split above) in
      let fields : fields_in whole above ≡ had.fields = ap (λ found. option_map_or (λ o. o.fields) found []) same.1 in
      let at = find_place pairs above had is in
      let low : at.0 < length pairs = slice_get_within pairs at.0 (above, had) at.1 in
      let placed : fields_at pairs at.0 ≡ had.fields =
      ap (λ found. option_map_or (λ pair. pair.1.fields) found []) at.1 in
      looked at.0 low object (subst (λ values. Contains values (Own object)) (fields ∙ sym placed) owns)

  pub gone_tree : {object : ObjectId} → InTree (fields_in whole) values object → get rest object ≡ None
  gone_tree (owned object owns) = roots object owns
  gone_tree (below above object tree owns) = gone_below above object (find id_cmp above pairs) refl (gone_tree tree) owns

-- what was moved, where nothing was moved before
module _ {names : ObjectId → Type 0} {before after : HeapView} {has : Pairs} (m : Moves names before after [] has) where
  pub AreApart-moved : AreApart has
  AreApart-moved = subst AreApart (sym m.grown) m.apart

  pub SplitsOff-moved : SplitsOff before.objects after.objects has
  SplitsOff-moved = subst (SplitsOff before.objects after.objects) (sym m.grown) m.split

  pub length-moved : length has ≡ length m.more
  length-moved = ap length m.grown

  pub named_moved : (id : ObjectId) → IsSome (find id_cmp id has) → names id
  named_moved = subst (λ pairs. (id : ObjectId) → IsSome (find id_cmp id pairs) → names id) (sym m.grown) m.named

  pub Splits-moved : Splits before.objects after.objects (from_entries has)
  Splits-moved id =
      subst (IsSplit (get before.objects id) (get after.objects id)) (sym (get-from_entries id_cmp_total has id)) (SplitsOff-moved id)

pub HoldsTree-moved : {before after : HeapView} {has : Pairs} (values : List Value) → Moves (InTree (fields_in before.objects) values) before after [] has → AreGone values after.objects → HaveBeenLookedAt has (length has) after.objects → HoldsTree before.objects values (from_entries has)
HoldsTree-moved {before = before} {after = after} {has = has} values m roots looked id =
    let same : get (from_entries {R = id_cmp} has) id ≡ find id_cmp id has = get-from_entries id_cmp_total has id in
    let split = SplitsOff-moved m id in (
      λ there.
          let found = subst IsSome same there in
          (named_moved m id found, split_there (get before.objects id) (get after.objects id) (find id_cmp id has) split found),
      λ both.
          let gone = gone_tree before.objects after.objects values has (SplitsOff-moved m) roots looked both.0 in
          subst IsSome (sym same) (split_taken (get before.objects id) (get after.objects id) (find id_cmp id has) split gone both.1),
    )

-- what a field of a moved object owns is in the tree too
in_tree : {before after : HeapView} {has : Pairs} (values : List Value) → Moves (InTree (fields_in before.objects) values) before after [] has → (index : ℕ) (id : ObjectId) (found : Option (ObjectId × Object)) → slice_get has index ≡ found → Contains (fields_at has index) (Own id) → InTree (fields_in before.objects) values id
in_tree {has = has} values m index id None is owns =
    absurd (owns_none (fields_at has index) id (ap (λ found. option_map_or (λ pair. pair.1.fields) found []) is) owns)
in_tree {before = before} {after = after} {has = has} values m index id (Some pair) is owns =
    let found : find id_cmp pair.0 has ≡ Some pair.1 = find_at has index pair.0 pair.1 (AreApart-moved m) is in
    let split = subst (λ part. IsSplit (get before.objects pair.0) (get after.objects pair.0) part) found (SplitsOff-moved m pair.0) in
    let fields : fields_at has index ≡ fields_in before.objects pair.0 =
    ap (λ found. option_map_or (λ pair. pair.1.fields) found []) is
    ∙ sym (ap (λ found. option_map_or (λ o. o.fields) found []) split.1) in
    below pair.0 id (named_moved m pair.0 (some_there (find id_cmp pair.0 has) pair.1 found)) (subst (λ fields. Contains fields (Own id)) fields owns)

pub in_tree_at : {before after : HeapView} {has : Pairs} (values : List Value) → Moves (InTree (fields_in before.objects) values) before after [] has → (index : ℕ) (id : ObjectId) → Contains (fields_at has index) (Own id) → InTree (fields_in before.objects) values id
in_tree_at {has = has} values m index id owns = in_tree values m index id (slice_get has index) refl owns

-- one value more was looked at
pub AreGone-push : (values : List Value) (value : Value) (objects : Objects) → AreGone values objects → ((id : ObjectId) → value ≡ Own id → get objects id ≡ None) → AreGone (values ++ value ∷ []) objects
AreGone-push values value objects gone here id owns =
    elim (Contains-push_cases values value (Own id) owns) [ inl before ↦ gone id before | inr is ↦ here id is ]

-- the same with the value at the next index
pub AreGone-next : (values : List Value) (index : ℕ) (objects : Objects) → index < length values → AreGone (take index values) objects → ((id : ObjectId) → slice_get values index ≡ Some (Own id) → get objects id ≡ None) → AreGone (take (index + 1) values) objects
AreGone-next values index objects low gone here =
    let there : slice_get values index ≡ Some (get_or values index Nil) = slice_get-get_or values index Nil low in
    subst (λ front. AreGone front objects) (sym (take_more values index Nil low)) (AreGone-push (take index values) (get_or values index Nil) objects gone (λ id is. here id (there ∙ ap Some is)))

-- the object that it owns was moved
pub AreGone-moved : {names : ObjectId → Type 0} {before after : HeapView} {had has : Pairs} (values : List Value) (index : ℕ) (id : ObjectId) → Moves names before after had has → index < length values → AreGone (take index values) before.objects → slice_get values index ≡ Some (Own id) → get after.objects id ≡ None → AreGone (take (index + 1) values) after.objects
AreGone-moved {after = after} values index id m low gone own none =
    AreGone-next values index after.objects low (AreGone-then m (take index values) gone) (λ other is.
    let same : other ≡ id = cc in
    ap (get after.objects) same ∙ none)

-- it owns none
pub AreGone-other : (values : List Value) (index : ℕ) (objects : Objects) → index < length values → AreGone (take index values) objects → ((id : ObjectId) → slice_get values index ≡ Some (Own id) → ⊥) → AreGone (take (index + 1) values) objects
AreGone-other values index objects low gone none =
    AreGone-next values index objects low gone (λ id is. absurd (none id is))

pub AreGone-all : (values : List Value) (index : ℕ) (objects : Objects) → index ≡ length values → AreGone (take index values) objects → AreGone values objects
AreGone-all values index objects all gone =
    subst (λ front. AreGone front objects) (ap (λ n. take n values) all ∙ take-length values) gone

pub Contains-at : (values : List Value) (index : ℕ) (value : Value) → slice_get values index ≡ Some value → Contains values value
Contains-at values index value is =
    (index, slice_get_within values index value is, get_or_from_slice_get values index value value is)

-- an object of which the name is that of a value in a list
pub owned_name : (values : List Value) (index : ℕ) (id : ObjectId) → slice_get values index ≡ Some (Own id) → (other : ObjectId) → other ≡ id → Contains values (Own other)
owned_name values index id is other same =
    subst (λ name. Contains values (Own name)) (sym same) (Contains-at values index (Own id) is)

IsSplit-whole : (one other rest part : Option Object) → IsSplit one rest part → IsSplit other rest part → one ≡ other
IsSplit-whole one other rest None s t = sym s ∙ t
IsSplit-whole one other rest (Some object) s t = s.1 ∙ sym t.1

-- the same parts are those of one whole
pub SplitsOff-whole : (one other rest : Objects) (pairs : Pairs) → SplitsOff one rest pairs → SplitsOff other rest pairs → one ≡ other
SplitsOff-whole one other rest pairs s t =
    same_map id_cmp_total id_cmp_exact one other (λ id. IsSplit-whole (get one id) (get other id) (get rest id) (find id_cmp id pairs) (s id) (t id))
