-- The steps of the walk by which the code machine parts objects.
use Rattle.std.proofs.Common.{◌≡◌, ℕ, zero, suc, ◌+◌, ◌<◌, ◌≤◌, Bool, true, false, cond, Option, Some, None, Result, Ok, Err, List, [], ◌∷◌, ◌++◌, length, take, drop, get_or, refl, sym, ap, ◌∙◌, subst, arith, append_assoc, append-nil, add-one}
use Rattle.std.proofs.lemmas.List.{take_more, drop_more, take-append-drop, drop-append-le}
use Rattle.std.proofs.Math.ListN.{drop_of_length-le}
use Rattle.std.proofs.Math.Seq.{take-length}
use Rattle.std.specs.List.{slice_get}
use Rattle.std.specs.Option.{is_some}
use Rattle.std.proofs.lemmas.Option.{slice_get_within, slice_get-get_or, get_or_from_slice_get}
use Rattle.std.specs.FinMap.{empty, find, from_entries, get, insert, len, remove, get-empty, get-from_entries, get-insert, len-remove, same_map}
use Rattle.ink_base.specs.declared.ident.ObjectId.{ObjectId}
use Rattle.ink_base.specs.declared.value.Value.{Value}
use Rattle.ink_base.specs.declared.value.Value.TheVariants as v
use Rattle.ink_base.specs.Ident.{id_cmp}
use Rattle.ink_base.proofs.IdentLemmas.{id_cmp_total, id_cmp_exact}
use Rattle.ink_base.specs.declared.object.Object.{Object}
use Rattle.ink_base.specs.Objects.{Objects}
use Rattle.ink_code.specs.declared.wrong.Wrong.{Wrong}
use Rattle.ink_code.specs.declared.wrong.Wrong.TheVariants as wrong
use Rattle.ink_code.specs.Trees.{Parted, first_owned, none_owned, take_if, take_first, parted_by, parted_of}
use Rattle.ink_heap.specs.Pairs.{Pairs, AreApart}
use Rattle.ink_heap.specs.View.{HeapView}
use Rattle.ink_heap.proofs.ObjectsLemmas.{is_same, is_same-one}
use Rattle.ink_parcel.specs.declared.fault.MoveFault.{MoveFault}
use Rattle.ink_parcel.specs.declared.fault.MoveFault.TheVariants as move
use Rattle.ink_parcel.specs.Moves.{fields_at}
use Rattle.ink_parcel.specs.Walk.{walk, fields_of, with_pairs, GoesOn, IsWrong, Fails, IsUnparted, OnAbsent, values_in, with_values}
use Rattle.ink_parcel.proofs.MovesLemmas.{first_some, positive, one_less}

-- one step of the walk

nil_at : (most : ℕ) (parted : Parted) → parted_by most [] parted ≡ Ok parted
unfolding parted_by
nil_at zero parted = refl
nil_at (suc most) parted = refl

-- nothing is left to look at
pub walk-nil : (left taken : Objects) → walk [] left taken ≡ Ok (record { left = left; taken = taken })
walk-nil left taken = nil_at (len left) (record { left = left; taken = taken })

first_other : (value : Value) (rest : List Value) → ((id : ObjectId) → value ≡ v.Own id → ⊥) → first_owned (value ∷ rest) ≡ first_owned rest
first_other (v.Own id) rest none = absurd (none id refl)
first_other (v.Int number) rest none = refl
first_other (v.Bool truth) rest none = refl
first_other v.Nil rest none = refl
first_other (v.Txt text) rest none = refl
first_other (v.Bor id) rest none = refl
first_other (v.Proc process) rest none = refl
first_other (v.Future future) rest none = refl
first_other (v.Promise future) rest none = refl
first_other v.Empty rest none = refl

other_at : (most : ℕ) (values others : List Value) (parted : Parted) → first_owned values ≡ first_owned others → parted_by most values parted ≡ parted_by most others parted
unfolding parted_by
other_at zero values others parted same = ap (λ first. none_owned first parted) same
other_at (suc most) values others parted same =
    ap (λ first. take_first first parted (λ more parts. parted_by most more parts)) same

-- a value that owns nothing is passed by
pub walk-other : (value : Value) (rest : List Value) (left taken : Objects) → ((id : ObjectId) → value ≡ v.Own id → ⊥) → walk (value ∷ rest) left taken ≡ walk rest left taken
walk-other value rest left taken none =
    other_at (len left) (value ∷ rest) rest (record { left = left; taken = taken }) (first_other value rest none)

wrong_at : (most : ℕ) (id : ObjectId) (rest : List Value) (left taken : Objects) → get left id ≡ None → parted_by most (v.Own id ∷ rest) (record { left = left; taken = taken }) ≡ Err wrong.Object
unfolding parted_by
wrong_at zero id rest left taken absent = refl
wrong_at (suc most) id rest left taken absent =
    let parted : Parted = record { left = left; taken = taken } in
    ap (λ found. take_if found id rest parted (λ more parts. parted_by most more parts)) absent

-- an object that isn't there is wrong
pub walk-wrong : (id : ObjectId) (rest : List Value) (left taken : Objects) → get left id ≡ None → walk (v.Own id ∷ rest) left taken ≡ Err wrong.Object
walk-wrong id rest left taken absent = wrong_at (len left) id rest left taken absent

own_at : (most : ℕ) (id : ObjectId) (object : Object) (rest : List Value) (left taken : Objects) → get left id ≡ Some object → parted_by (suc most) (v.Own id ∷ rest) (record { left = left; taken = taken }) ≡ parted_by most (rest ++ object.fields) (record { left = remove left id; taken = insert taken id object })
unfolding parted_by
own_at most id object rest left taken has =
    let parted : Parted = record { left = left; taken = taken } in
    ap (λ found. take_if found id rest parted (λ more parts. parted_by most more parts)) has

size_after : (left : Objects) (id : ObjectId) (object : Object) → get left id ≡ Some object → len left ≡ suc (len (remove left id))
size_after left id object has =
    let less : len (remove left id) + 1 ≡ len left =
    one_less (is_some (get left id)) (len left) (len (remove left id)) (ap is_some has) (positive left id object (len left) has refl) (len-remove id_cmp_total left id) in
    omega arith

-- an object that is there is taken, and its fields are looked at last
pub walk-own : (id : ObjectId) (object : Object) (rest : List Value) (left taken : Objects) → get left id ≡ Some object → walk (v.Own id ∷ rest) left taken ≡ walk (rest ++ object.fields) (remove left id) (insert taken id object)
walk-own id object rest left taken has =
    ap (λ (most : ℕ). parted_by most (v.Own id ∷ rest) (record { left = left; taken = taken })) (size_after left id object has)
    ∙ own_at (len (remove left id)) id object rest left taken has

-- what was moved, one list behind another

fields_of-append : (front back : Pairs) → fields_of (front ++ back) ≡ fields_of front ++ fields_of back
fields_of-append [] back = refl
fields_of-append ((id, object) ∷ front) back =
    ap (λ fields. object.fields ++ fields) (fields_of-append front back)
    ∙ sym (append_assoc object.fields (fields_of front) (fields_of back))

with_pairs-append : (objects : Objects) (front back : Pairs) → with_pairs objects (front ++ back) ≡ with_pairs (with_pairs objects front) back
with_pairs-append objects [] back = refl
with_pairs-append objects ((id, object) ∷ front) back = with_pairs-append (insert objects id object) front back

put_before : (test : Bool) (object : Object) (front was : Option Object) → (test ≡ true → front ≡ None) → first_some front (cond test (Some object) was) ≡ first_some (cond test (Some object) front) was
put_before true object front was none = ap (λ found. first_some found (Some object)) (none refl)
put_before false object front was none = refl

get-with_pairs : (pairs : Pairs) (objects : Objects) (id : ObjectId) → AreApart pairs → get (with_pairs objects pairs) id ≡ first_some (find id_cmp id pairs) (get objects id)
get-with_pairs [] objects id apart = refl
get-with_pairs ((name, object) ∷ pairs) objects id apart =
    get-with_pairs pairs (insert objects name object) id apart.1
    ∙ ap (first_some (find id_cmp id pairs)) (get-insert id_cmp_total objects name object id)
    ∙ put_before (is_same id name) object (find id_cmp id pairs) (get objects id) (λ same.
    ap (λ other. find id_cmp other pairs) (is_same-one id name same) ∙ apart.0)

first_alone : (front : Option Object) → first_some front None ≡ front
first_alone None = refl
first_alone (Some object) = refl

-- pairs that are apart, put in from the first to the last
pub with_pairs-empty : (pairs : Pairs) → AreApart pairs → with_pairs empty pairs ≡ from_entries pairs
with_pairs-empty pairs apart =
    same_map id_cmp_total id_cmp_exact _ _ (λ id.
    get-with_pairs pairs empty id apart
    ∙ ap (first_some (find id_cmp id pairs)) (get-empty id_cmp id)
    ∙ first_alone (find id_cmp id pairs)
    ∙ sym (get-from_entries id_cmp_total pairs id))

-- the walk over some values

-- over none
pub GoesOn-none : (heap : HeapView) (pairs : Pairs) → GoesOn [] heap heap pairs pairs
GoesOn-none heap pairs = record {
  more = [];
  grown = sym (append-nil pairs);
  goes = λ rest taken. ap (λ values. walk values heap.objects taken) (sym (append-nil rest));
}

-- over one that owns nothing
pub GoesOn-other : (value : Value) (heap : HeapView) (pairs : Pairs) → ((id : ObjectId) → value ≡ v.Own id → ⊥) → GoesOn (value ∷ []) heap heap pairs pairs
GoesOn-other value heap pairs none = record {
  more = [];
  grown = sym (append-nil pairs);
  goes = λ rest taken.
      walk-other value rest heap.objects taken none ∙ ap (λ values. walk values heap.objects taken) (sym (append-nil rest));
}

-- over one of which the object was moved
pub GoesOn-one : (before after : HeapView) (had : Pairs) (id : ObjectId) (object : Object) → get before.objects id ≡ Some object → after.objects ≡ remove before.objects id → GoesOn (v.Own id ∷ []) before after had (had ++ (id, object) ∷ [])
GoesOn-one before after had id object has taken_out = record {
  more = (id, object) ∷ [];
  grown = refl;
  goes = λ rest taken.
      walk-own id object rest before.objects taken has
      ∙ ap (λ fields. walk (rest ++ fields) (remove before.objects id) (insert taken id object)) (sym (append-nil object.fields))
      ∙ ap (λ left. walk (rest ++ (object.fields ++ [])) left (insert taken id object)) (sym taken_out);
}

-- over some after others
pub GoesOn-then : {before middle after : HeapView} {had then has : Pairs} (xs ys : List Value) → GoesOn xs before middle had then → GoesOn ys middle after then has → GoesOn (xs ++ ys) before after had has
GoesOn-then {before = before} {middle = middle} {after = after} {had = had} xs ys m n = record {
  more = m.more ++ n.more;
  grown = n.grown ∙ ap (λ pairs. pairs ++ n.more) m.grown ∙ append_assoc had m.more n.more;
  goes = λ rest taken.
      ap (λ values. walk values before.objects taken) (append_assoc xs ys rest)
      ∙ m.goes (ys ++ rest) taken
      ∙ ap (λ values. walk values middle.objects (with_pairs taken m.more)) (append_assoc ys rest (fields_of m.more))
      ∙ n.goes (rest ++ fields_of m.more) (with_pairs taken m.more)
      ∙ ap (λ values. walk values after.objects (with_pairs (with_pairs taken m.more) n.more)) (append_assoc rest (fields_of m.more) (fields_of n.more) ∙ ap (λ fields. rest ++ fields) (sym (fields_of-append m.more n.more)))
      ∙ ap (walk (rest ++ fields_of (m.more ++ n.more)) after.objects) (sym (with_pairs-append taken m.more n.more));
}

-- over one more, at the next index
pub GoesOn-next : {before middle after : HeapView} {had then has : Pairs} (values : List Value) (index : ℕ) (value : Value) → slice_get values index ≡ Some value → GoesOn (take index values) before middle had then → GoesOn (value ∷ []) middle after then has → GoesOn (take (index + 1) values) before after had has
GoesOn-next {before = before} {after = after} {had = had} {has = has} values index value at m n =
    let low : index < length values = slice_get_within values index value at in
    let here : get_or values index value ≡ value = get_or_from_slice_get values index value value at in
    let front : take (index + 1) values ≡ take index values ++ value ∷ [] =
    take_more values index value low ∙ ap (λ (x : Value). take index values ++ x ∷ []) here in
    subst (λ all. GoesOn all before after had has) (sym front) (GoesOn-then (take index values) (value ∷ []) m n)

-- over one more that owns nothing
pub GoesOn-unowned : {before : HeapView} {had : Pairs} (values : List Value) (index : ℕ) (heap : HeapView) (pairs : Pairs) → index < length values → ((id : ObjectId) → slice_get values index ≡ Some (v.Own id) → ⊥) → GoesOn (take index values) before heap had pairs → GoesOn (take (index + 1) values) before heap had pairs
GoesOn-unowned values index heap pairs low none m =
    let value : Value = get_or values index v.Nil in
    let there : slice_get values index ≡ Some value = slice_get-get_or values index v.Nil low in
    GoesOn-next values index value there m (GoesOn-other value heap pairs (λ id is. none id (there ∙ ap Some is)))

pub GoesOn-all : {before after : HeapView} {had has : Pairs} (values : List Value) (index : ℕ) → index ≡ length values → GoesOn (take index values) before after had has → GoesOn values before after had has
GoesOn-all {before = before} {after = after} {had = had} {has = has} values index all m =
    subst (λ front. GoesOn front before after had has) (ap (λ n. take n values) all ∙ take-length values) m

parted_at : (values : List Value) (index : ℕ) (value : Value) → slice_get values index ≡ Some value → values ≡ take index values ++ (value ∷ drop (index + 1) values)
parted_at values index value at =
    let low : index < length values = slice_get_within values index value at in
    let here : get_or values index value ≡ value = get_or_from_slice_get values index value value at in
    sym (take-append-drop index values)
    ∙ ap (λ back. take index values ++ back) (drop_more values index value low ∙ ap (λ (x : Value). x ∷ drop (index + 1) values) here)

IsWrong-then : {before middle : HeapView} {had then : Pairs} (all xs behind : List Value) (y : Value) → all ≡ xs ++ (y ∷ behind) → GoesOn xs before middle had then → IsWrong (y ∷ []) middle → IsWrong all before
IsWrong-then {before = before} {middle = middle} all xs behind y is m wrong rest taken =
    ap (λ values. walk values before.objects taken) (ap (λ values. values ++ rest) is ∙ append_assoc xs (y ∷ behind) rest)
    ∙ m.goes ((y ∷ behind) ++ rest) taken
    ∙ ap (λ values. walk values middle.objects (with_pairs taken m.more)) (append_assoc (y ∷ behind) rest (fields_of m.more))
    ∙ wrong (behind ++ (rest ++ fields_of m.more)) (with_pairs taken m.more)

-- a fault at the value of this index is one of the walk over all
pub Fails-at : {before middle : HeapView} {had then : Pairs} (why : MoveFault) (values : List Value) (index : ℕ) (value : Value) → slice_get values index ≡ Some value → GoesOn (take index values) before middle had then → Fails why (value ∷ []) middle → Fails why values before
Fails-at move.OutOfMemory values index value at m walks = tt
Fails-at move.Absent values index value at m walks =
    IsWrong-then values (take index values) (drop (index + 1) values) value (parted_at values index value at) m walks

-- the walk over a whole tree

fields_behind : (pairs : Pairs) (index : ℕ) → index < length pairs → fields_of (drop index pairs) ≡ fields_at pairs index ++ fields_of (drop (suc index) pairs)
fields_behind [] index low = absurd (omega arith)
fields_behind ((id, object) ∷ pairs) zero low = refl
fields_behind ((id, object) ∷ pairs) (suc index) low = fields_behind pairs index (omega arith)

-- what is still to look at, and what was taken, of some pairs that were moved
abbrev pub walk_on : ℕ → Objects → Pairs → Result Parted Wrong
walk_on index left pairs = walk (fields_of (drop index pairs)) left (with_pairs empty pairs)

pub walk_on-roots : (values : List Value) {before after : HeapView} {has : Pairs} → GoesOn values before after [] has → parted_of values before.objects ≡ walk_on 0 after.objects has
unfolding parted_of
walk_on-roots values {before = before} {after = after} {has = has} m =
    ap (λ all. walk all before.objects empty) (sym (append-nil values))
    ∙ m.goes [] empty
    ∙ ap (λ pairs. walk (fields_of pairs) after.objects (with_pairs empty pairs)) (sym m.grown)

pub wrong-roots : (values : List Value) (before : HeapView) → IsWrong values before → parted_of values before.objects ≡ Err wrong.Object
unfolding parted_of
wrong-roots values before wrong =
    ap (λ all. walk all before.objects empty) (sym (append-nil values)) ∙ wrong [] empty

pub walk_on-next : {before after : HeapView} {had has : Pairs} (index : ℕ) → index < length had → GoesOn (fields_at had index) before after had has → walk_on index before.objects had ≡ walk_on (index + 1) after.objects has
walk_on-next {before = before} {after = after} {had = had} {has = has} index low m =
    let behind : fields_of (drop (suc index) had) ++ fields_of m.more ≡ fields_of (drop (suc index) has) =
    sym (fields_of-append (drop (suc index) had) m.more)
    ∙ ap fields_of (sym (drop-append-le (suc index) had m.more (omega arith)) ∙ ap (drop (suc index)) (sym m.grown)) in
    ap (λ values. walk values before.objects (with_pairs empty had)) (fields_behind had index low)
    ∙ m.goes (fields_of (drop (suc index) had)) (with_pairs empty had)
    ∙ ap (λ values. walk values after.objects (with_pairs (with_pairs empty had) m.more)) behind
    ∙ ap (walk (fields_of (drop (suc index) has)) after.objects) (sym (with_pairs-append empty had m.more) ∙ ap (with_pairs empty) (sym m.grown))
    ∙ ap (λ n. walk_on n after.objects has) (sym (add-one index))

pub wrong-next : (before : HeapView) (had : Pairs) (index : ℕ) → index < length had → IsWrong (fields_at had index) before → walk_on index before.objects had ≡ Err wrong.Object
wrong-next before had index low wrong =
    ap (λ values. walk values before.objects (with_pairs empty had)) (fields_behind had index low)
    ∙ wrong (fields_of (drop (suc index) had)) (with_pairs empty had)

-- a fault while the fields of one object were looked at
pub IsUnparted-next : (why : MoveFault) (values : List Value) (objects : Objects) (before : HeapView) (had : Pairs) (index : ℕ) → index < length had → parted_of values objects ≡ walk_on index before.objects had → Fails why (fields_at had index) before → IsUnparted why values objects
IsUnparted-next move.OutOfMemory values objects before had index low is fails = tt
IsUnparted-next move.Absent values objects before had index low is fails = is ∙ wrong-next before had index low fails

-- or the values
pub IsUnparted-roots : (why : MoveFault) (values : List Value) (before : HeapView) → Fails why values before → IsUnparted why values before.objects
IsUnparted-roots move.OutOfMemory values before fails = tt
IsUnparted-roots move.Absent values before fails = wrong-roots values before fails

-- all was looked at
pub IsParted-end : (values : List Value) (objects left : Objects) (pairs : Pairs) (index : ℕ) → length pairs ≤ index → AreApart pairs → parted_of values objects ≡ walk_on index left pairs → parted_of values objects ≡ Ok (record { left = left; taken = from_entries pairs })
IsParted-end values objects left pairs index all apart is =
    is
    ∙ ap (λ rest. walk (fields_of rest) left (with_pairs empty pairs)) (drop_of_length-le pairs all)
    ∙ walk-nil left (with_pairs empty pairs)
    ∙ ap (λ (taken : Objects). Ok (record { left = left; taken = taken })) (with_pairs-empty pairs apart)

pub OnAbsent-fault : (why : MoveFault) (values : List Value) (objects : Objects) → IsUnparted why values objects → OnAbsent (with_values why values) (parted_of values objects ≡ Err wrong.Object)
OnAbsent-fault move.OutOfMemory values objects parted = tt
OnAbsent-fault move.Absent values objects parted = parted

pub values_in-with : (why : MoveFault) (values : List Value) → values_in (with_values why values) ≡ values
values_in-with move.OutOfMemory values = refl
values_in-with move.Absent values = refl
