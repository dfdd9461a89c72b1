-- A walk down the objects that values own depends only on which objects they own, in which order.
use Rattle.std.proofs.Common.{◌≡◌, ℕ, zero, suc, ◌<◌, Bool, true, false, if◌then◌else◌, Option, Some, None, List, [], ◌∷◌, ◌++◌, length, reverse, drop, refl, sym, ap, ◌∙◌, arith, append_assoc, append-nil, length-append, get_or}
use Rattle.std.proofs.lemmas.List.{reverse-append, reverse-reverse}
use Rattle.std.proofs.Math.Seq.{drop-cons}
use Rattle.std.proofs.lemmas.Option.{none-some, slice_get-get_or, slice_get_within, get_or_from_slice_get}
use Rattle.std.specs.Option.{option_and_then, option_map_or}
use Rattle.ink_heap.proofs.ObjectsLemmas.{is_same}
use Rattle.std.specs.List.{slice_get}
use Rattle.std.specs.Ordering.{is_eq}
use Rattle.std.specs.FinMap.{get, len}
use Rattle.ink_base.specs.declared.ident.ObjectId.{ObjectId}
use Rattle.ink_base.specs.declared.value.Value.{Value}
use Rattle.ink_base.specs.declared.value.Value.TheVariants as v
use Rattle.ink_base.specs.Ident.{id_cmp}
use Rattle.ink_base.specs.declared.object.Object.{Object}
use Rattle.ink_base.specs.Objects.{Objects, fields_in}
use Rattle.ink_code.specs.Trees.{first_owned, meets_first, meets, is_under}
use Rattle.ink_parcel.specs.Owners.{owner_in, owners}

pub owners-append : (xs ys : List Value) → owners (xs ++ ys) ≡ owners xs ++ owners ys
owners-append [] ys = refl
owners-append (x ∷ xs) ys =
    ap (λ ids. owner_in x ++ ids) (owners-append xs ys) ∙ sym (append_assoc (owner_in x) (owners xs) (owners ys))

-- values that own these objects
abbrev pub all_own : List ObjectId → List Value
all_own [] = []
all_own (id ∷ ids) = v.Own id ∷ all_own ids

pub owners-all_own : (ids : List ObjectId) → owners (all_own ids) ≡ ids
owners-all_own [] = refl
owners-all_own (id ∷ ids) = ap (λ rest. id ∷ rest) (owners-all_own ids)

-- an object, and those that values behind it own
abbrev pub owners_first : Option (ObjectId × List Value) → List ObjectId
owners_first None = []
owners_first (Some (id, rest)) = id ∷ owners rest

pub owners-first_owned : (values : List Value) → owners values ≡ owners_first (first_owned values)
owners-first_owned [] = refl
owners-first_owned (v.Own id ∷ values) = refl
owners-first_owned (v.Int number ∷ values) = owners-first_owned values
owners-first_owned (v.Bool truth ∷ values) = owners-first_owned values
owners-first_owned (v.Nil ∷ values) = owners-first_owned values
owners-first_owned (v.Txt text ∷ values) = owners-first_owned values
owners-first_owned (v.Bor id ∷ values) = owners-first_owned values
owners-first_owned (v.Proc process ∷ values) = owners-first_owned values
owners-first_owned (v.Future future ∷ values) = owners-first_owned values
owners-first_owned (v.Promise future ∷ values) = owners-first_owned values
owners-first_owned (v.Empty ∷ values) = owners-first_owned values

meets_first-alike : (id : ObjectId) (objects : Objects) (further : List Value → Bool) → ((xs ys : List Value) → owners xs ≡ owners ys → further xs ≡ further ys) → (f g : Option (ObjectId × List Value)) → owners_first f ≡ owners_first g → meets_first id f objects further ≡ meets_first id g objects further
meets_first-alike id objects further alike None None same = refl
meets_first-alike id objects further alike None (Some (b, ys)) same = cc
meets_first-alike id objects further alike (Some (a, xs)) None same = cc
meets_first-alike id objects further alike (Some (a, xs)) (Some (b, ys)) same =
    let name : a ≡ b = cc in
    let rest : owners xs ≡ owners ys = cc in
    let fields = fields_in objects b in
    let both : owners (fields ++ xs) ≡ owners (fields ++ ys) =
    owners-append fields xs ∙ ap (λ ids. owners fields ++ ids) rest ∙ sym (owners-append fields ys) in
    ap (λ (n : ObjectId). if is_eq (id_cmp n id) then true else further (fields_in objects n ++ xs)) name
    ∙ ap (λ (t : Bool). if is_eq (id_cmp b id) then true else t) (alike (fields ++ xs) (fields ++ ys) both)

pub meets-alike : (most : ℕ) (id : ObjectId) (objects : Objects) (xs ys : List Value) → owners xs ≡ owners ys → meets most id xs objects ≡ meets most id ys objects
unfolding meets
meets-alike zero id objects xs ys same = refl
meets-alike (suc most) id objects xs ys same =
    meets_first-alike id objects (λ more. meets most id more objects) (meets-alike most id objects) (first_owned xs) (first_owned ys) (sym (owners-first_owned xs) ∙ same ∙ owners-first_owned ys)

-- what a walk comes to with these objects on its stack, of which the last is looked at first
abbrev pub met_from : ℕ → ObjectId → Objects → List ObjectId → Bool
met_from most id objects stack = meets most id (all_own (reverse stack)) objects

reverse_owner : (value : Value) → reverse (owner_in value) ≡ owner_in value
reverse_owner (v.Own id) = refl
reverse_owner (v.Int number) = refl
reverse_owner (v.Bool truth) = refl
reverse_owner v.Nil = refl
reverse_owner (v.Txt text) = refl
reverse_owner (v.Bor id) = refl
reverse_owner (v.Proc process) = refl
reverse_owner (v.Future future) = refl
reverse_owner (v.Promise future) = refl
reverse_owner v.Empty = refl

pub met_from-value : (id : ObjectId) (value : Value) (objects : Objects) (stack : List ObjectId) → stack ≡ owner_in value → is_under id value objects ≡ met_from (len objects) id objects stack
unfolding is_under
met_from-value id value objects stack is =
    let own : owners (value ∷ []) ≡ owner_in value = append-nil (owner_in value) in
    let back : owners (all_own (reverse stack)) ≡ owner_in value =
    owners-all_own (reverse stack) ∙ ap reverse is ∙ reverse_owner value in
    meets-alike (len objects) id objects (value ∷ []) (all_own (reverse stack)) (own ∙ sym back)

pub met_from-empty : (most : ℕ) (id : ObjectId) (objects : Objects) (stack : List ObjectId) → length stack ≡ 0 → met_from most id objects stack ≡ false
unfolding meets
met_from-empty zero id objects stack none = refl
met_from-empty (suc most) id objects [] none = refl
met_from-empty (suc most) id objects (next ∷ stack) none = absurd (omega arith)

pub met_from-zero : (most : ℕ) (id : ObjectId) (objects : Objects) (stack : List ObjectId) → most ≡ 0 → met_from most id objects stack ≡ false
unfolding meets
met_from-zero zero id objects stack none = refl
met_from-zero (suc most) id objects stack none = absurd (omega arith)

met_next : (most : ℕ) (id next : ObjectId) (objects : Objects) (stack : List ObjectId) → met_from (suc most) id objects (stack ++ next ∷ []) ≡ (if is_same next id then true else meets most id (fields_in objects next ++ all_own (reverse stack)) objects)
unfolding meets
met_next most id next objects stack =
    ap (λ ids. meets (suc most) id (all_own ids) objects) (reverse-append stack (next ∷ []))

-- the one that is looked at is the one that is looked for
pub met_from-here : (most : ℕ) (id next : ObjectId) (objects : Objects) (stack rest : List ObjectId) → 0 < most → stack ≡ rest ++ next ∷ [] → is_same next id ≡ true → met_from most id objects stack ≡ true
met_from-here zero id next objects stack rest some is here = absurd (omega arith)
met_from-here (suc most) id next objects stack rest some is here =
    ap (met_from (suc most) id objects) is
    ∙ met_next most id next objects rest
    ∙ ap (λ (same : Bool). if same then true else meets most id (fields_in objects next ++ all_own (reverse rest)) objects) here

-- it is another, and those that its fields own are put on the stack
pub met_from-on : (most less : ℕ) (id next : ObjectId) (objects : Objects) (stack rest more : List ObjectId) → most ≡ suc less → stack ≡ rest ++ next ∷ [] → is_same next id ≡ false → more ≡ rest ++ reverse (owners (fields_in objects next)) → met_from most id objects stack ≡ met_from less id objects more
met_from-on most less id next objects stack rest more one is other put =
    let fields = fields_in objects next in
    let turned : reverse more ≡ owners fields ++ reverse rest =
    ap reverse put
    ∙ reverse-append rest (reverse (owners fields))
    ∙ ap (λ ids. ids ++ reverse rest) (reverse-reverse (owners fields)) in
    let all : owners (fields ++ all_own (reverse rest)) ≡ owners (all_own (reverse more)) =
    owners-append fields (all_own (reverse rest))
    ∙ ap (λ ids. owners fields ++ ids) (owners-all_own (reverse rest))
    ∙ sym (owners-all_own (reverse more) ∙ turned) in
    ap (λ (n : ℕ). met_from n id objects stack) one
    ∙ ap (met_from (suc less) id objects) is
    ∙ met_next less id next objects rest
    ∙ ap (λ (same : Bool). if same then true else meets less id (fields_in objects next ++ all_own (reverse rest)) objects) other
    ∙ meets-alike less id objects (fields ++ all_own (reverse rest)) (all_own (reverse more)) all

-- one field more, from the last to the first
pub owners-field : (fields : List Value) (index next : ℕ) (value : Value) (before was is : List ObjectId) → next ≡ suc index → slice_get fields index ≡ Some value → was ≡ before ++ reverse (owners (drop next fields)) → is ≡ was ++ owner_in value → is ≡ before ++ reverse (owners (drop index fields))
owners-field fields index next value before was is one at had put =
    let low : index < length fields = slice_get_within fields index value at in
    let here : get_or fields index value ≡ value = get_or_from_slice_get fields index value value at in
    let behind : List ObjectId = reverse (owners (drop (suc index) fields)) in
    let split : drop index fields ≡ value ∷ drop (suc index) fields =
    drop-cons fields index value low ∙ ap (λ (x : Value). x ∷ drop (suc index) fields) here in
    let owns : reverse (owners (drop index fields)) ≡ behind ++ owner_in value =
    ap (λ values. reverse (owners values)) split
    ∙ reverse-append (owner_in value) (owners (drop (suc index) fields))
    ∙ ap (λ ids. behind ++ ids) (reverse_owner value) in
    put
    ∙ ap (λ ids. ids ++ owner_in value) (had ∙ ap (λ (n : ℕ). before ++ reverse (owners (drop n fields))) one)
    ∙ append_assoc before behind (owner_in value)
    ∙ ap (λ ids. before ++ ids) (sym owns)

read_found : (found : Option Object) (index : ℕ) → option_and_then (λ object. slice_get object.fields index) found ≡ slice_get (option_map_or (λ object. object.fields) found []) index
read_found None index = refl
read_found (Some object) index = refl

-- what stands in a field of an object
pub field_read : (objects : Objects) (id : ObjectId) (index : ℕ) → option_and_then (λ object. slice_get object.fields index) (get objects id) ≡ slice_get (fields_in objects id) index
field_read objects id index = read_found (get objects id) index

pub field_there : (objects : Objects) (id : ObjectId) (index : ℕ) → None ≡ option_and_then (λ object. slice_get object.fields index) (get objects id) → index < length (fields_in objects id) → ⊥
field_there objects id index is low =
    let fields = fields_in objects id in
    none-some (get_or fields index v.Nil) (is ∙ field_read objects id index ∙ slice_get-get_or fields index v.Nil low)

-- a stack from which one was taken was not empty
pub not_empty : (stack rest : List ObjectId) (next : ObjectId) → stack ≡ rest ++ next ∷ [] → length stack ≡ 0 → ⊥
not_empty stack rest next is none =
    let size = ap length is ∙ length-append rest (next ∷ []) in omega arith
