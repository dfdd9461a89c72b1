-- Tables of terms that grow.
use Rattle.std.proofs.Common.{◌≡◌, ℕ, zero, suc, ◌+◌, ◌-◌, ◌<◌, ◌≤◌, ◌⊎◌, inl, inr, List, [], ◌∷◌, ◌++◌, length, take, drop, Bool, true, false, if◌then◌else◌, Option, Some, None, refl, sym, ap, subst, ◌∙◌, arith, length-append, length-take, append_assoc, add-zero, zero-add, get_or}
use Rattle.std.specs.Prelude.{slice_get, IfSome, unwrap_or, position}
use Rattle.std.specs.List.{list_any}
use Rattle.std.specs.Option.{option_map}
use Rattle.std.proofs.lemmas.List.{append-nil, take-append-le, take-append-drop, take_at, take_all}
use Rattle.std.proofs.lemmas.List.Quantifiers.{position-Some}
use Rattle.std.proofs.lemmas.Map.Keys.{any_passes_from_place}
use Rattle.std.proofs.lemmas.Option.{slice_get_within, slice_get-get_or, slice_get_past}
use Rattle.std.proofs.lemmas.Bool.{cases_lt}
use Rattle.ink_types.specs.declared.term.Term.{Term}
use Rattle.ink_types.specs.declared.term.Term.TheVariants as term
use Rattle.ink_types.specs.declared.term.ArgumentList.{ArgumentList}
use Rattle.ink_types.specs.declared.term.ArgumentList.TheVariants as list
use Rattle.ink_types.specs.declared.term.Key.{Key}
use Rattle.ink_types.specs.declared.term.Key.TheVariants as key
use Rattle.ink_types.specs.TypeTerms.{Of, Ref, Mut, Uni, NoTerms, AndTerm}
use Rattle.ink_types.specs.Table.{Item, IsType, IsList, TypeTable, type_or, list_or, type_in, list_in, grown_type, grown, onto, items_of, HoldsType, HoldsList, TermFits, Fits, list_height, TermIsBehind, IsBehind, IsTable, Keeps, first_kinds}

-- elements of longer and shorter lists
pub get_left : {A : Type 0} (xs ys : List A) (i : ℕ) → i < length xs → slice_get (xs ++ ys) i ≡ slice_get xs i
get_left [] ys i h = absurd (omega arith)
get_left (x ∷ xs) ys zero h = refl
get_left (x ∷ xs) ys (suc i) h = get_left xs ys i (omega arith)

pub get_more : {A : Type 0} (xs ys : List A) (i : ℕ) (x : A) → slice_get xs i ≡ Some x → slice_get (xs ++ ys) i ≡ Some x
get_more xs ys i x h = get_left xs ys i (slice_get_within xs i x h) ∙ h

get_seam : {A : Type 0} (xs ys : List A) (y : A) → slice_get (xs ++ y ∷ ys) (length xs) ≡ Some y
get_seam [] ys y = refl
get_seam (x ∷ xs) ys y = get_seam xs ys y

pub get_taken : {A : Type 0} (xs : List A) (n i : ℕ) → i < n → slice_get (take n xs) i ≡ slice_get xs i
get_taken [] zero i h = refl
get_taken [] (suc n) i h = refl
get_taken (x ∷ xs) zero i h = absurd (omega arith)
get_taken (x ∷ xs) (suc n) zero h = refl
get_taken (x ∷ xs) (suc n) (suc i) h = get_taken xs n i (omega arith)

pub get_past_taken : {A : Type 0} (xs : List A) (n i : ℕ) → n ≤ i → slice_get (take n xs) i ≡ None
get_past_taken xs n i h = slice_get_past (take n xs) i (omega (arith, length-take n xs))

get_from_taken : {A : Type 0} (xs : List A) (n i : ℕ) (x : A) → slice_get (take n xs) i ≡ Some x → (i < n) × (slice_get xs i ≡ Some x)
get_from_taken [] zero i x h = cc
get_from_taken [] (suc n) i x h = cc
get_from_taken (y ∷ xs) zero i x h = cc
get_from_taken (y ∷ xs) (suc n) zero x h = (omega arith, h)
get_from_taken (y ∷ xs) (suc n) (suc i) x h = let p = get_from_taken xs n i x h in (omega (arith, p.0), p.1)

last_or : {A : Type 0} (xs : List A) (x : A) (i : ℕ) (y : A) → slice_get (xs ++ x ∷ []) i ≡ Some y → (slice_get xs i ≡ Some y) ⊎ ((i ≡ length xs) × (y ≡ x))
last_or [] x zero y e = inr (refl, cc)
last_or [] x (suc i) y e = cc
last_or (z ∷ xs) x zero y e = inl e
last_or (z ∷ xs) x (suc i) y e = elim (last_or xs x i y e) [ inl g ↦ inl g | inr p ↦ inr (ap suc p.0, p.1) ]

-- tables that tell the same below a number
list_agree : (n : ℕ) (xs ys : List Item) (l : ArgumentList) → ((i : ℕ) → i < n → slice_get ys i ≡ slice_get xs i) → list_height l ≤ n → list_in ys l ≡ list_in xs l
list_agree n xs ys list.Empty same h = refl
list_agree n xs ys (list.Cell i) same h = ap list_or (same i (omega arith))

type_agree : (n : ℕ) (xs ys : List Item) (t : ℕ) → ((i : ℕ) → i < n → slice_get ys i ≡ slice_get xs i) → t < n → type_in ys t ≡ type_in xs t
type_agree n xs ys t same h = ap type_or (same t h)

term_agrees : (n : ℕ) (xs ys : List Item) (t : Term) → ((i : ℕ) → i < n → slice_get ys i ≡ slice_get xs i) → TermIsBehind n t → grown_type ys t ≡ grown_type xs t
term_agrees n xs ys (term.Parameter m) same h = refl
term_agrees n xs ys (term.Of k l) same h = ap (Of k) (list_agree n xs ys l same h)
term_agrees n xs ys (term.Ref t) same h = ap Ref (type_agree n xs ys t same h)
term_agrees n xs ys (term.Mut t) same h = ap Mut (type_agree n xs ys t same h)
term_agrees n xs ys (term.Uni t) same h = ap Uni (type_agree n xs ys t same h)

grown_agrees : (n : ℕ) (xs ys : List Item) (k : Key) → ((i : ℕ) → i < n → slice_get ys i ≡ slice_get xs i) → IsBehind n k → grown ys k ≡ grown xs k
grown_agrees n xs ys (key.Term t) same h = ap IsType (term_agrees n xs ys t same h)
grown_agrees n xs ys (key.Arguments a l) same h =
    ap (λ t. IsList (AndTerm t (list_in ys l))) (type_agree n xs ys a same h.0) ∙ ap (λ ts. IsList (AndTerm (type_in xs a) ts)) (list_agree n xs ys l same h.1)

-- the items of a table with one more key
onto_push : (xs : List Item) (ks : List Key) (k : Key) → onto xs (ks ++ k ∷ []) ≡ onto xs ks ++ grown (onto xs ks) k ∷ []
onto_push xs [] k = refl
onto_push xs (j ∷ ks) k = onto_push (xs ++ grown xs j ∷ []) ks k

pub items_push : (ks : List Key) (k : Key) → items_of (ks ++ k ∷ []) ≡ items_of ks ++ grown (items_of ks) k ∷ []
unfolding items_of
items_push ks k = onto_push [] ks k

onto_length : (xs : List Item) (ks : List Key) → length (onto xs ks) ≡ length xs + length ks
onto_length xs [] = omega arith
onto_length xs (k ∷ ks) = omega (arith, onto_length (xs ++ grown xs k ∷ []) ks, length-append xs (grown xs k ∷ []))

pub items_length : (ks : List Key) → length (items_of ks) ≡ length ks
unfolding items_of
items_length ks = omega (arith, onto_length [] ks)

onto_left : (xs : List Item) (ks : List Key) (i : ℕ) → i < length xs → slice_get (onto xs ks) i ≡ slice_get xs i
onto_left xs [] i h = refl
onto_left xs (k ∷ ks) i h = onto_left (xs ++ grown xs k ∷ []) ks i (omega (arith, length-append xs (grown xs k ∷ []))) ∙ get_left xs (grown xs k ∷ []) i h

onto_at : (xs : List Item) (ks : List Key) (i : ℕ) (k : Key) → slice_get ks i ≡ Some k → IsBehind (length xs + i) k → slice_get (onto xs ks) (length xs + i) ≡ Some (grown (onto xs ks) k)
onto_at xs [] i k e h = cc
onto_at xs (j ∷ ks) zero k e h =
    let jk : j ≡ k = cc in
    let here : IsBehind (length xs) k = rw add-zero at h in
    let longer : length xs < length (xs ++ grown xs j ∷ []) = omega (arith, length-append xs (grown xs j ∷ [])) in
    ap (λ n. slice_get (onto (xs ++ grown xs j ∷ []) ks) n) (add-zero (length xs))
    ∙ onto_left (xs ++ grown xs j ∷ []) ks (length xs) longer
    ∙ get_seam xs [] (grown xs j)
    ∙ ap (λ m. Some (grown xs m)) jk
    ∙ ap Some (sym (grown_agrees (length xs) xs (onto (xs ++ grown xs j ∷ []) ks) k
    (λ m l. onto_left (xs ++ grown xs j ∷ []) ks m (omega (arith, longer)) ∙ get_left xs (grown xs j ∷ []) m l) here))
onto_at xs (j ∷ ks) (suc i) k e h =
    let more : length (xs ++ grown xs j ∷ []) + i ≡ length xs + suc i = omega (arith, length-append xs (grown xs j ∷ [])) in
    ap (λ n. slice_get (onto (xs ++ grown xs j ∷ []) ks) n) (sym more) ∙ onto_at (xs ++ grown xs j ∷ []) ks i k e (subst (λ n. IsBehind n k) (sym more) h)

-- what stands at the number of a key
pub at_key : (ks : List Key) (i : ℕ) (k : Key) → IsTable ks → slice_get ks i ≡ Some k → slice_get (items_of ks) i ≡ Some (grown (items_of ks) k)
unfolding items_of
at_key ks i k h e =
    ap (λ n. slice_get (onto [] ks) n) (sym (zero-add i)) ∙ onto_at [] ks i k e (subst (λ n. IsBehind n k) (sym (zero-add i)) (h.behind i k e))

-- the key of what stands at a number
pub key_at : (ks : List Key) (i : ℕ) (x : Item) → IsTable ks → slice_get (items_of ks) i ≡ Some x → (k : Key) × (slice_get ks i ≡ Some k) × (grown (items_of ks) k ≡ x)
key_at ks i x h e =
    let within : i < length ks = omega (arith, slice_get_within (items_of ks) i x e, items_length ks) in
    let k = get_or ks i (key.Term (term.Parameter 0)) in
    let found : slice_get ks i ≡ Some k = slice_get-get_or ks i (key.Term (term.Parameter 0)) within in
    (k, found, cc (at_key ks i k h found, e))

grown_cell : (xs : List Item) (k : Key) → grown xs k ≡ IsList NoTerms → ⊥
grown_cell xs (key.Term t) e = cc
grown_cell xs (key.Arguments a l) e = cc

no_empty : (ks : List Key) (i : ℕ) → IsTable ks → slice_get (items_of ks) i ≡ Some (IsList NoTerms) → ⊥
no_empty ks i h e = let p = key_at ks i (IsList NoTerms) h e in grown_cell (items_of ks) p.0 p.2

-- two keys of one item are one
pub same_type_number : (ks : List Key) (t u : ℕ) → IsTable ks → HoldsType (items_of ks) t → HoldsType (items_of ks) u → type_in (items_of ks) t ≡ type_in (items_of ks) u → t ≡ u
same_type_number ks t u h a b e = h.apart t u (IsType (type_in (items_of ks) u)) (a ∙ ap (λ x. Some (IsType x)) e) b

same_list : (ks : List Key) (l m : ArgumentList) → IsTable ks → HoldsList (items_of ks) l → HoldsList (items_of ks) m → list_in (items_of ks) l ≡ list_in (items_of ks) m → l ≡ m
same_list ks list.Empty list.Empty h a b e = refl
same_list ks list.Empty (list.Cell j) h a b e = absurd (no_empty ks j h (b ∙ ap (λ x. Some (IsList x)) (sym e)))
same_list ks (list.Cell i) list.Empty h a b e = absurd (no_empty ks i h (a ∙ ap (λ x. Some (IsList x)) e))
same_list ks (list.Cell i) (list.Cell j) h a b e = ap list.Cell (h.apart i j (IsList (list_in (items_of ks) (list.Cell j))) (a ∙ ap (λ x. Some (IsList x)) e) b)

same_term : (ks : List Key) (t u : Term) → IsTable ks → TermFits (items_of ks) t → TermFits (items_of ks) u → grown_type (items_of ks) t ≡ grown_type (items_of ks) u → t ≡ u
same_term ks (term.Parameter m) (term.Parameter n) h a b e = cc
same_term ks (term.Of k l) (term.Of j m) h a b e = let q : l ≡ m = same_list ks l m h a b cc in cc
same_term ks (term.Ref t) (term.Ref u) h a b e = ap term.Ref (same_type_number ks t u h a b cc)
same_term ks (term.Mut t) (term.Mut u) h a b e = ap term.Mut (same_type_number ks t u h a b cc)
same_term ks (term.Uni t) (term.Uni u) h a b e = ap term.Uni (same_type_number ks t u h a b cc)
same_term ks _ _ h a b e = cc

pub same_key : (ks : List Key) (j k : Key) → IsTable ks → Fits (items_of ks) j → Fits (items_of ks) k → grown (items_of ks) j ≡ grown (items_of ks) k → j ≡ k
same_key ks (key.Term t) (key.Term u) h a b e = ap key.Term (same_term ks t u h a b cc)
same_key ks (key.Arguments t l) (key.Arguments u m) h a b e =
    let p : t ≡ u = same_type_number ks t u h a.0 b.0 cc in
    let q : l ≡ m = same_list ks l m h a.1 b.1 cc in
    cc
same_key ks _ _ h a b e = cc

-- parts that stand in a table stand in a longer one
type_held : (xs ys : List Item) (t : ℕ) → HoldsType xs t → HoldsType (xs ++ ys) t
type_held xs ys t h =
    let same : slice_get (xs ++ ys) t ≡ slice_get xs t = get_left xs ys t (slice_get_within xs t (IsType (type_in xs t)) h) in
    same ∙ h ∙ ap (λ o. Some (IsType (type_or o))) (sym same)

list_held : (xs ys : List Item) (l : ArgumentList) → HoldsList xs l → HoldsList (xs ++ ys) l
list_held xs ys list.Empty h = tt
list_held xs ys (list.Cell n) h =
    let same : slice_get (xs ++ ys) n ≡ slice_get xs n = get_left xs ys n (slice_get_within xs n (IsList (list_in xs (list.Cell n))) h) in
    same ∙ h ∙ ap (λ o. Some (IsList (list_or o))) (sym same)

term_held : (xs ys : List Item) (t : Term) → TermFits xs t → TermFits (xs ++ ys) t
term_held xs ys (term.Parameter n) h = tt
term_held xs ys (term.Of k l) h = list_held xs ys l h
term_held xs ys (term.Ref t) h = type_held xs ys t h
term_held xs ys (term.Mut t) h = type_held xs ys t h
term_held xs ys (term.Uni t) h = type_held xs ys t h

held : (xs ys : List Item) (k : Key) → Fits xs k → Fits (xs ++ ys) k
held xs ys (key.Term t) h = term_held xs ys t h
held xs ys (key.Arguments a l) h = (type_held xs ys a h.0, list_held xs ys l h.1)

-- parts that stand in a table have its numbers
list_behind : (xs : List Item) (l : ArgumentList) → HoldsList xs l → list_height l ≤ length xs
list_behind xs list.Empty h = omega arith
list_behind xs (list.Cell n) h = omega (arith, slice_get_within xs n (IsList (list_in xs (list.Cell n))) h)

term_behind : (xs : List Item) (t : Term) → TermFits xs t → TermIsBehind (length xs) t
term_behind xs (term.Parameter n) h = tt
term_behind xs (term.Of k l) h = list_behind xs l h
term_behind xs (term.Ref t) h = slice_get_within xs t (IsType (type_in xs t)) h
term_behind xs (term.Mut t) h = slice_get_within xs t (IsType (type_in xs t)) h
term_behind xs (term.Uni t) h = slice_get_within xs t (IsType (type_in xs t)) h

fit_behind : (xs : List Item) (k : Key) → Fits xs k → IsBehind (length xs) k
fit_behind xs (key.Term t) h = term_behind xs t h
fit_behind xs (key.Arguments a l) h = (slice_get_within xs a (IsType (type_in xs a)) h.0, list_behind xs l h.1)

-- a key that a table lacks has an item that it lacks
new_item : (ks : List Key) (k : Key) (i : ℕ) → IsTable ks → Fits (items_of ks) k → ((j : ℕ) → slice_get ks j ≡ Some k → ⊥) → slice_get (items_of ks) i ≡ Some (grown (items_of ks) k) → ⊥
new_item ks k i h f new e =
    let p = key_at ks i (grown (items_of ks) k) h e in
    new i (p.1 ∙ ap Some (same_key ks p.0 k h (h.fits i p.0 p.1) f p.2))

-- a new key at the end
pub push_table : (ks : List Key) (k : Key) → IsTable ks → length ks < 4294967294 → Fits (items_of ks) k → ((j : ℕ) → slice_get ks j ≡ Some k → ⊥) → IsTable (ks ++ k ∷ [])
push_table ks k h few f new = record {
  behind = λ i j e. elim (last_or ks k i j e) [
    | inl g ↦ h.behind i j g
    | inr p ↦ subst (λ n. IsBehind n j) (sym p.0) (subst (λ x. IsBehind (length ks) x) (sym p.1) (subst (λ n. IsBehind n k) (items_length ks) (fit_behind (items_of ks) k f)))
  ];
  fits = λ i j e. subst (λ xs. Fits xs j) (sym (items_push ks k)) (elim (last_or ks k i j e) [
    | inl g ↦ held (items_of ks) (grown (items_of ks) k ∷ []) j (h.fits i j g)
    | inr p ↦ subst (λ x. Fits (items_of ks ++ grown (items_of ks) k ∷ []) x) (sym p.1) (held (items_of ks) (grown (items_of ks) k ∷ []) k f)
  ]);
  apart = λ i j x a b. pushed_apart ks k i j x h f new (subst (λ xs. slice_get xs i ≡ Some x) (items_push ks k) a) (subst (λ xs. slice_get xs j ≡ Some x) (items_push ks k) b);
  few = omega (arith, length-append ks (k ∷ []));
}
  where
    pushed_apart : (ks : List Key) (k : Key) (i j : ℕ) (x : Item) → IsTable ks → Fits (items_of ks) k → ((m : ℕ) → slice_get ks m ≡ Some k → ⊥) →
        slice_get (items_of ks ++ grown (items_of ks) k ∷ []) i ≡ Some x → slice_get (items_of ks ++ grown (items_of ks) k ∷ []) j ≡ Some x → i ≡ j
    pushed_apart ks k i j x h f new a b =
        let g = grown (items_of ks) k in
        elim (last_or (items_of ks) g i x a) [
          | inl p ↦ elim (last_or (items_of ks) g j x b) [
            | inl q ↦ h.apart i j x p q
            | inr q ↦ absurd (new_item ks k i h f new (p ∙ ap Some q.1))
          ]
          | inr p ↦ elim (last_or (items_of ks) g j x b) [
            | inl q ↦ absurd (new_item ks k j h f new (q ∙ ap Some p.1))
            | inr q ↦ p.0 ∙ sym q.0
          ]
        ]

pub push_keeps : (ks : List Key) (k : Key) (kinds : List Bool) → Keeps (record { items = items_of ks; kinds = kinds }) (record { items = items_of (ks ++ k ∷ []); kinds = kinds })
push_keeps ks k kinds =
    let g = grown (items_of ks) k ∷ [] in
    subst (λ xs. Keeps (record { items = items_of ks; kinds = kinds }) (record { items = xs; kinds = kinds })) (sym (items_push ks k))
    (record { kinds = refl; more = omega (arith, length-append (items_of ks) g); same = λ i x e. get_more (items_of ks) g i x e; before = λ n l. take-append-le n (items_of ks) g l })

pub push_at : (ks : List Key) (k : Key) → slice_get (items_of (ks ++ k ∷ [])) (length ks) ≡ Some (grown (items_of ks) k)
push_at ks k =
    ap (λ xs. slice_get xs (length ks)) (items_push ks k)
    ∙ ap (λ n. slice_get (items_of ks ++ grown (items_of ks) k ∷ []) n) (sym (items_length ks)) ∙ get_seam (items_of ks) [] (grown (items_of ks) k)

pub no_items : items_of [] ≡ []
unfolding items_of
no_items = refl

none_at : (i : ℕ) (x : Item) → slice_get (items_of []) i ≡ Some x → ⊥
none_at i x a = let e : slice_get [] i ≡ Some x = subst (λ xs. slice_get xs i ≡ Some x) no_items a in cc

pub empty_table : (ks : List Key) → ks ≡ [] → IsTable ks
empty_table ks e =
    rw e (record {
      behind = λ i k h. cc;
      fits = λ i k h. cc;
      apart = λ i j x a b. absurd (none_at i x a);
      few = omega arith;
    })

-- a table with its last keys taken away
onto_append : (xs : List Item) (js ks : List Key) → onto xs (js ++ ks) ≡ onto (onto xs js) ks
onto_append xs [] ks = refl
onto_append xs (j ∷ js) ks = onto_append (xs ++ grown xs j ∷ []) js ks

onto_split : (xs : List Item) (ks : List Key) → (ys : List Item) × (onto xs ks ≡ xs ++ ys)
onto_split xs [] = ([], sym (append-nil xs))
onto_split xs (k ∷ ks) =
    let p = onto_split (xs ++ grown xs k ∷ []) ks in
    (grown xs k ∷ p.0, p.1 ∙ append_assoc xs (grown xs k ∷ []) p.0)

items_take_few : (ks : List Key) (n : ℕ) → n ≤ length ks → items_of (take n ks) ≡ take n (items_of ks)
unfolding items_of
items_take_few ks n h =
    let ys = items_of (take n ks) in
    let p = onto_split ys (drop n ks) in
    let whole : items_of ks ≡ ys ++ p.0 = ap (onto []) (sym (take-append-drop n ks)) ∙ onto_append [] (take n ks) (drop n ks) ∙ p.1 in
    let count : length ys ≡ n = omega (arith, items_length (take n ks), length-take n ks) in
    sym (ap (take n) whole ∙ take_at ys p.0 n count)

pub items_take : (ks : List Key) (n : ℕ) → items_of (take n ks) ≡ take n (items_of ks)
items_take ks n =
    elim (cases_lt n (length ks)) [
      | inl h ↦ items_take_few ks n (omega arith)
      | inr h ↦ ap items_of (take_all n ks h) ∙ sym (take_all n (items_of ks) (omega (arith, items_length ks)))
    ]

behind_less : (m n : ℕ) (k : Key) → m ≤ n → IsBehind m k → IsBehind n k
behind_less m n (key.Term (term.Parameter i)) l h = tt
behind_less m n (key.Term (term.Of i a)) l h = omega arith
behind_less m n (key.Term (term.Ref t)) l h = omega arith
behind_less m n (key.Term (term.Mut t)) l h = omega arith
behind_less m n (key.Term (term.Uni t)) l h = omega arith
behind_less m n (key.Arguments a i) l h = (omega (arith, h.0), omega (arith, h.1))

type_taken : (xs : List Item) (n t : ℕ) → t < n → HoldsType xs t → HoldsType (take n xs) t
type_taken xs n t l h =
    let same : slice_get (take n xs) t ≡ slice_get xs t = get_taken xs n t l in
    same ∙ h ∙ ap (λ o. Some (IsType (type_or o))) (sym same)

list_taken : (xs : List Item) (n : ℕ) (a : ArgumentList) → list_height a ≤ n → HoldsList xs a → HoldsList (take n xs) a
list_taken xs n list.Empty l h = tt
list_taken xs n (list.Cell i) l h =
    let same : slice_get (take n xs) i ≡ slice_get xs i = get_taken xs n i (omega arith) in
    same ∙ h ∙ ap (λ o. Some (IsList (list_or o))) (sym same)

fit_taken : (xs : List Item) (n : ℕ) (k : Key) → IsBehind n k → Fits xs k → Fits (take n xs) k
fit_taken xs n (key.Term (term.Parameter i)) l h = tt
fit_taken xs n (key.Term (term.Of i a)) l h = list_taken xs n a l h
fit_taken xs n (key.Term (term.Ref t)) l h = type_taken xs n t l h
fit_taken xs n (key.Term (term.Mut t)) l h = type_taken xs n t l h
fit_taken xs n (key.Term (term.Uni t)) l h = type_taken xs n t l h
fit_taken xs n (key.Arguments t a) l h = (type_taken xs n t l.0 h.0, list_taken xs n a l.1 h.1)

pub taken_table : (ks : List Key) (n : ℕ) → IsTable ks → IsTable (take n ks)
taken_table ks n h = record {
  behind = λ i k e. let p = get_from_taken ks n i k e in h.behind i k p.1;
  fits = λ i k e.
      let p = get_from_taken ks n i k e in
      subst (λ xs. Fits xs k) (sym (items_take ks n)) (fit_taken (items_of ks) n k (behind_less i n k (omega (arith, p.0)) (h.behind i k p.1)) (h.fits i k p.1));
  apart = λ i j x a b.
      let p = get_from_taken (items_of ks) n i x (subst (λ xs. slice_get xs i ≡ Some x) (items_take ks n) a) in
      let q = get_from_taken (items_of ks) n j x (subst (λ xs. slice_get xs j ≡ Some x) (items_take ks n) b) in
      h.apart i j x p.1 q.1;
  few = omega (arith, length-take n ks, h.few);
}

past_end : {A : Type 0} (xs : List A) (i : ℕ) → slice_get xs i ≡ None → length xs ≤ i
past_end [] i e = omega arith
past_end (x ∷ xs) zero e = cc
past_end (x ∷ xs) (suc i) e = let l : length xs ≤ i = past_end xs i e in omega arith

-- what is read of a table of keys ks, which is seen as the items xs
module _ (ks : List Key) (xs : List Item) (v : items_of ks ≡ xs) (h : IsTable ks) where
  pub read_item : (i : ℕ) (o : Option Key) → o ≡ slice_get ks i → slice_get xs i ≡ option_map (grown xs) o
  read_item i None e =
      let past : length ks ≤ i = past_end ks i (sym e) in
      slice_get_past xs i (omega (arith, ap length v, items_length ks))
  read_item i (Some k) e = rw (← v) (at_key ks i k h (sym e))

  pub read_fits : (i : ℕ) (o : Option Key) → o ≡ slice_get ks i → IfSome o (Fits xs)
  read_fits i None e = tt
  read_fits i (Some k) e = rw (← v) (h.fits i k (sym e))

  pub read_behind : (i : ℕ) (o : Option Key) → o ≡ slice_get ks i → IfSome o (IsBehind i)
  read_behind i None e = tt
  read_behind i (Some k) e = h.behind i k (sym e)

  pub read_length : length xs ≡ length ks
  read_length = omega (arith, ap length v, items_length ks)

  -- a key that a test finds, where only the key itself passes
  pub found_item : (p : Key → Bool) (k : Key) (i : ℕ) → ((j : Key) → p j ≡ true → k ≡ j) → position p ks ≡ Some i → slice_get xs i ≡ Some (grown xs k)
  found_item p k i only e =
      let q = position-Some p ks i k e in
      let here : slice_get ks i ≡ Some k = slice_get-get_or ks i k q.0 ∙ ap Some (sym (only (get_or ks i k) q.1)) in
      rw (← v) (at_key ks i k h here)

-- a key that a set takes
module _ (ks js : List Key) (xs : List Item) (p : Key → Bool) (k : Key) (v : items_of ks ≡ xs) (h : IsTable ks) (self : p k ≡ true) (lacks : list_any p ks ≡ false) (taken : js ≡ (if list_any p ks then ks else ks ++ k ∷ [])) where
  pub taken_push : js ≡ ks ++ k ∷ []
  taken_push = taken ∙ ap (λ b. if b then ks else ks ++ k ∷ []) lacks

  taken_new : (j : ℕ) → slice_get ks j ≡ Some k → ⊥
  taken_new j e = let t : list_any p ks ≡ true = any_passes_from_place p ks j k e self in let q : false ≡ true = sym lacks ∙ t in cc

  pub taken_grows : length ks < 4294967294 → Fits xs k → IsTable js
  taken_grows few f = subst IsTable (sym taken_push) (push_table ks k h few (subst (λ ys. Fits ys k) (sym v) f) taken_new)

  pub taken_keeps : (kinds : List Bool) → Keeps (record { items = xs; kinds = kinds }) (record { items = items_of js; kinds = kinds })
  taken_keeps kinds =
      subst (λ ys. Keeps (record { items = ys; kinds = kinds }) (record { items = items_of js; kinds = kinds })) v
      (subst (λ ls. Keeps (record { items = items_of ks; kinds = kinds }) (record { items = items_of ls; kinds = kinds })) (sym taken_push) (push_keeps ks k kinds))

  pub taken_at : (n : ℕ) → n ≡ length ks → slice_get (items_of js) n ≡ Some (grown xs k)
  taken_at n e =
      ap (λ m. slice_get (items_of js) m) e ∙ ap (λ ls. slice_get (items_of ls) (length ks)) taken_push ∙ push_at ks k ∙ ap (λ ys. Some (grown ys k)) v

-- the kinds 0 to 12 are not async, and those behind them are told by a list
pub async_first : (added : List Bool) (k : ℕ) → k < 13 → slice_get (first_kinds ++ added) k ≡ Some false
async_first added zero h = refl
async_first added (suc zero) h = refl
async_first added (suc (suc zero)) h = refl
async_first added (suc (suc (suc zero))) h = refl
async_first added (suc (suc (suc (suc zero)))) h = refl
async_first added (suc (suc (suc (suc (suc zero))))) h = refl
async_first added (suc (suc (suc (suc (suc (suc zero)))))) h = refl
async_first added (suc (suc (suc (suc (suc (suc (suc zero))))))) h = refl
async_first added (suc (suc (suc (suc (suc (suc (suc (suc zero)))))))) h = refl
async_first added (suc (suc (suc (suc (suc (suc (suc (suc (suc zero))))))))) h = refl
async_first added (suc (suc (suc (suc (suc (suc (suc (suc (suc (suc zero)))))))))) h = refl
async_first added (suc (suc (suc (suc (suc (suc (suc (suc (suc (suc (suc zero))))))))))) h = refl
async_first added (suc (suc (suc (suc (suc (suc (suc (suc (suc (suc (suc (suc zero)))))))))))) h = refl
async_first added (suc (suc (suc (suc (suc (suc (suc (suc (suc (suc (suc (suc (suc k))))))))))))) h = absurd (omega arith)

get_right : {A : Type 0} (xs ys : List A) (i : ℕ) → slice_get (xs ++ ys) (length xs + i) ≡ slice_get ys i
get_right [] ys i = ap (slice_get ys) (zero-add i)
get_right (x ∷ xs) ys i = let e : suc (length xs) + i ≡ suc (length xs + i) = omega arith in ap (slice_get (x ∷ (xs ++ ys))) e ∙ get_right xs ys i

pub async_added : (added kinds : List Bool) (k : ℕ) (o : Option Bool) → first_kinds ++ added ≡ kinds → 13 ≤ k → o ≡ slice_get added (k - 13) → unwrap_or o false ≡ unwrap_or (slice_get kinds k) false
async_added added kinds k o v h e =
    let at : 13 + (k - 13) ≡ k = omega arith in
    ap (λ p. unwrap_or p false) (e ∙ sym (get_right first_kinds added (k - 13)) ∙ ap (slice_get (first_kinds ++ added)) at ∙ ap (λ xs. slice_get xs k) v)

-- a table of types by its two lists
abbrev pub made_table : List Item → List Bool → TypeTable
made_table xs kinds = record { items = xs; kinds = kinds }

pub table_is : (xs ys : List Item) (ks js : List Bool) → xs ≡ ys → ks ≡ js → made_table xs ks ≡ made_table ys js
table_is xs ys ks js e f = ap (λ zs. made_table zs ks) e ∙ ap (λ zs. made_table ys zs) f

pub none_left : {A : Type 0} (xs : List A) → length xs ≡ 0 → xs ≡ []
none_left [] e = refl
none_left (x ∷ xs) e = absurd (omega arith)
