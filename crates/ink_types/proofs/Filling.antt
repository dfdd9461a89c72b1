-- Places that are filled one after another.
use Rattle.std.proofs.Common.{◌≡◌, ℕ, zero, suc, ◌+◌, ◌<◌, ◌≤◌, inl, inr, List, [], ◌∷◌, length, map, Option, Some, None, refl, sym, ap, ◌∙◌, arith, subst, set, length-set, get_or, add-zero, zero-add}
use Rattle.std.specs.Prelude.{slice_get, IfSome}
use Rattle.std.specs.Option.{option_map}
use Rattle.std.proofs.lemmas.List.{length-map}
use Rattle.std.proofs.lemmas.Option.{slice_get-map, slice_get-get_or, slice_get_within}
use Rattle.std.proofs.lemmas.Bool.{cases_lt}
use Rattle.std.proofs.lemmas.Bool.Decides.{eqb_tells}
use Rattle.ink_types.specs.Table.{TypeTable, HoldsType, AreHeld}
use Rattle.ink_types.specs.TypeTerms.{TypeTerm}
use Rattle.ink_types.specs.Matching.{or_else, filled_from}

-- the places below a number are filled, and the others are as they were
pub record IsFilledUpTo (f : Option ℕ → Option TypeTerm) (wish : ℕ → Option TypeTerm) (old new : List (Option ℕ)) (i : ℕ) : Type 0 where
  pub places : length new ≡ length old
  pub filled : (n : ℕ) → n < i → (o : Option ℕ) → slice_get old n ≡ Some o → option_map f (slice_get new n) ≡ Some (or_else (f o) (wish n))
  pub left : (n : ℕ) → i ≤ n → slice_get new n ≡ slice_get old n

get_set : {A : Type 0} (xs : List A) (i : ℕ) (y : A) → i < length xs → slice_get (set xs i y) i ≡ Some y
get_set [] i y h = absurd (omega arith)
get_set (x ∷ xs) zero y h = refl
get_set (x ∷ xs) (suc i) y h = get_set xs i y (omega arith)

get_set_other : {A : Type 0} (xs : List A) (i n : ℕ) (y : A) → (n ≡ i → ⊥) → slice_get (set xs i y) n ≡ slice_get xs n
get_set_other [] zero n y h = refl
get_set_other [] (suc i) n y h = refl
get_set_other (x ∷ xs) zero zero y h = absurd (h refl)
get_set_other (x ∷ xs) zero (suc n) y h = refl
get_set_other (x ∷ xs) (suc i) zero y h = refl
get_set_other (x ∷ xs) (suc i) (suc n) y h = get_set_other xs i n y (λ e. h (ap suc e))

held_set : (s : TypeTable) (found : List (Option ℕ)) (i : ℕ) (y : Option ℕ) → i < length found → IfSome y (HoldsType s.items) → AreHeld s found → AreHeld s (set found i y)
held_set s found i y l h all = λ n t e. elim (eqb_tells n i) [
  | inl p ↦
      let q : slice_get (set found i y) n ≡ Some y = ap (slice_get (set found i y)) p.1 ∙ get_set found i y l in
      let r : Some y ≡ Some (Some t) = sym q ∙ e in
      let z : y ≡ Some t = cc in
      subst (λ o. IfSome o (HoldsType s.items)) z h
  | inr p ↦ all n t (sym (get_set_other found i n y p.1) ∙ e)
]

held_place : (s : TypeTable) (found : List (Option ℕ)) (i : ℕ) (x : Option ℕ) → slice_get found i ≡ Some x → AreHeld s found → IfSome x (HoldsType s.items)
held_place s found i None e all = tt
held_place s found i (Some t) e all = all i t e

-- one more place, whose type stands there
pub held_more : (s : TypeTable) (found : List (Option ℕ)) (i : ℕ) (x y : Option ℕ) → i < length found → slice_get found i ≡ Some x → (IfSome x (HoldsType s.items) → IfSome y (HoldsType s.items)) →
    AreHeld s found → AreHeld s (set found i y)
held_more s found i x y l e h all = held_set s found i y l (h (held_place s found i x e all)) all

module _ (f : Option ℕ → Option TypeTerm) (wish : ℕ → Option TypeTerm) (old : List (Option ℕ)) where
  pub filled_none : IsFilledUpTo f wish old old 0
  filled_none = record { places = refl; filled = λ n l o e. absurd (omega arith); left = λ n l. refl }

  pub filled_more : (new : List (Option ℕ)) (i : ℕ) (x y : Option ℕ) → i < length new → slice_get new i ≡ Some x → f y ≡ or_else (f x) (wish i) →
      IsFilledUpTo f wish old new i → IsFilledUpTo f wish old (set new i y) (i + 1)
  filled_more new i x y l e g h = record {
    places = length-set new i y ∙ h.places;
    filled = λ n m o k. elim (cases_lt n i) [
      | inl b ↦ ap (option_map f) (get_set_other new i n y (λ q. omega arith)) ∙ h.filled n b o k
      | inr b ↦
          let q : n ≡ i = omega arith in
          let r : slice_get old i ≡ Some o = ap (slice_get old) (sym q) ∙ k in
          let s : Some x ≡ Some o = sym e ∙ h.left i (omega arith) ∙ r in
          let t : x ≡ o = cc in
          ap (λ j. option_map f (slice_get (set new i y) j)) q ∙ ap (option_map f) (get_set new i y l) ∙ ap Some g
          ∙ ap (λ z. Some (or_else (f z) (wish i))) t ∙ ap (λ j. Some (or_else (f o) (wish j))) (sym q)
    ];
    left = λ n m. get_set_other new i n y (λ q. omega arith) ∙ h.left n (omega arith);
  }

  pub filled_all : (new : List (Option ℕ)) (i : ℕ) → length new ≤ i → IsFilledUpTo f wish old new i →
      (n : ℕ) (o : Option TypeTerm) → slice_get (map f old) n ≡ Some o → slice_get (map f new) n ≡ Some (or_else o (wish n))
  filled_all new i l h n o e =
      let p : n < length old = omega (arith, slice_get_within (map f old) n o e, length-map old f) in
      let x = get_or old n None in
      let q : slice_get old n ≡ Some x = slice_get-get_or old n None p in
      let r : Some (f x) ≡ Some o = ap (option_map f) (sym q) ∙ sym (slice_get-map f old n) ∙ e in
      let s : f x ≡ o = cc in
      slice_get-map f new n ∙ h.filled n (omega (arith, h.places)) x q ∙ ap (λ z. Some (or_else z (wish n))) s

-- each place keeps its type, or has the one that is wished for it
pub record IsFilled (wish : ℕ → Option TypeTerm) (old new : List (Option TypeTerm)) : Type 0 where
  pub places : length new ≡ length old
  pub filled : (n : ℕ) (o : Option TypeTerm) → slice_get old n ≡ Some o → slice_get new n ≡ Some (or_else o (wish n))

from_places : (wish : ℕ → Option TypeTerm) (n : ℕ) (old new : List (Option TypeTerm)) → length new ≡ length old →
    ((i : ℕ) (o : Option TypeTerm) → slice_get old i ≡ Some o → slice_get new i ≡ Some (or_else o (wish (n + i)))) → new ≡ filled_from wish n old
from_places wish n [] [] l h = refl
from_places wish n [] (y ∷ new) l h = absurd (omega arith)
from_places wish n (x ∷ old) [] l h = absurd (omega arith)
from_places wish n (x ∷ old) (y ∷ new) l h =
    let first : Some y ≡ Some (or_else x (wish n)) = h 0 x refl ∙ ap (λ m. Some (or_else x (wish m))) (add-zero n) in
    let here : y ≡ or_else x (wish n) = cc in
    let rest : new ≡ filled_from wish (n + 1) old = from_places wish (n + 1) old new (omega arith)
    (λ i o e. let m : n + suc i ≡ n + 1 + i = omega arith in h (suc i) o e ∙ ap (λ k. Some (or_else o (wish k))) m) in
    ap (λ z. z ∷ new) here ∙ ap (λ zs. or_else x (wish n) ∷ zs) rest

pub filled_is : (wish : ℕ → Option TypeTerm) (old new : List (Option TypeTerm)) → IsFilled wish old new → new ≡ filled_from wish 0 old
filled_is wish old new h = from_places wish 0 old new h.places (λ i o e. h.filled i o e ∙ ap (λ m. Some (or_else o (wish m))) (sym (zero-add i)))

filled_length : (wish : ℕ → Option TypeTerm) (n : ℕ) (old : List (Option TypeTerm)) → length (filled_from wish n old) ≡ length old
filled_length wish n [] = refl
filled_length wish n (x ∷ old) = ap suc (filled_length wish (n + 1) old)

filled_get : (wish : ℕ → Option TypeTerm) (n : ℕ) (old : List (Option TypeTerm)) (i : ℕ) (o : Option TypeTerm) → slice_get old i ≡ Some o → slice_get (filled_from wish n old) i ≡ Some (or_else o (wish (n + i)))
filled_get wish n [] i o e = cc
filled_get wish n (x ∷ old) zero o e =
    let q : x ≡ o = cc in
    ap (λ z. Some (or_else z (wish n))) q ∙ ap (λ m. Some (or_else o (wish m))) (sym (add-zero n))
filled_get wish n (x ∷ old) (suc i) o e =
    let m : n + 1 + i ≡ n + suc i = omega arith in
    filled_get wish (n + 1) old i o e ∙ ap (λ k. Some (or_else o (wish k))) m

pub is_filled : (wish : ℕ → Option TypeTerm) (old new : List (Option TypeTerm)) → new ≡ filled_from wish 0 old → IsFilled wish old new
is_filled wish old new e = record {
  places = ap length e ∙ filled_length wish 0 old;
  filled = λ n o h. ap (λ xs. slice_get xs n) e ∙ filled_get wish 0 old n o h ∙ ap (λ m. Some (or_else o (wish m))) (zero-add n);
}
