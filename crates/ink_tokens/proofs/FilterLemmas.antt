-- Which texts are told apart from symbols and from kept words by one test.
use Rattle.std.proofs.Common.{◌≡◌, ℕ, ◌<◌, Bool, true, false, ◌&&◌, ◌||◌, List, [], ◌∷◌, ◌⊎◌, inl, inr, ⊎_elim, length, refl, subst, arith, leb-true, nat_le}
use Rattle.std.specs.Prelude.{slice_index}
use Rattle.std.specs.List.{list_any}
use Rattle.std.specs.Str.{bytes_eq}
use Rattle.std.proofs.lemmas.Slice.Eq.{bytes_eq-Decides}
use Rattle.ink_tokens.specs.Words.{pairs, is_pair, ends_pair, keywords, is_keyword}
use Rattle.ink_tokens.proofs.Choices.{both-one, both-other}

-- each of these texts passes a test
abbrev Each : (List ℕ → Bool) → List (List ℕ) → Type 0
Each test [] = Unit {0}
Each test (x ∷ xs) = (test x ≡ true) × Each test xs

or-cases : (a b : Bool) → (a || b) ≡ true → (a ≡ true) ⊎ (b ≡ true)
or-cases true b is = inl refl
or-cases false b is = inr is

-- so one of them passes it
one-passes : (test : List ℕ → Bool) (xs : List (List ℕ)) (text : List ℕ) → Each test xs → list_any (λ x. bytes_eq x text) xs ≡ true → test text ≡ true
one-passes test [] text each is = let none : false ≡ true = is in cc
one-passes test (x ∷ xs) text each is =
    ⊎_elim (λ same. subst (λ t. test t ≡ true) ((bytes_eq-Decides x text).0 same) each.0) (λ other. one-passes test xs text each.1 other)
    (or-cases (bytes_eq x text) (list_any (λ x. bytes_eq x text) xs) is)

-- what is false where it would be absurd
is-false : (b : Bool) → (b ≡ true → ⊥) → b ≡ false
is-false true h = absurd (h refl)
is-false false h = refl

-- a symbol of two bytes is told by how it ends
abbrev ends : List ℕ → Bool
ends text = ends_pair (slice_index text 1)

pairs-end : Each ends pairs
pairs-end = (refl, (refl, (refl, (refl, (refl, (refl, (refl, (refl, (refl, (refl, (refl, (refl, (refl, tt)))))))))))))

pub no_pair : (text : List ℕ) → ends_pair (slice_index text 1) ≡ false → is_pair text ≡ false
unfolding is_pair
no_pair text e = is-false (list_any (λ x. bytes_eq x text) pairs) (λ is. let both : ends text ≡ true = one-passes ends pairs text pairs-end is in let other : ends text ≡ false = e in cc)

-- a kept word has two bytes to seven
abbrev fits : List ℕ → Bool
fits text = nat_le 2 (length text) && nat_le (length text) 7

keywords-fit : Each fits keywords
keywords-fit = (refl, (refl, (refl, (refl, (refl, (refl, (refl, (refl, (refl, (refl, (refl, (refl, (refl, (refl, (refl, (refl, (refl, (refl, (refl, (refl, (refl, (refl, (refl, (refl, (refl, (refl, (refl, (refl, (refl, (refl, (refl, (refl, (refl, tt)))))))))))))))))))))))))))))))))

keyword-fits : (text : List ℕ) → is_keyword text ≡ true → fits text ≡ true
unfolding is_keyword
keyword-fits text is = one-passes fits keywords text keywords-fit is

pub no_short_keyword : (text : List ℕ) → length text < 2 → is_keyword text ≡ false
no_short_keyword text short = is-false (is_keyword text) (λ is. let long = leb-true 2 (length text) (both-one (nat_le 2 (length text)) (nat_le (length text) 7) (keyword-fits text is)) in omega arith)

pub no_long_keyword : (text : List ℕ) → 7 < length text → is_keyword text ≡ false
no_long_keyword text long = is-false (is_keyword text) (λ is. let short = leb-true (length text) 7 (both-other (nat_le 2 (length text)) (nat_le (length text) 7) (keyword-fits text is)) in omega arith)
