-- A number that is counted only up to a greatest one.
use Rattle.std.proofs.Common.{◌≡◌, ℕ, ◌+◌, ◌*◌, ◌<◌, ◌≤◌, min, true, false, cond, nat_lt, ◌==◌, List, [], ◌∷◌, fold, drop, lit<, refl, arith, ap, ◌∙◌, ⊎_elim}
use Rattle.std.proofs.str.Laws.{order}
use Rattle.std.specs.Char.{digit_value}
use Rattle.std.proofs.lemmas.Bool.Decides.{nat_tests}
use Rattle.ink_tokens.specs.Integer.{number_behind, number_of, magnitude, begins_hexadecimal}

-- a number times a base, and more, is no less
grown : (base number more : ℕ) → 0 < base → number ≤ number * base + more
grown base number more positive = grind arith

-- a digit more makes the same of a number and of what is counted of it
scaled-min : (base great a b more : ℕ) → 0 < base → min a great ≡ min b great →
    min (min a great * base + more) great ≡ min (b * base + more) great
scaled-min base great a b more positive same =
    ⊎_elim
    (λ below. let e : min a great ≡ b = omega arith in ap (λ number. min (number * base + more) great) e)
    (λ above.
    let e : min a great ≡ great = omega arith in
    ap (λ number. min (number * base + more) great) e ∙ omega (arith, grown base great more positive, grown base b more positive))
    (order a great)

-- one byte more makes the same of a number and of what is counted of it
number_behind-min : (base great a b byte : ℕ) → 0 < base → min a great ≡ min b great →
    min (number_behind base (min a great) byte) great ≡ min (number_behind base b byte) great
unfolding number_behind
number_behind-min base great a b byte positive same =
    elim (byte == 95) as (λ is_gap. min (cond is_gap (min a great) (min a great * base + digit_value byte)) great
    ≡ min (cond is_gap b (b * base + digit_value byte)) great) [
      | true ↦ omega arith
      | false ↦ scaled-min base great a b (digit_value byte) positive same
    ]

-- and so do all bytes of a list
pub fold-min : (base great a b : ℕ) (digits : List ℕ) → 0 < base → min a great ≡ min b great →
    min (fold (λ number byte. number_behind base (min number great) byte) a digits) great
    ≡ min (fold (number_behind base) b digits) great
fold-min base great a b [] positive same = same
fold-min base great a b (byte ∷ digits) positive same =
    fold-min base great (number_behind base (min a great) byte) (number_behind base b byte) digits positive
    (number_behind-min base great a b byte positive same)

-- what is counted of the number that digits spell
counted_min : (base great : ℕ) (digits : List ℕ) → 0 < base →
    min (fold (λ number byte. number_behind base (min number great) byte) 0 digits) great ≡ min (number_of base digits) great
counted_min base great digits positive = fold-min base great 0 0 digits positive refl

-- what is counted behind 0x
pub magnitude-hexadecimal : (great counted : ℕ) (text digits : List ℕ) →
    counted ≡ fold (λ number byte. number_behind 16 (min number great) byte) 0 digits → digits ≡ drop 2 text →
    true ≡ begins_hexadecimal text → min counted great ≡ min (magnitude text) great
magnitude-hexadecimal great counted text digits is_counted behind begins =
    ap (λ n. min n great) is_counted ∙ counted_min 16 great digits (lit< tt)
    ∙ ap (λ ds. min (number_of 16 ds) great) behind
    ∙ ap (λ b. min (cond b (number_of 16 (drop 2 text)) (number_of 10 text)) great) begins

-- what is counted of a decimal integer
pub magnitude-decimal : (great counted : ℕ) (text : List ℕ) →
    counted ≡ fold (λ number byte. number_behind 10 (min number great) byte) 0 text →
    false ≡ begins_hexadecimal text → min counted great ≡ min (magnitude text) great
magnitude-decimal great counted text is_counted begins =
    ap (λ n. min n great) is_counted ∙ counted_min 10 great text (lit< tt)
    ∙ ap (λ b. min (cond b (number_of 16 (drop 2 text)) (number_of 10 text)) great) begins

-- whether a number is past one below the greatest is seen from what is counted of it
pub past_min : (great limit a b : ℕ) → limit < great → min a great ≡ min b great → nat_lt limit a ≡ nat_lt limit b
past_min great limit a b below same = grind (arith, nat_tests)
