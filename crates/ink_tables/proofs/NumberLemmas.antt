-- A number that is counted only up to a greatest one.
use Rattle.std.proofs.Common.{◌≡◌, ℕ, ◌+◌, ◌*◌, ◌<◌, ◌≤◌, min, true, false, cond, ◌==◌, List, [], ◌∷◌, fold, arith, ap, sym, ◌∙◌, ⊎_elim, ◌-◌, ◌^◌, pos, negsuc, if◌then◌else◌}
use Rattle.std.proofs.str.Laws.{order}
use Rattle.std.specs.Char.{digit_value}
use Rattle.std.proofs.lemmas.Bool.Decides.{nat_tests}
use Rattle.ink_tokens.specs.Integer.{number_behind}
use Rattle.ink_tables.specs.Value.{negative}

-- a number times a base, and more, is no less
grown : (base number more : ℕ) → 0 < base → number ≤ number * base + more
grown base number more positive = grind arith

scaled : (base great number more : ℕ) → 0 < base → min (min number great * base + more) great ≡ min (number * base + more) great
scaled base great number more positive =
    ⊎_elim
    (λ below. let e : min number great ≡ number = omega arith in ap (λ n. min (n * base + more) great) e)
    (λ above. let e : min number great ≡ great = omega arith in
    ap (λ n. min (n * base + more) great) e ∙ omega (arith, grown base great more positive, grown base number more positive))
    (order number great)

behind : (base great number byte : ℕ) → 0 < base → min (number_behind base (min number great) byte) great ≡ min (number_behind base number byte) great
unfolding number_behind
behind base great number byte positive =
    elim (byte == 95) as (λ is_gap. min (cond is_gap (min number great) (min number great * base + digit_value byte)) great ≡ min (cond is_gap number (number * base + digit_value byte)) great) [
      | true ↦ omega arith
      | false ↦ scaled base great number (digit_value byte) positive
    ]

-- what was counted gives the same as the number itself
pub counted : (base great number : ℕ) (digits : List ℕ) → 0 < base →
    min (fold (number_behind base) (min number great) digits) great ≡ min (fold (number_behind base) number digits) great
counted base great number [] positive = omega arith
counted base great number (byte ∷ digits) positive =
    sym (counted base great (number_behind base (min number great) byte) digits positive)
    ∙ ap (λ n. min (fold (number_behind base) n digits) great) (behind base great number byte positive)
    ∙ counted base great (number_behind base number byte) digits positive

-- past 64 bits a number is as low as the least of them
pub negative_min : (number : ℕ) → negative (min number 18446744073709551615) ≡ negative number
negative_min number =
    ⊎_elim
    (λ below. let e : min number 18446744073709551615 ≡ number = omega arith in ap negative e)
    (λ above. let e : min number 18446744073709551615 ≡ 18446744073709551615 = omega arith in
    let some : (number == 0) ≡ false = grind (arith, nat_tests) in
    let least : min (number - 1) (2 ^ 63 - 1) ≡ 2 ^ 63 - 1 = omega arith in
    ap negative e ∙ ap negsuc (sym least) ∙ ap (λ b. if b then pos 0 else negsuc (min (number - 1) (2 ^ 63 - 1))) (sym some))
    (order number 18446744073709551615)
