-- The least broken rule, with one more told.
use Rattle.std.proofs.Common.{◌≡◌, ℕ, Bool, true, false, ◌&&◌, ◌||◌, ◌==◌, nat_lt, List, [], ◌∷◌, ◌++◌, Some, None, arith, sym, subst}
use Rattle.std.proofs.lemmas.Bool.Decides.{nat_tests}
use Rattle.std.proofs.lemmas.List.Elements.{All-push, All-weaker, All-nil, Contains-push, Contains-append_left}
use Rattle.ink_base.specs.Refusal.{rule_code}
use Rattle.ink_names.specs.Least.{Told, is_before, IsLeastOf}

abbrev before : ℕ → ℕ → ℕ → ℕ → Bool
before p q r s = nat_lt p r || (p == r && nat_lt q s)

between : (p q r s t u : ℕ) → before p q t u ≡ false → before r s t u ≡ true → before p q r s ≡ false
between p q r s t u h k = grind (arith, nat_tests)

itself : (p q : ℕ) → before p q p q ≡ false
itself p q = grind (arith, nat_tests)

-- the first that is told
pub first : (told : List Told) (x : Told) → IsLeastOf told None → IsLeastOf (told ++ x ∷ []) (Some x)
first told x none =
    let P : List Told → Type 0 = λ xs. IsLeastOf (xs ++ x ∷ []) (Some x) in
    subst P (sym none)
    (Contains-push [] x, All-push (λ a. is_before a x ≡ false) [] x (All-nil (λ a. is_before a x ≡ false)) (itself x.byte (rule_code x.rule)))

-- one before the least
pub lesser : (told : List Told) (x b : Told) → is_before x b ≡ true → IsLeastOf told (Some b) → IsLeastOf (told ++ x ∷ []) (Some x)
lesser told x b less least = (
  Contains-push told x,
  All-push (λ a. is_before a x ≡ false) told x
      (All-weaker (λ a. is_before a b ≡ false) (λ a. is_before a x ≡ false)
      (λ a h. between a.byte (rule_code a.rule) x.byte (rule_code x.rule) b.byte (rule_code b.rule) h less) told least.1)
      (itself x.byte (rule_code x.rule)),
)

-- one that isn't before it
pub greater : (told : List Told) (x b : Told) → is_before x b ≡ false → IsLeastOf told (Some b) → IsLeastOf (told ++ x ∷ []) (Some b)
greater told x b more least =
    (Contains-append_left told (x ∷ []) b least.0, All-push (λ a. is_before a b ≡ false) told x least.1 more)
