-- Division rounded down, in the words of std's methods, and when a number is an Int.
use Rattle.std.proofs.Common.{◌≡◌, refl, sym, ap, subst, ◌∙◌, ℕ, zero, suc, ◌+◌, ◌/◌, ◌%◌, ◌^◌, ◌<◌, ◌≤◌, Bool, true, false, ℤ, pos, negsuc, neg_ℤ, ◌+ℤ◌, ◌-ℤ◌, ◌*ℤ◌, ◌<ℤ◌, int_div, int_rem, FitsSigned, arith}
use Rattle.std.proofs.Math.Nat.{add-div_right, div-add-mod, div-eq_of_lt, div-le_self}
use Rattle.std.proofs.lemmas.Int.{ints}
use Rattle.std.specs.Int.{int_div_euclid, int_rem_euclid, w64}
use Rattle.ink_code.specs.IntRows.{floor_quotient, floor_rest}
use Rattle.ink_code.specs.Rows.{is_int}

pub quotient_above : (a b : ℤ) → pos 0 <ℤ b → floor_quotient a b ≡ int_div_euclid a b
quotient_above (pos a) (pos b) h = refl
quotient_above (negsuc a) (pos b) h = refl
quotient_above (pos a) (negsuc b) h = absurd h.lt
quotient_above (negsuc a) (negsuc b) h = absurd h.lt

pub quotient_both_below : (a b : ℤ) → a <ℤ pos 0 → b <ℤ pos 0 → floor_quotient a b ≡ int_div a b
quotient_both_below (pos a) b h k = absurd (omega (arith, ints))
quotient_both_below (negsuc a) (pos b) h k = absurd (omega (arith, ints))
quotient_both_below (negsuc a) (negsuc b) h k = refl

none_up : (b : ℕ) → (0 + b) / suc b ≡ 0
none_up b = let same : 0 + b ≡ b = omega arith in ap (λ n. n / suc b) same ∙ div-eq_of_lt (omega arith)

pub quotient_none : (b : ℤ) → b <ℤ pos 0 → floor_quotient (pos 0) b ≡ pos 0
quotient_none (pos b) k = absurd (omega (arith, ints))
quotient_none (negsuc b) k = ap (λ q. neg_ℤ (pos q)) (none_up b)

quotient_step : (a b : ℕ) → (suc a + b) / suc b ≡ suc (a / suc b)
quotient_step a b =
    let moved : suc a + b ≡ a + suc b = omega arith in
    ap (λ n. n / suc b) moved ∙ add-div_right a (omega arith) ∙ omega arith

less_one : (q : ℕ) → negsuc q ≡ neg_ℤ (pos q) -ℤ pos 1
less_one zero = refl
less_one (suc q) = omega (arith, ints)

pub quotient_past : (a b : ℤ) → pos 0 <ℤ a → b <ℤ pos 0 → floor_quotient a b ≡ int_div_euclid (a -ℤ pos 1) b -ℤ pos 1
quotient_past (negsuc a) b h k = absurd h.lt
quotient_past (pos zero) b h k = absurd (omega (arith, ints))
quotient_past (pos (suc a)) (pos b) h k = absurd (omega (arith, ints))
quotient_past (pos (suc a)) (negsuc b) h k = let step = quotient_step a b in
    let past : pos (suc a) -ℤ pos 1 ≡ pos a = omega (arith, ints) in
    ap (λ q. neg_ℤ (pos q)) step ∙ less_one (a / suc b) ∙ sym (ap (λ n. int_div_euclid n (negsuc b) -ℤ pos 1) past)

pub rest_above : (a b : ℤ) → pos 0 <ℤ b → floor_rest a b ≡ int_rem_euclid a b
rest_above (pos a) (pos b) h = omega (arith, ints, div-add-mod a b)
rest_above (negsuc a) (pos b) h = omega (arith, ints, div-add-mod a b)
rest_above (pos a) (negsuc b) h = absurd h.lt
rest_above (negsuc a) (negsuc b) h = absurd h.lt

pub rest_none : (b : ℤ) → b <ℤ pos 0 → floor_rest (pos 0) b ≡ pos 0
rest_none (pos b) k = absurd (omega (arith, ints))
rest_none (negsuc b) k = ap (λ q. pos 0 -ℤ (negsuc b *ℤ neg_ℤ (pos q))) (none_up b) ∙ omega (arith, ints)

pub rest_past : (a b : ℤ) → pos 0 <ℤ a → b <ℤ pos 0 → floor_rest a b ≡ int_rem_euclid (a -ℤ pos 1) b +ℤ (b +ℤ pos 1)
rest_past (negsuc a) b h k = absurd h.lt
rest_past (pos zero) b h k = absurd (omega (arith, ints))
rest_past (pos (suc a)) (pos b) h k = absurd (omega (arith, ints))
rest_past (pos (suc a)) (negsuc b) h k =
    let past : pos (suc a) -ℤ pos 1 ≡ pos a = omega (arith, ints) in
    let one : pos (suc a) -ℤ (negsuc b *ℤ negsuc (a / suc b)) ≡ pos (a % suc b) +ℤ (negsuc b +ℤ pos 1) = omega (arith, ints, div-add-mod a (suc b)) in
    ap (λ q. pos (suc a) -ℤ (negsuc b *ℤ neg_ℤ (pos q))) (quotient_step a b) ∙ one ∙ sym (ap (λ n. int_rem_euclid n (negsuc b) +ℤ (negsuc b +ℤ pos 1)) past)

pub rest_both_below : (a b : ℤ) → a <ℤ pos 0 → b <ℤ pos 0 → floor_rest a b ≡ int_rem a b
rest_both_below (pos a) b h k = absurd (omega (arith, ints))
rest_both_below (negsuc a) (pos b) h k = absurd (omega (arith, ints))
rest_both_below (negsuc a) (negsuc b) h k = omega (arith, ints, div-add-mod (suc a) (suc b))

pub fits_is_int : (z : ℤ) → FitsSigned w64 z → is_int z ≡ true
fits_is_int (pos n) h = grind (arith, h.sfits)
fits_is_int (negsuc n) h = grind (arith, h.sfits)

pub unfit_is_no_int : (z : ℤ) → ¬ FitsSigned w64 z → is_int z ≡ false
unfit_is_no_int (pos n) h = cases (is_int (pos n)) refl
  where
    cases : (t : Bool) → is_int (pos n) ≡ t → t ≡ false
    cases false e = refl
    cases true e = absurd (h (record { sfits = grind (arith, e) }))
unfit_is_no_int (negsuc n) h = cases (is_int (negsuc n)) refl
  where
    cases : (t : Bool) → is_int (negsuc n) ≡ t → t ≡ false
    cases false e = refl
    cases true e = absurd (h (record { sfits = grind (arith, e) }))

-- a number above 0, less 1
pub less_one_fits : (a : ℤ) → pos 0 <ℤ a → FitsSigned w64 a → FitsSigned w64 (a -ℤ pos 1)
less_one_fits (pos zero) h f = absurd (omega (arith, ints))
less_one_fits (pos (suc n)) h f =
    let past : pos (suc n) -ℤ pos 1 ≡ pos n = omega (arith, ints) in
    let small : FitsSigned w64 (pos n) = record { sfits = omega (arith, f.sfits) } in
    let P : ℤ → Type 0 = λ z. FitsSigned w64 z in subst P (sym past) small
less_one_fits (negsuc n) h f = absurd h.lt

below_fits : (q n : ℕ) → q ≤ n → suc n < 2 ^ 63 → FitsSigned w64 (neg_ℤ (pos q)) × FitsSigned w64 (negsuc q)
below_fits zero n h k = (record { sfits = omega arith }, record { sfits = omega arith })
below_fits (suc q) n h k = (record { sfits = omega arith }, record { sfits = omega arith })

-- the quotient of what is above 0, by one below 0, before it is lowered by 1 and after
pub lowered_fits : (a b : ℤ) → pos 0 <ℤ a → b <ℤ pos 0 → FitsSigned w64 a
    → FitsSigned w64 (int_div_euclid (a -ℤ pos 1) b) × FitsSigned w64 (int_div_euclid (a -ℤ pos 1) b -ℤ pos 1)
lowered_fits (negsuc n) b h k f = absurd h.lt
lowered_fits (pos zero) b h k f = absurd (omega (arith, ints))
lowered_fits (pos (suc n)) (pos b) h k f = absurd (omega (arith, ints))
lowered_fits (pos (suc n)) (negsuc b) h k f =
    let past : pos (suc n) -ℤ pos 1 ≡ pos n = omega (arith, ints) in
    let both = below_fits (n / suc b) n (div-le_self n (suc b)) f.sfits in
    let P : ℤ → Type 0 = λ z. FitsSigned w64 z in
    let Q : ℤ → Type 0 = λ z. FitsSigned w64 (int_div_euclid z (negsuc b)) × FitsSigned w64 (int_div_euclid z (negsuc b) -ℤ pos 1) in
    subst Q (sym past) (both.0, subst P (less_one (n / suc b)) both.1)
