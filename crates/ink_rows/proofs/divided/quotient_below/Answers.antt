use Rattle.std.proofs.Common.{◌≡◌, sym, ap, subst, ◌∙◌, ℤ, pos, ◌-ℤ◌, ◌<ℤ◌, FitsSigned, arith}
use Rattle.std.proofs.lemmas.Int.{ints, to_z-of_z}
use Rattle.std.specs.Int.{w64, int_div_euclid}
use Rattle.ink_rows.proofs.IntLemmas.{quotient_past, less_one_fits, lowered_fits}
use Rattle.ink_rows.proofs.divided.quotient_below.Goals as goal

pub returns-else-a-eq0 : goal.returns-else-a-eq0
returns-else-a-eq0 c =
    let past : pos 0 <ℤ c.args.a = omega (arith, ints) in
    let fits : FitsSigned w64 (c.args.a -ℤ pos 1) = less_one_fits c.args.a past c.ranges.a in
    let own = c.ranges.a in
    let range = c.ranges.b in
    let found : c.div_euclid.result ≡ int_div_euclid (c.args.a -ℤ pos 1) c.args.b = simp to_z-of_z at c.div_euclid.ensures in
    let whole = quotient_past c.args.a c.args.b past c.requires.divisor in
    let fit = lowered_fits c.args.a c.args.b past c.requires.divisor own in
    let P : ℤ → Type 0 = λ z. FitsSigned w64 z in
    let before : FitsSigned w64 c.div_euclid.result = subst P (sym found) fit.0 in
    let lowered : FitsSigned w64 (c.div_euclid.result -ℤ pos 1) = subst P (ap (λ z. z -ℤ pos 1) (sym found)) fit.1 in
    simp to_z-of_z (ap (λ z. z -ℤ pos 1) found ∙ sym whole)
