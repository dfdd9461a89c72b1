use Rattle.std.proofs.Common.{◌≡◌, pos, ◌-ℤ◌, ◌<ℤ◌, FitsSigned, arith}
use Rattle.std.proofs.lemmas.Int.{ints, to_z-of_z}
use Rattle.std.specs.Int.{w64, int_rem_euclid}
use Rattle.ink_rows.proofs.IntLemmas.{rest_past, less_one_fits}
use Rattle.ink_rows.proofs.divided.rest_below.Goals as goal

pub returns-else-a-eq0 : goal.returns-else-a-eq0
returns-else-a-eq0 c =
    let past : pos 0 <ℤ c.args.a = omega (arith, ints) in
    let fits : FitsSigned w64 (c.args.a -ℤ pos 1) = less_one_fits c.args.a past c.ranges.a in
    let own = c.ranges.a in
    let range = c.ranges.b in
    let found : c.rem_euclid.result ≡ int_rem_euclid (c.args.a -ℤ pos 1) c.args.b = simp to_z-of_z at c.rem_euclid.ensures.value in
    let whole = rest_past c.args.a c.args.b past c.requires.divisor in
    omega (arith, ints, found, whole)
