use Rattle.std.proofs.Common.{◌≡◌, ◌++◌, ◌∷◌, [], w64, to_z, of_z, None, if◌then◌else◌, sym, ap, ◌∙◌}
use Rattle.std.specs.List.{position_from, list_any}
use Rattle.std.specs.Ordering.{int_eq}
use Rattle.std.proofs.lemmas.Cmp.{int_eq_equiv}
use Rattle.std.proofs.lemmas.Int.{to_z-of_z}
use Rattle.ink_tables.proofs.Numbering.{stays, taken_itself}
use Rattle.ink_tables.proofs.integers.Integers.intern.Goals as goal

pub returns-in-Some-clause-added : goal.returns-in-Some-clause-added
returns-in-Some-clause-added c =
    let same : to_z w64 (of_z w64 c.args.value) ≡ c.args.value = to_z-of_z w64 c.args.value c.ranges.value in
    stays (int_eq c.args.value) c.args.self.now _ c.in-Some.number (ap (λ value. position_from (int_eq value) 0 c.args.self.now) (sym same) ∙ sym c.in-Some.ensures.number)

pub returns-clause-number : goal.returns-clause-number
returns-clause-number c =
    let value = c.args.value in
    let same : to_z w64 (of_z w64 value) ≡ value = to_z-of_z w64 value c.ranges.value in
    let keys = c.self.inside.set.keys in
    let fresh : position_from (int_eq value) 0 keys ≡ None =
    ap (λ xs. position_from (int_eq value) 0 xs) c.self.view_is ∙ ap (λ v. position_from (int_eq v) 0 c.args.self.now) (sym same) ∙ sym c.in_default.ensures.number in
    (taken_itself (int_eq value) keys c.insert.new.self.keys value c.len-number.result (int_eq_equiv.refl value) c.len-number.ensures.len fresh
    (c.in_ok-insert.ensures.keys ∙ ap (λ v. if list_any (int_eq v) keys then keys else keys ++ v ∷ []) same)).numbered
