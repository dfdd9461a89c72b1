use Rattle.std.proofs.Common.{◌≡◌, w64, to_z, of_z, ap, ◌∙◌}
use Rattle.std.specs.List.{position, position_from}
use Rattle.std.specs.Ordering.{int_eq}
use Rattle.std.proofs.lemmas.Int.{to_z-of_z}
use Rattle.std.proofs.lemmas.Iterator.Adapters.{position_from-zero}
use Rattle.ink_tables.proofs.integers.Integers.find.Goals as goal

pub returns-in-Some : goal.returns-in-Some
returns-in-Some c =
    let same : to_z w64 (of_z w64 c.args.value) ≡ c.args.value = to_z-of_z w64 c.args.value c.ranges.value in
    record {
      number = c.in-Some.ensures.index ∙ ap (λ value. position (int_eq value) c.self.inside.set.keys) same
          ∙ position_from-zero (int_eq c.args.value) c.self.inside.set.keys ∙ ap (λ keys. position_from (int_eq c.args.value) 0 keys) c.self.view_is;
    }

pub returns-in-None : goal.returns-in-None
returns-in-None c =
    let same : to_z w64 (of_z w64 c.args.value) ≡ c.args.value = to_z-of_z w64 c.args.value c.ranges.value in
    record {
      number = c.in-None.ensures.index ∙ ap (λ value. position (int_eq value) c.self.inside.set.keys) same
          ∙ position_from-zero (int_eq c.args.value) c.self.inside.set.keys ∙ ap (λ keys. position_from (int_eq c.args.value) 0 keys) c.self.view_is;
    }
