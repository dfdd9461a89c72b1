use Rattle.std.proofs.Common.{◌∙◌, ◌<◌, sym, arith, length, get_or, refl}
use Rattle.std.specs.Option.{option_map}
use Rattle.std.proofs.lemmas.List.{length-map}
use Rattle.std.proofs.lemmas.Option.{slice_get-get_or}
use Rattle.ink_types.specs.Table.{type_at}
use Rattle.ink_types.specs.Matching.{wanted, found_types}
use Rattle.ink_types.proofs.Filling.{filled_none, filled_more, filled_all, filled_is, held_more}
use Rattle.ink_types.proofs.types.Types.fill_places.Goals as goal

pub loop-number-init : goal.loop-number-init
loop-number-init c =
    let s = c.args.self.now in
    record {
      filled = filled_none (option_map (type_at s)) (wanted s.kinds (type_at s c.args.pattern) (type_at s c.args.actual)) c.args.found.now;
      held = λ h k. k;
    }

pub loop-number-preserved : goal.loop-number-preserved
loop-number-preserved c =
    let s = c.args.self.now in
    let found = c.loop-number.found in
    let i = c.loop-number.number in
    let within : i < length found = omega (arith, c.loop-number.auto.found, c.loop-number-test.true) in
    record {
      filled = filled_more (option_map (type_at s)) (wanted s.kinds (type_at s c.args.pattern) (type_at s c.args.actual)) c.args.found.now found i (get_or found i _)
          c.kept_or_wanted-place.result within (slice_get-get_or found i _ within) c.kept_or_wanted-place.ensures.means c.loop-number.invariant.filled;
      held = λ h k.
          held_more s found i (get_or found i _) c.kept_or_wanted-place.result within (slice_get-get_or found i _ within) (c.kept_or_wanted-place.ensures.held h)
          (c.loop-number.invariant.held h k);
    }

pub returns-clause-means : goal.returns-clause-means
returns-clause-means c =
    let s = c.args.self.now in
    let f = option_map (type_at s) in
    let found = c.loop-number.found in
    let wish = wanted s.kinds (type_at s c.args.pattern) (type_at s c.args.actual) in
    filled_is wish (found_types s c.args.found.now) (found_types s found) (record {
      places = length-map found f ∙ c.loop-number.auto.found ∙ sym (length-map c.args.found.now f);
      filled = filled_all f wish c.args.found.now found c.loop-number.number
          (omega (arith, c.loop-number.auto.found, c.loop-number-test.false)) c.loop-number.invariant.filled;
    })

pub returns-clause-held : goal.returns-clause-held
returns-clause-held c = c.loop-number.invariant.held
