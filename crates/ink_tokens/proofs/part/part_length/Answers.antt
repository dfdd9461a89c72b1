use Rattle.std.proofs.Common.{arith, ◌+◌, length, length-drop, ap, ◌∙◌}
use Rattle.ink_tokens.specs.Part.{unit_length}
use Rattle.ink_tokens.proofs.PartLemmas.{part_goes_on}
use Rattle.ink_tokens.proofs.part.part_length.Goals as goal

pub loop-unit-preserved : goal.loop-unit-preserved
loop-unit-preserved c =
    let is_rest = c.bytes_from.ensures in
    let goes = part_goes_on c.args.quote c.loop-unit.end c.loop-unit.unit c.args.bytes.now c.loop-unit-test.true c.loop-unit.invariant.next in
    record {
      inside = omega (arith, c.unit_length-unit-in-loop-unit.ensures.inside, ap length is_rest, length-drop (c.loop-unit.end + c.loop-unit.unit) c.args.bytes.now);
      front = omega (arith, c.loop-unit.invariant.front, goes);
      next = c.unit_length-unit-in-loop-unit.ensures.value ∙ ap (unit_length c.args.quote) is_rest;
    }
