use Rattle.std.proofs.Common.{◌<◌, ap, ◌∙◌, length, arith}
use Rattle.ink_code.specs.Process.{padded}
use Rattle.ink_proc.proofs.MovingLemmas.{padded_next}
use Rattle.ink_proc.proofs.moving.pad.Goals as goal

pub loop-values-preserved : goal.loop-values-preserved
loop-values-preserved c =
    let low : length c.loop-values.values.items < c.args.most = omega (arith, c.loop-values.values.ok.0) in
    record {
      so_far = ap (padded c.args.most) c.push_reserved.ensures.items ∙ padded_next c.args.most c.loop-values.values.items low ∙ c.loop-values.invariant.so_far;
      room = omega (arith, c.push_reserved.ensures.capacity);
    }
