use Rattle.std.proofs.Common.{◌≢◌, ◌<◌, ◌∙◌, length, arith}
use Rattle.std.proofs.lemmas.List.{length-set}
use Rattle.ink_base.specs.declared.value.Value.TheVariants.{Empty}
use Rattle.ink_proc.proofs.MovingLemmas.{given_apart, given_more}
use Rattle.ink_proc.proofs.moving.move_in.Goals as goal

pub returns-then-numbers-len : goal.returns-then-numbers-len
returns-then-numbers-len c =
    let differ : length c.args.numbers.now ≢ length c.args.values = omega arith in
    given_apart c.args.numbers.now c.args.values c.args.registers.now differ

pub loop-index-preserved : goal.loop-index-preserved
loop-index-preserved c =
    let low : c.loop-index.index < length c.args.numbers.now = omega arith in
    rw c.set-value.ensures.after record {
      so_far = c.loop-index.invariant.so_far ∙ given_more _ _ _ _ c.loop-index.index c.set-value.result low c.set-value.ensures.old c.in_ok-put_there.ensures;
      count = length-set c.loop-index.values c.loop-index.index Empty ∙ c.loop-index.invariant.count;
    }
