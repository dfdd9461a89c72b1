use Rattle.std.proofs.Common.{◌∙◌, length, arith}
use Rattle.std.proofs.lemmas.List.{length-set}
use Rattle.std.proofs.Common.{ap}
use Rattle.ink_base.specs.declared.value.Value.TheVariants.{Empty}
use Rattle.ink_proc.proofs.MovingLemmas.{behind_more}
use Rattle.ink_proc.proofs.moving.move_behind.Goals as goal

pub loop-index-preserved : goal.loop-index-preserved
loop-index-preserved c =
    record {
      so_far =
          behind_more c.loop-index.front.items c.push_reserved.new.self.items c.loop-index.values c.set-value.new.self c.loop-index.index c.set-value.result c.push_reserved.ensures.items c.set-value.ensures.after c.set-value.ensures.old
          ∙ c.loop-index.invariant.so_far;
      count = ap length c.set-value.ensures.after ∙ length-set c.loop-index.values c.loop-index.index Empty ∙ c.loop-index.invariant.count;
      room = omega (arith, c.push_reserved.ensures.len, c.loop-index.invariant.room);
      capacity = c.push_reserved.ensures.capacity ∙ c.loop-index.invariant.capacity;
    }
