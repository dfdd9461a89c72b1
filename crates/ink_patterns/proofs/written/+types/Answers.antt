use Rattle.std.proofs.Common.{rules, arith}
use Rattle.std.proofs.lemmas.Grind.{common_steps}
use Rattle.ink_forms.proofs.Kept.{keeps_then}
use Rattle.ink_patterns.proofs.Next.{types_next}
use Rattle.ink_patterns.proofs.written.+types.Goals as goal

pub types-loop-item-preserved : goal.types-loop-item-preserved
types-loop-item-preserved t c =
    let one = c.in_ok-number.ensures in
    let before = c.loop-item.invariant in
    record {
      made = types_next c.args.arena.now c.loop-item.arena c.written_type.new.arena one.keeps c.args.surface.now c.args.items.now c.loop-item.item-index _ c.loop-item-test.true
          c.loop-item.numbers.items c.push.new.self.items c.in_ok-number.number before.below before.made one.made c.in_ok-push.ensures.items;
      below = first_of (search rules, grind (arith, common_steps));
      keeps = keeps_then c.args.arena.now c.loop-item.arena c.written_type.new.arena before.keeps one.keeps;
    }
