use Rattle.std.proofs.Common.{rules, arith}
use Rattle.std.proofs.lemmas.Grind.{common_steps}
use Rattle.ink_forms.proofs.Kept.{keeps_then}
use Rattle.ink_patterns.proofs.Next.{pats_next, fields_next}
use Rattle.ink_patterns.proofs.patterns.+patterns.Goals as goal

pub patterns-loop-item-preserved : goal.patterns-loop-item-preserved
patterns-loop-item-preserved t c =
    let one = c.in_ok-number.ensures in
    let before = c.loop-item.invariant in
    record {
      made = pats_next c.args.arena.now c.loop-item.arena c.pattern.new.arena one.keeps c.args.surface.now c.args.items.now c.loop-item.item-index _ c.loop-item-test.true
          c.loop-item.numbers.items c.push.new.self.items c.in_ok-number.number before.below before.made one.made c.in_ok-push.ensures.items;
      below = first_of (search rules, grind (arith, common_steps));
      keeps = keeps_then c.args.arena.now c.loop-item.arena c.pattern.new.arena before.keeps one.keeps;
    }

pub field_patterns-loop-named-preserved : goal.field_patterns-loop-named-preserved
field_patterns-loop-named-preserved t c =
    let one = c.in_ok-pattern.ensures in
    let before = c.loop-named.invariant in
    record {
      made = fields_next c.args.arena.now c.loop-named.arena c.pattern.new.arena one.keeps c.args.surface.now c.args.fields.now c.loop-named.named-index _ c.loop-named-test.true
          c.loop-named.made.items c.push.new.self.items c.in_ok-pattern.pattern before.below before.made one.made c.in_ok-push.ensures.items;
      below = first_of (search rules, grind (arith, common_steps));
      keeps = keeps_then c.args.arena.now c.loop-named.arena c.pattern.new.arena before.keeps one.keeps;
    }
