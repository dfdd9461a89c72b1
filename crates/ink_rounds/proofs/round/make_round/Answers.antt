use Rattle.std.proofs.Common.{ℕ, List, sym, subst, ◌∙◌}
use Rattle.ink_rounds.proofs.LentLemmas.{all_homeward}
use Rattle.ink_rounds.proofs.Rounding.{rounded_part, rounded_whole}
use Rattle.ink_rounds.specs.Lent.{AreSliced}
use Rattle.ink_rounds.proofs.round.make_round.Goals as goal

-- src/round.rt:209:11
pub bring_all_home-requires-clause-stands : goal.bring_all_home-requires-clause-stands
bring_all_home-requires-clause-stands g c = (c.lend_all-are_lent.ensures.lends c.args.code.now c.requires.stands).stands

-- src/round.rt:209:11
pub bring_all_home-requires-clause-comes : goal.bring_all_home-requires-clause-comes
bring_all_home-requires-clause-comes g c =
    all_homeward c.args.code.now c.lend_all-are_lent.new.world.post c.limits.result.now c.lend_all-are_lent.new.lent.items c.slice_all.new.lent.items c.turn_round.new.lent.items
    (c.limits.ensures ∙ sym c.lend_all-are_lent.ensures.limits) c.slice_all.ensures (c.lend_all-are_lent.ensures.lends c.args.code.now c.requires.stands).each c.turn_round.ensures

-- the world follows the machine through the round
pub returns-then-is_whole-clause-follows : goal.returns-then-is_whole-clause-follows
returns-then-is_whole-clause-follows g c = λ run goes follows.
    rounded_whole c.args.code.now c.args.world.now.post c.lend_all-are_lent.new.world.post c.bring_all_home.new.world.post
    c.lend_all-are_lent.new.lent.items c.slice_all.new.lent.items c.turn_round.new.lent.items c.lend_all-are_lent.result
    c.requires.stands c.lend_all-are_lent.ensures.all c.lend_all-are_lent.ensures.limits (subst (λ (l : List ℕ). AreSliced c.args.code.now l c.lend_all-are_lent.new.lent.items c.slice_all.new.lent.items) c.limits.ensures c.slice_all.ensures) c.turn_round.ensures run goes follows c.in-Ok.is_whole c.if-is_whole.true c.in-Ok.ensures.follows

pub returns-else-is_whole-clause-follows : goal.returns-else-is_whole-clause-follows
returns-else-is_whole-clause-follows g c = λ run goes follows.
    rounded_part c.args.code.now c.args.world.now.post c.lend_all-are_lent.new.world.post c.bring_all_home.new.world.post
    c.lend_all-are_lent.new.lent.items c.slice_all.new.lent.items c.turn_round.new.lent.items c.lend_all-are_lent.result
    c.requires.stands c.lend_all-are_lent.ensures.all c.lend_all-are_lent.ensures.limits (subst (λ (l : List ℕ). AreSliced c.args.code.now l c.lend_all-are_lent.new.lent.items c.slice_all.new.lent.items) c.limits.ensures c.slice_all.ensures) c.turn_round.ensures run goes follows c.in-Ok.is_whole c.if-is_whole.false c.in-Ok.ensures.follows
