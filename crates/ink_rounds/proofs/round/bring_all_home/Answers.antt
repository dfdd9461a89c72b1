use Rattle.std.proofs.Common.{Bool, ℕ, ◌-◌, ap, subst, take, ◌∙◌}
use Rattle.std.proofs.lemmas.List.{append-nil}
use Rattle.ink_rounds.proofs.Bringing.{leads_last, leads_off, leads_on}
use Rattle.ink_rounds.proofs.LentLemmas.{rest_homeward}
use Rattle.ink_rounds.proofs.round.bring_all_home.Goals as goal
use Rattle.ink_rounds.specs.Machine.{FollowsNext}

pub loop-one-preserved : goal.loop-one-preserved
loop-one-preserved g c = record {
  stands = c.in-Ok-true.ensures.leaves.stands;
  comes = rest_homeward c.args.code.now c.loop-one.world.post c.bring_home.new.world.post c.loop-one.lent.items c.pop.new.self.items c.in-Some.one c.in-Some.ensures.items c.loop-one.invariant.comes c.in-Ok-true.ensures.leaves;
  written = λ first written. c.in-Ok-true.ensures.written first (c.loop-one.invariant.written first written);
  limits = c.in-Ok-true.ensures.limits ∙ c.loop-one.invariant.limits;
  follows = λ gone run awaits.
      leads_on c.args.code.now c.args.world.now.post.limits gone run c.loop-one.world.post c.bring_home.new.world.post c.in-Some.one c.pop.new.self.items c.loop-one.invariant.limits c.loop-one.lent.items c.in-Some.ensures.items
      c.in-Ok-true.ensures.limits (subst (λ (whole : Bool). FollowsNext c.args.code.now whole c.in-Some.one c.loop-one.world.post c.bring_home.new.world.post) c.in-Ok-true.field-0-test c.in-Ok-true.ensures.follows) (c.loop-one.invariant.follows gone run awaits);
}

pub give_all_up-requires-clause-comes : goal.give_all_up-requires-clause-comes
give_all_up-requires-clause-comes g c =
    rest_homeward c.args.code.now c.loop-one.world.post c.bring_home.new.world.post c.loop-one.lent.items c.pop.new.self.items c.in-Some.one c.in-Some.ensures.items c.loop-one.invariant.comes c.in-Ok-false.ensures.leaves

pub returns-in-Ok-clause-follows : goal.returns-in-Ok-clause-follows
returns-in-Ok-clause-follows g c = λ gone run awaits.
    leads_off c.args.code.now c.args.world.now.post.limits gone run c.loop-one.world.post c.bring_home.new.world.post c.in-Some.one c.pop.new.self.items c.loop-one.invariant.limits c.give_all_up.new.world.post c.loop-one.lent.items c.in-Some.ensures.items
    (subst (λ (whole : Bool). FollowsNext c.args.code.now whole c.in-Some.one c.loop-one.world.post c.bring_home.new.world.post) c.in-Ok-false.field-0-test c.in-Ok-false.ensures.follows) c.in-Ok.ensures.journal (c.loop-one.invariant.follows gone run awaits)

pub returns-clause-follows : goal.returns-clause-follows
returns-clause-follows g c = λ gone run awaits.
    let none = c.in_default.ensures.items ∙ (append-nil c.pop.new.self.items ∙ (c.in_default.ensures.rest ∙ ap (λ (n : ℕ). take (n - 1) c.loop-one.lent.items) c.in_default.ensures.cases.0)) in
    leads_last c.args.code.now c.args.world.now.post.limits gone run c.loop-one.world.post c.loop-one.lent.items none (c.loop-one.invariant.follows gone run awaits)
