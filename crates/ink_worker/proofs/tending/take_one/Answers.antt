use Rattle.std.proofs.Common.{List, sym, subst, ℕ}
use Rattle.ink_worker.specs.Hands.{Carries}
use Rattle.ink_worker.specs.declared.held.Held.{Held}
use Rattle.ink_worker.proofs.HandLemmas.{taken_out}
use Rattle.ink_worker.proofs.tending.take_one.Goals as goal

pub returns-in-Some-clause-hand : goal.returns-in-Some-clause-hand
returns-in-Some-clause-hand g c = λ f stands carries.
    let before = g.S.Leasable.lease c.args.state.now c.args.seat in
    let after = g.S.Leasable.lease c.check_out.new.self c.args.seat in
    let run = g.S.Workable.is_run f (g.S.Leasable.journal c.check_out.new.self) in
    let carries' : Carries {W = g.row.S-Work.Denot} before run c.args.hand.now.items =
    subst (λ (js : List ℕ). Carries {W = g.row.S-Work.Denot} before (g.S.Workable.is_run f js) c.args.hand.now.items) (sym c.check_out.ensures.journal) carries in
    subst (λ (xs : List (Held g.row.S-Work.Denot)). Carries after run xs) (sym c.push_reserved.ensures.items)
    (taken_out before after run c.args.hand.now.items c.args.process c.in-Some.work carries' c.in-Some.ensures.lends (c.in-Some.ensures.run f stands))
