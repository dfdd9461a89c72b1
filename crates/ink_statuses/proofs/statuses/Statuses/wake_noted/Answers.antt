use Rattle.std.proofs.Common.{◌≡◌, List, Some, true, false, ap, sym, ◌∙◌}
use Rattle.ink_base.specs.Numbered.{numbered}
use Rattle.ink_numbered.specs.Roomy.{Roomy}
use Rattle.ink_statuses.proofs.Noted.{woken_nobody, woken_one, noted_who, told_one}
use Rattle.ink_statuses.specs.Waiting.{waits}
use Rattle.ink_statuses.specs.declared.waiters.Waiter.{Waiter}
use Rattle.ink_worlds.specs.declared.status.Status.{Status}
use Rattle.ink_statuses.proofs.statuses.Statuses.wake_noted.Goals as goal

pub returns-in-Nobody-clause-items : goal.returns-in-Nobody-clause-items
returns-in-Nobody-clause-items c =
    let same = ap (λ (r : Roomy Status). r.items) c.self.view_is in
    sym (woken_nobody c.args.future c.args.self.now.items (λ p e. let told : false ≡ true = sym (ap (λ (who : Waiter). waits (Some who) false p) c.in-Nobody.is) ∙ noted_who c.self.inside.waiters.table.items c.self.inside.waiters.beyond c.self.inside.list.items c.args.future c.who.result c.self.invariant.3 c.who.ensures p (ap (λ (xs : List Status). numbered xs p) same ∙ e) in cc))

pub returns-in-One-clause-items : goal.returns-in-One-clause-items
returns-in-One-clause-items c =
    let same = ap (λ (r : Roomy Status). r.items) c.self.view_is in
    c.wake_one.ensures.items ∙ woken_one c.args.future c.in-One.process c.args.self.now.items (λ p e. told_one p c.in-One.process (sym (ap (λ (who : Waiter). waits (Some who) false p) c.in-One.is) ∙ noted_who c.self.inside.waiters.table.items c.self.inside.waiters.beyond c.self.inside.list.items c.args.future c.who.result c.self.invariant.3 c.who.ensures p (ap (λ (xs : List Status). numbered xs p) same ∙ e)))
