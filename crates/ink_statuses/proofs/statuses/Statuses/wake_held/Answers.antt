use Rattle.std.proofs.Common.{ap, ◌∙◌}
use Rattle.ink_numbered.specs.Roomy.{Roomy}
use Rattle.ink_statuses.proofs.Noted.{noted_cleared}
use Rattle.ink_worlds.specs.declared.status.Status.{Status}
use Rattle.ink_statuses.proofs.statuses.Statuses.wake_held.Goals as goal

pub invariant_of-self : goal.invariant_of-self
invariant_of-self c =
    let same = ap (λ (r : Roomy Status). r.items) c.self.view_is in
    (c.self.invariant.0, c.self.invariant.1, c.self.invariant.2, noted_cleared c.self.inside.waiters.table.items c.clear.new.self.table.items c.self.inside.waiters.beyond c.clear.new.self.beyond c.args.self.now.items c.self.inside.list.items c.args.future c.self.invariant.3 (same ∙ c.wake_noted.ensures.items) (λ other p differ. c.clear.ensures other p differ))
