use Rattle.std.proofs.Common.{rules, true, cond, eqb, ap, ◌∙◌}
use Rattle.ink_marks.specs.Marks.{is_marked}
use Rattle.ink_statuses.proofs.Noted.{noted_push}
use Rattle.ink_statuses.proofs.Shown.{kept_push}
use Rattle.ink_statuses.specs.Readings.{is_ready}
use Rattle.ink_worlds.specs.declared.status.Status.TheVariants.{Ready}
use Rattle.ink_statuses.proofs.statuses.Statuses.add.Goals as goal

pub invariant_of-self : goal.invariant_of-self
invariant_of-self c =
    let kept = kept_push is_ready c.self.inside.ready c.put.new.self c.self.inside.list.items c.add.new.self.items Ready (c.self.invariant.0, c.self.invariant.1, c.self.invariant.2) c.add.ensures.items (search rules) (search rules) c.put.ensures.length (λ n. c.put.ensures.marks n ∙ ap (λ i. cond (eqb n i) true (is_marked c.self.inside.ready n)) c.len.ensures) in
    (kept.0, kept.1, kept.2, noted_push c.self.inside.waiters.table.items c.self.inside.waiters.beyond c.self.inside.list.items c.add.new.self.items c.self.invariant.3 c.add.ensures.items)
