use Rattle.std.proofs.Common.{◌-◌, cond, eqb, ap, sym, ◌∙◌}
use Rattle.ink_marks.specs.Marks.{is_marked}
use Rattle.ink_statuses.proofs.Noted.{noted_set}
use Rattle.ink_statuses.proofs.Shown.{kept_set, kept_unset}
use Rattle.ink_statuses.specs.Readings.{is_ready}
use Rattle.ink_statuses.proofs.statuses.Statuses.set.Goals as goal

pub invariant_of-self-in-Some : goal.invariant_of-self-in-Some
invariant_of-self-in-Some c =
    let kept = kept_set is_ready c.self.inside.ready c.mark.new.ready c.self.inside.list.items c.set.new.self.items c.args.process c.args.status c.in-Some.old (c.self.invariant.0, c.self.invariant.1, c.self.invariant.2) (sym c.set.ensures.old ∙ c.in-Some.is) c.set.ensures.after c.mark.ensures.length (λ e n. c.mark.ensures.marks (e ∙ sym c.is_ready.ensures) n ∙ ap (λ b. cond (eqb n (c.args.process - 1)) b (is_marked c.self.inside.ready n)) c.is_ready-in-Some.ensures) in
    (kept.0, kept.1, kept.2, noted_set c.self.inside.waiters.table.items c.note.new.waiters.table.items c.self.inside.waiters.beyond c.note.new.waiters.beyond c.self.inside.list.items c.set.new.self.items c.args.process c.args.status c.self.invariant.3 c.set.ensures.after c.note.ensures.keeps c.note.ensures.own)

pub invariant_of-self : goal.invariant_of-self
invariant_of-self c =
    let kept = kept_unset is_ready c.self.inside.ready c.self.inside.list.items c.set.new.self.items c.args.process c.args.status (c.self.invariant.0, c.self.invariant.1, c.self.invariant.2) (sym c.set.ensures.old ∙ c.in-None.is) c.set.ensures.after in
    (kept.0, kept.1, kept.2, noted_set c.self.inside.waiters.table.items c.note.new.waiters.table.items c.self.inside.waiters.beyond c.note.new.waiters.beyond c.self.inside.list.items c.set.new.self.items c.args.process c.args.status c.self.invariant.3 c.set.ensures.after c.note.ensures.keeps c.note.ensures.own)
