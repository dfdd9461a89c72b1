use Rattle.std.proofs.Common.{◌≡◌, ℕ, ◌≤◌, arith, sym, subst, ◌∙◌, []}
use Rattle.std.specs.Slots.{slots_items}
use Rattle.ink_lease.specs.Rule.{Took}
use Rattle.ink_lease.proofs.Places.{none_not_some, same_some}
use Rattle.ink_lease.proofs.Ends.{closed}
use Rattle.ink_lease.proofs.shared.Shared+S.close.Goals as goal

pub unreachable-requires : goal.unreachable-requires
unreachable-requires g c = let v = c.args.pass.seat.me.0 in let live : v.from ≤ v.to = omega arith in
    let s = closed g.S.Leasable.lease g.S.Leasable.journal g.S.Leasable.stands_for c.args.pass.seat.id v c.requires.all.0 c.requires.all.1 live c.requires.idle.0.0 c.requires.idle.1
    (slots_items c.close_with-closed.result.words) (slots_items c.close_with-closed.result.slots) c.close_with-closed.ensures.values.2 c.take-slot.result c.take-slot.ensures.value in
    none_not_some s.0 (sym c.in-None.is ∙ s.1)

pub returns-clause-took : goal.returns-clause-took
returns-clause-took g c = let v = c.args.pass.seat.me.0 in let live : v.from ≤ v.to = omega arith in
    let s = closed g.S.Leasable.lease g.S.Leasable.journal g.S.Leasable.stands_for c.args.pass.seat.id v c.requires.all.0 c.requires.all.1 live c.requires.idle.0.0 c.requires.idle.1
    (slots_items c.close_with-closed.result.words) (slots_items c.close_with-closed.result.slots) c.close_with-closed.ensures.values.2 c.take-slot.result c.take-slot.ensures.value in
    subst (λ (x : g.row.S.Denot). Took g.S.Leasable.lease g.S.Leasable.journal g.S.Leasable.stands_for v x) (same_some s.0 c.in-Some.state (sym s.1 ∙ c.in-Some.is)) s.2

pub returns-clause-no_lease : goal.returns-clause-no_lease
returns-clause-no_lease g c = let v = c.args.pass.seat.me.0 in let live : v.from ≤ v.to = omega arith in
    let s = closed g.S.Leasable.lease g.S.Leasable.journal g.S.Leasable.stands_for c.args.pass.seat.id v c.requires.all.0 c.requires.all.1 live c.requires.idle.0.0 c.requires.idle.1
    (slots_items c.close_with-closed.result.words) (slots_items c.close_with-closed.result.slots) c.close_with-closed.ensures.values.2 c.take-slot.result c.take-slot.ensures.value in
    subst (λ (x : g.row.S.Denot). (k : ℕ) → g.S.Leasable.lease x k ≡ []) (same_some s.0 c.in-Some.state (sym s.1 ∙ c.in-Some.is)) s.3
