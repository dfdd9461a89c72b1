use Rattle.std.proofs.Common.{◌≡◌, ◌≤◌, Option, Some, arith, ap, ◌∙◌}
use Rattle.atomic_table.specs.Table.{Me}
use Rattle.ink_lease.specs.declared.view.View.{View}
use Rattle.ink_lease.proofs.Winning.{wins_at, taken_last}
use Rattle.ink_lease.proofs.shared.Shared+S.try_turn.Goals as goal

pub compare_exchange-found-requires : goal.compare_exchange-found-requires
compare_exchange-found-requires g c = let few = c.args.self.now.small in let me = c.args.pass.seat.me in let live : me.0.from ≤ me.0.to = omega arith in let is : me.0.from ≡ c.from.result = omega arith in (
  c.requires.own,
  omega arith,
  wins_at g.S.Leasable.lease g.S.Leasable.journal g.S.Leasable.stands_for c.args.self.now.table.shared.table_id.slots c.args.pass.seat.id me c.from.result is c.requires.idle.0 live,
)

pub exchange-requires : goal.exchange-requires
exchange-requires g c = let won = c.compare_exchange-found.ensures.2.0 c.if-found-ne0.false in (
  c.compare_exchange-found.ensures.0 ∙ c.requires.own,
  (Some won.0, taken_last c.compare_exchange-found.new.seat.me.1 c.args.pass.seat.me.1 (Some won.0) (ap (λ (m : Me (Option g.row.S.Denot) (View g.row.S.Denot g.row.S-Fixed.Denot)). m.1) won.1)),
)
