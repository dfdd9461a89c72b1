use Rattle.std.proofs.Common.{◌≤◌, arith, ◌∙◌}
use Rattle.ink_lease.proofs.Giving.{gives_again}
use Rattle.ink_lease.proofs.shared.Shared+S.give.Goals as goal

pub store-requires : goal.store-requires
store-requires g c = let few = c.args.self.now.small in let m = c.args.pass.seat.me in let owes = c.requires.owes in let live : m.0.from ≤ m.0.to = omega arith in (
  c.exchange.ensures.0 ∙ c.requires.own,
  omega arith,
  gives_again g.S.Leasable.lease g.S.Leasable.journal g.S.Leasable.stands_for g.S.Leasable.at_rest g.S.Leasable.apart c.args.self.now.table.shared.table_id.slots c.exchange.new.seat.id m c.exchange.new.seat.me
      owes.0 c.args.state owes.1.0 owes.1.1 c.exchange.ensures.3 live owes.2,
)
