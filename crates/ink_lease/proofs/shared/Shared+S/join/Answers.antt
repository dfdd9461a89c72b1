use Rattle.std.proofs.Common.{◌≤◌, arith}
use Rattle.ink_lease.proofs.Joining.{joins}
use Rattle.ink_lease.proofs.shared.Shared+S.join.Goals as goal

pub join_seat-requires : goal.join_seat-requires
join_seat-requires g c = let few = c.args.self.now.small in let v = c.args.one.seat.me.0 in let w = c.args.other.seat.me.0 in let lv : v.from ≤ v.to = omega arith in let lw : w.from ≤ w.to = omega arith in (
  c.requires.own.0,
  c.requires.own.1,
  c.requires.idle.1.1,
  omega arith,
  joins g.S.Leasable.lease g.S.Leasable.journal g.S.Leasable.stands_for c.args.one.seat.id v c.args.other.seat.id w c.requires.idle.0.0 c.requires.idle.1.0 c.requires.no_lease.0 c.requires.no_lease.1 lv lw c.requires.next,
)
