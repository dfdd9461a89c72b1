use Rattle.std.proofs.Common.{◌<◌, arith}
use Rattle.ink_lease.proofs.Splitting.{splits}
use Rattle.ink_lease.proofs.shared.Shared+S.split.Goals as goal

pub split_seat-other-requires : goal.split_seat-other-requires
split_seat-other-requires g c = let few = c.args.self.now.small in let v = c.args.pass.seat.me.0 in let wide : v.from < v.to = omega arith in (
  c.requires.own,
  omega arith,
  splits g.S.Leasable.lease g.S.Leasable.journal g.S.Leasable.stands_for c.args.pass.seat.id v c.requires.idle.0 wide,
)
