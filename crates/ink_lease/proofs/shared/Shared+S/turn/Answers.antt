use Rattle.std.proofs.Common.{refl}
use Rattle.ink_lease.specs.Rule.{view}
use Rattle.ink_lease.proofs.shared.Shared+S.turn.Goals as goal

pub loop-init : goal.loop-init
loop-init g c = (tt, tt, (refl, refl), c.requires.idle, ((view c.args.pass.seat).lost, refl))
