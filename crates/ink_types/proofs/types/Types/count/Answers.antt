use Rattle.std.proofs.Common.{ap, arith}
use Rattle.ink_types.proofs.Tables.{read_length}
use Rattle.ink_types.proofs.types.Types.count.Goals as goal

pub returns : goal.returns
returns c = omega (arith, c.len.ensures.len, read_length c.self.inside.keys.keys c.args.self.now.items (ap (λ s. s.items) c.self.view_is) c.self.invariant.0)
