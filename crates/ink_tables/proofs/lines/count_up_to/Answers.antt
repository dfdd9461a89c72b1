use Rattle.std.proofs.Common.{arith}
use Rattle.ink_tables.proofs.lines.count_up_to.Goals as goal

pub returns : goal.returns
returns c = λ count split. omega (arith, c.loop-low.invariant.from count split, c.loop-low.invariant.to count split, c.loop-low-test.false)
