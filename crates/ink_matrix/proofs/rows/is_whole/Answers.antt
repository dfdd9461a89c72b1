use Rattle.std.proofs.Common.{sym}
use Rattle.ink_matrix.specs.Views.{alternatives}
use Rattle.ink_matrix.proofs.Loops.{whole_more, whole_not}
use Rattle.ink_matrix.proofs.rows.is_whole.Goals as goal

pub returns-then-not-takes_any : goal.returns-then-not-takes_any
returns-then-not-takes_any c = sym (whole_not (alternatives c.args.patterns.now) c.args.parts.now c.loop-part.part-index _ c.loop-part-test.true (sym c.if-not-takes_any.ensures))

pub loop-part-preserved : goal.loop-part-preserved
loop-part-preserved c = whole_more (alternatives c.args.patterns.now) c.args.parts.now c.loop-part.part-index _ c.loop-part-test.true c.loop-part.invariant (sym c.if-not-takes_any.ensures)
