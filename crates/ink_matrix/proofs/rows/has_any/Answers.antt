use Rattle.std.proofs.Common.{sym}
use Rattle.ink_matrix.specs.Rows.{is_any}
use Rattle.ink_matrix.specs.Views.{shape_of}
use Rattle.ink_matrix.proofs.Loops.{some_found}
use Rattle.ink_matrix.proofs.rows.has_any.Goals as goal

pub returns-then-is_any : goal.returns-then-is_any
returns-then-is_any c = sym (some_found shape_of is_any c.args.shapes.now c.loop-shape.shape-index c.shape-item.result c.loop-shape-test.true c.shape-item.is (sym c.if-is_any.ensures))
