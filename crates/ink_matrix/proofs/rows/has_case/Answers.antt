use Rattle.std.proofs.Common.{sym}
use Rattle.ink_matrix.specs.Rows.{is_case}
use Rattle.ink_matrix.specs.Views.{shape_of}
use Rattle.ink_matrix.proofs.Loops.{some_found}
use Rattle.ink_matrix.proofs.rows.has_case.Goals as goal

pub returns-then-is_case : goal.returns-then-is_case
returns-then-is_case c = sym (some_found shape_of is_case c.args.shapes.now c.loop-shape.shape-index c.shape-item.result c.loop-shape-test.true c.shape-item.is (sym c.if-is_case.ensures))
