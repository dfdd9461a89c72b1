use Rattle.std.proofs.Common.{◌≡◌, ◌++◌, map, take}
use Rattle.ink_matrix.specs.Rows.{gather, opened, behind}
use Rattle.ink_matrix.specs.Views.{shape_of, rows_of}
use Rattle.ink_matrix.proofs.rows.push_shapes.Given as goal

abbrev pub invariant-loop-shape : goal.invariant-loop-shape
invariant-loop-shape l = rows_of l.kept.items ≡ rows_of l.initial.kept.items ++ gather (opened l.case l.anys (behind l.row.parts.items)) (map shape_of (take l.shape-index l.shapes))
