use Rattle.std.proofs.Common.{◌≡◌, false, map, take}
use Rattle.ink_matrix.specs.Rows.{some_of, is_any}
use Rattle.ink_matrix.specs.Views.{shape_of}
use Rattle.ink_matrix.proofs.rows.has_any.Given as goal

abbrev pub invariant-loop-shape : goal.invariant-loop-shape
invariant-loop-shape l = some_of is_any (map shape_of (take l.shape-index l.shapes)) ≡ false
