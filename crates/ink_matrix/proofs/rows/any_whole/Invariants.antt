use Rattle.std.proofs.Common.{◌≡◌, false, take}
use Rattle.ink_matrix.specs.Rows.{some_of, is_whole}
use Rattle.ink_matrix.specs.Views.{alternatives, rows_of}
use Rattle.ink_matrix.proofs.rows.any_whole.Given as goal

abbrev pub invariant-loop-row : goal.invariant-loop-row
invariant-loop-row l = some_of (is_whole (alternatives l.patterns)) (rows_of (take l.row-index l.rows)) ≡ false
