use Rattle.std.proofs.Common.{◌≡◌, false, take}
use Rattle.ink_matrix.specs.Rows.{some_of, names}
use Rattle.ink_matrix.specs.Views.{alternatives, rows_of}
use Rattle.ink_matrix.proofs.rows.names_any.Given as goal

abbrev pub invariant-loop-row : goal.invariant-loop-row
invariant-loop-row l = some_of (names (alternatives l.patterns)) (rows_of (take l.row-index l.rows)) ≡ false
