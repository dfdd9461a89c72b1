use Rattle.std.proofs.Common.{◌≡◌, take}
use Rattle.ink_matrix.specs.Rows as spec
use Rattle.ink_matrix.specs.Views.{alternatives, rows_of}
use Rattle.ink_matrix.proofs.rows.open_rows.Given as goal

abbrev pub invariant-loop-row : goal.invariant-loop-row
invariant-loop-row l = rows_of l.kept.items ≡ spec.open_rows (alternatives l.patterns) l.case l.count (rows_of (take l.row-index l.rows))
