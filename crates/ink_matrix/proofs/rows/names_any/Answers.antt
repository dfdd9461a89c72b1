use Rattle.std.proofs.Common.{sym}
use Rattle.ink_matrix.specs.Rows.{names}
use Rattle.ink_matrix.specs.Views.{alternatives}
use Rattle.ink_matrix.proofs.Loops.{some_found}
use Rattle.ink_matrix.proofs.rows.names_any.Goals as goal

pub returns-then-row_names : goal.returns-then-row_names
returns-then-row_names c = sym (some_found (λ r. r.parts.items) (names (alternatives c.args.patterns.now)) c.args.rows.now c.loop-row.row-index c.row-item.result c.loop-row-test.true c.row-item.is (sym c.if-row_names.ensures))
