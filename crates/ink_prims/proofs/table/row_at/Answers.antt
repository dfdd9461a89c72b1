use Rattle.ink_base.specs.Rows.{rows}
use Rattle.ink_prims.specs.Row.{row_of}
use Rattle.ink_prims.specs.Table.{table_rows}
use Rattle.ink_prims.proofs.table.row_at.Goals as goal

pub returns : goal.returns
unfolding table_rows rows row_of
returns c = c.row_in.ensures
