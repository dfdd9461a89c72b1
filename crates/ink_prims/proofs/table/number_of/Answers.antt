use Rattle.ink_base.specs.Rows.{rows}
use Rattle.ink_prims.specs.Row.{is_row_of}
use Rattle.ink_prims.specs.Table.{number_of}
use Rattle.ink_prims.proofs.table.number_of.Goals as goal

pub returns-in-Some : goal.returns-in-Some
unfolding number_of rows is_row_of
returns-in-Some c = c.in-Some.ensures.found

pub returns-in-None : goal.returns-in-None
unfolding number_of rows is_row_of
returns-in-None c = c.in-None.ensures.found
