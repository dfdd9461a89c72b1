use Rattle.ink_law_operands.proofs.ArrayRows.{array-rows-take}
use Rattle.ink_law_operands.proofs.ObjectRows.{object-rows-judge}
use Rattle.ink_law_operands.proofs.ValueRows.{value-rows-judge}
use Rattle.ink_law_operands.proofs.operands.rows_judge_operands.Goals as goal

pub returns-clause-values : goal.returns-clause-values
returns-clause-values c = value-rows-judge

pub returns-clause-objects : goal.returns-clause-objects
returns-clause-objects c = object-rows-judge

pub returns-clause-arrays : goal.returns-clause-arrays
returns-clause-arrays c = array-rows-take
