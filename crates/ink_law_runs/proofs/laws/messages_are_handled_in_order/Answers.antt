use Rattle.ink_law_runs.proofs.Handled.{handled_in_order, sent_numbers}
use Rattle.ink_law_runs.proofs.laws.messages_are_handled_in_order.Goals as goal

pub returns-clause-order : goal.returns-clause-order
returns-clause-order c = handled_in_order

pub returns-clause-numbers : goal.returns-clause-numbers
returns-clause-numbers c = sent_numbers
