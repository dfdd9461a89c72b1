use Rattle.ink_law_turns.proofs.Ordered.{in_order, numbers_rise}
use Rattle.ink_law_turns.proofs.laws.messages_come_in_order.Goals as goal

pub returns-clause-order : goal.returns-clause-order
returns-clause-order c s sender receiver = in_order sender receiver

pub returns-clause-numbers : goal.returns-clause-numbers
returns-clause-numbers c s sender receiver = numbers_rise sender receiver
