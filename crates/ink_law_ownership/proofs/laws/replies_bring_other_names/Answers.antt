use Rattle.ink_law_ownership.proofs.Apart.{message_apart, value_apart, next_nowhere}
use Rattle.ink_law_ownership.proofs.laws.replies_bring_other_names.Goals as goal

pub returns-clause-message : goal.returns-clause-message
returns-clause-message c = message_apart

pub returns-clause-value : goal.returns-clause-value
returns-clause-value c = value_apart

pub returns-clause-next : goal.returns-clause-next
returns-clause-next c = next_nowhere
