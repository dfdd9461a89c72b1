use Rattle.ink_law_categories.proofs.PartLemmas.{part, apart}
use Rattle.ink_law_categories.proofs.texts.parts_apart.Goals as goal

pub returns-clause-part : goal.returns-clause-part
returns-clause-part c = part

pub returns-clause-apart : goal.returns-clause-apart
returns-clause-apart c = apart
