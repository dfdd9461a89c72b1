use Rattle.ink_law_categories.proofs.SampleLemmas.{nested, parsed, category}
use Rattle.ink_law_categories.proofs.sample.sample_module.Goals as goal

pub returns-clause-nested : goal.returns-clause-nested
returns-clause-nested c = nested

pub returns-clause-parsed : goal.returns-clause-parsed
returns-clause-parsed c = parsed

pub returns-clause-well_formed : goal.returns-clause-well_formed
returns-clause-well_formed c = category
