use Rattle.ink_law_nesting.proofs.Scanned.{tokens-nest}
use Rattle.ink_law_nesting.proofs.nests.tokens_nest.Goals as goal

pub returns : goal.returns
returns c = tokens-nest
