use Rattle.ink_tokens.proofs.MatchLemmas.{match_at-spelled}
use Rattle.ink_tokens.proofs.LengthLemmas.{match-within}
use Rattle.ink_tokens.proofs.SpellingLemmas.{match_at-longest}
use Rattle.ink_tokens.proofs.longest.longest_match.Goals as goal

pub returns-clause-spelled : goal.returns-clause-spelled
returns-clause-spelled c = match_at-spelled

pub returns-clause-longest : goal.returns-clause-longest
returns-clause-longest c = match_at-longest

pub returns-clause-within : goal.returns-clause-within
returns-clause-within c = match-within
