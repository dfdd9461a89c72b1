use Rattle.ink_law_turns.proofs.Determined.{turn_once, turns_once}
use Rattle.ink_law_turns.proofs.Stepping.{comes_once}
use Rattle.ink_law_turns.proofs.laws.turns_are_determined.Goals as goal

pub returns-clause-action : goal.returns-clause-action
returns-clause-action c s m = comes_once m

pub returns-clause-turn : goal.returns-clause-turn
returns-clause-turn c s m = turn_once m

pub returns-clause-journal : goal.returns-clause-journal
returns-clause-journal c s m limits = turns_once m limits
