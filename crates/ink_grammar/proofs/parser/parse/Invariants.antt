use Rattle.std.proofs.Common.{◌-◌, ◌≤◌, length, take}
use Rattle.std.specs.Prelude.{slice_get}
use Rattle.ink_grammar.specs.Views as view
use Rattle.ink_grammar.proofs.Runs.{Stands}
use Rattle.ink_grammar.proofs.Measure.{work}
use Rattle.ink_grammar.proofs.parser.parse.Given as goal

abbrev pub invariant-loop-symbol : goal.invariant-loop-symbol
invariant-loop-symbol l = record { in_range : l.at ≤ length l.tokens; stands : Stands (take l.at l.tokens) l.stack (view.found l.builder) (slice_get l.tokens l.at) }

abbrev pub decreases-loop-symbol : goal.decreases-loop-symbol
decreases-loop-symbol l = work l.stack (length l.tokens - l.at)
