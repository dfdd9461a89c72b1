use Rattle.std.proofs.Common.{◌≡◌}
use Rattle.std.specs.Prelude.{slice_get}
use Rattle.ink_types.specs.TypeTerms.{listed, arguments}
use Rattle.ink_types.specs.Table.{type_at, list_at, list_height}
use Rattle.ink_types.proofs.types.Types.argument.Given as goal

abbrev pub invariant-loop-first : goal.invariant-loop-first
invariant-loop-first l = slice_get (listed (list_at l.self l.list)) l.left ≡ slice_get (arguments (type_at l.self l.t)) l.index

abbrev pub decreases-loop-first : goal.decreases-loop-first
decreases-loop-first l = list_height l.list
