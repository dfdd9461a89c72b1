use Rattle.std.proofs.Common.{◌≡◌, ◌+◌, ◌≤◌, length}
use Rattle.ink_types.specs.TypeTerms.{listed, arguments}
use Rattle.ink_types.specs.Table.{type_at, list_at, list_height}
use Rattle.ink_types.proofs.types.Types.argument_count.Given as goal

abbrev pub invariant-loop-rest : goal.invariant-loop-rest
invariant-loop-rest l = record {
  whole : l.count + length (listed (list_at l.self l.list)) ≡ length (arguments (type_at l.self l.t));
  small : l.count + list_height l.list ≤ 4294967296;
}

abbrev pub decreases-loop-rest : goal.decreases-loop-rest
decreases-loop-rest l = list_height l.list
