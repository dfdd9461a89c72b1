use Rattle.std.proofs.Common.{◌≡◌, drop}
use Rattle.std.specs.FinMap.{find}
use Rattle.ink_base.specs.Ident.{id_cmp}
use Rattle.ink_heap.proofs.index.index_of.Given as goal

-- the name stands in what is left, if anywhere
abbrev pub invariant-loop-index : goal.invariant-loop-index
invariant-loop-index l = find id_cmp l.id l.pairs ≡ find id_cmp l.id (drop l.index l.pairs)
