use Rattle.std.proofs.Common.{◌<◌, ◌∙◌, length, arith}
use Rattle.std.proofs.lemmas.List.{at_drop_all}
use Rattle.std.specs.FinMap.{find}
use Rattle.ink_base.specs.Ident.{id_cmp}
use Rattle.ink_heap.proofs.PairsLemmas.{HoldsName-read, get_absent}
use Rattle.ink_heap.proofs.index.index_of.Goals as goal

pub returns-then-is_same : goal.returns-then-is_same
returns-then-is_same c =
    let low : c.loop-index.index < length c.args.pairs.now = omega arith in
    HoldsName-read _ _ _ _ c.requires c.index-pairs-index.is low _ c.is_same.ensures c.if-is_same.true

pub returns : goal.returns
returns c =
    get_absent _ _
    (c.loop-index.invariant ∙ at_drop_all (find id_cmp c.args.id.now) c.args.pairs.now c.loop-index.index (omega arith))
