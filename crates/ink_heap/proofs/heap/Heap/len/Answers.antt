use Rattle.std.proofs.Common.{arith}
use Rattle.ink_heap.proofs.PairsLemmas.{len-seen}
use Rattle.ink_heap.proofs.heap.Heap.len.Goals as goal

pub returns : goal.returns
returns c =
    let len = len-seen _ _ _ c.self.view_is c.self.invariant in omega (arith, c.self.inside.pairs.ok.0)
