use Rattle.ink_base.specs.Objects.{counted_down}
use Rattle.ink_heap.proofs.PairsLemmas.{seen-changed, AreApart-changed}
use Rattle.ink_heap.proofs.heap.Heap.count_down.Goals as goal

pub invariant_of-self : goal.invariant_of-self
invariant_of-self c =
    let at = (rw c.deref.ensures.value at c.in-Some.ensures) in
    AreApart-changed _ _ _ c.self.view_is c.self.invariant c.in-Some.index c.args.id.now at _ c.index_mut.ensures.value counted_down

pub returns-clause-after : goal.returns-clause-after
returns-clause-after c =
    let at = (rw c.deref.ensures.value at c.in-Some.ensures) in
    seen-changed _ _ _ c.self.view_is c.self.invariant c.in-Some.index c.args.id.now at _ c.index_mut.ensures.value counted_down
