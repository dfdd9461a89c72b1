use Rattle.ink_heap.proofs.PairsLemmas.{get-held, seen-changed, AreApart-changed}
use Rattle.ink_heap.proofs.FieldsLemmas.{with_fields, IsPopAnswer-fields}
use Rattle.ink_heap.proofs.heap.Heap.pop.Goals as goal

pub invariant_of-self : goal.invariant_of-self
invariant_of-self c =
    let at = (rw c.deref.ensures.value at c.in-Some.ensures) in
    AreApart-changed _ _ _ c.self.view_is c.self.invariant c.in-Some.index c.args.id.now at _ c.index_mut.ensures.value (with_fields c.pop.new.self)

pub returns : goal.returns
returns c =
    let at = (rw c.deref.ensures.value at c.in-Some.ensures) in
    IsPopAnswer-fields c.pop.new.self _ _ _ _ (get-held _ _ _ c.self.view_is c.self.invariant c.in-Some.index c.args.id.now at _ c.index_mut.ensures.value) (seen-changed _ _ _ c.self.view_is c.self.invariant c.in-Some.index c.args.id.now at _ c.index_mut.ensures.value (with_fields c.pop.new.self)) c.pop.result c.pop.ensures
