use Rattle.std.proofs.Common.{sym}
use Rattle.ink_heap.proofs.PairsLemmas.{get-held, objects-removed, AreApart-removed}
use Rattle.ink_heap.proofs.heap.Heap.take_out.Goals as goal

pub invariant_of-self : goal.invariant_of-self
invariant_of-self c =
    let at = (rw c.deref.ensures.value at c.in-Some.ensures) in
    rw c.remove-object.ensures.items (AreApart-removed _ _ _ c.self.view_is c.self.invariant c.in-Some.index c.args.id.now at _ c.remove-object.ensures.value)

pub returns-clause-object : goal.returns-clause-object
returns-clause-object c =
    let at = (rw c.deref.ensures.value at c.in-Some.ensures) in
    sym (get-held _ _ _ c.self.view_is c.self.invariant c.in-Some.index c.args.id.now at _ c.remove-object.ensures.value)

pub returns-clause-taken : goal.returns-clause-taken
returns-clause-taken c =
    let at = (rw c.deref.ensures.value at c.in-Some.ensures) in
    rw c.remove-object.ensures.items (objects-removed _ _ _ c.self.view_is c.self.invariant c.in-Some.index c.args.id.now at _ c.remove-object.ensures.value)
