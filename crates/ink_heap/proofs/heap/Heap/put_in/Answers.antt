use Rattle.ink_heap.proofs.PairsLemmas.{get-seen_absent, objects-put, AreApart-put}
use Rattle.ink_heap.proofs.heap.Heap.put_in.Goals as goal

pub invariant_of-self : goal.invariant_of-self
invariant_of-self c =
    let absent = get-seen_absent _ _ _ c.self.view_is c.self.invariant c.args.id (rw c.deref.ensures.value at c.in_default.ensures) in
    rw c.push_reserved.ensures.items (AreApart-put _ _ _ c.self.view_is c.self.invariant c.args.id c.args.object absent)

pub returns-clause-objects : goal.returns-clause-objects
returns-clause-objects c =
    let absent = get-seen_absent _ _ _ c.self.view_is c.self.invariant c.args.id (rw c.deref.ensures.value at c.in_default.ensures) in
    rw c.push_reserved.ensures.items (objects-put _ _ _ c.self.view_is c.self.invariant c.args.id c.args.object absent)
