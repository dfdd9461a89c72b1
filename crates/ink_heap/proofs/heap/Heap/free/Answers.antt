use Rattle.std.proofs.Common.{ap, sym, ◌∙◌, arith}
use Rattle.ink_heap.proofs.PairsLemmas.{get-held, held-pair, objects-removed, AreApart-removed}
use Rattle.ink_heap.proofs.heap.Heap.free.Goals as goal

pub invariant_of-self : goal.invariant_of-self
invariant_of-self c =
    let at = (rw c.deref.ensures.value at c.in-Some.ensures) in
    rw c.remove-object.ensures.items (AreApart-removed _ _ _ c.self.view_is c.self.invariant c.in-Some.index c.args.id.now at _ c.index.ensures)

pub returns : goal.returns
returns c =
    let at = (rw c.deref.ensures.value at c.in-Some.ensures) in
    let spare = ap (λ view. view.spare) c.self.view_is in
    let pair = held-pair _ _ _ c.self.view_is c.self.invariant c.in-Some.index c.args.id.now at _ c.index.ensures in
    let taken = held-pair _ _ _ c.self.view_is c.self.invariant c.in-Some.index c.args.id.now at _ c.remove-object.ensures.value in
    rw (get-held _ _ _ c.self.view_is c.self.invariant c.in-Some.index c.args.id.now at _ c.index.ensures) (
      omega arith,
      ap (λ pair. pair.1.fields) (taken ∙ sym pair),
      rw c.remove-object.ensures.items (objects-removed _ _ _ c.self.view_is c.self.invariant c.in-Some.index c.args.id.now at _ c.index.ensures),
      omega arith,
    )
