use Rattle.std.proofs.Common.{◌<◌, ◌^◌, subst, rules}
use Rattle.std.specs.Option.{IfSome}
use Rattle.ink_base.specs.Objects.{counted_up}
use Rattle.ink_heap.proofs.PairsLemmas.{seen-absent, get-held, seen-changed, AreApart-changed}
use Rattle.ink_heap.proofs.heap.Heap.count_up.Goals as goal

pub returns-in-None-clause-after : goal.returns-in-None-clause-after
returns-in-None-clause-after c =
    seen-absent _ _ _ c.self.view_is c.self.invariant c.args.id.now counted_up (rw c.deref.ensures.value at c.in-None.ensures)

pub overflow_add-object : goal.overflow_add-object
overflow_add-object c =
    let at = (rw c.deref.ensures.value at c.in-Some.ensures) in
    let found = get-held _ _ _ c.self.view_is c.self.invariant c.in-Some.index c.args.id.now at _ c.index_mut.ensures.value in
    let low : c.index_mut.result.now.1.count < 2 ^ 62 = subst (λ found. IfSome found (λ object. object.count < 2 ^ 62)) found c.requires in
    search rules

pub invariant_of-self : goal.invariant_of-self
invariant_of-self c =
    let at = (rw c.deref.ensures.value at c.in-Some.ensures) in
    AreApart-changed _ _ _ c.self.view_is c.self.invariant c.in-Some.index c.args.id.now at _ c.index_mut.ensures.value counted_up

pub returns-clause-after : goal.returns-clause-after
returns-clause-after c =
    let at = (rw c.deref.ensures.value at c.in-Some.ensures) in
    seen-changed _ _ _ c.self.view_is c.self.invariant c.in-Some.index c.args.id.now at _ c.index_mut.ensures.value counted_up
