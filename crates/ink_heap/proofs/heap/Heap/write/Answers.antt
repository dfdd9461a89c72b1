use Rattle.std.proofs.Common.{ap, ◌∙◌}
use Rattle.std.specs.Option.{option_and_then}
use Rattle.std.specs.List.{slice_get}
use Rattle.ink_base.specs.Objects.{with_field}
use Rattle.ink_heap.proofs.PairsLemmas.{get-held, seen-changed, AreApart-changed}
use Rattle.ink_heap.proofs.heap.Heap.write.Goals as goal

pub invariant_of-self : goal.invariant_of-self
invariant_of-self c =
    let at = (rw c.deref.ensures.value at c.in-Some.ensures) in
    rw c.set.ensures.after (AreApart-changed _ _ _ c.self.view_is c.self.invariant c.in-Some.index c.args.id.now at _ c.index_mut.ensures.value (with_field c.args.field c.args.value))

pub returns : goal.returns
returns c =
    let at = (rw c.deref.ensures.value at c.in-Some.ensures) in
    let has = get-held _ _ _ c.self.view_is c.self.invariant c.in-Some.index c.args.id.now at _ c.index_mut.ensures.value in (
      ap (option_and_then (λ object. slice_get object.fields c.args.field)) has ∙ c.set.ensures.old,
      rw c.set.ensures.after (seen-changed _ _ _ c.self.view_is c.self.invariant c.in-Some.index c.args.id.now at _ c.index_mut.ensures.value (with_field c.args.field c.args.value)),
    )
