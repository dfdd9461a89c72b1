use Rattle.std.proofs.Common.{ap, arith}
use Rattle.ink_base.specs.Objects.{with_more}
use Rattle.ink_heap.proofs.PairsLemmas.{get-held, seen-changed, seen-same, AreApart-changed}
use Rattle.ink_heap.proofs.FieldsLemmas.{with_fields}
use Rattle.ink_heap.proofs.heap.Heap.push.Goals as goal

pub invariant_of-self : goal.invariant_of-self
invariant_of-self c =
    let at = (rw c.deref.ensures.value at c.in-Some.ensures) in
    AreApart-changed _ _ _ c.self.view_is c.self.invariant c.in-Some.index c.args.id.now at _ c.index_mut.ensures.value (with_fields c.push.new.self)

pub invariant_of-self-2 : goal.invariant_of-self-2
invariant_of-self-2 c =
    let at = (rw c.deref.ensures.value at c.in-Some.ensures) in
    AreApart-changed _ _ _ c.self.view_is c.self.invariant c.in-Some.index c.args.id.now at _ c.index_mut.ensures.value (with_fields c.push.new.self)

pub returns-in-Err : goal.returns-in-Err
returns-in-Err c =
    let at = (rw c.deref.ensures.value at c.in-Some.ensures) in
    let same = ap (λ fields. with_fields fields c.index_mut.result.now.1) c.in-Err.ensures.err in (
      rw (get-held _ _ _ c.self.view_is c.self.invariant c.in-Some.index c.args.id.now at _ c.index.ensures) (omega arith),
      c.in-Err.ensures.back,
      seen-same _ _ _ c.self.view_is c.self.invariant c.in-Some.index c.args.id.now at _ c.index_mut.ensures.value (with_fields c.push.new.self) same,
    )

pub returns : goal.returns
returns c =
    let at = (rw c.deref.ensures.value at c.in-Some.ensures) in (
      rw (get-held _ _ _ c.self.view_is c.self.invariant c.in-Some.index c.args.id.now at _ c.index.ensures) (omega arith),
      rw c.in_default.ensures.ok (seen-changed _ _ _ c.self.view_is c.self.invariant c.in-Some.index c.args.id.now at _ c.index_mut.ensures.value (with_more c.args.value)),
    )
