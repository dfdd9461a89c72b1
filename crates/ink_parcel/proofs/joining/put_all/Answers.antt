use Rattle.std.proofs.Common.{◌≡◌, ◌+◌, List, [], ◌∷◌, length, ap, sym, ◌∙◌, subst, arith, length-append}
use Rattle.std.specs.Prelude.{IsSome}
use Rattle.ink_base.specs.declared.ident.ObjectId.{ObjectId}
use Rattle.ink_base.specs.declared.object.Object.{Object}
use Rattle.ink_parcel.specs.Moves.{CanBePut}
use Rattle.ink_parcel.proofs.PutLemmas.{whole_of, absent_last, CanBePut-last, whole_of-last}
use Rattle.ink_parcel.proofs.joining.put_all.Goals as goal

pub unreachable-requires : goal.unreachable-requires
unreachable-requires c =
    let can = subst (CanBePut c.loop-id.heap.objects) c.in-Some.ensures.items c.loop-id.invariant.can in
    let there = subst IsSome (absent_last c.loop-id.heap.objects c.pop.new.self.items c.in-Some.id c.in-Some.object can) c.in-Err.ensures.there in
    cc

pub loop-id-preserved : goal.loop-id-preserved
loop-id-preserved c =
    let pairs = c.pop.new.self.items in
    let last : List (ObjectId × Object) = (c.in-Some.id, c.in-Some.object) ∷ [] in
    let items = c.in-Some.ensures.items in
    let size : length c.loop-id.objects.items ≡ length pairs + 1 = ap length items ∙ length-append pairs last in
    let can = subst (CanBePut c.loop-id.heap.objects) items c.loop-id.invariant.can in
    let put = c.in_default-put_in.ensures.objects in
    record {
      can = subst (λ objects. CanBePut objects pairs) (sym put) (CanBePut-last c.loop-id.heap.objects pairs c.in-Some.id c.in-Some.object can);
      whole = λ other.
          ap (λ objects. whole_of objects pairs other) put
          ∙ whole_of-last c.loop-id.heap.objects pairs c.in-Some.id c.in-Some.object can other
          ∙ ap (λ all. whole_of c.loop-id.heap.objects all other) (sym items)
          ∙ c.loop-id.invariant.whole other;
      fits = omega arith;
      kept = omega arith;
    }
