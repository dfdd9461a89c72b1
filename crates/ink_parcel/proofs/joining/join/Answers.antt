use Rattle.std.proofs.Common.{ap, sym, ◌∙◌, subst, arith}
use Rattle.std.specs.FinMap.{from_entries, len}
use Rattle.ink_heap.proofs.PairsLemmas.{len-apart}
use Rattle.ink_parcel.specs.Moves.{CanBePut}
use Rattle.ink_parcel.specs.Parts.{Splits}
use Rattle.ink_parcel.proofs.JoinedLemmas.{joined-split}
use Rattle.ink_parcel.proofs.PutLemmas.{CanBePut-apart, Splits-put}
use Rattle.ink_parcel.proofs.joining.join.Goals as goal

pub returns-in-Err-clause-succeeds : goal.returns-in-Err-clause-succeeds
returns-in-Err-clause-succeeds c =
    let size = sym (ap (λ view. len view.objects) c.parcel.view_is) ∙ len-apart c.parcel.inside.objects.items c.parcel.invariant in
    let held = c.parcel.inside.objects.ok.0 in
    λ fits. c.in-Err.ensures.succeeds (omega arith)

pub put_all-requires-clause-names : goal.put_all-requires-clause-names
put_all-requires-clause-names c =
    let can = CanBePut-apart c.args.heap.now.objects c.args.parcel.objects c.parcel.inside.objects.items (ap (λ view. view.objects) c.parcel.view_is) c.parcel.invariant c.requires in
    subst (λ objects. CanBePut objects c.parcel.inside.objects.items) (sym c.in_default.ensures.objects) can

pub returns-clause-objects : goal.returns-clause-objects
returns-clause-objects c =
    let whole = c.put_all.new.heap.objects in
    let pairs = c.parcel.inside.objects.items in
    let parts = Splits-put whole c.reserve.new.self.objects pairs c.put_all.ensures.objects in
    let old = subst (λ rest. Splits whole rest (from_entries pairs)) c.in_default.ensures.objects parts in
    subst (Splits whole c.args.heap.now.objects) (ap (λ view. view.objects) c.parcel.view_is) old

pub returns-clause-joined : goal.returns-clause-joined
returns-clause-joined c =
    joined-split c.put_all.new.heap.objects c.args.heap.now.objects c.args.parcel (returns-clause-objects c)
