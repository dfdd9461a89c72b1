use Rattle.std.proofs.Common.{◌∙◌, ap, sym, arith}
use Rattle.std.specs.FinMap.{len}
use Rattle.ink_heap.proofs.PairsLemmas.{len-apart}
use Rattle.ink_parcel.proofs.parcel.Parcel.object_count.Goals as goal

pub returns : goal.returns
returns c =
    let size = sym (ap (λ view. len view.objects) c.self.view_is) ∙ len-apart c.self.inside.objects.items c.self.invariant in
    let held = c.self.inside.objects.ok.0 in
    omega arith
