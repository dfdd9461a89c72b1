use Rattle.std.proofs.Common.{◌≡◌, Ok, refl, ap, ◌∙◌, subst}
use Rattle.std.specs.FinMap.{get}
use Rattle.std.proofs.lemmas.Option.{get_or_from_slice_get}
use Rattle.ink_base.specs.Objects.{is_counted, with_field}
use Rattle.ink_proc.specs.State.{state_of}
use Rattle.ink_object_rows.specs.Target.{HasSpot, IsTarget}
use Rattle.ink_object_rows.proofs.PutLemmas.{still_counted}
use Rattle.ink_object_rows.proofs.SpotLemmas.{swap_done}
use Rattle.ink_object_rows.proofs.putting.swap_row.Goals as goal

pub end_borrow-requires : goal.end_borrow-requires
end_borrow-requires c =
    let s : HasSpot c.args.values.now c.args.proc.now.heap.objects c.in-Item.id c.in-Item.index = subst (λ target. IsTarget (Ok target) c.args.values.now c.args.proc.now.heap.objects) c.in-Item.is c.in_ok-text.ensures in
    ap (λ heap. is_counted (get heap.objects c.in-Item.id)) c.write_item-old.ensures.objects
    ∙ still_counted c.args.proc.now.heap.objects c.in-Item.id s.found (with_field c.in-Item.index c.replace-item.result) s.there refl s.counted

pub returns-clause-answer : goal.returns-clause-answer
returns-clause-answer c =
    let s : HasSpot c.args.values.now c.args.proc.now.heap.objects c.in-Item.id c.in-Item.index = subst (λ target. IsTarget (Ok target) c.args.values.now c.args.proc.now.heap.objects) c.in-Item.is c.in_ok-text.ensures in
    let item : c.replace-item.result ≡ s.value = c.replace-item.ensures.value ∙ get_or_from_slice_get c.args.values.now 2 s.value c.index-values-2.result s.last in
    swap_done c.args.values.now (state_of c.args.proc.now) c.in-Item.id c.in-Item.index c.replace-item.result c.write_item-old.result c.write_item-old.new.heap.objects c.end_borrow.new.heap.objects s item c.write_item-old.ensures.old (ap (λ heap. heap.objects) c.write_item-old.ensures.objects) (ap (λ heap. heap.objects) c.end_borrow.ensures)
