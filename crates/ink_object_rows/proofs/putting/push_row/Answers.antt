use Rattle.std.proofs.Common.{◌≡◌, refl, ap, ◌∙◌, rules}
use Rattle.std.specs.FinMap.{get}
use Rattle.ink_base.specs.Objects.{is_counted, with_more}
use Rattle.ink_proc.specs.State.{state_of}
use Rattle.ink_object_rows.specs.Given.{IsItemGiven}
use Rattle.ink_object_rows.proofs.PutLemmas.{still_counted}
use Rattle.ink_object_rows.proofs.SpotLemmas.{push_full, push_cycle, push_done, item_is}
use Rattle.ink_object_rows.proofs.putting.push_row.Goals as goal

pub returns-then-most-size-clause-answer : goal.returns-then-most-size-clause-answer
returns-then-most-size-clause-answer c =
    let given : IsItemGiven c.args.values.now c.args.proc.now.heap.objects c.in_ok-id.field-0.id c.in_ok-id.field-0.value.now c.in_ok-id.field-0.size = c.in_ok-id.ensures in
    (push_full c.args.limits.now c.args.values.now (state_of c.args.proc.now) c.in_ok-id.field-0.id c.in_ok-id.field-0.value.now c.in_ok-id.field-0.size c.in_ok-limit_text_of.field-0 given (search rules), refl, refl)

pub returns-then-branch-clause-answer : goal.returns-then-branch-clause-answer
returns-then-branch-clause-answer c =
    let given : IsItemGiven c.args.values.now c.args.proc.now.heap.objects c.in_ok-id.field-0.id c.in_ok-id.field-0.value.now c.in_ok-id.field-0.size = c.in_ok-id.ensures in
    (push_cycle c.args.limits.now c.args.values.now (state_of c.args.proc.now) c.in_ok-id.field-0.id c.in_ok-id.field-0.value.now c.in_ok-id.field-0.size c.in_ok-of.field-0 given (search rules) (search rules) (search rules), refl, refl)

pub end_borrow-requires : goal.end_borrow-requires
end_borrow-requires c =
    let given : IsItemGiven c.args.values.now c.args.proc.now.heap.objects c.in_ok-id.field-0.id c.in_ok-id.field-0.value.now c.in_ok-id.field-0.size = c.in_ok-id.ensures in
    ap (λ heap. is_counted (get heap.objects c.in_ok-id.field-0.id)) c.in-Ok.ensures.ok
    ∙ still_counted c.args.proc.now.heap.objects c.in_ok-id.field-0.id given.all.found (with_more c.replace-item.result) given.all.there refl given.all.counted

pub returns-in-Ok-clause-answer : goal.returns-in-Ok-clause-answer
returns-in-Ok-clause-answer c =
    let given : IsItemGiven c.args.values.now c.args.proc.now.heap.objects c.in_ok-id.field-0.id c.in_ok-id.field-0.value.now c.in_ok-id.field-0.size = c.in_ok-id.ensures in
    let item : c.replace-item.result ≡ c.in_ok-id.field-0.value.now = c.replace-item.ensures.value ∙ item_is c.args.values.now c.args.proc.now.heap.objects c.in_ok-id.field-0.id c.in_ok-id.field-0.value.now c.index-values-1.result c.in_ok-id.field-0.size given in
    push_done c.args.limits.now c.args.values.now (state_of c.args.proc.now) c.in_ok-id.field-0.id c.in_ok-id.field-0.value.now c.replace-item.result c.in_ok-id.field-0.size c.push_item.new.heap.objects c.end_borrow.new.heap.objects given (search rules) (search rules) item (ap (λ heap. heap.objects) c.in-Ok.ensures.ok) (ap (λ heap. heap.objects) c.end_borrow.ensures)
