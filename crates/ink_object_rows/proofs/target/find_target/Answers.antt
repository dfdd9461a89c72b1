use Rattle.std.proofs.Common.{rules, sym}
use Rattle.ink_object_rows.specs.Given.{IsPlaceGiven}
use Rattle.ink_object_rows.proofs.TestedLemmas.{index_fails, item_absent, cycle_fails, has_spot}
use Rattle.ink_object_rows.proofs.target.find_target.Goals as goal

pub returns-in-None : goal.returns-in-None
returns-in-None c =
    let given : IsPlaceGiven c.args.values.now c.args.heap.now.objects c.in_ok-id.field-0.id c.in_ok-id.field-0.value.now c.in_ok-id.field-0.number c.in_ok-id.field-0.size = c.in_ok-id.ensures in
    index_fails c.args.values.now c.args.heap.now.objects c.in_ok-id.field-0.id c.in_ok-id.field-0.value.now c.in_ok-id.field-0.number c.in_ok-id.field-0.size c.in_ok-index_text-in-None.field-0 given (search rules) (search rules)

pub returns-in_default : goal.returns-in_default
returns-in_default c =
    let given : IsPlaceGiven c.args.values.now c.args.heap.now.objects c.in_ok-id.field-0.id c.in_ok-id.field-0.value.now c.in_ok-id.field-0.number c.in_ok-id.field-0.size = c.in_ok-id.ensures in
    item_absent c.args.values.now c.args.heap.now.objects c.in_ok-id.field-0.id c.in_ok-id.field-0.value.now c.in_ok-id.field-0.number c.in_ok-id.field-0.size c.in-Some.index given (search rules) (sym c.in_default.ensures)

pub returns-then-branch : goal.returns-then-branch
returns-then-branch c =
    let given : IsPlaceGiven c.args.values.now c.args.heap.now.objects c.in_ok-id.field-0.id c.in_ok-id.field-0.value.now c.in_ok-id.field-0.number c.in_ok-id.field-0.size = c.in_ok-id.ensures in
    cycle_fails c.args.values.now c.args.heap.now.objects c.in_ok-id.field-0.id c.in_ok-id.field-0.value.now c.in_ok-id.field-0.number c.in_ok-id.field-0.size c.in-Some.index c.in-Some-read._item.now c.in_ok-of.field-0 given (search rules) (sym c.in-Some-read.ensures) (search rules) (search rules)

pub returns : goal.returns
returns c =
    let given : IsPlaceGiven c.args.values.now c.args.heap.now.objects c.in_ok-id.field-0.id c.in_ok-id.field-0.value.now c.in_ok-id.field-0.number c.in_ok-id.field-0.size = c.in_ok-id.ensures in
    has_spot c.args.values.now c.args.heap.now.objects c.in_ok-id.field-0.id c.in_ok-id.field-0.value.now c.in_ok-id.field-0.number c.in_ok-id.field-0.size c.in-Some.index c.in-Some-read._item.now given (search rules) (sym c.in-Some-read.ensures) (search rules)
