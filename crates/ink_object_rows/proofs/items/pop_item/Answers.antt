use Rattle.std.proofs.Common.{ap, ◌∙◌}
use Rattle.ink_object_rows.proofs.ChangeLemmas.{popped_item, popped_room}
use Rattle.ink_object_rows.proofs.items.pop_item.Goals as goal

pub returns-clause-item : goal.returns-clause-item
returns-clause-item c =
    (popped_item c.pop.result c.args.heap.now.objects c.args.id.now c.end_borrow.new.heap c.pop.new.self c.requires (ap (λ view. view.objects) c.end_borrow.ensures) c.pop.ensures).0

pub returns-clause-objects : goal.returns-clause-objects
returns-clause-objects c =
    (popped_item c.pop.result c.args.heap.now.objects c.args.id.now c.end_borrow.new.heap c.pop.new.self c.requires (ap (λ view. view.objects) c.end_borrow.ensures) c.pop.ensures).1

pub returns-clause-room : goal.returns-clause-room
returns-clause-room c =
    popped_room c.pop.result c.end_borrow.new.heap c.pop.new.self c.args.id.now c.pop.ensures ∙ ap (λ view. view.spare) c.end_borrow.ensures
