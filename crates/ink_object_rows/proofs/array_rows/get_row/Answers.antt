use Rattle.std.proofs.Common.{rules}
use Rattle.ink_proc.specs.State.{state_of}
use Rattle.ink_object_rows.proofs.GetLemmas.{get_row-copy, retold}
use Rattle.ink_object_rows.proofs.array_rows.get_row.Goals as goal

pub returns-clause-answer : goal.returns-clause-answer
returns-clause-answer c =
    retold _ _ c.give_lent.result (state_of c.args.proc.now) (state_of c.give_lent.new.proc) c.args.values.now
    (get_row-copy c.args.limits.now c.args.values.now c.in_ok-id.operands.now (state_of c.args.proc.now) c.in_ok-id.id c.in_ok-single.field-0.now c.in_ok-index.index c.in_ok-item.item (search rules) (search rules) (search rules) (search rules) (search rules))
    c.give_lent.ensures.answer
