use Rattle.std.proofs.Common.{rules, refl, arith}
use Rattle.std.specs.FinMap.{get}
use Rattle.ink_object_rows.proofs.ReceiverLemmas.{receives_found}
use Rattle.ink_object_rows.proofs.receiver.receiver.Goals as goal

pub returns-else-count-eq0 : goal.returns-else-count-eq0
returns-else-count-eq0 c =
    receives_found c.args.kind c.args.values.now c.args.heap.now.objects c.in-Some-Bor-default.id c.in-Some-Bor-default.operands.now (get c.args.heap.now.objects c.in-Some-Bor-default.id) c.in-Some-kind_of.field-0-1 c.in-Some-count.count (search rules) refl (search rules) (search rules) (omega arith)
