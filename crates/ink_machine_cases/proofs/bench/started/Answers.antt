use Rattle.ink_machine_cases.proofs.StartLemmas.{can_start}
use Rattle.ink_machine_cases.proofs.bench.started.Goals as goal

pub start-requires : goal.start-requires
start-requires c =
    can_start c.args.number (record { kind = 0; tag = 0; fields = c.new.result; count = 0 }) c.new-heap.result.objects c.reserve.new.self.objects c.put_in.new.self.objects c.new.ensures c.new-heap.ensures c.reserve.ensures.objects c.in-Ok.ensures.objects
