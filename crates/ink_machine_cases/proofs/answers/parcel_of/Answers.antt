use Rattle.ink_machine_cases.proofs.ParcelLemmas.{apart_from_all}
use Rattle.ink_machine_cases.proofs.answers.parcel_of.Goals as goal

pub returns-in-Ok : goal.returns-in-Ok
returns-in-Ok c =
    apart_from_all c.new-none.result.objects c.cut.new.heap.objects c.in-Ok.parcel.objects c.new-none.ensures c.in-Ok.ensures.objects
