use Rattle.std.proofs.Common.{◌∙◌, ap}
use Rattle.std.specs.FinMap.{get, get-empty}
use Rattle.ink_base.specs.Ident.{id_cmp}
use Rattle.ink_heap_cases.proofs.parcels.joined.Goals as goal

-- an empty heap has no names
pub join-requires : goal.join-requires
join-requires c = λ id there. ap (λ objects. get objects id) c.new-heap.ensures ∙ get-empty id_cmp id
