-- What a copy of a value wants of the counts of borrows.
use Rattle.std.specs.Prelude.{◌<◌, IfSome}
use Rattle.std.specs.FinMap.{get}
use Rattle.ink_base.specs.declared.value.Value.{Value}
use Rattle.ink_base.specs.declared.value.Value.TheVariants as v
use Rattle.ink_base.specs.Objects.{Objects}
use Rattle.ink_heap.specs.Bounds.{most_borrows}

-- one borrow more can be counted, where the value is one
unfoldable pub HasRoom : Value → Objects → Type 0
HasRoom (v.Bor id) objects = IfSome (get objects id) (λ object. object.count < most_borrows)
HasRoom value objects = Unit {0}
