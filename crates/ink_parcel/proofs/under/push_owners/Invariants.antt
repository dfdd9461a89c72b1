use Rattle.std.proofs.Common.{◌≡◌, ◌≤◌, ◌++◌, length, drop, reverse}
use Rattle.ink_base.specs.Objects.{fields_in}
use Rattle.ink_parcel.specs.Owners.{owners}
use Rattle.ink_parcel.proofs.under.push_owners.Given as goal

-- what the fields from this one on own was put on the stack
abbrev pub invariant-loop-index : goal.invariant-loop-index
invariant-loop-index l = record {
  within : l.index ≤ length (fields_in l.heap.objects l.id);
  put : l.stack.items ≡ l.fn.stack.items ++ reverse (owners (drop l.index (fields_in l.heap.objects l.id)));
}

abbrev pub decreases-loop-index : goal.decreases-loop-index
decreases-loop-index l = l.index
