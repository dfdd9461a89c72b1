use Rattle.std.proofs.Common.{◌≡◌, ◌-◌, [], length}
use Rattle.ink_code.specs.Trees as trees
use Rattle.ink_parcel.specs.Owners.{owner_in}
use Rattle.ink_parcel.proofs.UnderLemmas.{met_from}
use Rattle.ink_parcel.proofs.under.is_under.Given as goal

-- the whole walk comes to what the rest of it comes to; where the value owns nothing, nothing is on the stack
abbrev pub invariant-loop : goal.invariant-loop
invariant-loop l = record {
  walk : trees.is_under l.id l.value l.heap.objects ≡ met_from (l.end - l.counter) l.id l.heap.objects l.stack.items;
  plain : owner_in l.value ≡ [] → length l.stack.items ≡ 0;
}
