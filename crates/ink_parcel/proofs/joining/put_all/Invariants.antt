use Rattle.std.proofs.Common.{◌≡◌, ◌+◌, ◌≤◌, length}
use Rattle.ink_base.specs.declared.ident.ObjectId.{ObjectId}
use Rattle.ink_parcel.specs.Moves.{CanBePut}
use Rattle.ink_parcel.proofs.PutLemmas.{whole_of}
use Rattle.ink_parcel.proofs.joining.put_all.Given as goal

abbrev pub invariant-loop-id : goal.invariant-loop-id
invariant-loop-id l = record {
  can : CanBePut l.heap.objects l.objects.items;
  whole : (id : ObjectId) → whole_of l.heap.objects l.objects.items id ≡ whole_of l.fn.heap.objects l.fn.objects.items id;
  fits : length l.objects.items ≤ l.heap.spare;
  kept : l.fn.heap.spare + length l.objects.items ≤ l.heap.spare + length l.fn.objects.items;
}

abbrev pub decreases-loop-id : goal.decreases-loop-id
decreases-loop-id l = goal.left-loop-id l
