use Rattle.std.proofs.Common.{◌≡◌, ◌+◌, ◌-◌, [], length}
use Rattle.std.specs.FinMap.{len}
use Rattle.ink_base.specs.Tree.{InTree}
use Rattle.ink_base.specs.Objects.{fields_in}
use Rattle.ink_parcel.specs.Moves.{AreGone, HaveBeenLookedAt, Moves}
use Rattle.ink_code.specs.Trees.{parted_of}
use Rattle.ink_parcel.proofs.WalkLemmas.{walk_on}
use Rattle.ink_parcel.proofs.tree.move_tree.Given as goal

abbrev pub invariant-loop-next : goal.invariant-loop-next
invariant-loop-next l = record {
  moves : Moves (InTree (fields_in l.fn.heap.objects) l.values) l.fn.heap l.heap [] l.moved.items;
  walks : parted_of l.values l.fn.heap.objects ≡ walk_on l.next l.heap.objects l.moved.items;
  roots : AreGone l.values l.heap.objects;
  looked : HaveBeenLookedAt l.moved.items l.next l.heap.objects;
}

abbrev pub decreases-loop-next : goal.decreases-loop-next
decreases-loop-next l = (len l.heap.objects + length l.moved.items) - l.next
