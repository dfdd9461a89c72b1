use Rattle.std.proofs.Common.{take}
use Rattle.std.specs.Prelude.{Contains}
use Rattle.ink_base.specs.declared.value.Value.TheVariants.{Own}
use Rattle.ink_parcel.specs.Moves.{AreGone, Moves}
use Rattle.ink_parcel.specs.Walk.{GoesOn}
use Rattle.ink_parcel.proofs.tree.move_owned.Given as goal

abbrev pub invariant-loop-value : goal.invariant-loop-value
invariant-loop-value l = record {
  moves : Moves (λ id. Contains l.values (Own id)) l.fn.heap l.heap l.fn.moved.items l.moved.items;
  walks : GoesOn (take l.value-index l.values) l.fn.heap l.heap l.fn.moved.items l.moved.items;
  gone : AreGone (take l.value-index l.values) l.heap.objects;
}
