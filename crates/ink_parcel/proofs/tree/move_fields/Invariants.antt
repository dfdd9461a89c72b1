use Rattle.std.proofs.Common.{◌≡◌, ◌<◌, length, take}
use Rattle.std.specs.Prelude.{Contains}
use Rattle.ink_base.specs.declared.value.Value.TheVariants.{Own}
use Rattle.ink_parcel.specs.Moves.{AreGone, Moves, fields_at}
use Rattle.ink_parcel.specs.Walk.{GoesOn}
use Rattle.ink_parcel.proofs.tree.move_fields.Given as goal

abbrev pub invariant-loop-field : goal.invariant-loop-field
invariant-loop-field l = record {
  within : l.index < length l.moved.items;
  all : l.field-end ≡ length (fields_at l.fn.moved.items l.index);
  moves : Moves (λ id. Contains (fields_at l.fn.moved.items l.index) (Own id)) l.fn.heap l.heap l.fn.moved.items l.moved.items;
  walks : GoesOn (take l.field (fields_at l.fn.moved.items l.index)) l.fn.heap l.heap l.fn.moved.items l.moved.items;
  gone : AreGone (take l.field (fields_at l.fn.moved.items l.index)) l.heap.objects;
}
