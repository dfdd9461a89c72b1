use Rattle.std.proofs.Common.{◌≡◌, Ok, Err, [], ap, sym, ◌∙◌, subst}
use Rattle.std.specs.FinMap.{from_entries}
use Rattle.ink_base.specs.Tree.{InTree}
use Rattle.ink_base.specs.Objects.{fields_in}
use Rattle.ink_parcel.specs.Moves.{Moves, AreGone}
use Rattle.ink_parcel.proofs.MovesLemmas.{Splits-moved, HoldsTree-moved, SplitsOff-moved, SplitsOff-whole}
use Rattle.ink_code.specs.declared.wrong.Wrong.TheVariants as wrong
use Rattle.ink_code.specs.Trees.{Parted, parted_of}
use Rattle.ink_parcel.specs.Walk.{IsUnparted, OnAbsent, values_in}
use Rattle.ink_parcel.proofs.WalkLemmas.{OnAbsent-fault, values_in-with}
use Rattle.ink_parcel.proofs.CutLemmas.{cut_owned_once, left_owned_once}
use Rattle.ink_parcel.proofs.cutting.cut.Goals as goal

pub returns-in-Ok-clause-tree : goal.returns-in-Ok-clause-tree
returns-in-Ok-clause-tree c =
    let moves = subst (λ values. Moves (InTree (fields_in c.args.heap.now.objects) values) c.args.heap.now c.move_tree.new.heap [] c.move_tree.new.moved.items) c.as_slice.ensures c.in-Ok.ensures.moves in
    let roots = subst (λ values. AreGone values c.move_tree.new.heap.objects) c.as_slice.ensures c.in-Ok.ensures.roots in
    HoldsTree-moved c.args.values moves roots c.in-Ok.ensures.below

pub returns-in-Ok-clause-objects : goal.returns-in-Ok-clause-objects
returns-in-Ok-clause-objects c = Splits-moved c.in-Ok.ensures.moves

pub returns-in-Err-clause-err : goal.returns-in-Err-clause-err
returns-in-Err-clause-err c =
    SplitsOff-whole c.put_all.new.heap.objects c.args.heap.now.objects c.move_tree.new.heap.objects c.move_tree.new.moved.items c.put_all.ensures.objects (SplitsOff-moved c.in-Err.ensures.moves)

pub returns-in-Ok-clause-parted : goal.returns-in-Ok-clause-parted
returns-in-Ok-clause-parted c =
    let parts : Parted = record { left = c.move_tree.new.heap.objects; taken = from_entries c.move_tree.new.moved.items } in
    subst (λ values. parted_of values c.args.heap.now.objects ≡ Ok parts) c.as_slice.ensures c.in-Ok.ensures.parted

pub returns-in-Err-clause-absent : goal.returns-in-Err-clause-absent
returns-in-Err-clause-absent c =
    let objects = c.args.heap.now.objects in
    let unparted = subst (λ values. IsUnparted c.in-Err.why values objects) c.as_slice.ensures c.in-Err.ensures.parted in
    subst (λ fault. OnAbsent fault (parted_of c.args.values objects ≡ Err wrong.Object)) (sym c.with_values.ensures) (OnAbsent-fault c.in-Err.why c.args.values objects unparted)

pub returns-in-Err-clause-back : goal.returns-in-Err-clause-back
returns-in-Err-clause-back c =
    ap values_in c.with_values.ensures ∙ values_in-with c.in-Err.why c.args.values

pub returns-in-Ok-clause-owned : goal.returns-in-Ok-clause-owned
returns-in-Ok-clause-owned c =
    let parts : Parted = record { left = c.move_tree.new.heap.objects; taken = from_entries c.move_tree.new.moved.items } in
    cut_owned_once c.args.values c.args.heap.now.objects parts (returns-in-Ok-clause-parted c)

pub returns-in-Ok-clause-left : goal.returns-in-Ok-clause-left
returns-in-Ok-clause-left c = λ others once.
    let parts : Parted = record { left = c.move_tree.new.heap.objects; taken = from_entries c.move_tree.new.moved.items } in
    left_owned_once c.args.values others c.args.heap.now.objects parts (returns-in-Ok-clause-parted c) once
