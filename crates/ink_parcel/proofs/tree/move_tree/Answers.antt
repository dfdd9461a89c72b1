use Rattle.std.proofs.Common.{◌<◌, ◌≤◌, length, subst, arith, ◌∙◌}
use Rattle.std.proofs.lemmas.Result.{err_from_is_err_and}
use Rattle.ink_base.specs.Tree.{InTree, owned}
use Rattle.ink_base.specs.Objects.{fields_in}
use Rattle.ink_parcel.specs.Moves.{Moves}
use Rattle.ink_parcel.proofs.MovesLemmas.{Moves-among, Moves-then, AreGone-then, HaveBeenLookedAt-next, in_tree_at, AreApart-moved}
use Rattle.ink_parcel.specs.Walk.{GoesOn}
use Rattle.ink_parcel.proofs.WalkLemmas.{walk_on-roots, walk_on-next, IsUnparted-next, IsUnparted-roots, IsParted-end}
use Rattle.ink_parcel.proofs.tree.move_tree.Goals as goal

pub returns-in_err-move_owned-clause-moves : goal.returns-in_err-move_owned-clause-moves
returns-in_err-move_owned-clause-moves c =
    subst (λ had. Moves (InTree (fields_in c.args.heap.now.objects) c.args.values.now) c.args.heap.now c.move_owned.new.heap had c.move_owned.new.moved.items) c.requires (Moves-among c.in_err-move_owned.ensures.moves (λ id owns. owned id owns))

pub loop-next-init : goal.loop-next-init
loop-next-init c = record {
  moves = subst (λ had. Moves (InTree (fields_in c.args.heap.now.objects) c.args.values.now) c.args.heap.now c.move_owned.new.heap had c.move_owned.new.moved.items) c.requires (Moves-among c.in_ok-move_owned.ensures.moves (λ id owns. owned id owns));
  walks = walk_on-roots c.args.values.now (subst (λ had. GoesOn c.args.values.now c.args.heap.now c.move_owned.new.heap had c.move_owned.new.moved.items) c.requires c.in_ok-move_owned.ensures.walks);
  roots = c.in_ok-move_owned.ensures.gone;
  looked = λ place low. absurd (omega arith);
}

pub returns-in_err-move_fields-clause-moves : goal.returns-in_err-move_fields-clause-moves
returns-in_err-move_fields-clause-moves c =
    Moves-then c.loop-next.invariant.moves (Moves-among c.in_err-move_fields.ensures.moves (in_tree_at c.args.values.now c.loop-next.invariant.moves c.loop-next.next))

pub loop-next-preserved : goal.loop-next-preserved
loop-next-preserved c =
    let m = c.in_ok-move_fields.ensures.moves in
    let low : c.loop-next.next < length c.loop-next.moved.items = omega arith in
    record {
      moves = Moves-then c.loop-next.invariant.moves (Moves-among m (in_tree_at c.args.values.now c.loop-next.invariant.moves c.loop-next.next));
      walks = c.loop-next.invariant.walks ∙ walk_on-next c.loop-next.next low c.in_ok-move_fields.ensures.walks;
      roots = AreGone-then m c.args.values.now c.loop-next.invariant.roots;
      looked = HaveBeenLookedAt-next c.loop-next.next m c.loop-next.invariant.looked low c.in_ok-move_fields.ensures.gone;
    }

pub returns-clause-below : goal.returns-clause-below
returns-clause-below c = λ place low. c.loop-next.invariant.looked place (omega arith)

pub returns-in_err-move_owned-clause-parted : goal.returns-in_err-move_owned-clause-parted
returns-in_err-move_owned-clause-parted c =
    let p = err_from_is_err_and c.from_residual.result c.from_residual.ensures.1 in
    rw (p.1, p.2)
    (IsUnparted-roots _ c.args.values.now c.args.heap.now c.in_err-move_owned.ensures.walks)

pub returns-in_err-move_fields-clause-parted : goal.returns-in_err-move_fields-clause-parted
returns-in_err-move_fields-clause-parted c =
    let low : c.loop-next.next < length c.loop-next.moved.items = omega arith in
    let p = err_from_is_err_and c.from_residual-in_err-move_fields.result c.from_residual-in_err-move_fields.ensures.1 in
    rw (p.1, p.2)
    (IsUnparted-next _ c.args.values.now c.args.heap.now.objects c.loop-next.heap c.loop-next.moved.items c.loop-next.next low c.loop-next.invariant.walks c.in_err-move_fields.ensures.walks)

pub returns-clause-parted : goal.returns-clause-parted
returns-clause-parted c =
    let all : length c.loop-next.moved.items ≤ c.loop-next.next = omega arith in
    IsParted-end c.args.values.now c.args.heap.now.objects c.loop-next.heap.objects c.loop-next.moved.items c.loop-next.next all (AreApart-moved c.loop-next.invariant.moves) c.loop-next.invariant.walks
