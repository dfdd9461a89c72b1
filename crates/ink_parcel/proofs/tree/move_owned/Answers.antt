use Rattle.std.proofs.Common.{◌<◌, length, ap, sym, ◌∙◌, refl, arith, Some}
use Rattle.std.proofs.lemmas.Result.{err_from_is_err_and}
use Rattle.std.proofs.lemmas.Option.{same_Some, slice_get_read}
use Rattle.ink_parcel.proofs.MovesLemmas.{Moves-among, Moves-then, AreGone-moved, AreGone-other, AreGone-all, owned_name}
use Rattle.ink_parcel.proofs.WalkLemmas.{GoesOn-other, GoesOn-next, GoesOn-all, Fails-at}
use Rattle.ink_parcel.proofs.tree.move_owned.Goals as goal
use Rattle.ink_parcel.proofs.tree.move_owned.Goals.{in-Own+in_ok-move_object, in_default}

pub returns-in_err-move_object-clause-moves : goal.returns-in_err-move_object-clause-moves
returns-in_err-move_object-clause-moves c =
    let low : c.loop-value.value-index < length c.args.values.now = omega arith in
    let is = slice_get_read c.args.values.now (length c.args.values.now) c.loop-value.value-index c.value-item.result refl low c.value-item.is ∙ ap Some c.in-Own.is in
    Moves-then c.loop-value.invariant.moves (Moves-among c.in_err-move_object.ensures.moves (owned_name c.args.values.now c.loop-value.value-index c.in-Own.id is))

pub returns-in_err-move_object-clause-walks : goal.returns-in_err-move_object-clause-walks
returns-in_err-move_object-clause-walks c =
    let low : c.loop-value.value-index < length c.args.values.now = omega arith in
    let is = slice_get_read c.args.values.now (length c.args.values.now) c.loop-value.value-index c.value-item.result refl low c.value-item.is ∙ ap Some c.in-Own.is in
    let p = err_from_is_err_and c.from_residual.result c.from_residual.ensures.1 in
    rw (p.1, p.2)
    (Fails-at _ c.args.values.now c.loop-value.value-index _ is c.loop-value.invariant.walks c.in_err-move_object.ensures.walks)

pub loop-value-preserved : goal.loop-value-preserved
loop-value-preserved c =
    let values = c.args.values.now in
    let index = c.loop-value.value-index in
    let low : index < length values = omega arith in
    let is = slice_get_read values (length values) index c.value-item.result refl low c.value-item.is in
    elim c.match-value.branch [
      | in-Own+in_ok-move_object w ↦
          let own = is ∙ ap Some w.in-Own.is in
          let m = w.in_ok-move_object.ensures.moves in
          rw (w.heap-is, w.moved-is) (record {
            moves = Moves-then c.loop-value.invariant.moves (Moves-among m (owned_name values index w.in-Own.id own));
            walks = GoesOn-next values index _ own c.loop-value.invariant.walks w.in_ok-move_object.ensures.walks;
            gone = AreGone-moved values index w.in-Own.id m low c.loop-value.invariant.gone own w.in_ok-move_object.ensures.gone;
          })
      | in_default w ↦
          rw (w.heap-is, w.moved-is) (record {
            moves = c.loop-value.invariant.moves;
            walks = GoesOn-next values index _ is c.loop-value.invariant.walks (GoesOn-other _ c.loop-value.heap c.loop-value.moved.items w.in_default.not-Own);
            gone = AreGone-other values index c.loop-value.heap.objects low c.loop-value.invariant.gone (λ id there. w.in_default.not-Own id (same_Some _ _ (sym is ∙ there)));
          })
    ]

pub returns-clause-gone : goal.returns-clause-gone
returns-clause-gone c =
    AreGone-all c.args.values.now c.loop-value.value-index c.loop-value.heap.objects (omega arith) c.loop-value.invariant.gone

pub returns-clause-walks : goal.returns-clause-walks
returns-clause-walks c =
    GoesOn-all c.args.values.now c.loop-value.value-index (omega arith) c.loop-value.invariant.walks
