use Rattle.std.proofs.Common.{◌≡◌, ◌<◌, [], length, ap, sym, ◌∙◌, subst, refl, arith, Some}
use Rattle.std.proofs.lemmas.Result.{err_from_is_err_and}
use Rattle.std.specs.List.{slice_get}
use Rattle.ink_base.specs.declared.ident.ObjectId.{ObjectId}
use Rattle.ink_base.specs.declared.value.Value.TheVariants.{Own}
use Rattle.ink_parcel.specs.Moves.{fields_at}
use Rattle.ink_parcel.proofs.MovesLemmas.{Moves-none, Moves-among, Moves-then, Moves-longer, AreGone-moved, AreGone-other, AreGone-all, owned_name, owns_none, fields_at-then, fields_at-read}
use Rattle.ink_parcel.proofs.WalkLemmas.{GoesOn-none, GoesOn-unowned, GoesOn-next, GoesOn-all, Fails-at}
use Rattle.ink_parcel.proofs.tree.move_fields.Goals as goal
use Rattle.ink_parcel.proofs.tree.move_fields.Goals.{in-Some+in_ok-move_object, in_default}

pub loop-field-init : goal.loop-field-init
loop-field-init c = record {
  within = c.requires;
  all = c.len-field-end.ensures ∙ sym (ap length (fields_at-read c.args.moved.now.items c.args.index c.index.result.now c.requires c.index.ensures));
  moves = Moves-none _ c.args.heap.now c.args.moved.now.items;
  walks = GoesOn-none c.args.heap.now c.args.moved.now.items;
  gone = λ id owns. absurd (owns_none [] id refl owns);
}

pub returns-in_err-move_object-clause-moves : goal.returns-in_err-move_object-clause-moves
returns-in_err-move_object-clause-moves c =
    let fields = ap (λ pairs. fields_at pairs c.args.index) c.deref.ensures.value ∙ fields_at-then c.loop-field.invariant.moves c.args.index c.requires in
    let own = subst (λ fields. slice_get fields c.loop-field.field ≡ Some (Own c.in-Some.id)) fields c.in-Some.ensures in
    Moves-then c.loop-field.invariant.moves (Moves-among c.in_err-move_object.ensures.moves (owned_name (fields_at c.args.moved.now.items c.args.index) c.loop-field.field c.in-Some.id own))

pub returns-in_err-move_object-clause-walks : goal.returns-in_err-move_object-clause-walks
returns-in_err-move_object-clause-walks c =
    let fields = ap (λ pairs. fields_at pairs c.args.index) c.deref.ensures.value ∙ fields_at-then c.loop-field.invariant.moves c.args.index c.requires in
    let own = subst (λ fields. slice_get fields c.loop-field.field ≡ Some (Own c.in-Some.id)) fields c.in-Some.ensures in
    let p = err_from_is_err_and c.from_residual.result c.from_residual.ensures.1 in
    rw (p.1, p.2)
    (Fails-at _ (fields_at c.args.moved.now.items c.args.index) c.loop-field.field _ own c.loop-field.invariant.walks c.in_err-move_object.ensures.walks)

pub loop-field-preserved : goal.loop-field-preserved
loop-field-preserved c =
    let values = fields_at c.args.moved.now.items c.args.index in
    let index = c.loop-field.field in
    let all = c.loop-field.invariant.all in
    let low : index < length values = omega arith in
    let fields = ap (λ pairs. fields_at pairs c.args.index) c.deref.ensures.value ∙ fields_at-then c.loop-field.invariant.moves c.args.index c.requires in
    elim c.match-owned_at.branch [
      | in-Some+in_ok-move_object w ↦
          let own = subst (λ fields. slice_get fields index ≡ Some (Own w.in-Some.id)) fields w.in-Some.ensures in
          let m = w.in_ok-move_object.ensures.moves in
          rw (w.heap-is, w.moved-is) (record {
            within = Moves-longer m c.args.index c.loop-field.invariant.within;
            all = all;
            moves = Moves-then c.loop-field.invariant.moves (Moves-among m (owned_name values index w.in-Some.id own));
            walks = GoesOn-next values index _ own c.loop-field.invariant.walks w.in_ok-move_object.ensures.walks;
            gone = AreGone-moved values index w.in-Some.id m low c.loop-field.invariant.gone own w.in_ok-move_object.ensures.gone;
          })
      | in_default w ↦
          let none = subst (λ fields. (id : ObjectId) → slice_get fields index ≡ Some (Own id) → ⊥) fields w.in_default.ensures in
          rw (w.heap-is, w.moved-is) (record {
            within = c.loop-field.invariant.within;
            all = all;
            moves = c.loop-field.invariant.moves;
            walks = GoesOn-unowned values index c.loop-field.heap c.loop-field.moved.items low none c.loop-field.invariant.walks;
            gone = AreGone-other values index c.loop-field.heap.objects low c.loop-field.invariant.gone none;
          })
    ]

pub returns-clause-gone : goal.returns-clause-gone
returns-clause-gone c =
    AreGone-all (fields_at c.args.moved.now.items c.args.index) c.loop-field.field c.loop-field.heap.objects (omega arith) c.loop-field.invariant.gone

pub returns-clause-walks : goal.returns-clause-walks
returns-clause-walks c =
    GoesOn-all (fields_at c.args.moved.now.items c.args.index) c.loop-field.field (omega arith) c.loop-field.invariant.walks
