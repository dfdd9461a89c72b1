use Rattle.std.proofs.Common.{◌∷◌, sym, ap, ◌∙◌, refl}
use Rattle.std.specs.List.{slice_get}
use Rattle.ink_quick.specs.Makes.{IsAt}
use Rattle.ink_quick.proofs.RunLemmas.{none_run, one_more}
use Rattle.ink_quick.proofs.in_frame.run_in_frame.Goals as goal

pub loop-made-init : goal.loop-made-init
loop-made-init c =
    record {
      runs = λ limits outer. none_run c.args.code.now limits (c.args.frame.now ∷ outer);
      method = refl;
      place = refl;
    }

pub loop-made-preserved : goal.loop-made-preserved
loop-made-preserved c =
    let at : IsAt c.args.code.now c.loop-made.frame c.in-Some.method.now c.loop-made.place c.loop-made.frame.registers =
    record {
      runs = ap (slice_get c.args.code.now.methods) (c.loop-made.invariant.method ∙ sym c.from.ensures) ∙ sym c.in-Some.ensures;
      at = sym c.loop-made.invariant.place;
      holds = refl;
    } in
    record {
      runs = λ limits outer. one_more c.args.code.now limits c.loop-made.made (c.args.frame.now ∷ outer) (c.loop-made.frame ∷ outer) _ (c.loop-made.invariant.runs limits outer) (c.in-Some-quick_step.ensures limits c.loop-made.frame outer at);
      method = c.loop-made.invariant.method;
      place = refl;
    }
