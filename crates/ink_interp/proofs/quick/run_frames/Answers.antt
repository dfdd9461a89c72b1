use Rattle.std.proofs.Common.{◌+◌, List, sym, subst, arith}
use Rattle.ink_code.specs.declared.frame.Frame.{Frame}
use Rattle.ink_quick.specs.Makes.{Runs}
use Rattle.ink_quick.proofs.RunLemmas.{both_runs, none_run, one_more}
use Rattle.ink_interp.proofs.QuickLemmas.{none_changed, one_changed, wrong_run}
use Rattle.ink_interp.proofs.quick.run_frames.Goals as goal

pub loop-init : goal.loop-init
loop-init c =
    record {
      low = omega arith;
      runs = none_run c.args.code.now c.args.limits.now c.args.frames.now;
    }

pub returns-then-made-most : goal.returns-then-made-most
returns-then-made-most c =
    (omega arith, both_runs c.args.code.now c.args.limits.now c.loop.made c.run_top-made.result c.args.frames.now c.loop.frames c.run_top-made.new.self c.loop.invariant.runs (c.run_top-made.ensures.runs c.args.limits.now))

pub returns-in-Err : goal.returns-in-Err
returns-in-Err c =
    wrong_run c.args.code.now c.args.limits.now (c.loop.made + c.run_top-made.result) c.args.most c.args.frames.now c.run_top-made.new.self c.change_frame.new.frames c.in-Err.why (omega arith)
    (both_runs c.args.code.now c.args.limits.now c.loop.made c.run_top-made.result c.args.frames.now c.loop.frames c.run_top-made.new.self c.loop.invariant.runs (c.run_top-made.ensures.runs c.args.limits.now)) c.in-Err.ensures

pub returns-in-Ok-false : goal.returns-in-Ok-false
returns-in-Ok-false c = (
  omega arith,
  subst (λ (frames : List Frame). Runs c.args.code.now c.args.limits.now (c.loop.made + c.run_top-made.result) c.args.frames.now frames) (sym (none_changed c.args.code.now c.args.limits.now c.in-Ok-false.field-0 c.run_top-made.new.self c.change_frame.new.frames (let test = c.in-Ok-false.field-0-test in cc) c.in-Ok-false.ensures))
      (both_runs c.args.code.now c.args.limits.now c.loop.made c.run_top-made.result c.args.frames.now c.loop.frames c.run_top-made.new.self c.loop.invariant.runs (c.run_top-made.ensures.runs c.args.limits.now)),
)

pub loop-preserved : goal.loop-preserved
loop-preserved c =
    record {
      low = omega arith;
      runs = one_more c.args.code.now c.args.limits.now (c.loop.made + c.run_top-made.result) c.args.frames.now c.run_top-made.new.self c.change_frame.new.frames
          (both_runs c.args.code.now c.args.limits.now c.loop.made c.run_top-made.result c.args.frames.now c.loop.frames c.run_top-made.new.self c.loop.invariant.runs (c.run_top-made.ensures.runs c.args.limits.now)) (one_changed c.args.code.now c.args.limits.now c.in-Ok-true.field-0 c.run_top-made.new.self c.change_frame.new.frames (let test = c.in-Ok-true.field-0-test in cc) c.in-Ok-true.ensures);
    }
