use Rattle.std.proofs.Common.{arith}
use Rattle.ink_proc.specs.State.{state_of}
use Rattle.ink_interp.proofs.QuickLemmas.{made_steps, wrong_steps}
use Rattle.ink_interp.proofs.quick.run_quick.Goals as goal

pub returns-in-Err : goal.returns-in-Err
returns-in-Err c =
    wrong_steps c.args.code.now c.args.limits.now (state_of c.args.proc.now) c.most_at_once-few.result c.args.most c.run_frames.new.frames c.in-Err.why (c.most_at_once-few.ensures.free (omega arith))
    c.most_at_once-few.ensures.most (c.most_at_once-few.ensures.fits (omega arith)) c.in-Err.ensures

pub returns-in-Ok : goal.returns-in-Ok
returns-in-Ok c =
    let fits = c.most_at_once-few.ensures.fits (omega arith) in
    (omega (arith, c.most_at_once-few.ensures.most, c.in-Ok.ensures.0), made_steps c.args.code.now c.args.limits.now (state_of c.args.proc.now) c.in-Ok.made c.run_frames.new.frames (c.most_at_once-few.ensures.free (omega arith)) (omega (arith, fits, c.in-Ok.ensures.0)) c.in-Ok.ensures.1)
