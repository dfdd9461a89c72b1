use Rattle.ink_proc.specs.State.{state_of}
use Rattle.ink_steps.proofs.calls.return_step.Goals as goal

pub returns-in-Err : goal.returns-in-Err
returns-in-Err c = c.in-Err.ensures (state_of c.args.proc.now)

pub returns-in-Ok : goal.returns-in-Ok
returns-in-Ok c = c.in-Ok.ensures (state_of c.args.proc.now)
