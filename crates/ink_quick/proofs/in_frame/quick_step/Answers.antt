use Rattle.ink_quick.proofs.RunLemmas.{place_steps}
use Rattle.ink_quick.proofs.in_frame.quick_step.Goals as goal

pub returns : goal.returns
returns c limits frame outer at =
    place_steps c.args.code.now limits frame outer c.args.method.now c.args.place c.in-Some.next c.in-Some-quick_instr.to c.in-Some.instr.now c.args.registers.now c.quick_instr.new.registers
    at c.in-Some.ensures.0 c.in-Some.ensures.1 (c.in-Some-quick_instr.ensures limits)
