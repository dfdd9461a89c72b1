use Rattle.std.proofs.Common.{arith}
use Rattle.ink_code.proofs.ListingLemmas.{no_instrs, next_instr}
use Rattle.ink_code.proofs.lines.put_body.Goals as goal

pub loop-place-init : goal.loop-place-init
loop-place-init c = no_instrs _

pub loop-place-preserved : goal.loop-place-preserved
loop-place-preserved c = next_instr _ _ _ c.args.body.now c.loop-place.place c.index-body-place.result (omega arith) c.index-body-place.is c.loop-place.invariant c.in_ok-put_instr.ensures
