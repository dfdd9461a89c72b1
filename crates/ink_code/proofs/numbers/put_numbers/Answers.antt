use Rattle.std.proofs.Common.{arith}
use Rattle.ink_code.proofs.ListingLemmas.{no_numbers, next_number}
use Rattle.ink_code.proofs.numbers.put_numbers.Goals as goal

pub loop-number-init : goal.loop-number-init
loop-number-init c = no_numbers _

pub loop-number-preserved : goal.loop-number-preserved
loop-number-preserved c = next_number _ _ _ c.args.numbers.now c.loop-number.number-index (omega arith) c.loop-number.invariant c.in_ok-put_number.ensures
