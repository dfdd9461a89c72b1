use Rattle.std.proofs.Common.{w64}
use Rattle.std.proofs.lemmas.Nat.Bits.{bit_at_set_same, bit_at_set_other, bit_at_clear_same, bit_at_clear_other}
use Rattle.ink_marks.proofs.words.with_bit.Goals as goal

-- src/words.rt:15:17
pub overflow_shl-result : goal.overflow_shl-result
overflow_shl-result c = c.requires

-- src/words.rt:17:18
pub overflow_shl-result-else-mark : goal.overflow_shl-result-else-mark
overflow_shl-result-else-mark c = c.requires

-- src/words.rt:8:1
pub returns-then-mark-clause-same : goal.returns-then-mark-clause-same
returns-then-mark-clause-same c = rw c.if-mark.true (bit_at_set_same w64 c.args.word c.args.bit c.requires)

-- src/words.rt:8:1
pub returns-then-mark-clause-others : goal.returns-then-mark-clause-others
returns-then-mark-clause-others c = λ i below differ. bit_at_set_other w64 c.args.word c.args.bit c.requires i differ

-- src/words.rt:8:1
pub returns-else-mark-clause-same : goal.returns-else-mark-clause-same
returns-else-mark-clause-same c = rw c.if-mark.false (bit_at_clear_same w64 c.args.word c.args.bit c.requires)

-- src/words.rt:8:1
pub returns-else-mark-clause-others : goal.returns-else-mark-clause-others
returns-else-mark-clause-others c = λ i below differ. bit_at_clear_other w64 c.args.word c.args.bit c.requires i below differ
