use Rattle.std.proofs.Common.{◌∙◌}
use Rattle.ink_print.proofs.Laid.{indented}
use Rattle.ink_print.proofs.layout.write_indentation.Goals as goal

pub loop-block-preserved : goal.loop-block-preserved
loop-block-preserved c = c.in_ok-extend_from_slice.ensures.items ∙ indented c.args.text.now.items c.loop-block.text.items c.loop-block._block c.loop-block.invariant
