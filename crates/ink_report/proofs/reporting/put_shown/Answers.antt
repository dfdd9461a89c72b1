use Rattle.std.proofs.Common.{arith}
use Rattle.ink_report.specs.Report.{frame_line}
use Rattle.ink_report.proofs.Innermost.{next_from_end}
use Rattle.ink_report.proofs.reporting.put_shown.Goals as goal

pub loop-index-preserved : goal.loop-index-preserved
loop-index-preserved c =
    next_from_end (frame_line c.args.code.now) _ _ _ c.args.frames.now c.loop-index.index c.index-frames-frames.result
    (omega (arith, c.loop-index-test.true, c.requires)) c.index-frames-frames.is c.loop-index.invariant c.in_ok-put_frame.ensures
