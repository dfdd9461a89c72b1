use Rattle.std.proofs.Common.{◌≡◌, ◌++◌, take, reverse}
use Rattle.std.specs.List.{flat_map}
use Rattle.ink_report.specs.Report.{frame_line}
use Rattle.ink_report.proofs.reporting.put_shown.Given as goal

-- the lines of so many frames are written
abbrev pub invariant-loop-index : goal.invariant-loop-index
invariant-loop-index l = l.out.items ≡ l.initial.out.items ++ flat_map (frame_line l.code) (take l.index (reverse l.frames))
