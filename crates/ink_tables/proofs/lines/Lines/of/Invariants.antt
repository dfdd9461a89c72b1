use Rattle.std.proofs.Common.{◌≡◌, ◌++◌, drop}
use Rattle.ink_tables.specs.Lines.{starts_behind, line_starts}
use Rattle.ink_tables.proofs.lines.Lines.of.Given as goal

-- the lines so far, and those of what is left, are all
abbrev pub invariant-loop-byte : goal.invariant-loop-byte
invariant-loop-byte l = record {
  passed : l.passed ≡ l.byte-index;
  whole : l.starts.items ++ starts_behind l.byte-index (drop l.byte-index l.source) ≡ line_starts l.source;
}
