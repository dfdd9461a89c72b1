use Rattle.std.proofs.Common.{◌≡◌, ◌+◌, ◌≤◌, take}
use Rattle.ink_text.specs.Place.{line_behind, column_behind}
use Rattle.ink_text.proofs.place.place_of.Given as goal

abbrev pub invariant-loop-passed : goal.invariant-loop-passed
invariant-loop-passed l = record {
  line_is : l.line ≡ line_behind (take l.passed-index l.before);
  column_is : l.column ≡ column_behind (take l.passed-index l.before);
  few_lines : l.line ≤ l.passed-index + 1;
  few_columns : l.column ≤ l.passed-index + 1;
}
