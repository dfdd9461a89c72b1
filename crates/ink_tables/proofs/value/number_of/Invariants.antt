use Rattle.std.proofs.Common.{◌≡◌, ◌≤◌, fold, drop, min}
use Rattle.ink_tokens.specs.Integer.{number_behind, number_of}
use Rattle.ink_tables.proofs.value.number_of.Given as goal

-- what was counted, and what is left, are the whole
abbrev pub invariant-loop-byte : goal.invariant-loop-byte
invariant-loop-byte l = record {
  whole : min (fold (number_behind l.base) l.number (drop l.byte-index l.digits)) 18446744073709551615 ≡ min (number_of l.base l.digits) 18446744073709551615;
  small : l.number ≤ 18446744073709551615;
}
