use Rattle.std.proofs.Common.{◌≡◌, ◌+◌, ◌-◌, ◌≤◌, length, drop}
use Rattle.ink_tokens.specs.Part.{unit_length, part_length}
use Rattle.ink_tokens.proofs.part.part_length.Given as goal

-- what was passed is the front of the part, and the next unit stands behind it
abbrev pub invariant-loop-unit : goal.invariant-loop-unit
invariant-loop-unit l = record {
  inside : l.end + l.unit ≤ length l.bytes;
  front : part_length l.quote l.bytes ≡ l.end + part_length l.quote (drop l.end l.bytes);
  next : l.unit ≡ unit_length l.quote (drop l.end l.bytes);
}

abbrev pub decreases-loop-unit : goal.decreases-loop-unit
decreases-loop-unit l = length l.bytes - l.end
