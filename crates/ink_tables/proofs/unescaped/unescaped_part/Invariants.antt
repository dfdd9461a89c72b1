use Rattle.std.proofs.Common.{◌≡◌, ◌++◌, drop}
use Rattle.ink_tables.specs.Unescaped.{unescaped, unescaped_from}
use Rattle.ink_tables.proofs.unescaped.unescaped_part.Given as goal

-- what was read, and what is left, are the whole
abbrev pub invariant-loop-byte : goal.invariant-loop-byte
invariant-loop-byte l = l.bytes.items ++ unescaped_from l.is_behind (drop l.byte-index l.part) ≡ unescaped l.part
