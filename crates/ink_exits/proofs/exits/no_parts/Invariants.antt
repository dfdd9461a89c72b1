use Rattle.std.proofs.Common.{◌≡◌, replicate}
use Rattle.ink_exits.specs.Exits.{no_part}
use Rattle.ink_exits.proofs.exits.no_parts.Given as goal

abbrev pub invariant-loop : goal.invariant-loop
invariant-loop l = l.table.items ≡ replicate l.counter no_part
