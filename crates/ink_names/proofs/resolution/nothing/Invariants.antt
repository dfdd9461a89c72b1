use Rattle.std.proofs.Common.{◌≡◌, replicate}
use Rattle.ink_names.specs.declared.resolution.Resolution.TheVariants as resolution
use Rattle.ink_names.proofs.resolution.nothing.Given as goal

abbrev pub invariant-loop : goal.invariant-loop
invariant-loop l = l.table.items ≡ replicate l.counter resolution.Nothing
