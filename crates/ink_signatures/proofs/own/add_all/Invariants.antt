use Rattle.std.proofs.Common.{◌≡◌, ◌++◌, drop}
use Rattle.ink_signatures.specs.Kinds.{are_async}
use Rattle.ink_signatures.proofs.own.add_all.Given as goal

abbrev pub invariant-loop-entry : goal.invariant-loop-entry
invariant-loop-entry l = l.types.kinds ++ are_async (drop l.entry-index l.entries) ≡ l.initial.types.kinds ++ are_async l.entries
