use Rattle.std.proofs.Common.{drop}
use Rattle.ink_assemble.proofs.Asked.{Leads}
use Rattle.ink_assemble.proofs.methods.methods_of.Given as goal

abbrev pub invariant-loop-entry : goal.invariant-loop-entry
invariant-loop-entry l = Leads l.plan.exits l.plan.checked.now l.entries l.first (drop l.entry-index l.entries) l.methods.items
