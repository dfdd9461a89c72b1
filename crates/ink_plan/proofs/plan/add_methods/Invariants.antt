use Rattle.std.proofs.Common.{◌≡◌, drop}
use Rattle.ink_plan.specs.Plans.{exits_of_methods}
use Rattle.ink_plan.proofs.plan.add_methods.Given as goal

abbrev pub invariant-loop-entry : goal.invariant-loop-entry
invariant-loop-entry l = exits_of_methods l.arena (drop l.entry-index l.methods) l.exits ≡ exits_of_methods l.arena l.methods l.initial.exits
