use Rattle.std.proofs.Common.{◌≡◌}
use Rattle.ink_emit.proofs.body.Body.land_all.Given as goal

abbrev pub invariant-loop-hole : goal.invariant-loop-hole
invariant-loop-hole l = l.self.held.items ≡ l.initial.self.held.items
