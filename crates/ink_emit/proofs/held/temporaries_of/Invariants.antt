use Rattle.std.proofs.Common.{◌≡◌, ◌++◌, drop}
use Rattle.ink_emit.specs.Bodies.{temporaries}
use Rattle.ink_emit.proofs.held.temporaries_of.Given as goal

abbrev pub invariant-loop-one : goal.invariant-loop-one
invariant-loop-one l = l.temporaries.items ++ temporaries (drop l.one-index l.held) ≡ temporaries l.held
