use Rattle.std.proofs.Common.{◌≡◌, ◌++◌, drop}
use Rattle.ink_emit.specs.Bodies.{operands}
use Rattle.ink_emit.proofs.held.operands_of.Given as goal

abbrev pub invariant-loop-one : goal.invariant-loop-one
invariant-loop-one l = l.operands.items ++ operands (drop l.one-index l.held) ≡ operands l.held
