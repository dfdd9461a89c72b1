use Rattle.std.proofs.Common.{◌≡◌, map, take}
use Rattle.ink_emit.specs.Bodies.{register_of}
use Rattle.ink_emit.proofs.held.newest_first.Given as goal

abbrev pub invariant-loop-one : goal.invariant-loop-one
invariant-loop-one l = l.registers.items ≡ map register_of (take l.one-index l.held)
