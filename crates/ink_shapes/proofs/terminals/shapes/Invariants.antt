use Rattle.std.proofs.Common.{◌≡◌, map, take}
use Rattle.ink_shapes.specs.Terminals.{terminal_of}
use Rattle.ink_shapes.proofs.terminals.shapes.Given as goal

-- those of the tokens that were read
abbrev pub invariant-loop-token : goal.invariant-loop-token
invariant-loop-token l = l.them.items ≡ map (terminal_of l.source) (take l.token-index l.tokens)
