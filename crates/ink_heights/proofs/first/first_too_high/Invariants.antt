use Rattle.std.proofs.Common.{◌≡◌, map, take}
use Rattle.ink_grammar.specs.Built.{trees}
use Rattle.ink_heights.specs.Heights.{measure}
use Rattle.ink_heights.proofs.first.first_too_high.Given as goal

-- what is known of the trees of the nodes that were read
abbrev pub invariant-loop-node : goal.invariant-loop-node
invariant-loop-node l = l.known.items ≡ map (measure l.most) (trees (take l.node-index l.node-items))
