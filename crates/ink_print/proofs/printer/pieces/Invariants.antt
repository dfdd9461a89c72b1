use Rattle.std.proofs.Common.{◌≡◌, ◌++◌}
use Rattle.ink_grammar.specs.Built.{trees}
use Rattle.ink_grammar.specs.Views as view
use Rattle.ink_print.specs.Printed as spec
use Rattle.ink_print.proofs.Told.{told}
use Rattle.ink_print.proofs.Cost.{cost}
use Rattle.ink_print.proofs.printer.pieces.Given as goal

abbrev pub invariant-loop-work : goal.invariant-loop-work
invariant-loop-work l = l.printed.items ++ told (trees l.tree.nodes.items) l.stack ≡ spec.pieces (view.tree l.tree)

abbrev pub decreases-loop-work : goal.decreases-loop-work
decreases-loop-work l = cost (trees l.tree.nodes.items) l.stack
