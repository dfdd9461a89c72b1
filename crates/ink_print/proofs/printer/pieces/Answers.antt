use Rattle.ink_grammar.specs.Views as view
use Rattle.ink_print.specs.Printed as spec
use Rattle.ink_print.specs.declared.context.Context.TheVariants as context
use Rattle.ink_print.proofs.Turns.{begun, done, nothing_said, piece_said, node_said, nothing_costs, piece_costs, node_costs}
use Rattle.ink_print.proofs.printer.pieces.Goals as goal

pub loop-work-init : goal.loop-work-init
loop-work-init c = begun c.args.tree.now.nodes.items c.args.tree.now.root context.Expression c.new-printed.result.items c.new-stack.result c.push.new.self c.new-printed.ensures.items c.new-stack.ensures (rw (← c.root.ensures) c.in_ok-push.ensures)

pub loop-work-smaller-in-Nothing : goal.loop-work-smaller-in-Nothing
loop-work-smaller-in-Nothing c = nothing_costs c.args.tree.now.nodes.items c.loop-work.stack c.pop.new.self c.in-Some.work c.in-Some.ensures c.in-Nothing.is

pub loop-work-preserved-in-Nothing : goal.loop-work-preserved-in-Nothing
loop-work-preserved-in-Nothing c = nothing_said c.args.tree.now.nodes.items c.loop-work.printed.items (spec.pieces (view.tree c.args.tree.now)) c.loop-work.stack c.pop.new.self c.in-Some.work c.in-Some.ensures c.loop-work.invariant c.in-Nothing.is

pub loop-work-smaller-in-Continue-branch-2 : goal.loop-work-smaller-in-Continue-branch-2
loop-work-smaller-in-Continue-branch-2 c = piece_costs c.args.tree.now.nodes.items c.loop-work.stack c.pop.new.self c.in-Some.work c.in-Some.ensures c.in-Piece.piece c.in-Piece.is

pub loop-work-preserved-in-Continue-branch-2 : goal.loop-work-preserved-in-Continue-branch-2
loop-work-preserved-in-Continue-branch-2 c = piece_said c.args.tree.now.nodes.items c.loop-work.printed.items (spec.pieces (view.tree c.args.tree.now)) c.loop-work.stack c.pop.new.self c.in-Some.work c.in-Some.ensures c.loop-work.invariant c.in-Piece.piece c.push-in-Piece.new.self.items c.in-Piece.is c.in_ok-push-in-Piece.ensures.items

pub loop-work-smaller : goal.loop-work-smaller
loop-work-smaller c = node_costs c.args.tree.now.nodes.items c.loop-work.stack c.pop.new.self c.in-Some.work c.in-Some.ensures c.in-Node.number c.in-Node.context c.open.new.stack c.in-Node.is (rw c.nodes-nodes.ensures.nodes at c.in_ok-open-in-Node.ensures)

pub loop-work-preserved : goal.loop-work-preserved
loop-work-preserved c = node_said c.args.tree.now.nodes.items c.loop-work.printed.items (spec.pieces (view.tree c.args.tree.now)) c.loop-work.stack c.pop.new.self c.in-Some.work c.in-Some.ensures c.loop-work.invariant c.in-Node.number c.in-Node.context c.open.new.stack c.in-Node.is (rw c.nodes-nodes.ensures.nodes at c.in_ok-open-in-Node.ensures)

pub returns : goal.returns
returns c = done c.args.tree.now.nodes.items c.loop-work.printed.items (spec.pieces (view.tree c.args.tree.now)) c.loop-work.stack c.in_default.ensures.0 c.loop-work.invariant
