use Rattle.ink_moves.proofs.Below.{late_below}
use Rattle.ink_moves.proofs.build.late_steps_of.Goals as goal

pub returns : goal.returns
returns c =
    late_below c.args.bodies.now.arena.now c.args.number c.is_call.result c.new-steps.result.items c.late_steps.new.steps.items
    c.new-steps.ensures.items c.in_ok-late_steps.ensures
