use Rattle.ink_moves.proofs.Below.{early_below}
use Rattle.ink_moves.proofs.build.early_steps_of.Goals as goal

pub returns : goal.returns
returns c =
    early_below c.args.bodies.now.arena.now c.args.number c.is_call.result c.new-steps.result.items c.early_steps.new.steps.items
    c.new-steps.ensures.items c.in_ok-early_steps.ensures
