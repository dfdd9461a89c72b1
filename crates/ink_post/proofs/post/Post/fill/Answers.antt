use Rattle.std.proofs.Common.{ap}
use Rattle.ink_post.specs.Worlds.{CodeState}
use Rattle.ink_post.proofs.post.Post.fill.Goals as goal
use Rattle.ink_worlds.specs.State.{halted}
use Rattle.ink_worlds.specs.declared.halt.Halt.TheVariants.{Events}

pub returns-clause-after : goal.returns-clause-after
returns-clause-after c output = ap (λ (s : CodeState). halted (Events c.args.process) s) (c.come_home.ensures.after output)
