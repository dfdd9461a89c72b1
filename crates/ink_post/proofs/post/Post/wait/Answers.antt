use Rattle.std.proofs.Common.{ap, ◌∙◌}
use Rattle.ink_post.specs.Worlds.{world_of}
use Rattle.ink_post.proofs.post.Post.wait.Goals as goal
use Rattle.ink_proc.specs.State.{state_of}
use Rattle.ink_worlds.specs.State.{back_in}
use Rattle.ink_worlds.specs.declared.status.Status.{Status}

pub returns-clause-after : goal.returns-clause-after
returns-clause-after c output =
    c.come_home.ensures.after output ∙ ap (λ (s : Status). back_in c.args.process (state_of c.args.proc) s (world_of c.args.self.now output)) c.waits_at.ensures
