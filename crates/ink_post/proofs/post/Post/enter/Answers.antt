use Rattle.std.proofs.Common.{[], ◌∷◌, ◌++◌, ap, ◌∙◌}
use Rattle.ink_base.specs.Journal.{JournalView}
use Rattle.ink_post.specs.Worlds.{world_of}
use Rattle.ink_post.proofs.HomesLemmas.{entry_added}
use Rattle.ink_post.proofs.post.Post.enter.Goals as goal
use Rattle.ink_proc.specs.State.{state_of}
use Rattle.ink_worlds.specs.State.{back_in}
use Rattle.ink_worlds.specs.declared.status.Status.TheVariants.{Ready}

pub returns-clause-after : goal.returns-clause-after
returns-clause-after c output =
    entry_added (world_of c.come_home.new.self output) (back_in c.args.process (state_of c.args.proc) Ready (world_of c.args.self.now output)) c.add.new.self.entries (c.args.self.now.journal.entries ++ c.args.process ∷ [])
    (c.come_home.ensures.after output)
    (c.add.ensures.entries ∙ ap (λ (j : JournalView). j.entries ++ c.args.process ∷ []) c.come_home.ensures.journal)
