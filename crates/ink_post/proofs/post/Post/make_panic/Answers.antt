use Rattle.std.proofs.Common.{Some, [], ◌∷◌, ◌++◌, ap, ◌∙◌}
use Rattle.ink_base.specs.Journal.{JournalView}
use Rattle.ink_post.specs.Worlds.{CodeState, world_of}
use Rattle.ink_post.proofs.HomesLemmas.{entry_added}
use Rattle.ink_post.proofs.post.Post.make_panic.Goals as goal
use Rattle.ink_proc.specs.State.{state_of}
use Rattle.ink_worlds.specs.State.{back_in}
use Rattle.ink_worlds.specs.declared.halt.Halt.TheVariants.{Panicked}
use Rattle.ink_worlds.specs.declared.status.Status.TheVariants.{Stopped}

pub returns-clause-after : goal.returns-clause-after
returns-clause-after c output =
    ap (λ (s : CodeState). record s { text = Some c.args.text; halt = Some (Panicked c.args.process) })
    (entry_added (world_of c.come_home.new.self output) (back_in c.args.process (record (state_of c.args.proc) { ran = 0 }) Stopped (world_of c.args.self.now output)) c.add.new.self.entries (c.args.self.now.journal.entries ++ c.args.process ∷ [])
    (c.come_home.ensures.after output)
    (c.add.ensures.entries ∙ ap (λ (j : JournalView). j.entries ++ c.args.process ∷ []) c.come_home.ensures.journal))
