use Rattle.std.proofs.Common.{true, false, refl, ap, sym, ◌∙◌}
use Rattle.ink_post.specs.Worlds.{CodeState, world_of}
use Rattle.ink_post.specs.declared.answer.Came.TheVariants as home
use Rattle.ink_post.specs.declared.answer.Looked.TheVariants as looked
use Rattle.ink_post.proofs.TurningLemmas.{sees_as, sees_wish}
use Rattle.ink_post.proofs.post.Post.seen.Goals as goal
use Rattle.ink_proc.specs.State.{state_of}
use Rattle.ink_worlds.specs.State.{halted}
use Rattle.ink_worlds.specs.declared.halt.Halt.TheVariants.{Local}

pub returns-then-is_enabled-clause-sees : goal.returns-then-is_enabled-clause-sees
returns-then-is_enabled-clause-sees c output =
    sees_wish c.args.process c.args.came c.in-Wants.wish (state_of c.args.proc) (world_of c.args.self.now output) (world_of c.stop.new.self output) true looked.Enabled c.in-Wants.is (sym (c.is_enabled.ensures output) ∙ c.if-is_enabled.true) (refl, c.stop.ensures.after output)

pub returns-else-is_enabled-clause-sees : goal.returns-else-is_enabled-clause-sees
returns-else-is_enabled-clause-sees c output =
    sees_wish c.args.process c.args.came c.in-Wants.wish (state_of c.args.proc) (world_of c.args.self.now output) (world_of c.wait.new.self output) false looked.Waits c.in-Wants.is (sym (c.is_enabled.ensures output) ∙ c.if-is_enabled.false) (refl, c.wait.ensures.after output)

pub returns-in-Panics-clause-sees : goal.returns-in-Panics-clause-sees
returns-in-Panics-clause-sees c output =
    sees_as c.args.process c.args.came (home.Panics c.in-Panics.field-0) (state_of c.args.proc) (world_of c.args.self.now output) (world_of c.stop-in-Panics.new.self output) looked.Enabled c.in-Panics.is (refl, c.stop-in-Panics.ensures.after output)

pub returns-in-Spent-clause-sees : goal.returns-in-Spent-clause-sees
returns-in-Spent-clause-sees c output =
    sees_as c.args.process c.args.came (home.Spent c.in-Spent.steps) (state_of c.args.proc) (world_of c.args.self.now output) _ (looked.Spent c.in-Spent.steps) c.in-Spent.is (refl, ap (λ (s : CodeState). halted (Local c.args.process c.in-Spent.steps) s) (c.stop-in-Spent.ensures.after output))

pub returns-in-Wrong-clause-sees : goal.returns-in-Wrong-clause-sees
returns-in-Wrong-clause-sees c output =
    sees_as c.args.process c.args.came home.Wrong (state_of c.args.proc) (world_of c.args.self.now output) (world_of c.abandon.new.self output) looked.Wrong c.in-Wrong.is (refl, c.abandon.ensures.after output)

pub returns-in-Went-clause-sees : goal.returns-in-Went-clause-sees
returns-in-Went-clause-sees c output =
    sees_as c.args.process c.args.came home.Went (state_of c.args.proc) (world_of c.args.self.now output) (world_of c.come_home.new.self output) looked.Waits c.in-Went.is (refl, c.come_home.ensures.after output)

pub returns-in-GivesUp-clause-sees : goal.returns-in-GivesUp-clause-sees
returns-in-GivesUp-clause-sees c output =
    sees_as c.args.process c.args.came home.GivesUp (state_of c.args.proc) (world_of c.args.self.now output) (world_of c.stop-in-GivesUp.new.self output) looked.Waits c.in-GivesUp.is (refl, c.stop-in-GivesUp.ensures.after output)
