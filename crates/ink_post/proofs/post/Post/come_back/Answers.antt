use Rattle.std.proofs.Common.{None, Some, refl, sym, ap, subst}
use Rattle.ink_base.specs.Actions.{Panic}
use Rattle.ink_post.specs.Answers.{ActsOn}
use Rattle.ink_post.specs.Asks.{told_came}
use Rattle.ink_post.specs.Worlds.{CodeState, world_of}
use Rattle.ink_post.specs.declared.answer.Answer.TheVariants as a
use Rattle.ink_post.specs.declared.answer.Came.{Came as OneCame}
use Rattle.ink_post.proofs.SettlingLemmas.{acts_home, calm_in, home_by, spent_by}
use Rattle.ink_post.proofs.post.Post.come_back.Goals as goal
use Rattle.ink_proc.specs.State.{state_of}
use Rattle.ink_steps.specs.Answers.{action_of}
use Rattle.ink_worlds.specs.State.{halted}
use Rattle.ink_worlds.specs.State as w
use Rattle.ink_worlds.specs.declared.halt.Halt.TheVariants.{Local}

pub act_on-requires-clause-brings : goal.act_on-requires-clause-brings
act_on-requires-clause-brings c = c.requires.brings (action_of c.in-Wants.wish) (ap told_came c.in-Wants.is)

pub returns-in-Went-clause-checks : goal.returns-in-Went-clause-checks
returns-in-Went-clause-checks c =
    home_by c.args.code.now c.args.process (state_of c.args.proc) c.args.came (Some w.Went) c.args.self.now c.come_home.new.self a.Kept (ap told_came c.in-Went.is) (λ output.
    calm_in c.args.code.now c.args.self.now.limits c.args.process (state_of c.args.proc) (world_of c.args.self.now output) w.Went w.Kept (world_of c.come_home.new.self output) c.requires.goes.halt (refl, c.come_home.ensures.after output))

pub returns-in-GivesUp-clause-checks : goal.returns-in-GivesUp-clause-checks
returns-in-GivesUp-clause-checks c =
    home_by c.args.code.now c.args.process (state_of c.args.proc) c.args.came (Some w.GivesUp) c.args.self.now c.stop.new.self a.Kept (ap told_came c.in-GivesUp.is) (λ output.
    calm_in c.args.code.now c.args.self.now.limits c.args.process (state_of c.args.proc) (world_of c.args.self.now output) w.GivesUp w.Kept (world_of c.stop.new.self output) c.requires.goes.halt (refl, c.stop.ensures.after output))

pub returns-in-Spent-clause-checks : goal.returns-in-Spent-clause-checks
returns-in-Spent-clause-checks c output =
    let after : CodeState = halted (Local c.args.process c.in-Spent.steps) (world_of c.stop-in-Spent.new.self output) in
    let is = ap (λ (s : CodeState). halted (Local c.args.process c.in-Spent.steps) s) (c.stop-in-Spent.ensures.after output) in
    spent_by c.args.code.now c.args.self.now.limits c.args.process (state_of c.args.proc) (world_of c.args.self.now output) c.args.came c.in-Spent.steps after (ap told_came c.in-Spent.is) c.requires.goes.halt is

pub returns-in-Wrong-clause-checks : goal.returns-in-Wrong-clause-checks
returns-in-Wrong-clause-checks c =
    home_by c.args.code.now c.args.process (state_of c.args.proc) c.args.came None c.args.self.now c.abandon.new.self a.Wrong (ap told_came c.in-Wrong.is) (λ output. (refl, c.abandon.ensures.after output))

pub returns-in-Wants-clause-checks : goal.returns-in-Wants-clause-checks
returns-in-Wants-clause-checks c =
    acts_home c.args.code.now c.args.process (state_of c.args.proc) c.args.came (action_of c.in-Wants.wish) c.args.self.now c.act_on.new.self c.act_on.result (ap told_came c.in-Wants.is) c.requires.goes.halt
    (subst (λ (x : OneCame). ActsOn c.args.code.now (action_of c.in-Wants.wish) c.args.process (state_of c.args.proc) x c.args.self.now c.act_on.new.self c.act_on.result) (sym c.in-Wants.is) c.act_on.ensures.acts)

pub returns-in-Panics-clause-checks : goal.returns-in-Panics-clause-checks
returns-in-Panics-clause-checks c =
    acts_home c.args.code.now c.args.process (state_of c.args.proc) c.args.came (Panic c.in-Panics.text) c.args.self.now c.panic_with.new.self c.panic_with.result (ap told_came c.in-Panics.is) c.requires.goes.halt
    (subst (λ (x : OneCame). ActsOn c.args.code.now (Panic c.in-Panics.text) c.args.process (state_of c.args.proc) x c.args.self.now c.panic_with.new.self c.panic_with.result) (sym c.in-Panics.is) c.panic_with.ensures.acts)
