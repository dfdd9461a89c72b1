use Rattle.std.proofs.Common.{List, ℕ, refl, ap, sym, ◌∙◌}
use Rattle.ink_base.specs.Actions.{Panic}
use Rattle.ink_post.specs.Answers.{panicked}
use Rattle.ink_post.specs.Worlds.{CodeState, world_of}
use Rattle.ink_post.proofs.ActingLemmas.{acts_full, acts_panics}
use Rattle.ink_post.proofs.post.Post.panic_with.Goals as goal
use Rattle.ink_proc.specs.State.{state_of}

pub returns-then-is_full-clause-acts : goal.returns-then-is_full-clause-acts
returns-then-is_full-clause-acts c output =
    acts_full c.args.code.now c.args.self.now.limits c.args.process (Panic c.args.text) (state_of c.args.proc) (world_of c.args.self.now output) (world_of c.fill.new.self output) refl (sym c.is_full.ensures ∙ c.if-is_full.true) (c.fill.ensures.after output)

pub returns-clause-acts : goal.returns-clause-acts
returns-clause-acts c output =
    let old : CodeState = world_of c.args.self.now output in
    acts_panics c.args.code.now c.args.self.now.limits c.args.process (Panic c.args.text) (state_of c.args.proc) old c.args.text (world_of c.make_panic.new.self output) refl (sym c.is_full.ensures ∙ c.if-is_full.false) refl
    (c.make_panic.ensures.after output ∙ ap (λ (js : List ℕ). panicked c.args.process (state_of c.args.proc) c.args.text (record old { journal = js })) c.reserve.ensures.entries)
