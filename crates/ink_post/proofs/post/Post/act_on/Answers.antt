use Rattle.std.proofs.Common.{ℕ, Some, List, ap, sym, ◌∙◌}
use Rattle.std.specs.Option.{option_copied}
use Rattle.ink_post.specs.Answers.{panicked}
use Rattle.ink_post.specs.Worlds.{CodeState, world_of}
use Rattle.ink_post.specs.declared.answer.Came.TheVariants as came
use Rattle.ink_post.proofs.ActingLemmas.{acts_full, acts_panics, acts_waits, can_make, makes_on}
use Rattle.ink_post.proofs.post.Post.act_on.Goals as goal
use Rattle.ink_proc.specs.State.{state_of}
use Rattle.ink_steps.specs.Answers.{action_of}

pub returns-then-not-is_enabled-clause-acts : goal.returns-then-not-is_enabled-clause-acts
returns-then-not-is_enabled-clause-acts c output =
    acts_waits c.args.code.now c.args.self.now.limits c.args.process (action_of c.args.wish) (state_of c.args.proc) (world_of c.args.self.now output) (world_of c.wait.new.self output)
    (sym (c.is_enabled.ensures output) ∙ c.if-not-is_enabled.true) (c.wait.ensures.after output)

pub returns-then-is_full-clause-acts : goal.returns-then-is_full-clause-acts
returns-then-is_full-clause-acts c output =
    acts_full c.args.code.now c.args.self.now.limits c.args.process (action_of c.args.wish) (state_of c.args.proc) (world_of c.args.self.now output) (world_of c.fill.new.self output)
    (sym (c.is_enabled.ensures output) ∙ c.if-not-is_enabled.false) (sym c.is_full.ensures ∙ c.if-is_full.true) (c.fill.ensures.after output)

pub make-requires : goal.make-requires
make-requires c =
    can_make (action_of c.args.wish) c.args.process (state_of c.args.proc) c.args.self.now c.reserve.new.self c.reserve.ensures.same c.reserve.ensures.keeps.limits c.in-Ok.ensures.room c.requires.goes c.requires.brings
    (λ output. sym (c.is_enabled.ensures output) ∙ c.if-not-is_enabled.false)
    (λ output. sym (c.panic_of-panics.ensures output) ∙ ap option_copied c.in-None.is)

pub returns-in-None-clause-acts : goal.returns-in-None-clause-acts
returns-in-None-clause-acts c =
    makes_on c.args.code.now (action_of c.args.wish) c.args.process (state_of c.args.proc) (came.Wants c.args.wish) c.args.self.now c.reserve.new.self c.make.new.self c.make.result
    c.reserve.ensures.same c.reserve.ensures.keeps.limits
    (λ output. sym (c.is_enabled.ensures output) ∙ c.if-not-is_enabled.false) (sym c.is_full.ensures ∙ c.if-is_full.false)
    (λ output. sym (c.panic_of-panics.ensures output) ∙ ap option_copied c.in-None.is) c.make.ensures.makes

pub returns-in-Ok-of-clause-acts : goal.returns-in-Ok-of-clause-acts
returns-in-Ok-of-clause-acts c output =
    acts_panics c.args.code.now c.args.self.now.limits c.args.process (action_of c.args.wish) (state_of c.args.proc) (world_of c.args.self.now output) c.in-Ok-of.text (world_of c.make_panic.new.self output)
    (sym (c.is_enabled.ensures output) ∙ c.if-not-is_enabled.false) (sym c.is_full.ensures ∙ c.if-is_full.false)
    (sym (c.panic_of-panics.ensures output) ∙ ap option_copied c.in-Some.is ∙ ap (λ (t : List ℕ). Some t) (sym c.as_bytes.ensures.value ∙ sym c.in-Ok-of.ensures))
    (c.make_panic.ensures.after output ∙ ap (λ (s : CodeState). panicked c.args.process (state_of c.args.proc) c.in-Ok-of.text s) (c.reserve.ensures.same output))
