use Rattle.std.proofs.Common.{None, refl, sym, ap, ◌∙◌}
use Rattle.ink_post.specs.Asks.{told_came}
use Rattle.ink_post.specs.declared.answer.Answer.TheVariants as a
use Rattle.ink_post.proofs.SettlingLemmas.{home_by, over_home}
use Rattle.ink_post.proofs.post.Post.settle.Goals as goal
use Rattle.ink_proc.specs.State.{state_of}

pub returns-in-Wrong-clause-checks : goal.returns-in-Wrong-clause-checks
returns-in-Wrong-clause-checks c =
    home_by c.args.code.now c.args.process (state_of c.args.proc) c.args.came None c.args.self.now c.abandon.new.self a.Wrong (ap told_came c.in-Wrong.is) (λ output. (refl, c.abandon.ensures.after output))

pub returns-then-is_some : goal.returns-then-is_some
returns-then-is_some c = record {
  checks = over_home c.args.code.now c.args.process (state_of c.args.proc) c.args.came c.args.self.now c.stop.new.self c.in_default.not-Wrong (sym c.is_some.ensures ∙ c.if-is_some.true) c.stop.ensures.after;
  limits = c.stop.ensures.limits;
  wrong = c.stop.ensures.wrong;
}
