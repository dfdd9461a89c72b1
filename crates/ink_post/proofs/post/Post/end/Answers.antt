use Rattle.std.proofs.Common.{ℕ, None, Option, Some, ap, sym, ◌∙◌}
use Rattle.ink_post.specs.Ends.{end_in}
use Rattle.ink_post.proofs.MeaningLemmas.{ends_mean}
use Rattle.ink_post.proofs.post.Post.end.Goals as goal
use Rattle.ink_worlds.specs.declared.halt.Halt.{Halt}

pub returns-in-Some-clause-means : goal.returns-in-Some-clause-means
returns-in-Some-clause-means c code stands none =
    ends_mean code c.args.self.now (Some c.end_by.result)
    (ap Some c.end_by.ensures ∙ sym (ap (λ (h : Option Halt). end_in h c.args.self.now.wrong c.args.self.now.statuses.items) c.in-Some.is)) stands none

pub returns-clause-means : goal.returns-clause-means
returns-clause-means c code stands none =
    ends_mean code c.args.self.now c.rest_end.result
    (c.rest_end.ensures ∙ sym (ap (λ (h : Option Halt). end_in h c.args.self.now.wrong c.args.self.now.statuses.items) c.in_default.is ∙ ap (λ (w : Option ℕ). end_in None w c.args.self.now.statuses.items) c.in_default-wrong.is)) stands none
