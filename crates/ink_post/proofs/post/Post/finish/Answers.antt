use Rattle.std.proofs.Common.{Err, ap, ◌∙◌}
use Rattle.ink_code.specs.Runs.{where_right}
use Rattle.ink_interp.specs.declared.reply.AnswerFault.{AnswerFault}
use Rattle.ink_post.proofs.MakingLemmas.{left_none}
use Rattle.ink_post.proofs.post.Post.finish.Goals as goal
use Rattle.ink_proc.specs.State.{state_of}

pub returns-in-Ok-clause-finishes : goal.returns-in-Ok-clause-finishes
returns-in-Ok-clause-finishes c output = (state_of c.answer.new.proc, ap where_right c.in-Ok.ensures, c.enter.ensures.after output)

pub returns-in-Err-Wrong-clause-finishes : goal.returns-in-Err-Wrong-clause-finishes
returns-in-Err-Wrong-clause-finishes c output = (left_none _ c.answer.result _ _ _ c.answer.ensures c.in-Err-Wrong.field-0-0 (c.in-Err-Wrong.is ∙ ap (λ (f : AnswerFault). Err f) c.in-Err-Wrong.field-0-is), c.abandon.ensures.after output)
