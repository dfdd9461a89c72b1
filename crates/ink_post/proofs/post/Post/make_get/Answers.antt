use Rattle.std.proofs.Common.{[], ap, ◌∙◌}
use Rattle.ink_code.specs.Replies as machine
use Rattle.ink_code.specs.Replies.{answered}
use Rattle.ink_interp.specs.declared.reply.Reply.TheVariants as reply
use Rattle.ink_post.proofs.ExchangeLemmas.{apart_value, not_reached, taken_at}
use Rattle.ink_post.proofs.MakingLemmas.{left_none}
use Rattle.ink_post.proofs.TakingLemmas.{given_back, got, got_back, got_wrong, value_same}
use Rattle.ink_post.specs.declared.answer.CheckFault.{CheckFault}
use Rattle.ink_post.specs.Worlds.{world_of}
use Rattle.ink_proc.specs.State.{state_of}
use Rattle.ink_post.proofs.post.Post.make_get.Goals as goal

pub take_value-value-requires-clause-ready : goal.take_value-value-requires-clause-ready
take_value-value-requires-clause-ready c = c.requires.enabled []

pub take_value-value-requires-clause-whole : goal.take_value-value-requires-clause-whole
take_value-value-requires-clause-whole c = not_reached _ _ (c.requires.whole [])

pub answer-requires : goal.answer-requires
answer-requires c =
    apart_value c.args.self.now.futures.items c.args.future c.args.proc.heap.objects c.take_value-value.result (c.requires.brings.apart []) c.take_value-value.ensures.value

pub return_value-requires : goal.return_value-requires
return_value-requires c =
    taken_at c.args.self.now.futures.items c.take_value-value.new.self.futures.items c.args.future c.take_value-value.result c.take_value-value.ensures.value c.take_value-value.ensures.after

pub returns-in-Ok-clause-makes : goal.returns-in-Ok-clause-makes
returns-in-Ok-clause-makes c output =
    got c.args.code.now c.args.self.now.limits c.args.process (state_of c.args.proc) (state_of c.answer.new.proc) output c.args.self.now c.take_value-value.new.self (world_of c.enter.new.self output)
    c.requires.goes.halt c.requires.goes.text c.take_value-value.ensures.rest (c.enter.ensures.after output)
    c.args.future c.take_value-value.result c.take_value-value.ensures.value c.take_value-value.ensures.after c.take_value-value.ensures.mail c.in-Ok.ensures

pub returns-in-Err-OutOfMemory-Got-clause-makes : goal.returns-in-Err-OutOfMemory-Got-clause-makes
returns-in-Err-OutOfMemory-Got-clause-makes c =
    let given = given_back (answered c.args.code.now (machine.Got c.take_value-value.result) (state_of c.args.proc)) c.answer.result (reply.Got c.take_value-value.result) (reply.Got c.in-Err-OutOfMemory-Got.value) (state_of c.args.proc) (state_of c.answer.new.proc) c.answer.ensures (cc (c.in-Err-OutOfMemory-Got.is, c.in-Err-OutOfMemory-Got.field-0-is, c.in-Err-OutOfMemory-Got.field-0-0-is)) in (
      got_back c.args.self.now c.take_value-value.new.self c.return_value.new.self c.take_value-value.ensures.rest c.return_value.ensures.rest
          c.args.future c.take_value-value.result c.in-Err-OutOfMemory-Got.value c.take_value-value.ensures.value c.take_value-value.ensures.after c.take_value-value.ensures.mail c.return_value.ensures.after c.return_value.ensures.mail
          (value_same c.take_value-value.result c.in-Err-OutOfMemory-Got.value given.1),
      ap (λ (f : CheckFault). state_of f.proc) c.back.ensures ∙ given.0,
      ap (λ (f : CheckFault). f.came) c.back.ensures,
    )

pub returns-in-Err-Wrong-clause-makes : goal.returns-in-Err-Wrong-clause-makes
returns-in-Err-Wrong-clause-makes c output =
    got_wrong c.args.code.now c.args.self.now.limits c.args.process (state_of c.args.proc) output c.args.self.now c.take_value-value.new.self (world_of c.abandon.new.self output)
    c.take_value-value.ensures.rest (c.abandon.ensures.after output)
    c.args.future c.take_value-value.result c.take_value-value.ensures.value
    (left_none (answered c.args.code.now (machine.Got c.take_value-value.result) (state_of c.args.proc)) c.answer.result (reply.Got c.take_value-value.result) (state_of c.args.proc) (state_of c.answer.new.proc) c.answer.ensures c.in-Err-Wrong.field-0-0 (cc (c.in-Err-Wrong.is, c.in-Err-Wrong.field-0-is)))
