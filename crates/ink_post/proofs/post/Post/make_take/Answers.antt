use Rattle.std.proofs.Common.{Ok, None, [], ap, ◌∙◌}
use Rattle.ink_code.specs.Replies as machine
use Rattle.ink_code.specs.Replies.{answered}
use Rattle.ink_code.specs.Runs.{where_right}
use Rattle.ink_interp.specs.declared.reply.Reply.TheVariants as reply
use Rattle.ink_mail.specs.Boxes.{mail_of}
use Rattle.ink_post.proofs.ExchangeLemmas.{apart_front}
use Rattle.ink_post.proofs.MakingLemmas.{left_none}
use Rattle.ink_post.proofs.TakingLemmas.{given_back, message_back, message_of, taken_of, took, took_wrong}
use Rattle.ink_post.specs.declared.answer.CheckFault.{CheckFault}
use Rattle.ink_post.specs.Worlds.{world_of}
use Rattle.ink_proc.specs.State.{state_of}
use Rattle.ink_post.proofs.post.Post.make_take.Goals as goal

pub take_message-message-requires : goal.take_message-message-requires
take_message-message-requires c = c.requires.enabled []

pub answer-requires : goal.answer-requires
answer-requires c =
    apart_front (mail_of c.args.self.now.mail) c.args.process c.args.proc.heap.objects c.take_message-message.result c.into_parts-number.result.3 (c.requires.brings.apart []) c.take_message-message.ensures.message c.into_parts-number.ensures.values

pub returns-in-Ok-clause-makes : goal.returns-in-Ok-clause-makes
returns-in-Ok-clause-makes c output =
    took c.args.code.now c.args.self.now.limits c.args.process (state_of c.args.proc) (state_of c.answer.new.proc) output c.args.self.now c.take_message-message.new.self (world_of c.enter.new.self output)
    c.requires.goes.halt c.requires.goes.text c.take_message-message.ensures.rest (c.enter.ensures.after output)
    c.take_message-message.result c.take_message-message.ensures.message c.take_message-message.ensures.after c.take_message-message.ensures.futures
    (taken_of c.args.code.now (state_of c.args.proc) c.take_message-message.result c.into_parts-number.result.2 c.into_parts-number.result.3 (λ r. r) (Ok (state_of c.answer.new.proc)) c.into_parts-number.ensures.method c.into_parts-number.ensures.values c.in-Ok.ensures)

pub returns-in-Err-OutOfMemory-Message-clause-makes : goal.returns-in-Err-OutOfMemory-Message-clause-makes
returns-in-Err-OutOfMemory-Message-clause-makes c =
    let given = given_back (answered c.args.code.now (machine.Taken c.into_parts-number.result.2 c.into_parts-number.result.3) (state_of c.args.proc)) c.answer.result (reply.Message c.into_parts-number.result.2 c.into_parts-number.result.3) (reply.Message c.in-Err-OutOfMemory-Message.method c.in-Err-OutOfMemory-Message.parcel) (state_of c.args.proc) (state_of c.answer.new.proc) c.answer.ensures (cc (c.in-Err-OutOfMemory-Message.is, c.in-Err-OutOfMemory-Message.field-0-is, c.in-Err-OutOfMemory-Message.field-0-0-is)) in (
      message_back c.args.self.now c.take_message-message.new.self c.return_message.new.self c.take_message-message.ensures.rest c.return_message.ensures.rest
          c.args.process c.take_message-message.result c.new-message.result c.take_message-message.ensures.message c.take_message-message.ensures.after c.take_message-message.ensures.futures c.return_message.ensures.after c.return_message.ensures.futures
          (c.new-message.ensures ∙ message_of c.take_message-message.result c.into_parts-number.result.0 c.into_parts-number.result.1 c.into_parts-number.result.2 c.in-Err-OutOfMemory-Message.method c.into_parts-number.result.3 c.in-Err-OutOfMemory-Message.parcel c.into_parts-number.ensures.number c.into_parts-number.ensures.sender c.into_parts-number.ensures.method c.into_parts-number.ensures.values given.1),
      ap (λ (f : CheckFault). state_of f.proc) c.back.ensures ∙ given.0,
      ap (λ (f : CheckFault). f.came) c.back.ensures,
    )

pub returns-in-Err-Wrong-clause-makes : goal.returns-in-Err-Wrong-clause-makes
returns-in-Err-Wrong-clause-makes c output =
    took_wrong c.args.code.now c.args.self.now.limits c.args.process (state_of c.args.proc) output c.args.self.now c.take_message-message.new.self (world_of c.abandon.new.self output)
    c.take_message-message.ensures.rest (c.abandon.ensures.after output)
    c.take_message-message.result c.take_message-message.ensures.message
    (taken_of c.args.code.now (state_of c.args.proc) c.take_message-message.result c.into_parts-number.result.2 c.into_parts-number.result.3 where_right None c.into_parts-number.ensures.method c.into_parts-number.ensures.values
    (left_none (answered c.args.code.now (machine.Taken c.into_parts-number.result.2 c.into_parts-number.result.3) (state_of c.args.proc)) c.answer.result (reply.Message c.into_parts-number.result.2 c.into_parts-number.result.3) (state_of c.args.proc) (state_of c.answer.new.proc) c.answer.ensures c.in-Err-Wrong.field-0-0 (cc (c.in-Err-Wrong.is, c.in-Err-Wrong.field-0-is))))
