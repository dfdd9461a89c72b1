-- A take or a get that was made, or that nothing was left of but the world as it was.
use Rattle.std.proofs.Common.{◌≡◌, ℕ, None, Some, Result, Ok, Err, List, refl, ap, sym, ◌∙◌}
use Rattle.ink_base.specs.declared.future.FutureState.{FutureState}
use Rattle.ink_base.specs.declared.future.FutureState.TheVariants.{Set}
use Rattle.ink_base.specs.Actions.{Take, GetFuture, SharedState}
use Rattle.ink_base.specs.Futures.{Futures, after_get, after_value_back, changed_future}
use Rattle.ink_base.specs.Messages.{Mail, Message, after_put_back, after_take, front_of}
use Rattle.ink_base.specs.Numbered.{numbered}
use Rattle.ink_code.specs.declared.code.Code.{Code}
use Rattle.ink_code.specs.declared.wrong.Wrong.{Wrong}
use Rattle.ink_code.specs.Process.{Process}
use Rattle.ink_code.specs.Replies as machine
use Rattle.ink_code.specs.Replies.{answered}
use Rattle.ink_code.specs.Runs.{where_right}
use Rattle.ink_code.specs.Trees.{Parcel}
use Rattle.ink_interp.specs.Answers.{AnswersReply}
use Rattle.ink_interp.specs.declared.reply.AnswerFault.{AnswerFault}
use Rattle.ink_interp.specs.declared.reply.AnswerFault.TheVariants as fault
use Rattle.ink_interp.specs.declared.reply.Reply.{Reply}
use Rattle.ink_interp.specs.declared.reply.Reply.TheVariants as reply
use Rattle.ink_mail.specs.Boxes.{mail_of}
use Rattle.ink_numbered.specs.Roomy.{Roomy}
use Rattle.ink_post.specs.Answers.{MakesBy, entered}
use Rattle.ink_post.specs.declared.answer.Answer.TheVariants as a
use Rattle.ink_post.specs.declared.post.Post.{Post}
use Rattle.ink_post.specs.Worlds.{CodeState, OnlyShares, Same, world_of}
use Rattle.ink_post.proofs.ExchangeLemmas.{front_back, value_back}
use Rattle.ink_post.proofs.MakingLemmas.{acted_is, after_getting, after_taking, beside_shared, same_state, wronged_none}
use Rattle.ink_worlds.specs.State.{put_in}
use Rattle.ink_worlds.specs.declared.status.Status.TheVariants.{Stopped}

abbrev Shares : Mail Parcel → Futures Parcel → List ℕ → SharedState Parcel
Shares mail futures output = record { mail = mail; futures = futures; output = output }

shared_is : (mail mail' : Mail Parcel) (futures futures' : Futures Parcel) (output : List ℕ) → mail ≡ mail' → futures ≡ futures' → Shares mail futures output ≡ Shares mail' futures' output
shared_is mail mail' futures futures' output em ef =
    ap (λ (m : Mail Parcel). Shares m futures output) em ∙ ap (λ (f : Futures Parcel). Shares mail' f output) ef

module _ (code : Code) (limits : List ℕ) (process : ℕ) (p q : Process) (output : List ℕ) (old middle : Post) (new : CodeState) (halt : old.halt ≡ None) (text : old.text ≡ None) (only : OnlyShares old middle) (after : new ≡ entered process q (world_of middle output)) where
  pub took : (message : Message Parcel) → front_of (mail_of old.mail) process ≡ Some message → mail_of middle.mail ≡ after_take (mail_of old.mail) process → middle.futures ≡ old.futures → answered code (machine.Taken message.method message.values) p ≡ Ok q → MakesBy code limits Take process p (world_of old output) new a.Moved
  took message front mail futures replied =
      let beside = beside_shared old middle output only in (
        q,
        after_taking code process (world_of old output).shared p message front ∙ ap where_right replied,
        refl,
        acted_is code limits Take process q (world_of old output) (world_of middle output) new new halt text beside.homes beside.statuses beside.journal beside.text beside.halt refl refl refl after refl refl
            (ap (λ (s : CodeState). s.shared) after ∙ shared_is (mail_of middle.mail) (after_take (mail_of old.mail) process) middle.futures.items old.futures.items output mail (ap (λ (r : Roomy (FutureState Parcel)). r.items) futures))
            refl refl refl,
      )

  pub got : (future : ℕ) (value : Parcel) → numbered old.futures.items future ≡ Some (Set value) → middle.futures.items ≡ changed_future old.futures.items future after_get → middle.mail ≡ old.mail → answered code (machine.Got value) p ≡ Ok q → MakesBy code limits (GetFuture future) process p (world_of old output) new a.Moved
  got future value held futures mail replied =
      let beside = beside_shared old middle output only in (
        q,
        after_getting code process (world_of old output).shared p future value held ∙ ap where_right replied,
        refl,
        acted_is code limits (GetFuture future) process q (world_of old output) (world_of middle output) new new halt text beside.homes beside.statuses beside.journal beside.text beside.halt refl refl refl after refl refl
            (ap (λ (s : CodeState). s.shared) after ∙ shared_is (mail_of middle.mail) (mail_of old.mail) middle.futures.items (changed_future old.futures.items future after_get) output (ap mail_of mail) futures)
            refl refl refl,
      )

-- the reply fits nowhere
module _ (code : Code) (limits : List ℕ) (process : ℕ) (p : Process) (output : List ℕ) (old middle : Post) (new : CodeState) (only : OnlyShares old middle) (after : new ≡ put_in process None Stopped (world_of middle output)) where
  pub took_wrong : (message : Message Parcel) → front_of (mail_of old.mail) process ≡ Some message → where_right (answered code (machine.Taken message.method message.values) p) ≡ None → MakesBy code limits Take process p (world_of old output) new a.Wrong
  took_wrong message front none =
      wronged_none code limits process p (world_of old output) (world_of middle output) (beside_shared old middle output only) Take new
      (after_taking code process (world_of old output).shared p message front ∙ none) after

  pub got_wrong : (future : ℕ) (value : Parcel) → numbered old.futures.items future ≡ Some (Set value) → where_right (answered code (machine.Got value) p) ≡ None → MakesBy code limits (GetFuture future) process p (world_of old output) new a.Wrong
  got_wrong future value held none =
      wronged_none code limits process p (world_of old output) (world_of middle output) (beside_shared old middle output only) (GetFuture future) new
      (after_getting code process (world_of old output).shared p future value held ∙ none) after

-- what was taken came back
module _ (old middle new : Post) (one : OnlyShares old middle) (two : OnlyShares middle new) where
  same_back : mail_of new.mail ≡ mail_of old.mail → new.futures.items ≡ old.futures.items → Same old new
  same_back mail futures output =
      let first = beside_shared old middle output one in
      let second = beside_shared middle new output two in
      same_state
      (world_of new output).homes (world_of old output).homes
      (world_of new output).statuses (world_of old output).statuses
      (world_of new output).shared (world_of old output).shared
      (world_of new output).journal (world_of old output).journal
      (world_of new output).text (world_of old output).text
      (world_of new output).halt (world_of old output).halt
      (second.homes ∙ first.homes) (second.statuses ∙ first.statuses)
      (shared_is (mail_of new.mail) (mail_of old.mail) new.futures.items old.futures.items output mail futures)
      (second.journal ∙ first.journal) (second.text ∙ first.text) (second.halt ∙ first.halt)

  pub message_back : (process : ℕ) (message back : Message Parcel) → front_of (mail_of old.mail) process ≡ Some message → mail_of middle.mail ≡ after_take (mail_of old.mail) process → middle.futures ≡ old.futures → mail_of new.mail ≡ after_put_back (mail_of middle.mail) process back → new.futures ≡ middle.futures → back ≡ message → Same old new
  message_back process message back front taken futures put futures' is =
      same_back
      (put ∙ ap (λ (m : Mail Parcel). after_put_back m process back) taken ∙ ap (λ (one : Message Parcel). after_put_back (after_take (mail_of old.mail) process) process one) is ∙ front_back (mail_of old.mail) process message front)
      (ap (λ (r : Roomy (FutureState Parcel)). r.items) futures' ∙ ap (λ (r : Roomy (FutureState Parcel)). r.items) futures)

  pub got_back : (future : ℕ) (value back : Parcel) → numbered old.futures.items future ≡ Some (Set value) → middle.futures.items ≡ changed_future old.futures.items future after_get → middle.mail ≡ old.mail → new.futures.items ≡ changed_future middle.futures.items future (λ state. after_value_back state back) → new.mail ≡ middle.mail → back ≡ value → Same old new
  got_back future value back held taken mail put mail' is =
      same_back
      (ap mail_of mail' ∙ ap mail_of mail)
      (put ∙ ap (λ (v : Parcel). changed_future middle.futures.items future (λ state. after_value_back state v)) is ∙ value_back old.futures.items middle.futures.items future value held taken)

-- what there was no memory for is as before
pub given_back : (left : Result Process Wrong) (result : Result (Unit {0}) AnswerFault) (given back : Reply) (old new : Process) → AnswersReply left result given old new → result ≡ Err (fault.OutOfMemory back) → (new ≡ old) × (back ≡ given)
given_back left (Ok u) given back old new answers e = absurd (cc)
given_back left (Err (fault.Wrong found)) given back old new answers e = absurd (cc)
given_back left (Err (fault.OutOfMemory other)) given back old new answers e =
    let same : back ≡ other = cc in
    (answers.0, same ∙ answers.1)

method_same : (method method' : ℕ) (values values' : Parcel) → reply.Message method' values' ≡ reply.Message method values → method' ≡ method
method_same method method' values values' e = cc

values_same : (method method' : ℕ) (values values' : Parcel) → reply.Message method' values' ≡ reply.Message method values → values' ≡ values
values_same method method' values values' e = cc

-- a message made of the parts of one
pub message_of : (message : Message Parcel) (number sender method method' : ℕ) (values values' : Parcel) → number ≡ message.number → sender ≡ message.sender → method ≡ message.method → values ≡ message.values → reply.Message method' values' ≡ reply.Message method values → record { number = number; sender = sender; method = method'; values = values' } ≡ message
message_of message number sender method method' values values' en es em ev e =
    ap (λ (n : ℕ). record { number = n; sender = sender; method = method'; values = values' }) en
    ∙ ap (λ (n : ℕ). record { number = message.number; sender = n; method = method'; values = values' }) es
    ∙ ap (λ (n : ℕ). record { number = message.number; sender = message.sender; method = n; values = values' }) (method_same method method' values values' e ∙ em)
    ∙ ap (λ (v : Parcel). record { number = message.number; sender = message.sender; method = message.method; values = v }) (values_same method method' values values' e ∙ ev)

pub value_same : (value back : Parcel) → reply.Got back ≡ reply.Got value → back ≡ value
value_same value back e = cc

-- what the machine answers to a message, by its parts
pub taken_of : {X : Type 0} (code : Code) (p : Process) (message : Message Parcel) (method : ℕ) (values : Parcel) (f : Result Process Wrong → X) (x : X) → method ≡ message.method → values ≡ message.values → f (answered code (machine.Taken method values) p) ≡ x → f (answered code (machine.Taken message.method message.values) p) ≡ x
taken_of code p message method values f x em ev e =
    ap (λ (n : ℕ). f (answered code (machine.Taken n message.values) p)) (sym em) ∙ ap (λ (v : Parcel). f (answered code (machine.Taken method v) p)) (sym ev) ∙ e
