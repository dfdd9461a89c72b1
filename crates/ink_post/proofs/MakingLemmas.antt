-- An action that was made step by step leaves the world as it is defined to.
use Rattle.std.proofs.Common.{◌≡◌, ℕ, ◌+◌, Bool, true, false, Option, None, Some, Result, Ok, Err, List, [], ◌∷◌, ◌++◌, length, map, refl, ap, sym, ◌∙◌}
use Rattle.ink_base.specs.Actions.{Action, Take, Print, Spawn, Send, NewFuture, SetFuture, BreakFuture, GetFuture, Panic, SharedState, after_action}
use Rattle.ink_base.specs.declared.future.FutureState.{FutureState}
use Rattle.ink_base.specs.declared.future.FutureState.TheVariants.{Set}
use Rattle.ink_base.specs.Futures.{Futures}
use Rattle.ink_base.specs.Journal.{JournalView}
use Rattle.ink_base.specs.Messages.{Mail, Message, front_of}
use Rattle.ink_base.specs.Numbered.{numbered, set_numbered}
use Rattle.ink_code.specs.declared.code.Code.{Code}
use Rattle.ink_code.specs.Process.{Process}
use Rattle.ink_code.specs.declared.wrong.Wrong.{Wrong}
use Rattle.ink_interp.specs.Answers.{AnswersReply, HasParcel}
use Rattle.ink_interp.specs.declared.reply.AnswerFault.{AnswerFault}
use Rattle.ink_interp.specs.declared.reply.AnswerFault.TheVariants as fault
use Rattle.ink_interp.specs.declared.reply.Reply.{Reply}
use Rattle.ink_code.specs.Replies.{Done, Taken, Started, NewPair, Got, answered}
use Rattle.ink_code.specs.Runs.{held_by, message_reply, process_after, reply_of, value_reply, where_right, with_reply}
use Rattle.ink_code.specs.Trees.{Parcel}
use Rattle.ink_law_runs.specs.CodeMachine.{code_machine}
use Rattle.ink_post.specs.Answers.{FinishesBy, IsLost, MakesBy, entered}
use Rattle.ink_post.specs.declared.answer.Answer.TheVariants as a
use Rattle.ink_law_turns.proofs.Numbering.{length-set_numbered}
use Rattle.ink_post.proofs.HomesLemmas.{homes_length}
use Rattle.ink_numbered.specs.Roomy.{Roomy}
use Rattle.ink_post.specs.Worlds.{CodeState, OnlyMakesRoom, OnlyShares, home_of, world_of}
use Rattle.ink_post.specs.declared.post.Post.{Post}
use Rattle.ink_proc.specs.declared.process.Proc.{Proc}
use Rattle.ink_worlds.specs.State.{acted, home_started, woken, status_after, text_by, halt_by, put_in}
use Rattle.ink_worlds.specs.declared.halt.Halt.{Halt}
use Rattle.ink_worlds.specs.declared.status.Status.{Status}
use Rattle.ink_worlds.specs.declared.status.Status.TheVariants.{Ready, Stopped}

abbrev state_with : List (Option Process) → List Status → SharedState Parcel → List ℕ → Option (List ℕ) → Option Halt → CodeState
state_with homes statuses shared journal text halt =
    record { homes = homes; statuses = statuses; shared = shared; journal = journal; text = text; halt = halt }

pub same_state : (h h' : List (Option Process)) (s s' : List Status) (x x' : SharedState Parcel) (j j' : List ℕ) (t t' : Option (List ℕ)) (a a' : Option Halt) → h ≡ h' → s ≡ s' → x ≡ x' → j ≡ j' → t ≡ t' → a ≡ a' → state_with h s x j t a ≡ state_with h' s' x' j' t' a'
same_state h h' s s' x x' j j' t t' a a' eh es ex ej et ea =
    ap (λ (y : List (Option Process)). state_with y s x j t a) eh
    ∙ ap (λ (y : List Status). state_with h' y x j t a) es
    ∙ ap (λ (y : SharedState Parcel). state_with h' s' y j t a) ex
    ∙ ap (λ (y : List ℕ). state_with h' s' x' y t a) ej
    ∙ ap (λ (y : Option (List ℕ)). state_with h' s' x' j' y a) et
    ∙ ap (λ (y : Option Halt). state_with h' s' x' j' t' y) ea

-- a process went home with its reply, and its entry was added; what the action leaves of the rest was done before or behind that
pub acted_is : (code : Code) (limits : List ℕ) (made : Action Parcel) (process : ℕ) (q : Process) (old middle fin new : CodeState) → old.halt ≡ None → old.text ≡ None → middle.homes ≡ old.homes → middle.statuses ≡ old.statuses → middle.journal ≡ old.journal → middle.text ≡ old.text → middle.halt ≡ old.halt → Ready ≡ status_after made → None ≡ text_by made → None ≡ halt_by made process → fin ≡ entered process q middle → new.homes ≡ home_started (code_machine code limits) made fin.homes → new.statuses ≡ woken made fin.statuses → new.shared ≡ after_action made process old.shared → new.journal ≡ fin.journal → new.text ≡ fin.text → new.halt ≡ fin.halt → new ≡ acted (code_machine code limits) made process q old
acted_is code limits made process q old middle fin new halt text mh ms mj mt ma ready quiet goes after homes statuses shared journal texts halts =
    same_state
    new.homes (home_started (code_machine code limits) made (set_numbered old.homes process (Some q)))
    new.statuses (woken made (set_numbered old.statuses process (status_after made)))
    new.shared (after_action made process old.shared)
    new.journal (old.journal ++ process ∷ [])
    new.text (text_by made)
    new.halt (halt_by made process)
    (homes ∙ ap (λ (s : CodeState). home_started (code_machine code limits) made s.homes) after ∙ ap (λ (hs : List (Option Process)). home_started (code_machine code limits) made (set_numbered hs process (Some q))) mh)
    (statuses ∙ ap (λ (s : CodeState). woken made s.statuses) after ∙ ap (λ (ss : List Status). woken made (set_numbered ss process Ready)) ms ∙ ap (λ (s : Status). woken made (set_numbered old.statuses process s)) ready)
    shared
    (journal ∙ ap (λ (s : CodeState). s.journal) after ∙ ap (λ (js : List ℕ). js ++ process ∷ []) mj)
    (texts ∙ ap (λ (s : CodeState). s.text) after ∙ mt ∙ text ∙ quiet)
    (halts ∙ ap (λ (s : CodeState). s.halt) after ∙ ma ∙ halt ∙ goes)

-- the process is gone
pub lost_is : (process : ℕ) (old middle new : CodeState) → middle.homes ≡ old.homes → middle.statuses ≡ old.statuses → middle.journal ≡ old.journal → middle.text ≡ old.text → middle.halt ≡ old.halt → middle.shared.output ≡ old.shared.output → new ≡ put_in process None Stopped middle → IsLost process old new
lost_is process old middle new mh ms mj mt ma mo after =
    record {
      same = same_state
          new.homes (set_numbered old.homes process None)
          new.statuses (set_numbered old.statuses process Stopped)
          new.shared new.shared
          new.journal old.journal
          new.text old.text
          new.halt old.halt
          (ap (λ (s : CodeState). s.homes) after ∙ ap (λ (hs : List (Option Process)). set_numbered hs process None) mh)
          (ap (λ (s : CodeState). s.statuses) after ∙ ap (λ (ss : List Status). set_numbered ss process Stopped) ms)
          refl
          (ap (λ (s : CodeState). s.journal) after ∙ mj)
          (ap (λ (s : CodeState). s.text) after ∙ mt)
          (ap (λ (s : CodeState). s.halt) after ∙ ma);
      output = ap (λ (s : CodeState). s.shared.output) after ∙ mo;
    }

-- which reply an action gets
module _ (code : Code) (process : ℕ) (shared : SharedState Parcel) (p : Process) where
  pub after_print : (text : List ℕ) → process_after code (Print text) process shared p ≡ where_right (answered code Done p)
  unfolding process_after reply_of
  after_print text = refl

  pub after_send : (to method : ℕ) (values : Parcel) → process_after code (Send to method values) process shared p ≡ where_right (answered code Done p)
  unfolding process_after reply_of
  after_send to method values = refl

  pub after_set : (future : ℕ) (value : Parcel) → process_after code (SetFuture future value) process shared p ≡ where_right (answered code Done p)
  unfolding process_after reply_of
  after_set future value = refl

  pub after_break : (future : ℕ) → process_after code (BreakFuture future) process shared p ≡ where_right (answered code Done p)
  unfolding process_after reply_of
  after_break future = refl

  pub after_spawn : (kind : ℕ) (fields : Parcel) (number : ℕ) → number ≡ length shared.mail + 1 → process_after code (Spawn kind fields) process shared p ≡ where_right (answered code (Started number) p)
  unfolding process_after reply_of
  after_spawn kind fields number is = ap (λ (n : ℕ). where_right (answered code (Started n) p)) (sym is)

  pub after_future : (number : ℕ) → number ≡ length shared.futures + 1 → process_after code NewFuture process shared p ≡ where_right (answered code (NewPair number) p)
  unfolding process_after reply_of
  after_future number is = ap (λ (n : ℕ). where_right (answered code (NewPair n) p)) (sym is)

  pub after_taking : (message : Message Parcel) → front_of shared.mail process ≡ Some message → process_after code Take process shared p ≡ where_right (answered code (Taken message.method message.values) p)
  unfolding process_after reply_of
  after_taking message is = ap (λ (o : Option (Message Parcel)). with_reply code (message_reply o) p) is

  pub after_getting : (future : ℕ) (value : Parcel) → numbered shared.futures future ≡ Some (Set value) → process_after code (GetFuture future) process shared p ≡ where_right (answered code (Got value) p)
  unfolding process_after reply_of
  after_getting future value is = ap (λ (o : Option (FutureState Parcel)). with_reply code (value_reply (held_by o)) p) is

  pub after_panic : (text : List ℕ) → process_after code (Panic text) process shared p ≡ Some (record p { ran = 0 })
  unfolding process_after
  after_panic text = refl

-- a world beside another one, of which only what the processes share may differ
pub record Beside (old middle : CodeState) : Type 0 where
  pub homes : middle.homes ≡ old.homes
  pub statuses : middle.statuses ≡ old.statuses
  pub journal : middle.journal ≡ old.journal
  pub text : middle.text ≡ old.text
  pub halt : middle.halt ≡ old.halt
  pub output : middle.shared.output ≡ old.shared.output

module _ (code : Code) (limits : List ℕ) (process : ℕ) (p : Process) (old middle : CodeState) (beside : Beside old middle) where
  -- the reply fits nowhere
  pub wronged : (made : Action Parcel) (replied : Option Process) (new : CodeState) (done : Bool) → done ≡ false → FinishesBy replied process middle new done → process_after code made process old.shared p ≡ replied → MakesBy code limits made process p old new a.Wrong
  wronged made replied new true is finishes after = absurd (cc)
  wronged made replied new false is finishes after =
      (after ∙ finishes.0, lost_is process old middle new beside.homes beside.statuses beside.journal beside.text beside.halt beside.output finishes.1)

  pub wronged_none : (made : Action Parcel) (new : CodeState) → process_after code made process old.shared p ≡ None → new ≡ put_in process None Stopped middle → MakesBy code limits made process p old new a.Wrong
  wronged_none made new after lost =
      (after, lost_is process old middle new beside.homes beside.statuses beside.journal beside.text beside.halt beside.output lost)

  -- the process went home, and so on
  pub moved_as : (made : Action Parcel) (q : Process) (fin new : CodeState) → old.halt ≡ None → old.text ≡ None → Ready ≡ status_after made → None ≡ text_by made → None ≡ halt_by made process → process_after code made process old.shared p ≡ Some q → fin ≡ entered process q middle → new.homes ≡ home_started (code_machine code limits) made fin.homes → new.statuses ≡ woken made fin.statuses → new.shared ≡ after_action made process old.shared → new.journal ≡ fin.journal → new.text ≡ fin.text → new.halt ≡ fin.halt → (q : Process) × (process_after code made process old.shared p ≡ Some q) × (new ≡ acted (code_machine code limits) made process q old)
  moved_as made q fin new halt text ready quiet goes replied after homes statuses shared journal texts halts =
      (q, replied, acted_is code limits made process q old middle fin new halt text beside.homes beside.statuses beside.journal beside.text beside.halt ready quiet goes after homes statuses shared journal texts halts)

  -- the same, where the reply was put by the call that added the entry
  pub finish_moved : (made : Action Parcel) (replied : Option Process) (fin new : CodeState) (share : SharedState Parcel → SharedState Parcel) (done : Bool) → old.halt ≡ None → old.text ≡ None → done ≡ true → FinishesBy replied process middle fin done → process_after code made process old.shared p ≡ replied → Ready ≡ status_after made → None ≡ text_by made → None ≡ halt_by made process → share middle.shared ≡ after_action made process old.shared → new.homes ≡ home_started (code_machine code limits) made fin.homes → new.statuses ≡ woken made fin.statuses → new.shared ≡ share fin.shared → new.journal ≡ fin.journal → new.text ≡ fin.text → new.halt ≡ fin.halt → (q : Process) × (process_after code made process old.shared p ≡ Some q) × (new ≡ acted (code_machine code limits) made process q old)
  finish_moved made replied fin new share false halt text is finishes after ready quiet goes shares homes statuses shared journal texts halts = absurd (cc)
  finish_moved made replied fin new share true halt text is finishes after ready quiet goes shares homes statuses shared journal texts halts =
      moved_as made finishes.0 fin new halt text ready quiet goes (after ∙ finishes.1) finishes.2 homes statuses (shared ∙ ap (λ (s : CodeState). share s.shared) finishes.2 ∙ shares) journal texts halts

-- a world is beside itself, and beside the one before only what is shared changed
pub beside_itself : (old : CodeState) → Beside old old
beside_itself old = record { homes = refl; statuses = refl; journal = refl; text = refl; halt = refl; output = refl }

pub beside_shared : (old new : Post) (output : List ℕ) → OnlyShares old new → Beside (world_of old output) (world_of new output)
beside_shared old new output only = record {
  homes = ap (λ (r : Roomy (Option Proc)). map home_of r.items) only.homes;
  statuses = ap (λ (r : Roomy Status). r.items) only.statuses;
  journal = ap (λ (j : JournalView). j.entries) only.journal;
  text = only.text;
  halt = only.halt;
  output = refl;
}

pub beside_room : (old new : Post) (output : List ℕ) → OnlyMakesRoom old new → Beside (world_of old output) (world_of new output)
beside_room old new output only = record {
  homes = ap (map home_of) only.homes;
  statuses = only.statuses;
  journal = ap (λ (j : JournalView). j.entries) only.journal;
  text = only.text;
  halt = only.halt;
  output = refl;
}

abbrev Shares : Mail Parcel → Futures Parcel → List ℕ → SharedState Parcel
Shares mail futures output = record { mail = mail; futures = futures; output = output }

pub shares_is : (mail mail' : Mail Parcel) (futures futures' : Futures Parcel) (output : List ℕ) → mail ≡ mail' → futures ≡ futures' → Shares mail futures output ≡ Shares mail' futures' output
shares_is mail mail' futures futures' output em ef = ap (λ (m : Mail Parcel). Shares m futures output) em ∙ ap (λ (f : Futures Parcel). Shares mail' f output) ef

-- a reply that was put, or fits nowhere
pub left_none : (left : Result Process Wrong) (result : Result (Unit {0}) AnswerFault) (given : Reply) (old new : Process) → AnswersReply left result given old new → (why : Wrong) → result ≡ Err (fault.Wrong why) → where_right left ≡ None
left_none left (Ok u) given old new answers why e = absurd (cc)
left_none left (Err (fault.Wrong found)) given old new answers why e = ap where_right answers
left_none left (Err (fault.OutOfMemory back)) given old new answers why e = absurd (cc)

pub no_memory : (left : Result Process Wrong) (result : Result (Unit {0}) AnswerFault) (given back : Reply) (old new : Process) → AnswersReply left result given old new → result ≡ Err (fault.OutOfMemory back) → HasParcel given
no_memory left (Ok u) given back old new answers e = absurd (cc)
no_memory left (Err (fault.Wrong found)) given back old new answers e = absurd (cc)
no_memory left (Err (fault.OutOfMemory other)) given back old new answers e = answers.2

count_by : (replied : Option Process) (process : ℕ) (middle fin : CodeState) (done : Bool) → FinishesBy replied process middle fin done → length fin.homes ≡ length middle.homes
count_by replied process middle fin true finishes = ap (λ (s : CodeState). length s.homes) finishes.2 ∙ length-set_numbered middle.homes process _
count_by replied process middle fin false finishes = ap (λ (s : CodeState). length s.homes) finishes.1 ∙ length-set_numbered middle.homes process _

-- a process that goes home leaves as many as there were
pub finish_count : (process : ℕ) (middle fin : Post) (replied : Option Process) (done : Bool) → FinishesBy replied process (world_of middle []) (world_of fin []) done → length fin.homes.items ≡ length middle.homes.items
finish_count process middle fin replied done finishes =
    sym (homes_length fin.homes.items) ∙ count_by replied process (world_of middle []) (world_of fin []) done finishes ∙ homes_length middle.homes.items
