-- Where an entry can't be made its process has no turn, and no run has the entries up to it.
use Rattle.std.proofs.Common.{◌≡◌, ℕ, Bool, true, false, Option, None, Some, List, length, refl, ap, sym, ◌∙◌, subst, inl, inr}
use Rattle.std.specs.Option.{is_some}
use Rattle.std.specs.Prelude.{nat_le}
use Rattle.ink_base.specs.declared.limits.Limit.TheVariants as limit
use Rattle.ink_base.specs.Actions.{Action, Take, Print, Spawn, Send, NewFuture, SetFuture, BreakFuture, GetFuture, Panic, SharedState, as_made, is_enabled}
use Rattle.ink_base.specs.Limits.{limit_of}
use Rattle.ink_base.specs.Numbered.{numbered}
use Rattle.ink_code.specs.declared.code.Code.{Code}
use Rattle.ink_code.specs.Process.{Process}
use Rattle.ink_code.specs.Trees.{Parcel}
use Rattle.ink_interp.specs.Slices.{AnswersSlice}
use Rattle.ink_law_replays.proofs.NextLemmas.{absent, absent_no_turn, held_at_get, idle_at_take, panicked_no_turn, stands_waits, waits_no_turn}
use Rattle.ink_law_replays.specs.Next.{HasNoTurn}
use Rattle.ink_law_runs.specs.CodeMachine.{code_machine, opening_run}
use Rattle.ink_law_turns.specs.Ahead.{StandsAt}
use Rattle.ink_law_turns.specs.Machines.{Machine}
use Rattle.ink_law_turns.specs.Turns.{Run, Turns}
use Rattle.ink_law_turns.proofs.Numbering.{none_some}
use Rattle.ink_post.specs.Answers.{ActsAs, ChecksBy}
use Rattle.ink_post.specs.Asks.{ComesAs, NoneReady, came_with, told_came}
use Rattle.ink_post.specs.Worlds.{CodeState, Stands, world_of}
use Rattle.ink_post.specs.declared.answer.Answer.{Answer}
use Rattle.ink_post.specs.declared.answer.Answer.TheVariants as a
use Rattle.ink_post.specs.declared.post.Post.{Post}
use Rattle.ink_post.proofs.Slices.{comes_by}
use Rattle.ink_replay.specs.Calm.{AreAtRest, IsCalm}
use Rattle.ink_replay.specs.Refusals.{IsStuck}
use Rattle.ink_run.specs.Sinks.{SinkState}
use Rattle.ink_run.specs.Written.{ActsOut, Writes}
use Rattle.ink_run.specs.declared.applied.Applied.TheVariants as got
use Rattle.ink_worlds.proofs.Stands.{at_run, checks_out}
use Rattle.ink_worlds.specs.Standing.{AtHome, text_in}
use Rattle.ink_worlds.specs.State.{Came, ready_at}
use Rattle.ink_worlds.specs.State as w
use Rattle.ink_worlds.specs.declared.halt.Halt.{Halt}
use Rattle.ink_worlds.specs.declared.status.Status.{Status}
use Rattle.ink_worlds.specs.declared.status.Status.TheVariants.{Ready, Out, Idle, Held, Stopped}

panic_told : (panic : Option (ℕ × List ℕ)) (text : List ℕ) → Some text ≡ text_in panic → (one : ℕ × List ℕ) × (panic ≡ Some one)
panic_told None text e = absurd (none_some text (sym e))
panic_told (Some one) text e = (one, refl)

module _ (code : Code) (process : ℕ) (post : Post) (stands : Stands code post) where
  abbrev m : Machine Process Parcel
  m = code_machine code post.limits

  stuck_by : HasNoTurn m post.limits stands.1.ahead.turned process → IsStuck code process post
  stuck_by none = record { run = stands.1.ahead.turned; turns = stands.1.ahead.turns; stuck = none }

  -- behind a panic none has a turn
  pub stuck_panicked : (text : List ℕ) → post.text ≡ Some text → IsStuck code process post
  stuck_panicked text is =
      let told = panic_told stands.1.run.panic text (sym is ∙ stands.1.text) in
      stuck_by (panicked_no_turn m post.limits stands.1.ahead.turned process told.0 (sym stands.1.ahead.panic ∙ told.1))

  ready_none : (q : Process) → numbered post.statuses.items process ≡ Some Ready → numbered (world_of post stands.0).homes process ≡ Some (Some q) → NoneReady process post → ⊥
  ready_none q ready home none =
      let found : ready_at (Some Ready) (Some (Some q)) ≡ None =
      ap (λ (h : Option (Option Process)). ready_at (Some Ready) h) (sym home)
      ∙ (ap (λ (s : Option Status). ready_at s (numbered (world_of post stands.0).homes process)) (sym ready) ∙ none) in
      none_some q (sym found)

  ready_at_home : numbered post.statuses.items process ≡ Some Ready → NoneReady process post → ⊥
  ready_at_home ready none =
      let q = ready_home in
      ready_none q.0 ready q.1 none
    where
      ready_home : (q : Process) × (numbered (world_of post stands.0).homes process ≡ Some (Some q))
      ready_home =
          let q = at_run m post.limits (opening_run code) (world_of post stands.0) stands.1 process Ready ready in
          (q.0, subst (λ (o : Option Status). AtHome m (world_of post stands.0).shared process o (numbered (world_of post stands.0).homes process) q.0) ready (stands.1.each process q.0 q.1))

  stuck_status : AreAtRest post.statuses.items → NoneReady process post → (o : Option Status) → numbered post.statuses.items process ≡ o → IsStuck code process post
  stuck_status rest none None at = stuck_by (absent_no_turn m post.limits stands.1.ahead.turned process (absent m post.limits (opening_run code) (world_of post stands.0) stands.1 process at))
  stuck_status rest none (Some Ready) at = absurd (ready_at_home at none)
  stuck_status rest none (Some (Out seat ran)) at = absurd (rest process (Out seat ran) at)
  stuck_status rest none (Some Idle) at = stuck_by (waits_no_turn m post.limits stands.1.ahead.turned process (inl (idle_at_take m post.limits (opening_run code) (world_of post stands.0) stands.1 process at)))
  stuck_status rest none (Some (Held future)) at = stuck_by (waits_no_turn m post.limits stands.1.ahead.turned process (inr (held_at_get m post.limits (opening_run code) (world_of post stands.0) stands.1 process future at)))
  stuck_status rest none (Some Stopped) at = absurd (rest process Stopped at)

  stuck_text : (o : Option (List ℕ)) → post.text ≡ o → IsCalm post → NoneReady process post → IsStuck code process post
  stuck_text (Some text) is calm none = stuck_panicked text is
  stuck_text None is calm none = stuck_status (calm is) none (numbered post.statuses.items process) refl

  -- one that can't be lent has none
  pub stuck_unready : IsCalm post → NoneReady process post → IsStuck code process post
  stuck_unready calm none = stuck_text post.text refl calm none

-- the same, by the limits and the journal alone
record IsStuckIn (code : Code) (process : ℕ) (limits journal : List ℕ) : Type 0 where
  run : Run Process Parcel
  turns : Turns (code_machine code limits) limits (opening_run code) journal run
  stuck : HasNoTurn (code_machine code limits) limits run process

stuck_as : (code : Code) (process : ℕ) (old new : Post) → new.limits ≡ old.limits → new.journal.entries ≡ old.journal.entries → IsStuck code process old → IsStuck code process new
stuck_as code process old new limits journal stuck =
    let found : IsStuckIn code process old.limits old.journal.entries = record { run = stuck.run; turns = stuck.turns; stuck = stuck.stuck } in
    let moved : IsStuckIn code process new.limits new.journal.entries =
    subst (λ (l : List ℕ). IsStuckIn code process l new.journal.entries) (sym limits)
    (subst (λ (js : List ℕ). IsStuckIn code process old.limits js) (sym journal) found) in
    record { run = moved.run; turns = moved.turns; stuck = moved.stuck }

pub fails_unready : (code : Code) (process : ℕ) (old new : Post) → Stands code old → IsCalm old → NoneReady process old → new.limits ≡ old.limits → new.journal.entries ≡ old.journal.entries → IsStuck code process new
fails_unready code process old new stands calm none limits journal = stuck_as code process old new limits journal (stuck_unready code process old stands calm none)

-- what answers that it waits wants something that can't be made now
answer_waits : (made : Action Parcel) → w.Waits ≡ w.answer_of made → ⊥
answer_waits Take e = cc
answer_waits (Print text) e = cc
answer_waits (Spawn kind given) e = cc
answer_waits (Send to method values) e = cc
answer_waits NewFuture e = cc
answer_waits (SetFuture future value) e = cc
answer_waits (BreakFuture future) e = cc
answer_waits (GetFuture future) e = cc
answer_waits (Panic text) e = cc

module _ (m : Machine Process Parcel) (limits : List ℕ) (process : ℕ) (q : Process) (mid new : CodeState) where
  makes_no_wait : (made : Action Parcel) (o : Option Process) → w.Makes m made process o mid w.Waits new → ⊥
  makes_no_wait made None makes = let e = makes.0 in cc
  makes_no_wait made (Some left) makes = answer_waits made makes.0

  wish_waits : (wish : Action Parcel) (enabled full : Bool) → w.ActsBy m limits process wish q mid enabled full w.Waits new → enabled ≡ false
  wish_waits wish false full acts = refl
  wish_waits wish true true acts = absurd (let e = acts.0 in cc)
  wish_waits wish true false acts = absurd (makes_no_wait (as_made wish mid.shared limits) (m.left (as_made wish mid.shared limits) process mid.shared q) acts)

  record WaitsFor (came : Came Parcel) : Type 0 where
    wish : Action Parcel
    is : came ≡ w.Wants wish
    waits : is_enabled wish process mid.shared ≡ false

  came_waits : (came : Came Parcel) (halt : Option Halt) → w.ChecksInBy m limits process came q mid halt w.Waits new → WaitsFor came
  came_waits came (Some ended) checks = absurd (let e = checks.0 in cc)
  came_waits w.Went None checks = absurd (let e = checks.0 in cc)
  came_waits w.GivesUp None checks = absurd (let e = checks.0 in cc)
  came_waits (w.Spent steps) None checks = absurd (let e = checks.0 in cc)
  came_waits (w.Wants wish) None checks = record {
    wish = wish;
    is = refl;
    waits = wish_waits wish (is_enabled wish process mid.shared) (nat_le (limit_of limit.Events limits) (length mid.journal)) checks;
  }

module _ (code : Code) (process : ℕ) (old : Post) (stands : Stands code old) where
  abbrev M : Machine Process Parcel
  M = code_machine code old.limits

  came_stuck : (limits : List ℕ) (before q : Process) (mid new : CodeState) → StandsAt M old.limits (opening_run code) old.journal.entries process before → (o : Option (Came Parcel)) → ComesAs code old.limits before o q → mid.shared ≡ (world_of old stands.0).shared → ChecksBy code limits process o q mid new a.Waits → IsStuck code process old
  came_stuck limits before q mid new stood None from same checks = absurd (let e = checks.0 in cc)
  came_stuck limits before q mid new stood (Some came) from same checks =
      let found = came_waits (code_machine code limits) limits process q mid new came mid.halt checks in
      let ahead = stands.1.ahead in
      let shared = same ∙ (stands.1.shared ∙ ahead.shared) in
      let step : ComesAs code old.limits before (Some (w.Wants found.wish)) q = subst (λ (c : Came Parcel). ComesAs code old.limits before (Some c) q) found.is from in
      record {
        run = ahead.turned;
        turns = ahead.turns;
        stuck = waits_no_turn M old.limits ahead.turned process
            (stands_waits M old.limits (opening_run code) old.journal.entries ahead.turned process before q found.wish ahead.turns stood step
            (ap (λ (s : SharedState Parcel). is_enabled found.wish process s) (sym shared) ∙ found.waits));
      }

  acts_stuck : (new : Post) → ActsAs code process old new a.Waits → IsStuck code process old
  acts_stuck new acts =
      let by = acts.lends stands.0 in
      let out = checks_out M old.limits (opening_run code) (world_of old stands.0) process process acts.p stands.1 by.0 by.1 in
      let comes = comes_by code old.limits old.journal.entries process acts.goes.turns acts.p acts.goes.q acts.goes.stepped out.1 out.2
      (subst (λ (l : List ℕ). AnswersSlice acts.goes.turns code l acts.goes.stepped acts.p acts.goes.q) acts.limits acts.goes.sliced) in
      came_stuck acts.middle.limits comes.before acts.goes.q (world_of acts.middle stands.0) (world_of new stands.0) comes.stood (told_came (came_with acts.goes.stepped)) comes.from
      (ap (λ (s : CodeState). s.shared) by.2) (acts.goes.checks stands.0)

  out_stuck : (middle new : Post) (before after : SinkState) (answer : Answer) → ActsAs code process old middle answer → Writes answer middle new before after got.Waits → IsStuck code process old
  out_stuck middle new before after a.Waits acts writes = acts_stuck middle acts
  out_stuck middle new before after (a.Printed text) acts writes = absurd writes
  out_stuck middle new before after a.Kept acts writes = absurd (let e = writes.0 in cc)
  out_stuck middle new before after a.Moved acts writes = absurd (let e = writes.0 in cc)
  out_stuck middle new before after a.Panicked acts writes = absurd (let e = writes.0 in cc)
  out_stuck middle new before after a.JournalFull acts writes = absurd (let e = writes.0 in cc)
  out_stuck middle new before after (a.Spent steps) acts writes = absurd (let e = writes.0 in cc)
  out_stuck middle new before after a.Wrong acts writes = absurd (let e = writes.0 in cc)

-- one that waits has no turn
pub fails_waits : (code : Code) (process : ℕ) (old new : Post) (before after : SinkState) → Stands code old → ActsOut code process old new before after got.Waits → new.limits ≡ old.limits → new.journal.entries ≡ old.journal.entries → IsStuck code process new
fails_waits code process old new before after stands out limits journal =
    stuck_as code process old new limits journal (out_stuck code process old stands out.middle new before after out.answer out.acts out.writes)

-- behind a panic an entry can't be made
pub fails_over : (code : Code) (process : ℕ) (new : Post) → Stands code new → is_some new.text ≡ true → IsStuck code process new
fails_over code process new stands over = by_text new.text refl over
  where
    by_text : (o : Option (List ℕ)) → new.text ≡ o → is_some o ≡ true → IsStuck code process new
    by_text None is over = absurd (cc)
    by_text (Some text) is over = stuck_panicked code process new stands text is
