-- A world that is kept stays ahead of its journal, and what a process that comes home brings.
use Rattle.std.proofs.Common.{◌≡◌, ◌≤◌, ℕ, ◌+◌, Option, None, Some, Result, Ok, Err, List, [], refl, ap, sym, ◌∙◌, subst}
use Rattle.ink_base.specs.declared.limits.Limit.TheVariants as limit
use Rattle.ink_base.specs.Actions.{Action, SharedState}
use Rattle.ink_base.specs.Actions as action
use Rattle.ink_base.specs.Futures.{Futures}
use Rattle.ink_base.specs.Limits.{limit_of}
use Rattle.ink_base.specs.Messages.{Mail}
use Rattle.ink_base.specs.Numbered.{numbered}
use Rattle.ink_base.specs.Objects.{Objects}
use Rattle.ink_code.specs.declared.code.Code.{Code}
use Rattle.ink_code.specs.Process.{Process}
use Rattle.ink_code.specs.Trees.{Parcel}
use Rattle.ink_law_runs.specs.CodeMachine.{code_machine, opening_run}
use Rattle.ink_law_runs.proofs.Counted.{code_is_counted}
use Rattle.ink_law_turns.specs.Ahead.{StandsAt, panicked}
use Rattle.ink_law_turns.specs.Machines.{IsLike}
use Rattle.ink_law_worlds.specs.Coming.{ComesHome, IsApartFor, IsFresh, StandsForCode}
use Rattle.ink_law_worlds.proofs.Home.{apart_for, fresh_for}
use Rattle.ink_post.specs.Answers.{ChecksBy, ChecksHome, Lends, LendsStanding, OthersStay, StandsOn, StaysAhead, WantsMemory, told_answer, with_line}
use Rattle.ink_post.specs.Asks.{BringsApart, ComesAs, ComesOn, GoesOn, IsComing, IsLent, came_with, told_came}
use Rattle.ink_post.specs.Worlds.{CodeState, Same, Stands, StandsAfter, world_of}
use Rattle.ink_post.specs.declared.answer.Answer.{Answer}
use Rattle.ink_post.specs.declared.answer.Answer.TheVariants as a
use Rattle.ink_post.specs.declared.answer.Came.{Came as OneCame}
use Rattle.ink_post.specs.declared.answer.Came.TheVariants as c
use Rattle.ink_post.specs.declared.answer.CheckFault.{CheckFault}
use Rattle.ink_post.specs.declared.post.Post.{Post}
use Rattle.ink_interp.specs.Slices.{AnswersSlice}
use Rattle.ink_law_turns.proofs.Numbering.{numbered-set_other, numbered-set_same}
use Rattle.ink_proc.specs.State.{state_of}
use Rattle.ink_steps.specs.declared.stepped.StepFault.{StepFault}
use Rattle.ink_steps.specs.declared.stepped.Stepped.{Stepped}
use Rattle.ink_worlds.specs.declared.status.Status.TheVariants.{Out, Ready}
use Rattle.ink_post.proofs.HomesLemmas.{homes_length}
use Rattle.ink_worlds.specs.Standing.{text_in, panic_in}
use Rattle.ink_worlds.specs.State.{Came, Wants, ChecksIn, checked_out}
use Rattle.ink_worlds.specs.State as w
use Rattle.ink_worlds.proofs.Stands.{checks_in, checks_out}

text_none : (panic : Option (ℕ × List ℕ)) → panicked panic ≡ None → text_in panic ≡ None
text_none None e = refl
text_none (Some panic) e = absurd (cc)

-- while no check-in ended the run, no panic was made
pub goes_on : (code : Code) (post : Post) → Stands code post → post.halt ≡ None → GoesOn post
goes_on code post stands halt =
    let s = stands.1 in
    record { halt = halt; text = s.text ∙ text_none s.run.panic (sym s.panic ∙ ap panic_in halt) }

-- what was printed doesn't matter to what a reply brings
apart_printed : (wish : Action Parcel) (process : ℕ) (objects : Objects) (mail : Mail Parcel) (futures : Futures Parcel) (one other : List ℕ) → IsApartFor wish process (record { mail = mail; futures = futures; output = one }) objects → IsApartFor wish process (record { mail = mail; futures = futures; output = other }) objects
apart_printed action.Take process objects mail futures one other h = h
apart_printed (action.GetFuture future) process objects mail futures one other h = h
apart_printed (action.Print text) process objects mail futures one other h = h
apart_printed (action.Spawn kind fields) process objects mail futures one other h = h
apart_printed (action.Send to method values) process objects mail futures one other h = h
apart_printed action.NewFuture process objects mail futures one other h = h
apart_printed (action.SetFuture future value) process objects mail futures one other h = h
apart_printed (action.BreakFuture future) process objects mail futures one other h = h
apart_printed (action.Panic text) process objects mail futures one other h = h

module _ (code : Code) (post : Post) (process seat : ℕ) (came : OneCame) (p : Process) (coming : IsComing code post process seat came p) where
  home_as : (output : List ℕ) (one : Came Parcel) → told_came came ≡ Some one → ComesHome code post.limits (world_of post output) process seat one p
  home_as output one is = record {
    ran = coming.ran;
    lent = coming.lent;
    before = coming.comes.before;
    stood = coming.comes.stood;
    within = coming.comes.within;
    from = subst (λ (o : Option (Came Parcel)). ComesAs code post.limits coming.comes.before o p) is coming.comes.from;
  }

  pub brings_apart : Stands code post → (wish : Action Parcel) → told_came came ≡ Some (Wants wish) → BringsApart wish process p post
  brings_apart stands wish is =
      let home = home_as stands.0 (Wants wish) is in
      record {
        apart = λ output. apart_printed wish process p.objects (world_of post output).shared.mail (world_of post output).shared.futures stands.0 output (apart_for code post.limits (world_of post stands.0) process seat wish p stands.1 home);
        fresh = subst (λ (n : ℕ). IsFresh wish (n + 1)) (homes_length post.homes.items) (fresh_for code post.limits (world_of post stands.0) process seat wish p stands.1 home);
      }

  -- without memory it can come home once more, giving up
  like_before : (o : Option (Came Parcel)) → WantsMemory o → ComesAs code post.limits coming.comes.before o p → IsLike (code_machine code post.limits) p coming.comes.before
  like_before None wants from = absurd wants
  like_before (Some (w.Wants wish)) wants from = (code_is_counted code post.limits).waits coming.comes.before p wish from
  like_before (Some w.Went) wants from = absurd wants
  like_before (Some w.GivesUp) wants from = absurd wants
  like_before (Some (w.Spent steps)) wants from = absurd wants

  stays_some : (output : List ℕ) (one : Came Parcel) (answer : w.Answer) (new : CodeState) → told_came came ≡ Some one → StandsAfter code post output → ChecksIn (code_machine code post.limits) post.limits process one p (world_of post output) answer new → StandsForCode code post.limits new
  stays_some output one answer new is stands checks =
      let home = home_as output one is in
      checks_in (code_machine code post.limits) post.limits (opening_run code) (code_is_counted code post.limits) (world_of post output) stands process seat home.ran home.lent home.before p home.stood home.within one answer new home.from checks

  abbrev Checks : Post → Option (Came Parcel) → Answer → Type 0
  Checks new o answer = (output : List ℕ) → ChecksBy code post.limits process o p (world_of post output) (world_of new (with_line answer output)) answer

  at_limits : (new : Post) (state : CodeState) → new.limits ≡ post.limits → StandsForCode code post.limits state → StandsForCode code new.limits state
  at_limits new state limits stands = subst (λ (ns : List ℕ). StandsForCode code ns state) (sym limits) stands

  stays_by : (o : Option (Came Parcel)) (new : Post) (answer : Answer) → told_came came ≡ o → new.limits ≡ post.limits → Checks new o answer → StaysAhead code post new answer
  stays_by None new a.Kept is limits checks = λ output stands. absurd (let e = (checks output).0 in cc)
  stays_by None new a.Moved is limits checks = λ output stands. absurd (let e = (checks output).0 in cc)
  stays_by None new (a.Printed text) is limits checks = λ output stands. absurd (let e = (checks output).0 in cc)
  stays_by None new a.Waits is limits checks = λ output stands. absurd (let e = (checks output).0 in cc)
  stays_by None new a.Panicked is limits checks = λ output stands. absurd (let e = (checks output).0 in cc)
  stays_by None new a.JournalFull is limits checks = λ output stands. absurd (let e = (checks output).0 in cc)
  stays_by None new (a.Spent steps) is limits checks = λ output stands. absurd (let e = (checks output).0 in cc)
  stays_by None new a.Wrong is limits checks = tt
  stays_by (Some one) new a.Kept is limits checks = λ output stands. at_limits new (world_of new (with_line a.Kept output)) limits (stays_some output one (told_answer a.Kept) (world_of new (with_line a.Kept output)) is stands (checks output))
  stays_by (Some one) new a.Moved is limits checks = λ output stands. at_limits new (world_of new (with_line a.Moved output)) limits (stays_some output one (told_answer a.Moved) (world_of new (with_line a.Moved output)) is stands (checks output))
  stays_by (Some one) new (a.Printed text) is limits checks = λ output stands. at_limits new (world_of new (with_line (a.Printed text) output)) limits (stays_some output one (told_answer (a.Printed text)) (world_of new (with_line (a.Printed text) output)) is stands (checks output))
  stays_by (Some one) new a.Waits is limits checks = λ output stands. at_limits new (world_of new (with_line a.Waits output)) limits (stays_some output one (told_answer a.Waits) (world_of new (with_line a.Waits output)) is stands (checks output))
  stays_by (Some one) new a.Panicked is limits checks = λ output stands. at_limits new (world_of new (with_line a.Panicked output)) limits (stays_some output one (told_answer a.Panicked) (world_of new (with_line a.Panicked output)) is stands (checks output))
  stays_by (Some one) new a.JournalFull is limits checks = λ output stands. at_limits new (world_of new (with_line a.JournalFull output)) limits (stays_some output one (told_answer a.JournalFull) (world_of new (with_line a.JournalFull output)) is stands (checks output))
  stays_by (Some one) new (a.Spent steps) is limits checks = λ output stands. at_limits new (world_of new (with_line (a.Spent steps) output)) limits (stays_some output one (told_answer (a.Spent steps)) (world_of new (with_line (a.Spent steps) output)) is stands (checks output))
  stays_by (Some one) new a.Wrong is limits checks = tt

  pub stays_ahead : (new : Post) (answer : Answer) → new.limits ≡ post.limits → ChecksHome code process came p post new (Ok answer) → StaysAhead code post new answer
  stays_ahead new answer limits checks = stays_by (told_came came) new answer refl limits checks

-- nothing changed, so the world is ahead as it was
pub same_stands : (code : Code) (old new : Post) → Same old new → new.limits ≡ old.limits → Stands code old → Stands code new
same_stands code old new same limits stands =
    (stands.0, subst (λ (ns : List ℕ). StandsForCode code ns (world_of new stands.0)) (sym limits) (subst (λ (s : CodeState). StandsForCode code old.limits s) (sym (same stands.0)) stands.1))

pub lends_standing : (code : Code) (process seat : ℕ) (old new : Post) (p : Process) → new.limits ≡ old.limits → Lends process seat old new p → LendsStanding code process old new p
lends_standing code process seat old new p limits lends output stands =
    let l = lends output in
    let out = checks_out (code_machine code old.limits) old.limits (opening_run code) (world_of old output) process seat p stands l.0 l.1 in
    (subst (λ (ns : List ℕ). StandsForCode code ns (world_of new output)) (sym limits) (subst (λ (s : CodeState). StandsForCode code old.limits s) (sym l.2) out.0), out.1)

-- a process that was lent, and the others
pub lent_is : (code : Code) (process seat : ℕ) (old new : Post) (p : Process) → new.limits ≡ old.limits → Lends process seat old new p → Stands code old → IsLent code new process seat p
lent_is code process seat old new p limits lends stands =
    let l = lends stands.0 in
    let out = checks_out (code_machine code old.limits) old.limits (opening_run code) (world_of old stands.0) process seat p stands.1 l.0 l.1 in
    record {
      lent = ap (λ (s : CodeState). numbered s.statuses process) l.2 ∙ numbered-set_same old.statuses.items process (Out seat p.ran) Ready l.0;
      stood = subst (λ (js : List ℕ). StandsAt (code_machine code new.limits) new.limits (opening_run code) js process p) (sym (ap (λ (s : CodeState). s.journal) l.2))
          (subst (λ (ns : List ℕ). StandsAt (code_machine code ns) ns (opening_run code) old.journal.entries process p) (sym limits) out.1);
      within = subst (λ (ns : List ℕ). p.ran ≤ limit_of limit.Local ns) (sym limits) out.2;
    }

pub lends_stands : (code : Code) (process seat : ℕ) (old new : Post) (p : Process) → new.limits ≡ old.limits → Lends process seat old new p → Stands code old → Stands code new
lends_stands code process seat old new p limits lends stands = (stands.0, (lends_standing code process seat old new p limits lends stands.0 stands.1).0)

pub lends_others : (code : Code) (process seat : ℕ) (old new : Post) (p : Process) → new.limits ≡ old.limits → Lends process seat old new p → OthersStay code process old new
lends_others code process seat old new p limits lends other by came q differ coming =
    let l = lends [] in
    record {
      ran = coming.ran;
      lent = ap (λ (s : CodeState). numbered s.statuses other) l.2 ∙ (numbered-set_other old.statuses.items process other (Out seat p.ran) differ ∙ coming.lent);
      comes = subst (λ (js : List ℕ). ComesOn code new.limits js other came q) (sym (ap (λ (s : CodeState). s.journal) l.2))
          (subst (λ (ns : List ℕ). ComesOn code ns old.journal.entries other came q) (sym limits) coming.comes);
    }

pub same_others : (code : Code) (process : ℕ) (old new : Post) → new.limits ≡ old.limits → Same old new → OthersStay code process old new
same_others code process old new limits same other by came q differ coming =
    let e = same [] in
    record {
      ran = coming.ran;
      lent = ap (λ (s : CodeState). numbered s.statuses other) e ∙ coming.lent;
      comes = subst (λ (js : List ℕ). ComesOn code new.limits js other came q) (sym (ap (λ (s : CodeState). s.journal) e))
          (subst (λ (ns : List ℕ). ComesOn code ns old.journal.entries other came q) (sym limits) coming.comes);
    }

-- what a lent process that made a slice comes home with
pub coming_is : (code : Code) (post : Post) (process seat turns : ℕ) (p q : Process) (stepped : Result Stepped StepFault) → IsLent code post process seat p → AnswersSlice turns code post.limits stepped p q → ComesOn code post.limits post.journal.entries process (came_with stepped) q → IsComing code post process seat (came_with stepped) q
coming_is code post process seat turns p q stepped lent sliced comes = record { ran = p.ran; lent = lent.lent; comes = comes }

-- where it gives up after there was no memory
pub coming_again : (code : Code) (old new : Post) (process seat : ℕ) (came : OneCame) (p : Process) (fault : CheckFault) → new.limits ≡ old.limits → IsComing code old process seat came p → ChecksHome code process came p old new (Err fault) → IsComing code new process seat c.GivesUp (state_of fault.proc)
coming_again code old new process seat came p fault limits coming checks =
    let e = checks.0.0 [] in
    record {
      ran = coming.ran;
      lent = ap (λ (s : CodeState). numbered s.statuses process) e ∙ coming.lent;
      comes = subst (λ (js : List ℕ). ComesOn code new.limits js process c.GivesUp (state_of fault.proc)) (sym (ap (λ (s : CodeState). s.journal) e))
          (subst (λ (ns : List ℕ). ComesOn code ns old.journal.entries process c.GivesUp (state_of fault.proc)) (sym limits)
          (record { before = coming.comes.before; stood = coming.comes.stood; within = coming.comes.within; from = subst (λ (q : Process). IsLike (code_machine code old.limits) q coming.comes.before) (sym checks.0.1) (like_before code old process seat came p coming (told_came came) checks.1 coming.comes.from) }));
    }

-- the world is ahead of its journal still, unless the code was found wrong
pub stands_on : (code : Code) (old new : Post) (answer : Answer) → Stands code old → StaysAhead code old new answer → StandsOn code new answer
stands_on code old new a.Kept stands stays = (with_line a.Kept stands.0, stays stands.0 stands.1)
stands_on code old new a.Moved stands stays = (with_line a.Moved stands.0, stays stands.0 stands.1)
stands_on code old new (a.Printed text) stands stays = (with_line (a.Printed text) stands.0, stays stands.0 stands.1)
stands_on code old new a.Waits stands stays = (with_line a.Waits stands.0, stays stands.0 stands.1)
stands_on code old new a.Panicked stands stays = (with_line a.Panicked stands.0, stays stands.0 stands.1)
stands_on code old new a.JournalFull stands stays = (with_line a.JournalFull stands.0, stays stands.0 stands.1)
stands_on code old new (a.Spent steps) stands stays = (with_line (a.Spent steps) stands.0, stays stands.0 stands.1)
stands_on code old new a.Wrong stands stays = tt
