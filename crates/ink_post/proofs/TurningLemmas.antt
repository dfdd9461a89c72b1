-- What a turn and a look leave of the world.
use Rattle.std.proofs.Common.{◌≡◌, ◌^◌, ◌-◌, ℕ, Bool, true, false, Option, None, Some, Result, Ok, Err, List, [], refl, ap, sym, ◌∙◌, subst}
use Rattle.std.specs.Prelude.{IfErr, IfOk, OnErr}
use Rattle.ink_base.specs.Actions.{Action, is_enabled}
use Rattle.ink_code.specs.declared.code.Code.{Code}
use Rattle.ink_code.specs.Process.{Process}
use Rattle.ink_code.specs.Trees.{Parcel}
use Rattle.ink_interp.specs.Slices.{AnswersSlice}
use Rattle.ink_law_runs.specs.CodeMachine.{code_machine, opening_run}
use Rattle.ink_law_runs.proofs.Counted.{code_is_counted}
use Rattle.ink_law_turns.specs.Machines.{Machine}
use Rattle.ink_law_worlds.specs.Coming.{StandsForCode}
use Rattle.ink_post.specs.Answers.{ActsAs, ChecksBy, ChecksHome, FitsNowhere, GoesAs, Lends, StaysAhead, TellsWrong, told_answer, with_line, wrong_by}
use Rattle.ink_post.specs.Asks.{ComesAs, IsComing, IsLent, came_with, has_memory, told_came}
use Rattle.ink_post.specs.Entries.{entries_by}
use Rattle.ink_post.specs.Turning.{LooksAs, LooksOn, Rests, Sees, SeesBy, SeesWish, SeesWrong, wrong_seen}
use Rattle.ink_post.specs.Worlds.{CodeState, Same, StandsAfter, world_of}
use Rattle.ink_post.specs.declared.answer.ActFault.{ActFault}
use Rattle.ink_post.specs.declared.answer.Answer.{Answer}
use Rattle.ink_post.specs.declared.answer.Answer.TheVariants as a
use Rattle.ink_post.specs.declared.answer.Came.{Came as OneCame}
use Rattle.ink_post.specs.declared.answer.Came.TheVariants as c
use Rattle.ink_post.specs.declared.answer.End.TheVariants as end
use Rattle.ink_post.specs.declared.answer.Looked.{Looked}
use Rattle.ink_post.specs.declared.answer.Looked.TheVariants as looked
use Rattle.ink_post.specs.declared.post.Post.{Post}
use Rattle.ink_post.proofs.ActingLemmas.{acts_waits}
use Rattle.ink_post.proofs.EntriesLemmas.{Halts, checks_halts}
use Rattle.ink_post.proofs.MeaningLemmas.{ends_same}
use Rattle.ink_post.proofs.Slices.{comes_by}
use Rattle.ink_post.proofs.StandingLemmas.{coming_is, lends_standing}
use Rattle.ink_steps.specs.Answers.{action_of}
use Rattle.ink_steps.specs.declared.stepped.Request.{Request}
use Rattle.ink_steps.specs.declared.stepped.StepFault.{StepFault}
use Rattle.ink_steps.specs.declared.stepped.StepFault.TheVariants as fault
use Rattle.ink_steps.specs.declared.stepped.Stepped.{Stepped}
use Rattle.ink_worlds.specs.Standing.{ComesFrom}
use Rattle.ink_worlds.specs.State.{State, Came, ChecksIn, ChecksInBy}
use Rattle.ink_worlds.specs.State as w
use Rattle.ink_worlds.specs.declared.halt.Halt.{Halt}
use Rattle.ink_worlds.specs.declared.status.Status.TheVariants.{Ready, Stopped}
use Rattle.ink_worlds.proofs.Stands.{checks_in}
use Rattle.ink_post.specs.declared.answer.ActFault.TheVariants as missing
use Rattle.ink_post.specs.Turning.{FaultsBy}
use Rattle.ink_post.proofs.HomesLemmas.{lent_ready}

-- a process that only comes home
abbrev pub IsQuiet : {V : Type 0} → Came V → Type 0
IsQuiet w.Went = Unit {0}
IsQuiet w.GivesUp = Unit {0}
IsQuiet (w.Wants wish) = ⊥
IsQuiet (w.Spent steps) = ⊥

module _ {P V : Type 0} (m : Machine P V) (limits : List ℕ) (process : ℕ) (p : P) (old new : State P V) (answer : w.Answer) where
  abbrev Calm : Type 0
  Calm = (answer ≡ w.Kept) × (new.halt ≡ old.halt) × (new.journal ≡ old.journal)

  calm_by : (made : State P V) → made.halt ≡ old.halt → made.journal ≡ old.journal → (answer ≡ w.Kept) → new ≡ made → Calm
  calm_by made halt journal kept is = (kept, ap (λ (s : State P V). s.halt) is ∙ halt, ap (λ (s : State P V). s.journal) is ∙ journal)

  quiet_calm : (came : Came V) (o : Option Halt) → IsQuiet came → ChecksInBy m limits process came p old o answer new → Calm
  quiet_calm w.Went None quiet checks = calm_by (w.back_in process p Ready old) refl refl checks.0 checks.1
  quiet_calm w.Went (Some ended) quiet checks = calm_by (w.back_in process p Stopped old) refl refl checks.0 checks.1
  quiet_calm w.GivesUp None quiet checks = calm_by (w.back_in process p Stopped old) refl refl checks.0 checks.1
  quiet_calm w.GivesUp (Some ended) quiet checks = calm_by (w.back_in process p Stopped old) refl refl checks.0 checks.1
  quiet_calm (w.Wants wish) o quiet checks = absurd quiet
  quiet_calm (w.Spent steps) o quiet checks = absurd quiet

-- a process that only came home leaves the world as it was
module _ (code : Code) (process : ℕ) (p : Process) (old new : Post) where
  abbrev Checks : Came Parcel → Answer → Type 0
  Checks one answer = (output : List ℕ) → ChecksBy code old.limits process (Some one) p (world_of old output) (world_of new (with_line answer output)) answer

  abbrev m : Machine Process Parcel
  m = code_machine code old.limits

  calm_in : (one : Came Parcel) → IsQuiet one → (answer : w.Answer) (output output' : List ℕ) → ChecksIn m old.limits process one p (world_of old output) answer (world_of new output') → Calm m old.limits process p (world_of old output) (world_of new output') answer
  calm_in one quiet answer output output' checks = quiet_calm m old.limits process p (world_of old output) (world_of new output') answer one old.halt quiet checks

  fits_none : (one : Came Parcel) (state : CodeState) → IsQuiet one → FitsNowhere code old.limits process one p state → ⊥
  fits_none w.Went state quiet fits = fits
  fits_none w.GivesUp state quiet fits = fits
  fits_none (w.Wants wish) state quiet fits = quiet
  fits_none (w.Spent steps) state quiet fits = fits

  not_kept : (one : Came Parcel) → IsQuiet one → (answer : w.Answer) (output output' : List ℕ) → (answer ≡ w.Kept → ⊥) → ChecksIn m old.limits process one p (world_of old output) answer (world_of new output') → ⊥
  not_kept one quiet answer output output' differ checks = differ (calm_in one quiet answer output output' checks).0

  rests_by : (one : Came Parcel) → IsQuiet one → (answer : Answer) → Checks one answer → StaysAhead code old new answer → Rests code old new
  rests_by one quiet a.Kept checks stays =
      let calm = calm_in one quiet w.Kept [] [] (checks []) in
      record { stands = stays; entries = calm.2; halt = calm.1 }
  rests_by one quiet a.Moved checks stays = absurd (not_kept one quiet w.Moved [] [] (λ e. cc) (checks []))
  rests_by one quiet (a.Printed text) checks stays = absurd (not_kept one quiet w.Moved [] (with_line (a.Printed text) []) (λ e. cc) (checks []))
  rests_by one quiet a.Waits checks stays = absurd (not_kept one quiet w.Waits [] [] (λ e. cc) (checks []))
  rests_by one quiet a.Panicked checks stays = absurd (not_kept one quiet w.Panics [] [] (λ e. cc) (checks []))
  rests_by one quiet a.JournalFull checks stays = absurd (not_kept one quiet w.Full [] [] (λ e. cc) (checks []))
  rests_by one quiet (a.Spent steps) checks stays = absurd (not_kept one quiet (w.Over steps) [] [] (λ e. cc) (checks []))
  rests_by one quiet a.Wrong checks stays = absurd (fits_none one (world_of old []) quiet (checks []).0)

  kept_wrong : (one : Came Parcel) → IsQuiet one → (answer : Answer) (before : Option ℕ) → Checks one answer → wrong_by answer process before ≡ before
  kept_wrong one quiet a.Kept before checks = refl
  kept_wrong one quiet a.Moved before checks = refl
  kept_wrong one quiet (a.Printed text) before checks = refl
  kept_wrong one quiet a.Waits before checks = refl
  kept_wrong one quiet a.Panicked before checks = refl
  kept_wrong one quiet a.JournalFull before checks = refl
  kept_wrong one quiet (a.Spent steps) before checks = refl
  kept_wrong one quiet a.Wrong before checks = absurd (fits_none one (world_of old []) quiet (checks []).0)

  pub went_wrong : (answer : Answer) (before : Option ℕ) → ChecksHome code process c.Went p old new (Ok answer) → wrong_by answer process before ≡ before
  went_wrong answer before checks = kept_wrong w.Went tt answer before checks

  pub given_wrong : (answer : Answer) (before : Option ℕ) → ChecksHome code process c.GivesUp p old new (Ok answer) → wrong_by answer process before ≡ before
  given_wrong answer before checks = kept_wrong w.GivesUp tt answer before checks

  pub went_rests : (answer : Answer) → ChecksHome code process c.Went p old new (Ok answer) → StaysAhead code old new answer → Rests code old new
  went_rests answer checks stays = rests_by w.Went tt answer checks stays

  pub given_rests : (answer : Answer) → ChecksHome code process c.GivesUp p old new (Ok answer) → StaysAhead code old new answer → Rests code old new
  given_rests answer checks stays = rests_by w.GivesUp tt answer checks stays

-- what a check-in adds to the journal
entries_added : {P V : Type 0} (process : ℕ) (o : Option Halt) (old new : State P V) (answer : w.Answer) → Halts process o old new answer → new.journal ≡ entries_by answer process old.journal
entries_added process None old new answer halts = halts.1
entries_added process (Some halt) old new answer halts = halts.1 ∙ ap (λ (a : w.Answer). entries_by a process old.journal) (sym halts.2)

module _ (code : Code) (limits : List ℕ) (process : ℕ) (p : Process) (old new : CodeState) where
  added_in : (one : Came Parcel) (answer : w.Answer) → ChecksIn (code_machine code limits) limits process one p old answer new → new.journal ≡ entries_by answer process old.journal
  added_in one answer checks = entries_added process old.halt old new answer (checks_halts (code_machine code limits) limits process p old one old.halt answer new refl checks)

  pub checks_add : (o : Option (Came Parcel)) (answer : Answer) → ChecksBy code limits process o p old new answer → new.journal ≡ entries_by (told_answer answer) process old.journal
  checks_add None answer checks = ap (λ (s : CodeState). s.journal) checks.1 ∙ ap (λ (x : Answer). entries_by (told_answer x) process old.journal) (sym checks.0)
  checks_add (Some one) a.Kept checks = added_in one w.Kept checks
  checks_add (Some one) a.Moved checks = added_in one w.Moved checks
  checks_add (Some one) (a.Printed text) checks = added_in one w.Moved checks
  checks_add (Some one) a.Waits checks = added_in one w.Waits checks
  checks_add (Some one) a.Panicked checks = added_in one w.Panics checks
  checks_add (Some one) a.JournalFull checks = added_in one w.Full checks
  checks_add (Some one) (a.Spent steps) checks = added_in one (w.Over steps) checks
  checks_add (Some one) a.Wrong checks = ap (λ (s : CodeState). s.journal) checks.1.same

-- one after the other
pub rests_both : (code : Code) (old middle new : Post) → Rests code old middle → Rests code middle new → Rests code old new
rests_both code old middle new one other = record {
  stands = λ output stands. other.stands output (one.stands output stands);
  entries = other.entries ∙ one.entries;
  halt = other.halt ∙ one.halt;
}

pub stays_behind : (code : Code) (old middle new : Post) (answer : Answer) → Rests code old middle → StaysAhead code middle new answer → StaysAhead code old new answer
stays_behind code old middle new a.Kept rests stays = λ output stands. stays output (rests.stands output stands)
stays_behind code old middle new a.Moved rests stays = λ output stands. stays output (rests.stands output stands)
stays_behind code old middle new (a.Printed text) rests stays = λ output stands. stays output (rests.stands output stands)
stays_behind code old middle new a.Waits rests stays = λ output stands. stays output (rests.stands output stands)
stays_behind code old middle new a.Panicked rests stays = λ output stands. stays output (rests.stands output stands)
stays_behind code old middle new a.JournalFull rests stays = λ output stands. stays output (rests.stands output stands)
stays_behind code old middle new (a.Spent steps) rests stays = λ output stands. stays output (rests.stands output stands)
stays_behind code old middle new a.Wrong rests stays = tt

pub looks_behind : (code : Code) (process : ℕ) (old middle new : Post) (seen : Looked) → Rests code old middle → LooksOn code process middle new seen → LooksOn code process old new seen
looks_behind code process old middle new looked.Enabled rests looks = rests_both code old middle new rests looks
looks_behind code process old middle new looked.Waits rests looks = rests_both code old middle new rests looks
looks_behind code process old middle new (looked.Spent steps) rests looks = (λ output stands. looks.0 output (rests.stands output stands), looks.1)
looks_behind code process old middle new looked.Wrong rests looks = tt

pub lends_rests : (code : Code) (process seat : ℕ) (old new : Post) (p : Process) → new.limits ≡ old.limits → Lends process seat old new p → Rests code old new
lends_rests code process seat old new p limits lends =
    let l = lends [] in
    record {
      stands = λ output stands. (lends_standing code process seat old new p limits lends output stands).0;
      entries = ap (λ (s : CodeState). s.journal) l.2;
      halt = ap (λ (s : CodeState). s.halt) l.2;
    }

pub same_rests : (code : Code) (old new : Post) → new.limits ≡ old.limits → Same old new → Rests code old new
same_rests code old new limits same =
    record {
      stands = λ output stands. subst (λ (ns : List ℕ). StandsForCode code ns (world_of new output)) (sym limits) (subst (λ (s : CodeState). StandsForCode code old.limits s) (sym (same output)) stands);
      entries = ap (λ (s : CodeState). s.journal) (same []);
      halt = ap (λ (s : CodeState). s.halt) (same []);
    }

-- without memory the process can go on
pub went_without : (stepped : Result Stepped StepFault) → has_memory stepped ≡ false → came_with stepped ≡ c.Went
went_without (Ok came) e = absurd (cc)
went_without (Err (fault.Wrong why)) e = absurd (cc)
went_without (Err fault.OutOfMemory) e = refl

-- a process comes home from a slice with what that came to
pub coming_from : (code : Code) (post : Post) (process turns : ℕ) (p q : Process) (stepped : Result Stepped StepFault) (came : OneCame) → IsLent code post process process p → AnswersSlice turns code post.limits stepped p q → came ≡ came_with stepped → IsComing code post process process came q
coming_from code post process turns p q stepped came lent sliced is =
    subst (λ (x : OneCame). IsComing code post process process x q) (sym is)
    (coming_is code post process process turns p q stepped lent sliced (comes_by code post.limits post.journal.entries process turns p q stepped lent.stood lent.within sliced))

-- what a look leaves
module _ (code : Code) (process : ℕ) (came : OneCame) (q : Process) (post new : Post) (coming : IsComing code post process process came q) (limits : new.limits ≡ post.limits) (goes : post.halt ≡ None) (seen : Looked) where
  abbrev machine : Machine Process Parcel
  machine = code_machine code post.limits

  abbrev before : Process
  before = coming.comes.before

  stands_from : (one : Came Parcel) (answer : w.Answer) → ComesFrom machine post.limits before one q → (output : List ℕ) → ChecksInBy machine post.limits process one q (world_of post output) None answer (world_of new output) → StandsAfter code post output → StandsAfter code new output
  stands_from one answer from output checks stands =
      subst (λ (ns : List ℕ). StandsForCode code ns (world_of new output)) (sym limits)
      (checks_in machine post.limits (opening_run code) (code_is_counted code post.limits) (world_of post output) stands process process coming.ran coming.lent before q coming.comes.stood coming.comes.within one answer (world_of new output) from
      (subst (λ (o : Option Halt). ChecksInBy machine post.limits process one q (world_of post output) o answer (world_of new output)) (sym goes) checks))

  told_as : (made : Looked) → seen ≡ made → LooksOn code process post new made → LooksOn code process post new seen
  told_as made is looks = subst (λ (x : Looked). LooksOn code process post new x) (sym is) looks

  rests_as : ((output : List ℕ) → StandsAfter code post output → StandsAfter code new output) → (made : CodeState) → world_of new [] ≡ made → made.journal ≡ post.journal.entries → made.halt ≡ post.halt → Rests code post new
  rests_as stands made is journal halt = record { stands = stands; entries = ap (λ (s : CodeState). s.journal) is ∙ journal; halt = ap (λ (s : CodeState). s.halt) is ∙ halt }

  pub went_looks : ((output : List ℕ) → world_of new output ≡ w.back_in process q Ready (world_of post output)) → ComesFrom machine post.limits before w.Went q → Rests code post new
  went_looks is from = rests_as (λ output stands. stands_from w.Went w.Kept from output (refl, is output) stands) (w.back_in process q Ready (world_of post [])) (is []) refl refl

  wish_stands : (wish : Action Parcel) → ComesFrom machine post.limits before (w.Wants wish) q → (output : List ℕ) (enabled : Bool) → is_enabled wish process (world_of post output).shared ≡ enabled → SeesWish process wish q (world_of post output) enabled (world_of new output) seen → StandsAfter code post output → StandsAfter code new output
  wish_stands wish from output true is sees stands = stands_from w.GivesUp w.Kept ((code_is_counted code post.limits).waits before q wish from) output (refl, sees.1) stands
  wish_stands wish from output false is sees stands =
      stands_from (w.Wants wish) w.Waits from output (acts_waits code post.limits process wish q (world_of post output) (world_of new output) is sees.1) stands

  wish_looks : (wish : Action Parcel) (enabled : Bool) → ((output : List ℕ) → StandsAfter code post output → StandsAfter code new output) → SeesWish process wish q (world_of post []) enabled (world_of new []) seen → LooksOn code process post new seen
  wish_looks wish true stands sees = told_as looked.Enabled sees.0 (rests_as stands (w.back_in process q Stopped (world_of post [])) sees.1 refl refl)
  wish_looks wish false stands sees = told_as looked.Waits sees.0 (rests_as stands (w.back_in process q (w.waits_at wish) (world_of post [])) sees.1 refl refl)

  looks_by : (o : Option (Came Parcel)) → ComesAs code post.limits before o q → ((output : List ℕ) → SeesBy process o q (world_of post output) (world_of new output) seen) → LooksOn code process post new seen
  looks_by None from sees = told_as looked.Wrong (sees []).0 tt
  looks_by (Some w.Went) from sees = told_as looked.Waits (sees []).0 (went_looks (λ output. (sees output).1) from)
  looks_by (Some w.GivesUp) from sees =
      told_as looked.Waits (sees []).0 (rests_as (λ output stands. stands_from w.GivesUp w.Kept from output (refl, (sees output).1) stands) (w.back_in process q Stopped (world_of post [])) (sees []).1 refl refl)
  looks_by (Some (w.Wants wish)) from sees =
      wish_looks wish (is_enabled wish process (world_of post []).shared) (λ output stands. wish_stands wish from output (is_enabled wish process (world_of post output).shared) refl (sees output) stands) (sees [])
  looks_by (Some (w.Spent steps)) from sees =
      told_as (looked.Spent steps) (sees []).0 (λ output stands. stands_from (w.Spent steps) (w.Over steps) from output (refl, (sees output).1) stands, ap (λ (s : CodeState). s.halt) (sees []).1)

  pub sees_looks : ((output : List ℕ) → SeesBy process (told_came came) q (world_of post output) (world_of new output) seen) → LooksOn code process post new seen
  sees_looks sees = looks_by (told_came came) coming.comes.from sees

-- a look adds no entry
sees_wish_adds : (process : ℕ) (wish : Action Parcel) (p : Process) (old new : CodeState) (seen : Looked) (enabled : Bool) → SeesWish process wish p old enabled new seen → new.journal ≡ old.journal
sees_wish_adds process wish p old new seen true sees = ap (λ (s : CodeState). s.journal) sees.1
sees_wish_adds process wish p old new seen false sees = ap (λ (s : CodeState). s.journal) sees.1

pub sees_adds : (process : ℕ) (o : Option (Came Parcel)) (p : Process) (old new : CodeState) (seen : Looked) → SeesBy process o p old new seen → new.journal ≡ old.journal
sees_adds process None p old new seen sees = ap (λ (s : CodeState). s.journal) sees.1
sees_adds process (Some w.Went) p old new seen sees = ap (λ (s : CodeState). s.journal) sees.1
sees_adds process (Some w.GivesUp) p old new seen sees = ap (λ (s : CodeState). s.journal) sees.1
sees_adds process (Some (w.Wants wish)) p old new seen sees = sees_wish_adds process wish p old new seen (is_enabled wish process old.shared) sees
sees_adds process (Some (w.Spent steps)) p old new seen sees = ap (λ (s : CodeState). s.journal) sees.1

-- the same, by what was called
pub goes_as : (code : Code) (process turns : ℕ) (p q : Process) (old new : Post) (stepped : Result Stepped StepFault) (came : OneCame) (answer : Answer) → turns ≡ 2 ^ 64 - 1 → AnswersSlice turns code old.limits stepped p q → came ≡ came_with stepped → ChecksHome code process came q old new (Ok answer) → StaysAhead code old new answer → GoesAs code process p old new answer
goes_as code process turns p q old new stepped came answer all sliced is checks stays = record {
  turns = turns;
  all = all;
  stepped = stepped;
  q = q;
  sliced = sliced;
  checks = subst (λ (x : OneCame). ChecksHome code process x q old new (Ok answer)) is checks;
  stays = stays;
}

-- a code that was found wrong is so after the journal before
pub tells_behind : (code : Code) (process : ℕ) (old middle : Post) (answer : Answer) → Rests code old middle → middle.limits ≡ old.limits → TellsWrong code process middle answer → TellsWrong code process old answer
tells_behind code process old middle a.Kept rests limits tells = tt
tells_behind code process old middle a.Moved rests limits tells = tt
tells_behind code process old middle (a.Printed text) rests limits tells = tt
tells_behind code process old middle a.Waits rests limits tells = tt
tells_behind code process old middle a.Panicked rests limits tells = tt
tells_behind code process old middle a.JournalFull rests limits tells = tt
tells_behind code process old middle (a.Spent steps) rests limits tells = tt
tells_behind code process old middle a.Wrong rests limits tells = ends_same code old.limits middle.limits old.journal.entries middle.journal.entries (end.Wrong process) limits rests.entries tells

pub sees_behind : (code : Code) (process : ℕ) (old middle : Post) (seen : Looked) → Rests code old middle → middle.limits ≡ old.limits → SeesWrong code process middle seen → SeesWrong code process old seen
sees_behind code process old middle looked.Enabled rests limits sees = tt
sees_behind code process old middle looked.Waits rests limits sees = tt
sees_behind code process old middle (looked.Spent steps) rests limits sees = tt
sees_behind code process old middle looked.Wrong rests limits sees = ends_same code old.limits middle.limits old.journal.entries middle.journal.entries (end.Wrong process) limits rests.entries sees

module _ (code : Code) (process : ℕ) (p : Process) (old middle new : Post) (limits : middle.limits ≡ old.limits) (lends : Lends process process old middle p) where
  pub acts_as : (result : Result Answer ActFault) → IfOk result (λ answer. GoesAs code process p middle new answer) → IfOk result (λ answer. ActsAs code process old new answer)
  acts_as (Ok answer) goes = record { p = p; middle = middle; lends = lends; limits = limits; goes = goes }
  acts_as (Err why) goes = tt

  pub acts_stays : (result : Result Answer ActFault) → IfOk result (λ answer. GoesAs code process p middle new answer) → IfOk result (λ answer. StaysAhead code old new answer)
  acts_stays (Ok answer) goes = stays_behind code old middle new answer (lends_rests code process process old middle p limits lends) goes.stays
  acts_stays (Err why) goes = tt

  pub acts_adds : (result : Result Answer ActFault) → IfOk result (λ answer. GoesAs code process p middle new answer) → IfOk result (λ answer. new.journal.entries ≡ entries_by (told_answer answer) process old.journal.entries)
  acts_adds (Ok answer) goes =
      checks_add code middle.limits process goes.q (world_of middle []) (world_of new (with_line answer [])) (told_came (came_with goes.stepped)) answer (goes.checks [])
      ∙ ap (λ (js : List ℕ). entries_by (told_answer answer) process js) (lends_rests code process process old middle p limits lends).entries
  acts_adds (Err why) goes = tt

  pub acts_tells : (result : Result Answer ActFault) → IfOk result (λ answer. TellsWrong code process middle answer) → IfOk result (λ answer. TellsWrong code process old answer)
  acts_tells (Ok answer) tells = tells_behind code process old middle answer (lends_rests code process process old middle p limits lends) limits tells
  acts_tells (Err why) tells = tt

  pub looks_tells : (result : Result Looked ActFault) → IfOk result (λ seen. SeesWrong code process middle seen) → IfOk result (λ seen. SeesWrong code process old seen)
  looks_tells (Ok seen) sees = sees_behind code process old middle seen (lends_rests code process process old middle p limits lends) limits sees
  looks_tells (Err why) sees = tt

  pub acts_fails : (result : Result Answer ActFault) → OnErr result (Rests code middle new) → OnErr result (Rests code old new)
  acts_fails (Ok answer) fails = tt
  acts_fails (Err why) fails = rests_both code old middle new (lends_rests code process process old middle p limits lends) fails

  pub looks_as : (result : Result Looked ActFault) → IfOk result (λ seen. Sees code process p middle new seen) → IfOk result (λ seen. LooksAs code process old new seen)
  looks_as (Ok seen) sees = record { p = p; middle = middle; lends = lends; limits = limits; sees = sees }
  looks_as (Err why) sees = tt

  pub looks_on : (result : Result Looked ActFault) → IfOk result (λ seen. LooksOn code process middle new seen) → IfOk result (λ seen. LooksOn code process old new seen)
  looks_on (Ok seen) looks = looks_behind code process old middle new seen (lends_rests code process process old middle p limits lends) looks
  looks_on (Err why) looks = tt

  pub looks_fails : (result : Result Looked ActFault) → OnErr result (Rests code middle new) → OnErr result (Rests code old new)
  looks_fails (Ok seen) fails = tt
  looks_fails (Err why) fails = rests_both code old middle new (lends_rests code process process old middle p limits lends) fails

-- what is told, by what the process came with
pub sees_as : (process : ℕ) (came made : OneCame) (p : Process) (old new : CodeState) (seen : Looked) → came ≡ made → SeesBy process (told_came made) p old new seen → SeesBy process (told_came came) p old new seen
sees_as process came made p old new seen is sees = subst (λ (x : OneCame). SeesBy process (told_came x) p old new seen) (sym is) sees

pub sees_wish : (process : ℕ) (came : OneCame) (wish : Request) (p : Process) (old new : CodeState) (enabled : Bool) (seen : Looked) → came ≡ c.Wants wish → is_enabled (action_of wish) process old.shared ≡ enabled → SeesWish process (action_of wish) p old enabled new seen → SeesBy process (told_came came) p old new seen
sees_wish process came wish p old new enabled seen is there sees =
    sees_as process came (c.Wants wish) p old new seen is (subst (λ (b : Bool). SeesWish process (action_of wish) p old b new seen) (sym there) sees)

pub sees_from : (code : Code) (process turns : ℕ) (p q : Process) (old new : Post) (stepped : Result Stepped StepFault) (came : OneCame) (seen : Looked) → turns ≡ 2 ^ 64 - 1 → AnswersSlice turns code old.limits stepped p q → came ≡ came_with stepped → ((output : List ℕ) → SeesBy process (told_came came) q (world_of old output) (world_of new output) seen) → Sees code process p old new seen
sees_from code process turns p q old new stepped came seen all sliced is sees = record {
  turns = turns;
  all = all;
  stepped = stepped;
  q = q;
  sliced = sliced;
  sees = subst (λ (x : OneCame). (output : List ℕ) → SeesBy process (told_came x) q (world_of old output) (world_of new output) seen) is sees;
}

-- without memory for its slice the process went home ready
pub without_rests : (code : Code) (process : ℕ) (came : OneCame) (q : Process) (old new : Post) → IsComing code old process process came q → new.limits ≡ old.limits → old.halt ≡ None → (seen : Looked) → came ≡ c.Went → ((output : List ℕ) → SeesBy process (told_came came) q (world_of old output) (world_of new output) seen) → Rests code old new
without_rests code process c.Went q old new coming limits goes seen is sees = went_looks code process c.Went q old new coming limits goes seen (λ output. (sees output).1) coming.comes.from
without_rests code process c.GivesUp q old new coming limits goes seen is sees = absurd (cc)
without_rests code process (c.Wants wish) q old new coming limits goes seen is sees = absurd (cc)
without_rests code process (c.Panics text) q old new coming limits goes seen is sees = absurd (cc)
without_rests code process (c.Spent steps) q old new coming limits goes seen is sees = absurd (cc)
without_rests code process c.Wrong q old new coming limits goes seen is sees = absurd (cc)

-- and nothing was found wrong
pub without_wrong : (process : ℕ) (came : OneCame) (q : Process) (old new : CodeState) (seen : Looked) (before : Option ℕ) → came ≡ c.Went → SeesBy process (told_came came) q old new seen → wrong_seen seen process before ≡ before
without_wrong process came q old new seen before is sees =
    let told : SeesBy process (Some w.Went) q old new seen = subst (λ (x : OneCame). SeesBy process (told_came x) q old new seen) is sees in
    ap (λ (s : Looked). wrong_seen s process before) told.0

-- a process that was lent was ready: only memory was missing
pub memory_faults : {T : Type 0} (process seat : ℕ) (p : Process) (old middle : Post) (result : Result T ActFault) → Lends process seat old middle p → IfErr result (λ why. why ≡ missing.OutOfMemory) → IfErr result (λ why. FaultsBy process old why)
memory_faults process seat p old middle (Ok x) lends memory = tt
memory_faults process seat p old middle (Err why) lends memory =
    subst (λ (w : ActFault). FaultsBy process old w) (sym memory) (lent_ready old middle process seat p lends)
