-- The other processes stay as they are lent while one goes out or comes home.
use Rattle.std.proofs.Common.{◌≡◌, ◌≢◌, ℕ, Bool, true, false, Option, None, Some, Ok, List, [], ◌∷◌, ◌++◌, length, refl, ap, sym, ◌∙◌, subst}
use Rattle.std.specs.Prelude.{nat_le}
use Rattle.ink_base.specs.declared.limits.Limit.TheVariants as limit
use Rattle.ink_base.specs.Actions.{Action, as_made, is_enabled}
use Rattle.ink_base.specs.Limits.{limit_of}
use Rattle.ink_base.specs.Numbered.{numbered, set_numbered}
use Rattle.ink_code.specs.declared.code.Code.{Code}
use Rattle.ink_code.specs.Process.{Process}
use Rattle.ink_code.specs.Trees.{Parcel}
use Rattle.ink_law_runs.specs.CodeMachine.{code_machine, opening_run}
use Rattle.ink_law_turns.specs.Ahead.{StandsAt}
use Rattle.ink_law_turns.specs.Turns.{Run, Turns}
use Rattle.ink_law_turns.proofs.Determined.{stands_beyond}
use Rattle.ink_law_turns.specs.Machines.{Machine}
use Rattle.ink_law_turns.proofs.Numbering.{numbered-set_other}
use Rattle.ink_post.specs.Answers.{ChecksBy, ChecksHome, OthersStay, StaysAhead, told_answer, with_line}
use Rattle.ink_post.specs.Asks.{ComesOn, IsComing, told_came}
use Rattle.ink_post.specs.Entries.{entries_by}
use Rattle.ink_post.specs.Worlds.{CodeState, Stands, StandsAfter, world_of}
use Rattle.ink_post.specs.declared.answer.Answer.{Answer as OneAnswer}
use Rattle.ink_post.specs.declared.answer.Answer.TheVariants as a
use Rattle.ink_post.specs.declared.answer.Came.{Came as OneCame}
use Rattle.ink_post.specs.declared.post.Post.{Post}
use Rattle.ink_post.proofs.EntriesLemmas.{Halts, checks_halts}
use Rattle.ink_worlds.specs.State.{State, Came, Went, GivesUp, Wants, Spent, Answer, Kept, Moved, Waits, Panics, Full, Over, Wrong, ActsBy, ChecksIn, ChecksInBy, ComesBack, Makes, acted, back_in, halted, put_in, status_after, waits_at}
use Rattle.ink_worlds.specs.declared.halt.Halt.{Halt}
use Rattle.ink_worlds.specs.declared.halt.Halt.TheVariants.{Events, Local}
use Rattle.ink_worlds.specs.declared.status.Status.{Status}
use Rattle.ink_worlds.specs.declared.status.Status.TheVariants.{Out, Ready, Stopped}
use Rattle.ink_worlds.proofs.Stands.{woken_calm}
use Rattle.ink_worlds.proofs.Waking.{woken_each}

module _ {P V : Type 0} (m : Machine P V) (limits : List ℕ) (process : ℕ) (p : P) (old : State P V) (other seat ran : ℕ) (differ : other ≢ process) (lent : numbered old.statuses other ≡ Some (Out seat ran)) where
  abbrev IsOut : State P V → Type 0
  IsOut state = numbered state.statuses other ≡ Some (Out seat ran)

  out_put : (status : Status) → numbered (set_numbered old.statuses process status) other ≡ Some (Out seat ran)
  out_put status = numbered-set_other old.statuses process other status differ ∙ lent

  out_is : (new made : State P V) → new ≡ made → IsOut made → IsOut new
  out_is new made is out = subst (λ (s : State P V). IsOut s) (sym is) out

  out_acted : (made : Action V) (left : P) → IsOut (acted m made process left old)
  out_acted made left =
      woken_each made (set_numbered old.statuses process (status_after made)) other (Out seat ran) (out_put (status_after made))
      ∙ ap (λ (s : Status). Some s) (woken_calm m made other (Out seat ran) refl (λ f. refl))

  makes_out : (made : Action V) (o : Option P) (answer : Answer) (new : State P V) → Makes m made process o old answer new → IsOut new
  makes_out made None answer new makes = out_is new (put_in process None Stopped old) makes.1 (out_put Stopped)
  makes_out made (Some left) answer new makes = out_is new (acted m made process left old) makes.1 (out_acted made left)

  acts_out : (wish : Action V) (enabled full : Bool) (answer : Answer) (new : State P V) → ActsBy m limits process wish p old enabled full answer new → IsOut new
  acts_out wish false full answer new acts = out_is new (back_in process p (waits_at wish) old) acts.1 (out_put (waits_at wish))
  acts_out wish true true answer new acts = out_is new (halted (Events process) (back_in process p Stopped old)) acts.1 (out_put Stopped)
  acts_out wish true false answer new acts = makes_out (as_made wish old.shared limits) (m.left (as_made wish old.shared limits) process old.shared p) answer new acts

  back_out : (came : Came V) (answer : Answer) (new : State P V) → ComesBack m limits process came p old answer new → IsOut new
  back_out Went answer new back = out_is new (back_in process p Ready old) back.1 (out_put Ready)
  back_out GivesUp answer new back = out_is new (back_in process p Stopped old) back.1 (out_put Stopped)
  back_out (Wants wish) answer new back = acts_out wish (is_enabled wish process old.shared) (nat_le (limit_of limit.Events limits) (length old.journal)) answer new back
  back_out (Spent steps) answer new back = out_is new (halted (Local process steps) (back_in process p Stopped old)) back.1 (out_put Stopped)

  pub checks_out_of : (came : Came V) (halt : Option Halt) (answer : Answer) (new : State P V) → ChecksInBy m limits process came p old halt answer new → IsOut new
  checks_out_of came None answer new checks = back_out came answer new checks
  checks_out_of came (Some halt) answer new checks = out_is new (back_in process p Stopped old) checks.1 (out_put Stopped)

-- entries of others leave a process where it stands
module _ (code : Code) (limits : List ℕ) (process other : ℕ) (q : Process) (differ : other ≢ process) where
  abbrev m : Machine Process Parcel
  m = code_machine code limits

  abbrev At : List ℕ → Type 0
  At journal = StandsAt m limits (opening_run code) journal other q

  stands_same : (journal journal' : List ℕ) → journal' ≡ journal → At journal → At journal'
  stands_same journal journal' is at = subst (λ (js : List ℕ). At js) (sym is) at

  stands_more : (journal journal' : List ℕ) (turned : Run Process Parcel) → journal' ≡ journal ++ process ∷ [] → Turns m limits (opening_run code) journal' turned → At journal → At journal'
  stands_more journal journal' turned is turns at =
      subst (λ (js : List ℕ). At js) (sym is) (stands_beyond m limits (opening_run code) journal (process ∷ []) other q turned at (subst (λ (js : List ℕ). Turns m limits (opening_run code) js turned) is turns) (differ, tt))

  pub stands_on : (answer : Answer) (journal journal' : List ℕ) (turned : Run Process Parcel) → journal' ≡ entries_by answer process journal → Turns m limits (opening_run code) journal' turned → At journal → At journal'
  stands_on Moved journal journal' turned is turns at = stands_more journal journal' turned is turns at
  stands_on Panics journal journal' turned is turns at = stands_more journal journal' turned is turns at
  stands_on Kept journal journal' turned is turns at = stands_same journal journal' is at
  stands_on Waits journal journal' turned is turns at = stands_same journal journal' is at
  stands_on Full journal journal' turned is turns at = stands_same journal journal' is at
  stands_on (Over steps) journal journal' turned is turns at = stands_same journal journal' is at
  stands_on Wrong journal journal' turned is turns at = stands_same journal journal' is at

-- what is added to the journal, by whether the run had ended
entries_of : {P V : Type 0} (process : ℕ) (o : Option Halt) (old new : State P V) (answer : Answer) → Halts process o old new answer → new.journal ≡ entries_by answer process old.journal
entries_of process None old new answer halts = halts.1
entries_of process (Some halt) old new answer halts = halts.1 ∙ ap (λ (a : Answer). entries_by a process old.journal) (sym halts.2)

module _ (code : Code) (process : ℕ) (came : OneCame) (p : Process) (old new : Post) (limits : new.limits ≡ old.limits) where
  -- a process that is lent stays so, and comes home from where it did
  keeps_coming : (other seat : ℕ) (one : OneCame) (q : Process) → (coming : IsComing code old other seat one q) → numbered new.statuses.items other ≡ Some (Out seat coming.ran) → StandsAt (code_machine code old.limits) old.limits (opening_run code) new.journal.entries other coming.comes.before → IsComing code new other seat one q
  keeps_coming other seat one q coming lent stood =
      record {
        ran = coming.ran;
        lent = lent;
        comes = subst (λ (ns : List ℕ). ComesOn code ns new.journal.entries other one q) (sym limits) (record { before = coming.comes.before; stood = stood; within = coming.comes.within; from = coming.comes.from });
      }

  -- by what is left where the code is wrong
  lost_others : new.statuses.items ≡ set_numbered old.statuses.items process Stopped → new.journal.entries ≡ old.journal.entries → OthersStay code process old new
  lost_others statuses journal other seat one q differ coming =
      keeps_coming other seat one q coming
      (ap (λ (ss : List Status). numbered ss other) statuses ∙ (numbered-set_other old.statuses.items process other Stopped differ ∙ coming.lent))
      (stands_same code old.limits process other coming.comes.before differ old.journal.entries new.journal.entries journal coming.comes.stood)

  made_others : (output output' : List ℕ) (one : Came Parcel) (answer : Answer) → StandsAfter code new output' → ChecksIn (code_machine code old.limits) old.limits process one p (world_of old output) answer (world_of new output') → OthersStay code process old new
  made_others output output' one answer stands checks other seat home q differ coming =
      let state : CodeState = world_of old output in
      let halts = checks_halts (code_machine code old.limits) old.limits process p state one state.halt answer (world_of new output') refl checks in
      keeps_coming other seat home q coming
      (checks_out_of (code_machine code old.limits) old.limits process p state other seat coming.ran differ coming.lent one state.halt answer (world_of new output') checks)
      (stands_on code old.limits process other coming.comes.before differ answer old.journal.entries new.journal.entries stands.ahead.turned
      (entries_of process state.halt state (world_of new output') answer halts)
      (subst (λ (ns : List ℕ). Turns (code_machine code ns) ns (opening_run code) new.journal.entries stands.ahead.turned) limits stands.ahead.turns)
      coming.comes.stood)

  others_by : (o : Option (Came Parcel)) (answer : OneAnswer) → told_came came ≡ o → Stands code old → StaysAhead code old new answer → ((output : List ℕ) → ChecksBy code old.limits process o p (world_of old output) (world_of new (with_line answer output)) answer) → OthersStay code process old new
  others_by None a.Kept is stands stays checks = absurd (let e = (checks stands.0).0 in cc)
  others_by None a.Moved is stands stays checks = absurd (let e = (checks stands.0).0 in cc)
  others_by None (a.Printed text) is stands stays checks = absurd (let e = (checks stands.0).0 in cc)
  others_by None a.Waits is stands stays checks = absurd (let e = (checks stands.0).0 in cc)
  others_by None a.Panicked is stands stays checks = absurd (let e = (checks stands.0).0 in cc)
  others_by None a.JournalFull is stands stays checks = absurd (let e = (checks stands.0).0 in cc)
  others_by None (a.Spent steps) is stands stays checks = absurd (let e = (checks stands.0).0 in cc)
  others_by None a.Wrong is stands stays checks = lost_others (ap (λ (s : CodeState). s.statuses) ((checks stands.0).1)) (ap (λ (s : CodeState). s.journal) ((checks stands.0).1))
  others_by (Some one) a.Kept is stands stays checks = made_others stands.0 (with_line a.Kept stands.0) one (told_answer a.Kept) (stays stands.0 stands.1) (checks stands.0)
  others_by (Some one) a.Moved is stands stays checks = made_others stands.0 (with_line a.Moved stands.0) one (told_answer a.Moved) (stays stands.0 stands.1) (checks stands.0)
  others_by (Some one) (a.Printed text) is stands stays checks = made_others stands.0 (with_line (a.Printed text) stands.0) one (told_answer (a.Printed text)) (stays stands.0 stands.1) (checks stands.0)
  others_by (Some one) a.Waits is stands stays checks = made_others stands.0 (with_line a.Waits stands.0) one (told_answer a.Waits) (stays stands.0 stands.1) (checks stands.0)
  others_by (Some one) a.Panicked is stands stays checks = made_others stands.0 (with_line a.Panicked stands.0) one (told_answer a.Panicked) (stays stands.0 stands.1) (checks stands.0)
  others_by (Some one) a.JournalFull is stands stays checks = made_others stands.0 (with_line a.JournalFull stands.0) one (told_answer a.JournalFull) (stays stands.0 stands.1) (checks stands.0)
  others_by (Some one) (a.Spent steps) is stands stays checks = made_others stands.0 (with_line (a.Spent steps) stands.0) one (told_answer (a.Spent steps)) (stays stands.0 stands.1) (checks stands.0)
  others_by (Some one) a.Wrong is stands stays checks = lost_others (ap (λ (s : CodeState). s.statuses) ((checks stands.0).1.same)) (ap (λ (s : CodeState). s.journal) ((checks stands.0).1.same))

  pub others_stay : (answer : OneAnswer) → Stands code old → StaysAhead code old new answer → ChecksHome code process came p old new (Ok answer) → OthersStay code process old new
  others_stay answer stands stays checks = others_by (told_came came) answer refl stands stays checks
