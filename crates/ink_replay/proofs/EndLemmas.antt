-- What ended a run, by what the process of an entry came to.
use Rattle.std.proofs.Common.{◌≡◌, ℕ, Option, None, Some, List, [], ◌∷◌, ◌++◌, refl, ap, sym, ◌∙◌, subst}
use Rattle.ink_code.specs.declared.code.Code.{Code}
use Rattle.ink_code.specs.Process.{Process}
use Rattle.ink_code.specs.Trees.{Parcel}
use Rattle.ink_law_runs.specs.CodeMachine.{code_machine}
use Rattle.ink_post.specs.Answers.{ChecksBy, GoesAs}
use Rattle.ink_post.specs.Asks.{came_with, told_came}
use Rattle.ink_post.specs.Ends.{end_by, end_in}
use Rattle.ink_post.specs.Entries.{halt_after}
use Rattle.ink_post.specs.Meaning.{Ends}
use Rattle.ink_post.specs.Worlds.{CodeState, Stands, world_of}
use Rattle.ink_post.specs.declared.answer.Answer.{Answer}
use Rattle.ink_post.specs.declared.answer.Answer.TheVariants as a
use Rattle.ink_post.specs.declared.post.Post.{Post}
use Rattle.ink_post.specs.declared.answer.End.TheVariants as end
use Rattle.ink_post.proofs.EntriesLemmas.{Halts, checks_halts}
use Rattle.ink_post.proofs.MeaningLemmas.{ends_same}
use Rattle.ink_replay.specs.Ends.{EntersEnd}
use Rattle.ink_replay.specs.Entries.{Enters, EntersUncut, entered_by}
use Rattle.ink_replay.specs.Keeps.{GotWhole, IsUncut, Keeps, StopsWrong}
use Rattle.ink_run.specs.Sinks.{Gets, SinkState}
use Rattle.ink_run.specs.Written.{ActsOut, AddsBy, GotBy, IsWritten, KeepsWritten, StandsOn, StaysWritten, TellsWrong, Writes, applied_of, wrong_by}
use Rattle.ink_run.specs.declared.applied.Applied.{Applied}
use Rattle.ink_run.specs.declared.applied.Applied.TheVariants as got
use Rattle.ink_worlds.specs.State.{Came}
use Rattle.ink_worlds.specs.State as w
use Rattle.ink_worlds.specs.declared.halt.Halt.{Halt}
use Rattle.ink_worlds.specs.declared.halt.Halt.TheVariants as halt

-- what ended the run, by what the process came to, and by what had ended it before
abbrev HaltsBy : ℕ → Option Halt → Applied → Option Halt → Type 0
HaltsBy process old got.Kept h = h ≡ old
HaltsBy process old got.Moved h = h ≡ None
HaltsBy process old got.Waits h = h ≡ None
HaltsBy process old got.Panicked h = h ≡ Some (halt.Panicked process)
HaltsBy process old got.SinkFailed h = h ≡ Some halt.SinkFailed
HaltsBy process old got.JournalFull h = h ≡ Some (halt.Events process)
HaltsBy process old (got.Spent steps) h = h ≡ Some (halt.Local process steps)
HaltsBy process old got.Wrong h = Unit {0}

-- an answer that isn't a mere homecoming is given while the run goes on
told_halt : (process : ℕ) (old new : CodeState) (answer : w.Answer) → (answer ≡ w.Kept → ⊥) → (h : Option Halt) → Halts process h old new answer → new.halt ≡ halt_after answer process
told_halt process old new answer differ None halts = halts.0
told_halt process old new answer differ (Some ended) halts = absurd (differ halts.2)

-- a mere homecoming changes nothing of it
kept_halt : (process : ℕ) (old new : CodeState) (h : Option Halt) → old.halt ≡ h → Halts process h old new w.Kept → new.halt ≡ old.halt
kept_halt process old new None is halts = halts.0 ∙ sym is
kept_halt process old new (Some ended) is halts = halts.0 ∙ sym is

module _ (code : Code) (limits : List ℕ) (process : ℕ) (q : Process) (old new : CodeState) where
  -- what a check-in tells
  by_check : (answer : w.Answer) → (answer ≡ w.Kept → ⊥) → (came : Came Parcel) → w.ChecksIn (code_machine code limits) limits process came q old answer new → new.halt ≡ halt_after answer process
  by_check answer differ came checks = told_halt process old new answer differ old.halt (checks_halts (code_machine code limits) limits process q old came old.halt answer new refl checks)

  home_halt : (o : Option (Came Parcel)) → ChecksBy code limits process o q old new a.Kept → new.halt ≡ old.halt
  home_halt None checks = absurd (let e = checks.0 in cc)
  home_halt (Some came) checks = kept_halt process old new old.halt refl (checks_halts (code_machine code limits) limits process q old came old.halt w.Kept new refl checks)

  moved_halt : (o : Option (Came Parcel)) → ChecksBy code limits process o q old new a.Moved → new.halt ≡ None
  moved_halt None checks = absurd (let e = checks.0 in cc)
  moved_halt (Some came) checks = by_check w.Moved (λ e. cc) came checks

  printed_halt : (text : List ℕ) (o : Option (Came Parcel)) → ChecksBy code limits process o q old new (a.Printed text) → new.halt ≡ None
  printed_halt text None checks = absurd (let e = checks.0 in cc)
  printed_halt text (Some came) checks = by_check w.Moved (λ e. cc) came checks

  waits_halt : (o : Option (Came Parcel)) → ChecksBy code limits process o q old new a.Waits → new.halt ≡ None
  waits_halt None checks = absurd (let e = checks.0 in cc)
  waits_halt (Some came) checks = by_check w.Waits (λ e. cc) came checks

  panicked_halt : (o : Option (Came Parcel)) → ChecksBy code limits process o q old new a.Panicked → new.halt ≡ Some (halt.Panicked process)
  panicked_halt None checks = absurd (let e = checks.0 in cc)
  panicked_halt (Some came) checks = by_check w.Panics (λ e. cc) came checks

  full_halt : (o : Option (Came Parcel)) → ChecksBy code limits process o q old new a.JournalFull → new.halt ≡ Some (halt.Events process)
  full_halt None checks = absurd (let e = checks.0 in cc)
  full_halt (Some came) checks = by_check w.Full (λ e. cc) came checks

  spent_halt : (steps : ℕ) (o : Option (Came Parcel)) → ChecksBy code limits process o q old new (a.Spent steps) → new.halt ≡ Some (halt.Local process steps)
  spent_halt steps None checks = absurd (let e = checks.0 in cc)
  spent_halt steps (Some came) checks = by_check (w.Over steps) (λ e. cc) came checks

halts_in : (code : Code) (process : ℕ) (p : Process) (old new : Post) (answer : Answer) → GoesAs code process p old new answer → HaltsBy process old.halt (applied_of answer) new.halt
halts_in code process p old new a.Kept goes = home_halt code old.limits process goes.q (world_of old []) (world_of new []) (told_came (came_with goes.stepped)) (goes.checks [])
halts_in code process p old new a.Moved goes = moved_halt code old.limits process goes.q (world_of old []) (world_of new []) (told_came (came_with goes.stepped)) (goes.checks [])
halts_in code process p old new (a.Printed text) goes = printed_halt code old.limits process goes.q (world_of old []) (world_of new (text ++ 10 ∷ [])) text (told_came (came_with goes.stepped)) (goes.checks [])
halts_in code process p old new a.Waits goes = waits_halt code old.limits process goes.q (world_of old []) (world_of new []) (told_came (came_with goes.stepped)) (goes.checks [])
halts_in code process p old new a.Panicked goes = panicked_halt code old.limits process goes.q (world_of old []) (world_of new []) (told_came (came_with goes.stepped)) (goes.checks [])
halts_in code process p old new a.JournalFull goes = full_halt code old.limits process goes.q (world_of old []) (world_of new []) (told_came (came_with goes.stepped)) (goes.checks [])
halts_in code process p old new (a.Spent steps) goes = spent_halt code old.limits process goes.q (world_of old []) (world_of new []) steps (told_came (came_with goes.stepped)) (goes.checks [])
halts_in code process p old new a.Wrong goes = tt

module _ (process : ℕ) (old : Option Halt) (middle new : Post) (before after : SinkState) where
  same_halt : (answer : Answer) (g : Applied) → HaltsBy process old (applied_of answer) middle.halt → g ≡ applied_of answer → new ≡ middle → HaltsBy process old g new.halt
  same_halt answer g h is same = subst (λ (x : Applied). HaltsBy process old x new.halt) (sym is) (subst (λ (x : Post). HaltsBy process old (applied_of answer) x.halt) (sym same) h)

  halts_out : (answer : Answer) (g : Applied) → HaltsBy process old (applied_of answer) middle.halt → Writes answer middle new before after g → HaltsBy process old g new.halt
  halts_out (a.Printed text) got.Moved h writes = ap (λ (x : Post). x.halt) writes.1 ∙ h
  halts_out (a.Printed text) got.SinkFailed h writes = ap (λ (x : Post). x.halt) writes.1
  halts_out (a.Printed text) got.Kept h writes = absurd writes
  halts_out (a.Printed text) got.Waits h writes = absurd writes
  halts_out (a.Printed text) got.Panicked h writes = absurd writes
  halts_out (a.Printed text) got.JournalFull h writes = absurd writes
  halts_out (a.Printed text) (got.Spent steps) h writes = absurd writes
  halts_out (a.Printed text) got.Wrong h writes = absurd writes
  halts_out a.Kept g h writes = same_halt a.Kept g h writes.0 writes.1
  halts_out a.Moved g h writes = same_halt a.Moved g h writes.0 writes.1
  halts_out a.Waits g h writes = same_halt a.Waits g h writes.0 writes.1
  halts_out a.Panicked g h writes = same_halt a.Panicked g h writes.0 writes.1
  halts_out a.JournalFull g h writes = same_halt a.JournalFull g h writes.0 writes.1
  halts_out (a.Spent steps) g h writes = same_halt (a.Spent steps) g h writes.0 writes.1
  halts_out a.Wrong g h writes = same_halt a.Wrong g h writes.0 writes.1

-- what had ended the run before the process went out
halts : (code : Code) (process : ℕ) (old new : Post) (before after : SinkState) (g : Applied) → ActsOut code process old new before after g → HaltsBy process old.halt g new.halt
halts code process old new before after g out =
    let there : out.acts.middle.halt ≡ old.halt = ap (λ (s : CodeState). s.halt) (out.acts.lends []).2 in
    let here : HaltsBy process out.acts.middle.halt (applied_of out.answer) out.middle.halt = halts_in code process out.acts.p out.acts.middle out.middle out.answer out.acts.goes in
    halts_out process old.halt out.middle new before after out.answer g
    (subst (λ (h : Option Halt). HaltsBy process h (applied_of out.answer) out.middle.halt) there here) out.writes

pub ended : (post : Post) (h : Halt) → post.halt ≡ Some h → end_in post.halt post.wrong post.statuses.items ≡ Some (end_by h)
ended post h is = ap (λ (o : Option Halt). end_in o post.wrong post.statuses.items) is

enters_by : (process : ℕ) (old : Option Halt) (new : Post) (g : Applied) → HaltsBy process old g new.halt → EntersEnd (entered_by process g) new
enters_by process old new got.Kept h = tt
enters_by process old new got.Moved h = tt
enters_by process old new got.Waits h = tt
enters_by process old new got.Panicked h = tt
enters_by process old new got.SinkFailed h = ended new halt.SinkFailed h
enters_by process old new got.JournalFull h = ended new (halt.Events process) h
enters_by process old new (got.Spent steps) h = ended new (halt.Local process steps) h
enters_by process old new got.Wrong h = tt

-- where the run ends with an entry, the world ended so
pub enters_end : (code : Code) (process : ℕ) (old new : Post) (before after : SinkState) (g : Applied) → ActsOut code process old new before after g → EntersEnd (entered_by process g) new
enters_end code process old new before after g out = enters_by process old.halt new g (halts code process old new before after g out)

-- and where it doesn't, nothing ended it but a panic

pub uncut_as : (h : Option Halt) (one : Option Halt) → h ≡ one → IsUncut one → IsUncut h
uncut_as h one is uncut = subst IsUncut (sym is) uncut

uncut_by : (process : ℕ) (old : Option Halt) (new : Post) (g : Applied) → IsUncut old → HaltsBy process old g new.halt → EntersUncut (entered_by process g) new
uncut_by process old new got.Kept uncut h = uncut_as new.halt old h uncut
uncut_by process old new got.Moved uncut h = uncut_as new.halt None h tt
uncut_by process old new got.Waits uncut h = uncut_as new.halt None h tt
uncut_by process old new got.Panicked uncut h = uncut_as new.halt (Some (halt.Panicked process)) h tt
uncut_by process old new got.SinkFailed uncut h = tt
uncut_by process old new got.JournalFull uncut h = tt
uncut_by process old new (got.Spent steps) uncut h = tt
uncut_by process old new got.Wrong uncut h = tt

pub enters_uncut : (code : Code) (process : ℕ) (old new : Post) (before after : SinkState) (g : Applied) → IsUncut old.halt → ActsOut code process old new before after g → EntersUncut (entered_by process g) new
enters_uncut code process old new before after g uncut out = uncut_by process old.halt new g uncut (halts code process old new before after g out)

pub kept_uncut : (code : Code) (process : ℕ) (old new : Post) (before after : SinkState) → IsUncut old.halt → ActsOut code process old new before after got.Kept → IsUncut new.halt
kept_uncut code process old new before after uncut out = uncut_as new.halt old.halt (halts code process old new before after got.Kept out) uncut

-- what went out of a world that nothing ended but a panic is the output of its journal

got_whole : (code : Code) (limits journal output : List ℕ) (by : Option Halt) (before after : SinkState) → (by ≡ Some halt.SinkFailed → ⊥) → GotBy code limits journal output by before after → Gets before after output
got_whole code limits journal output None before after uncut gets = gets
got_whole code limits journal output (Some (halt.Panicked process)) before after uncut gets = gets
got_whole code limits journal output (Some halt.SinkFailed) before after uncut gets = absurd (uncut refl)
got_whole code limits journal output (Some (halt.Events process)) before after uncut gets = gets
got_whole code limits journal output (Some (halt.Local process steps)) before after uncut gets = gets

pub whole_by : (code : Code) (post : Post) (first after : SinkState) → (post.halt ≡ Some halt.SinkFailed → ⊥) → IsWritten code post first after → GotWhole code post.limits post.journal.entries first after
whole_by code post first after uncut written =
    let ahead = written.stands.ahead in
    let same : written.output ≡ ahead.turned.shared.output = ap (λ s. s.output) (written.stands.shared ∙ ahead.shared) in
    record {
      run = ahead.turned;
      turns = ahead.turns;
      gets = subst (λ (o : List ℕ). Gets first after o) same
          (got_whole code post.limits post.journal.entries written.output post.halt first after uncut written.got);
    }

uncut_unfailed : (h : Option Halt) → IsUncut h → h ≡ Some halt.SinkFailed → ⊥
uncut_unfailed h uncut is = let here : IsUncut (Some halt.SinkFailed) = subst IsUncut is uncut in here

pub whole : (code : Code) (post : Post) (first after : SinkState) → IsUncut post.halt → IsWritten code post first after → GotWhole code post.limits post.journal.entries first after
whole code post first after uncut written = whole_by code post first after (uncut_unfailed post.halt uncut) written

pub whole_as : (code : Code) (ns ns' js js' : List ℕ) (first before after : SinkState) → ns' ≡ ns → js' ≡ js → after ≡ before → GotWhole code ns js first before → GotWhole code ns' js' first after
whole_as code ns ns' js js' first before after limits journal same got =
    subst (λ (s : SinkState). GotWhole code ns' js' first s) (sym same)
    (subst (λ (x : List ℕ). GotWhole code x js' first before) (sym limits) (subst (λ (x : List ℕ). GotWhole code ns x first before) (sym journal) got))

-- where a code was found wrong
pub found_wrong : (code : Code) (process : ℕ) (old new : Post) (before after : SinkState) → IsUncut old.halt → new.limits ≡ old.limits → new.journal.entries ≡ old.journal.entries → after ≡ before → Ends code old.limits old.journal.entries (end.Wrong process) → StopsWrong code process old new before after
found_wrong code process old new before after uncut limits journal same ends = record {
  limits = limits;
  ends = ends_same code new.limits old.limits new.journal.entries old.journal.entries (end.Wrong process) (sym limits) (sym journal) ends;
  wrote = λ first written. whole_as code old.limits new.limits old.journal.entries new.journal.entries first before after limits journal same (whole code old first before uncut written);
}

-- what became of an entry, by what its process came to
module _ (code : Code) (process : ℕ) (old new : Post) (before after : SinkState) (limits : new.limits ≡ old.limits) where
  keeps_as : Stands code new → new.wrong ≡ old.wrong → KeepsWritten code old new before after → Keeps code old new before after
  keeps_as stands wrong written = record { stands = stands; limits = limits; wrong = wrong; written = written }

  pub enters_as : (g : Applied) → IsUncut old.halt → StandsOn code new g → new.wrong ≡ wrong_by g process old.wrong → StaysWritten code old new before after g → AddsBy process g old.journal.entries new.journal.entries → TellsWrong code process old g → Enters code process (entered_by process g) old new before after
  enters_as got.Kept uncut stands right written adds wrong = (keeps_as stands right written, adds)
  enters_as got.Moved uncut stands right written adds wrong = (keeps_as stands right written, adds)
  enters_as got.Waits uncut stands right written adds wrong = (keeps_as stands right written, adds)
  enters_as got.Panicked uncut stands right written adds wrong = (keeps_as stands right written, adds)
  enters_as got.SinkFailed uncut stands right written adds wrong = (keeps_as stands right written, adds)
  enters_as got.JournalFull uncut stands right written adds wrong = (keeps_as stands right written, adds, refl)
  enters_as (got.Spent steps) uncut stands right written adds wrong = (keeps_as stands right written, adds, refl)
  enters_as got.Wrong uncut stands right written adds wrong = (found_wrong code process old new before after uncut limits written.0 written.1 wrong, adds, refl)
