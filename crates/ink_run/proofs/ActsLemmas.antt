-- What a turn and a look leave of the world and its sink.
use Rattle.std.proofs.Common.{◌≡◌, ℕ, Option, None, Some, Ok, List, [], ◌∷◌, ◌++◌, refl, ap, sym, ◌∙◌, subst}
use Rattle.ink_code.specs.declared.code.Code.{Code}
use Rattle.ink_post.specs.Answers.{ActsAs, ChecksHome, told_answer}
use Rattle.ink_post.specs.Asks.{came_with}
use Rattle.ink_post.specs.Entries.{entries_by}
use Rattle.ink_post.specs.Turning.{Rests}
use Rattle.ink_post.specs.Turning as turning
use Rattle.ink_post.specs.Worlds.{Stands, StandsAfter}
use Rattle.ink_post.specs.declared.answer.Answer.{Answer}
use Rattle.ink_post.specs.declared.answer.Answer.TheVariants as a
use Rattle.ink_post.specs.declared.answer.Looked.{Looked}
use Rattle.ink_post.specs.declared.answer.Looked.TheVariants as looked
use Rattle.ink_post.specs.declared.post.Post.{Post}
use Rattle.ink_post.proofs.StandingLemmas.{stands_on}
use Rattle.ink_post.proofs.TurningLemmas.{lends_rests}
use Rattle.ink_run.proofs.Stays.{stands_written, stays_written}
use Rattle.ink_run.specs.Sinks.{Gets, SinkState}
use Rattle.ink_run.specs.Written.{AddsBy, GotBy, KeepsWritten, LooksOn, LooksWritten, StandsOn, StaysWritten, Writes, WritesLine}
use Rattle.ink_run.specs.declared.applied.Applied.{Applied}
use Rattle.ink_run.specs.declared.applied.Applied.TheVariants as applied
use Rattle.ink_worlds.specs.declared.halt.Halt.{Halt}
use Rattle.ink_worlds.specs.declared.halt.Halt.TheVariants.{Local}

pub rests_stands : (code : Code) (old new : Post) → Rests code old new → Stands code old → Stands code new
rests_stands code old new rests stands = (stands.0, rests.stands stands.0 stands.1)

-- with the same limits, journal, end and sink
got_same : (code : Code) (ns ns' js js' output : List ℕ) (h h' : Option Halt) (first before after : SinkState) → ns' ≡ ns → js' ≡ js → h' ≡ h → after ≡ before → GotBy code ns js output h first before → GotBy code ns' js' output h' first after
got_same code ns ns' js js' output h h' first before after limits journal halt sink got =
    subst (λ (x : List ℕ). GotBy code x js' output h' first after) (sym limits)
    (subst (λ (x : List ℕ). GotBy code ns x output h' first after) (sym journal)
    (subst (λ (x : Option Halt). GotBy code ns js output x first after) (sym halt)
    (subst (λ (x : SinkState). GotBy code ns js output h first x) (sym sink) got)))

pub rests_written : (code : Code) (old new : Post) (before after : SinkState) → Rests code old new → new.limits ≡ old.limits → after ≡ before → KeepsWritten code old new before after
rests_written code old new before after rests limits sink first written = record {
  output = written.output;
  stands = rests.stands written.output written.stands;
  got = got_same code old.limits new.limits old.journal.entries new.journal.entries written.output old.halt new.halt first before after limits rests.entries rests.halt sink written.got;
}

-- where the steps of a process ended the run
spent_written : (code : Code) (process steps : ℕ) (old new : Post) (before after : SinkState) → old.halt ≡ None → new.halt ≡ Some (Local process steps) → ((output : List ℕ) → StandsAfter code old output → StandsAfter code new output) → after ≡ before → KeepsWritten code old new before after
spent_written code process steps old new before after calm halt stands sink first written =
    let gets : Gets first before written.output = subst (λ (h : Option Halt). GotBy code old.limits old.journal.entries written.output h first before) calm written.got in
    record {
      output = written.output;
      stands = stands written.output written.stands;
      got = subst (λ (h : Option Halt). GotBy code new.limits new.journal.entries written.output h first after) (sym halt) (subst (λ (s : SinkState). Gets first s written.output) (sym sink) gets);
    }

pub look_written : (code : Code) (process : ℕ) (old new : Post) (before after : SinkState) (seen : Looked) → old.halt ≡ None → new.limits ≡ old.limits → after ≡ before → turning.LooksOn code process old new seen → LooksWritten code old new before after seen
look_written code process old new before after looked.Enabled calm limits sink looks = rests_written code old new before after looks limits sink
look_written code process old new before after looked.Waits calm limits sink looks = rests_written code old new before after looks limits sink
look_written code process old new before after (looked.Spent steps) calm limits sink looks = spent_written code process steps old new before after calm looks.1 looks.0 sink
look_written code process old new before after looked.Wrong calm limits sink looks = tt

pub look_stands : (code : Code) (process : ℕ) (old new : Post) (seen : Looked) → Stands code old → old.halt ≡ None → turning.LooksOn code process old new seen → LooksOn code old new seen
look_stands code process old new looked.Enabled stands calm looks = (rests_stands code old new looks stands, looks.halt ∙ calm)
look_stands code process old new looked.Waits stands calm looks = (rests_stands code old new looks stands, looks.halt ∙ calm)
look_stands code process old new (looked.Spent steps) stands calm looks = (stands.0, looks.0 stands.0 stands.1)
look_stands code process old new looked.Wrong stands calm looks = tt

-- what was kept first, and then
pub keeps_then : (code : Code) (old middle new : Post) (before after : SinkState) (got : Applied) → middle.journal.entries ≡ old.journal.entries → KeepsWritten code old middle before before → StaysWritten code middle new before after got → StaysWritten code old new before after got
keeps_then code old middle new before after applied.Kept same keeps stays = λ first written. stays first (keeps first written)
keeps_then code old middle new before after applied.Moved same keeps stays = λ first written. stays first (keeps first written)
keeps_then code old middle new before after applied.Waits same keeps stays = λ first written. stays first (keeps first written)
keeps_then code old middle new before after applied.Panicked same keeps stays = λ first written. stays first (keeps first written)
keeps_then code old middle new before after applied.SinkFailed same keeps stays = λ first written. stays first (keeps first written)
keeps_then code old middle new before after applied.JournalFull same keeps stays = λ first written. stays first (keeps first written)
keeps_then code old middle new before after (applied.Spent steps) same keeps stays = λ first written. stays first (keeps first written)
keeps_then code old middle new before after applied.Wrong same keeps stays = (stays.0 ∙ same, stays.1)

-- what went out adds nothing to the journal
line_adds : (process : ℕ) (line : List ℕ) (old middle new : Post) (before after : SinkState) (got : Applied) → middle.journal.entries ≡ old.journal.entries ++ process ∷ [] → WritesLine line middle new before after got → AddsBy process got old.journal.entries new.journal.entries
line_adds process line old middle new before after applied.Moved adds writes = ap (λ (p : Post). p.journal.entries) writes.1 ∙ adds
line_adds process line old middle new before after applied.SinkFailed adds writes = ap (λ (p : Post). p.journal.entries) writes.1 ∙ adds
line_adds process line old middle new before after applied.Kept adds writes = absurd writes
line_adds process line old middle new before after applied.Waits adds writes = absurd writes
line_adds process line old middle new before after applied.Panicked adds writes = absurd writes
line_adds process line old middle new before after applied.JournalFull adds writes = absurd writes
line_adds process line old middle new before after (applied.Spent steps) adds writes = absurd writes
line_adds process line old middle new before after applied.Wrong adds writes = absurd writes

pub writes_add : (process : ℕ) (answer : Answer) (old middle new : Post) (before after : SinkState) (got : Applied) → middle.journal.entries ≡ entries_by (told_answer answer) process old.journal.entries → Writes answer middle new before after got → AddsBy process got old.journal.entries new.journal.entries
writes_add process answer old middle new before after got adds writes = by_answer answer adds writes
  where
    told : (one : Applied) → got ≡ one → new ≡ middle → AddsBy process one old.journal.entries middle.journal.entries → AddsBy process got old.journal.entries new.journal.entries
    told one is same adds = subst (λ (x : Applied). AddsBy process x old.journal.entries new.journal.entries) (sym is) (subst (λ (p : Post). AddsBy process one old.journal.entries p.journal.entries) (sym same) adds)

    by_answer : (one : Answer) → middle.journal.entries ≡ entries_by (told_answer one) process old.journal.entries → Writes one middle new before after got → AddsBy process got old.journal.entries new.journal.entries
    by_answer a.Kept adds writes = told applied.Kept writes.0 writes.1 adds
    by_answer a.Moved adds writes = told applied.Moved writes.0 writes.1 adds
    by_answer (a.Printed text) adds writes = line_adds process (text ++ 10 ∷ []) old middle new before after got adds writes
    by_answer a.Waits adds writes = told applied.Waits writes.0 writes.1 adds
    by_answer a.Panicked adds writes = told applied.Panicked writes.0 writes.1 adds
    by_answer a.JournalFull adds writes = told applied.JournalFull writes.0 writes.1 adds
    by_answer (a.Spent steps) adds writes = told (applied.Spent steps) writes.0 writes.1 adds
    by_answer a.Wrong adds writes = told applied.Wrong writes.0 writes.1 adds

-- a process had a turn, in a world that stood
module _ (code : Code) (process : ℕ) (old middle new : Post) (before after : SinkState) (answer : Answer) (got : Applied) (acts : ActsAs code process old middle answer) (writes : Writes answer middle new before after got) where
  -- the process went out
  went_out : Rests code old acts.middle
  went_out = lends_rests code process process old acts.middle acts.p acts.limits acts.lends

  checks_home : ChecksHome code process (came_with acts.goes.stepped) acts.goes.q acts.middle middle (Ok answer)
  checks_home = acts.goes.checks

  pub acts_stand : middle.limits ≡ old.limits → Stands code old → StandsOn code new got
  acts_stand limits stands =
      stands_written code process (came_with acts.goes.stepped) acts.goes.q acts.middle middle (limits ∙ sym acts.limits) before after answer new got
      (stands_on code acts.middle middle answer (rests_stands code old acts.middle went_out stands) acts.goes.stays) checks_home writes

  pub acts_written : middle.limits ≡ old.limits → StaysWritten code old new before after got
  acts_written limits =
      keeps_then code old acts.middle new before after got went_out.entries (rests_written code old acts.middle before before went_out acts.limits refl)
      (stays_written code process (came_with acts.goes.stepped) acts.goes.q acts.middle middle (limits ∙ sym acts.limits) before after answer new got acts.goes.stays checks_home writes)
