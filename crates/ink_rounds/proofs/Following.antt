-- A kept world follows the machine through a check-in.
use Rattle.std.proofs.Common.{◌≡◌, ◌≢◌, ℕ, ◌≤◌, Bool, true, false, Option, None, Some, List, [], ◌∷◌, ◌++◌, length, le_trans, refl, sym, ap, ◌∙◌, subst, inl, inr, ◌⊎◌}
use Rattle.ink_base.specs.Actions.{SharedState}
use Rattle.ink_base.specs.Actions as action
use Rattle.ink_code.specs.declared.code.Code.{Code}
use Rattle.ink_code.specs.Machine.{Outcome, Went, Wants, Panics, Spent}
use Rattle.ink_code.specs.Process.{Process}
use Rattle.ink_code.specs.Rounds.{RoundState, checked_in}
use Rattle.ink_code.specs.Trees.{Parcel}
use Rattle.ink_law_runs.specs.CodeMachine.{code_machine}
use Rattle.ink_post.specs.Answers.{ChecksBy, told_answer, with_line}
use Rattle.ink_post.specs.Asks.{told_came}
use Rattle.ink_post.specs.Worlds.{CodeState, world_of}
use Rattle.ink_post.specs.declared.answer.Answer.{Answer}
use Rattle.ink_post.specs.declared.answer.Answer.TheVariants as a
use Rattle.ink_post.specs.declared.answer.Came.{Came}
use Rattle.ink_post.specs.declared.answer.Came.TheVariants as c
use Rattle.ink_post.specs.declared.post.Post.{Post}
use Rattle.ink_rounds.specs.Machine.{AllCameFrom, AreOthers, Awaits, Begins, Follows, Gone, IsAs, IsOutcome, MakesNothing, slice_from}
use Rattle.ink_rounds.specs.declared.lent.Lent.{Lent}
use Rattle.ink_rounds.proofs.CheckingIn.{checked_as}
use Rattle.ink_rounds.proofs.Growing.{begins_on, begins_same, check_grows, check_more}
use Rattle.ink_run.specs.Sinks.{SinkState}
use Rattle.ink_run.specs.Written.{ChecksOut, Writes, WritesLine}
use Rattle.ink_run.specs.declared.applied.Applied.{Applied}
use Rattle.ink_run.specs.declared.applied.Applied.TheVariants as got
use Rattle.ink_steps.specs.Answers.{action_of}
use Rattle.ink_proc.specs.State.{state_of}
use Rattle.ink_worlds.specs.State as w
use Rattle.ink_worlds.specs.declared.halt.Halt.{Halt}
use Rattle.ink_worlds.specs.declared.halt.Halt.TheVariants as halt

-- what a check-in came to, where the code is right
right_checks : (code : Code) (limits : List ℕ) (n : ℕ) (came : w.Came Parcel) (p : Process) (old new : CodeState) (answer : Answer) → answer ≢ a.Wrong → ChecksBy code limits n (Some came) p old new answer → w.ChecksIn (code_machine code limits) limits n came p old (told_answer answer) new
right_checks code limits n came p old new a.Kept right h = h
right_checks code limits n came p old new a.Moved right h = h
right_checks code limits n came p old new (a.Printed text) right h = h
right_checks code limits n came p old new a.Waits right h = h
right_checks code limits n came p old new a.Panicked right h = h
right_checks code limits n came p old new a.JournalFull right h = h
right_checks code limits n came p old new (a.Spent steps) right h = h
right_checks code limits n came p old new a.Wrong right h = absurd (right refl)

told_right : (answer : Answer) → answer ≢ a.Wrong → told_answer answer ≢ w.Wrong
told_right a.Kept right = λ e. cc
told_right a.Moved right = λ e. cc
told_right (a.Printed text) right = λ e. cc
told_right a.Waits right = λ e. cc
told_right a.Panicked right = λ e. cc
told_right a.JournalFull right = λ e. cc
told_right (a.Spent steps) right = λ e. cc
told_right a.Wrong right = absurd (right refl)

-- the world after what went out: as it was, or with a sink that failed
abbrev WentOut : Post → Post → Type 0
WentOut middle new = (new ≡ middle) ⊎ (new ≡ record middle { halt = Some halt.SinkFailed })

line_out : (line : List ℕ) (middle new : Post) (before after : SinkState) (g : Applied) → WritesLine line middle new before after g → WentOut middle new
line_out line middle new before after got.Moved h = inl h.1
line_out line middle new before after got.SinkFailed h = inr h.1
line_out line middle new before after other h = absurd h

went_out : (answer : Answer) (middle new : Post) (before after : SinkState) (g : Applied) → Writes answer middle new before after g → WentOut middle new
went_out (a.Printed text) middle new before after g h = line_out (text ++ 10 ∷ []) middle new before after g h
went_out a.Kept middle new before after g h = inl h.1
went_out a.Moved middle new before after g h = inl h.1
went_out a.Waits middle new before after g h = inl h.1
went_out a.Panicked middle new before after g h = inl h.1
went_out a.JournalFull middle new before after g h = inl h.1
went_out (a.Spent steps) middle new before after g h = inl h.1
went_out a.Wrong middle new before after g h = inl h.1

right_answer : (answer : Answer) (middle new : Post) (before after : SinkState) (g : Applied) → g ≢ got.Wrong → Writes answer middle new before after g → answer ≢ a.Wrong
right_answer a.Wrong middle new before after g right h = λ e. right h.0
right_answer a.Kept middle new before after g right h = λ e. cc
right_answer a.Moved middle new before after g right h = λ e. cc
right_answer (a.Printed text) middle new before after g right h = λ e. cc
right_answer a.Waits middle new before after g right h = λ e. cc
right_answer a.Panicked middle new before after g right h = λ e. cc
right_answer a.JournalFull middle new before after g right h = λ e. cc
right_answer (a.Spent steps) middle new before after g right h = λ e. cc

same_entries : (middle new : Post) → WentOut middle new → new.journal.entries ≡ middle.journal.entries
same_entries middle new went = elim went [
  | inl is ↦ ap (λ (p : Post). p.journal.entries) is
  | inr is ↦ ap (λ (p : Post). p.journal.entries) is
]

-- where the sink didn't fail, it is the world of the check-in
not_failed : (middle new : Post) → WentOut middle new → new.halt ≢ Some halt.SinkFailed → new ≡ middle
not_failed middle new went sound = elim went [
  | inl is ↦ is
  | inr is ↦ absurd (sound (ap (λ (p : Post). p.halt) is))
]

stays_failed : (middle new : Post) → WentOut middle new → middle.halt ≡ Some halt.SinkFailed → new.halt ≡ Some halt.SinkFailed
stays_failed middle new went failed = elim went [
  | inl is ↦ ap (λ (p : Post). p.halt) is ∙ failed
  | inr is ↦ ap (λ (p : Post). p.halt) is
]

module _ (code : Code) (limits : List ℕ) (n : ℕ) (q : Process) (old new : CodeState) where
  -- a process that makes nothing leaves the journal
  idle_journal : (came : Came) (answer : Answer) → MakesNothing came → answer ≢ a.Wrong → ChecksBy code limits n (told_came came) q old new answer → new.journal ≡ old.journal
  idle_journal c.Went answer idle right h = went old.halt (right_checks code limits n w.Went q old new answer right h)
    where
      went : (o : Option Halt) → w.ChecksInBy (code_machine code limits) limits n w.Went q old o (told_answer answer) new → new.journal ≡ old.journal
      went None checks = ap (λ (s : CodeState). s.journal) checks.1
      went (Some h) checks = ap (λ (s : CodeState). s.journal) checks.1
  idle_journal c.GivesUp answer idle right h = gives old.halt (right_checks code limits n w.GivesUp q old new answer right h)
    where
      gives : (o : Option Halt) → w.ChecksInBy (code_machine code limits) limits n w.GivesUp q old o (told_answer answer) new → new.journal ≡ old.journal
      gives None checks = ap (λ (s : CodeState). s.journal) checks.1
      gives (Some h) checks = ap (λ (s : CodeState). s.journal) checks.1
  idle_journal (c.Wants wish) answer idle right h = absurd idle
  idle_journal (c.Panics text) answer idle right h = absurd idle
  idle_journal (c.Spent steps) answer idle right h = absurd idle
  idle_journal c.Wrong answer idle right h = absurd (right h.0)

  -- after an end the process only comes home
  halted_stays : (came : w.Came Parcel) (h : Halt) (o : Option Halt) (answer : w.Answer) → old.halt ≡ o → o ≡ Some h → w.ChecksInBy (code_machine code limits) limits n came q old o answer new → (new.halt ≡ Some h) × (new.journal ≡ old.journal)
  halted_stays came h None answer at is checks = absurd (cc)
  halted_stays came h (Some other) answer at is checks =
      (ap (λ (s : CodeState). s.halt) checks.1 ∙ (at ∙ is), ap (λ (s : CodeState). s.journal) checks.1)

  halted_by : (one : Option (w.Came Parcel)) (h : Halt) (answer : Answer) → answer ≢ a.Wrong → old.halt ≡ Some h → ChecksBy code limits n one q old new answer → (new.halt ≡ Some h) × (new.journal ≡ old.journal)
  halted_by None h answer right at checks = absurd (right checks.0)
  halted_by (Some came) h answer right at checks = halted_stays came h old.halt (told_answer answer) refl at (right_checks code limits n came q old new answer right checks)

-- a check-in of what a slice came to
module _ (code : Code) (limits : List ℕ) (n : ℕ) (p : Process) (gone : Gone) (last : ℕ) (others : AreOthers n last gone) (old : CodeState) (run : RoundState) (alike : IsAs ((n, p) ∷ gone) old run)
    (low : last ≤ length run.world.processes) (under : last ≤ length run.statuses) (sound : old.halt ≢ Some halt.SinkFailed) where
  outcome_as : (came : Came) (q : Process) (outcome : Outcome) (answer : Answer) (new : CodeState) → IsOutcome came q outcome → answer ≢ a.Wrong → ChecksBy code limits n (told_came came) q old new answer → IsAs gone new (checked_in code limits n outcome run)
  outcome_as c.Went q outcome answer new is right h = checked_as n p gone last others old run alike code limits low under (told_answer answer) (told_right answer right) new Went q outcome is sound (right_checks code limits n w.Went q old new answer right h)
  outcome_as c.GivesUp q outcome answer new is right h = absurd is
  outcome_as (c.Wants wish) q outcome answer new is right h = checked_as n p gone last others old run alike code limits low under (told_answer answer) (told_right answer right) new (Wants (action_of wish)) q outcome is sound (right_checks code limits n (w.Wants (action_of wish)) q old new answer right h)
  outcome_as (c.Panics text) q outcome answer new is right h = checked_as n p gone last others old run alike code limits low under (told_answer answer) (told_right answer right) new (Panics text) q outcome is sound (right_checks code limits n (w.Wants (action.Panic text)) q old new answer right h)
  outcome_as (c.Spent steps) q outcome answer new is right h = checked_as n p gone last others old run alike code limits low under (told_answer answer) (told_right answer right) new (Spent steps) q outcome is sound (right_checks code limits n (w.Spent steps) q old new answer right h)
  outcome_as c.Wrong q outcome answer new is right h = absurd (right h.0)

-- the output is the machine's
at_output : (gone : Gone) (post : Post) (run : RoundState) (output : List ℕ) → IsAs gone (world_of post output) run → IsAs gone (world_of post run.world.shared.output) run
at_output gone post run output alike =
    subst (λ (out : List ℕ). IsAs gone (world_of post out) run) (ap (λ (s : SharedState Parcel). s.output) alike.shared) alike

is_failed : (o : Option Halt) → (o ≡ Some halt.SinkFailed) ⊎ (o ≢ Some halt.SinkFailed)
is_failed None = inr (λ e. cc)
is_failed (Some halt.SinkFailed) = inl refl
is_failed (Some (halt.Panicked process)) = inr (λ e. cc)
is_failed (Some (halt.Events process)) = inr (λ e. cc)
is_failed (Some (halt.Local process steps)) = inr (λ e. cc)

module _ (code : Code) (old new : Post) (x : Lent) (p : Process) (gone : Gone) (last : ℕ) (others : AreOthers x.number last gone) (run : RoundState) (follows : Follows true ((x.number, p) ∷ gone) old run)
    (low : last ≤ length run.world.processes) (under : last ≤ length run.statuses) where
  abbrev next : RoundState
  next = checked_in code old.limits x.number (slice_from code old.limits p) run

  -- the journal stays
  pub still_begins : new.journal.entries ≡ old.journal.entries → Begins new.journal.entries next.journal
  still_begins same =
      subst (λ (js : List ℕ). Begins js next.journal) (sym same)
      (begins_on old.journal.entries run.journal next.journal follows.begins (check_grows code old.limits x.number run (slice_from code old.limits p)))

  -- what the process came to is done as the machine does it, unless there was no memory for its slice or a sink failed
  module _ (came : Came) (q : Process) (outcomes : x.is_whole ≡ true → IsOutcome came q (slice_from code old.limits p)) (idle : x.is_whole ≡ false → MakesNothing came)
      (before after : SinkState) (g : Applied) (right : g ≢ got.Wrong) (out : ChecksOut code x.number came q old new before after g) where
    went : WentOut out.middle new
    went = went_out out.answer out.middle new before after g out.writes

    right_one : out.answer ≢ a.Wrong
    right_one = right_answer out.answer out.middle new before after g right out.writes

    middle_failed : old.halt ≡ Some halt.SinkFailed → new.halt ≡ Some halt.SinkFailed
    middle_failed failed =
        stays_failed out.middle new went (halted_by code old.limits x.number q (world_of old []) (world_of out.middle (with_line out.answer [])) (told_came came) halt.SinkFailed out.answer right_one failed (out.checks [])).0

    middle_as : x.is_whole ≡ true → old.halt ≢ Some halt.SinkFailed → IsAs gone (world_of out.middle next.world.shared.output) next
    middle_as whole sound =
        at_output gone out.middle next (with_line out.answer run.world.shared.output)
        (outcome_as code old.limits x.number p gone last others (world_of old run.world.shared.output) run (follows.exact refl sound)
        low under sound
        came q (slice_from code old.limits p) out.answer (world_of out.middle (with_line out.answer run.world.shared.output)) (outcomes whole) right_one (out.checks run.world.shared.output))

    exact_on : x.is_whole ≡ true → new.halt ≢ Some halt.SinkFailed → old.halt ≢ Some halt.SinkFailed → IsAs gone (world_of new next.world.shared.output) next
    exact_on whole still sound =
        subst (λ (post : Post). IsAs gone (world_of post next.world.shared.output) next) (sym (not_failed out.middle new went still)) (middle_as whole sound)

    begins_on_failed : old.halt ≡ Some halt.SinkFailed → Begins new.journal.entries next.journal
    begins_on_failed failed =
        still_begins (same_entries out.middle new went ∙ (halted_by code old.limits x.number q (world_of old []) (world_of out.middle (with_line out.answer [])) (told_came came) halt.SinkFailed out.answer right_one failed (out.checks [])).1)

    begins_whole : x.is_whole ≡ true → old.halt ≢ Some halt.SinkFailed → Begins new.journal.entries next.journal
    begins_whole whole sound =
        begins_same new.journal.entries next.journal (sym (same_entries out.middle new went ∙ (middle_as whole sound).journal))

    pub idle_begins : MakesNothing came → Begins new.journal.entries next.journal
    idle_begins makes =
        still_begins (same_entries out.middle new went ∙ idle_journal code old.limits x.number q (world_of old []) (world_of out.middle (with_line out.answer [])) came out.answer makes right_one (out.checks []))

    begins_by : (b : Bool) → x.is_whole ≡ b → Begins new.journal.entries next.journal
    begins_by false whole = idle_begins (idle whole)
    begins_by true whole = elim (is_failed old.halt) [
      | inl failed ↦ begins_on_failed failed
      | inr sound ↦ begins_whole whole sound
    ]

    pub home_follows : Follows x.is_whole gone new next
    home_follows = record {
      exact = λ whole still. exact_on whole still (λ failed. still (middle_failed failed));
      begins = begins_by x.is_whole refl;
    }

-- the first of those that are awaited comes home
module _ (code : Code) (old new : Post) (x : Lent) (g : ℕ × Process) (gone : Gone) (lent : List Lent) (run : RoundState) (awaits : Awaits code (g ∷ gone) (x ∷ lent) old run) where
  abbrev next_run : RoundState
  next_run = checked_in code old.limits g.0 (slice_from code old.limits g.1) run

  its_number : x.number ≡ g.0
  its_number = awaits.came.0

  others_lent : AreOthers x.number awaits.last gone
  others_lent = subst (λ (n : ℕ). AreOthers n awaits.last gone) (sym its_number) awaits.apart.0

  as_numbered : Follows true ((x.number, g.1) ∷ gone) old run
  as_numbered = subst (λ (n : ℕ). Follows true ((n, g.1) ∷ gone) old run) (sym its_number) awaits.follows

  -- what it came to is done, unless there was no memory for its slice
  pub home_next : (before after : SinkState) (g' : Applied) → g' ≢ got.Wrong → ChecksOut code x.number x.came (state_of x.proc) old new before after g' → Follows x.is_whole gone new next_run
  home_next before after g' right out =
      subst (λ (n : ℕ). Follows x.is_whole gone new (checked_in code old.limits n (slice_from code old.limits g.1) run)) its_number
      (home_follows code old new x g.1 gone awaits.last others_lent run as_numbered awaits.processes awaits.statuses
      x.came (state_of x.proc) awaits.came.1.whole awaits.came.1.idle before after g' right out)

  -- it comes home, and nothing is done
  pub idle_next : new.journal.entries ≡ old.journal.entries → Follows false gone new next_run
  idle_next same = record {
    exact = λ whole. absurd (cc);
    begins = subst (λ (n : ℕ). Begins new.journal.entries (checked_in code old.limits n (slice_from code old.limits g.1) run).journal) its_number
        (still_begins code old new x g.1 gone awaits.last others_lent run as_numbered awaits.processes awaits.statuses same);
  }

  -- and the others are awaited still
  pub awaits_next : new.limits ≡ old.limits → Follows true gone new next_run → Awaits code gone lent new next_run
  awaits_next limits follows =
      let more = check_more code old.limits g.0 run (slice_from code old.limits g.1) in
      let low = awaits.processes in
      let under = awaits.statuses in
      record {
        follows = follows;
        came = subst (λ (l : List ℕ). AllCameFrom code l gone lent) (sym limits) awaits.came.2;
        last = awaits.last;
        apart = awaits.apart.1;
        processes = le_trans low more.0;
        statuses = le_trans under more.1;
      }

-- what makes nothing leaves the journal
pub idle_stays : (code : Code) (number : ℕ) (came : Came) (q : Process) (old new : Post) (before after : SinkState) (g : Applied) → MakesNothing came → g ≢ got.Wrong → ChecksOut code number came q old new before after g → new.journal.entries ≡ old.journal.entries
idle_stays code number came q old new before after g idle right out =
    let answered : out.answer ≢ a.Wrong = right_answer out.answer out.middle new before after g right out.writes in
    same_entries out.middle new (went_out out.answer out.middle new before after g out.writes)
    ∙ idle_journal code old.limits number q (world_of old []) (world_of out.middle (with_line out.answer [])) came out.answer idle answered (out.checks [])
