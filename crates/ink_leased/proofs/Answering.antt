-- What a check-in makes of a world, by what it answers.
use Rattle.std.proofs.Common.{◌≡◌, ℕ, Bool, true, false, ◌||◌, Option, None, Some, Ok, List, [], ◌∷◌, ◌++◌, refl, sym, ap, ◌∙◌, subst, inl, inr}
use Rattle.std.specs.Option.{is_some}
use Rattle.ink_base.specs.Numbered.{set_numbered}
use Rattle.ink_code.specs.declared.code.Code.{Code}
use Rattle.ink_code.specs.Process.{Process}
use Rattle.ink_code.specs.Trees.{Parcel}
use Rattle.ink_law_runs.specs.CodeMachine.{code_machine}
use Rattle.ink_leased.proofs.Homecoming.{checks_home, put_home}
use Rattle.ink_leased.proofs.Keeping.{Keeps, kept_written}
use Rattle.ink_leased.specs.Homecoming.{ComesIn, IsHome, LeavesBy, over_by}
use Rattle.ink_leased.specs.Lending.{lease_of}
use Rattle.ink_leasing.specs.Leases.{OneMore}
use Rattle.ink_post.proofs.EntriesLemmas.{checks_halts}
use Rattle.ink_post.specs.Answers.{ChecksBy, ChecksHome, told_answer, with_line}
use Rattle.ink_post.specs.Asks.{told_came}
use Rattle.ink_post.specs.Entries.{entries_by, halt_after}
use Rattle.ink_post.specs.Meaning.{Ends}
use Rattle.ink_post.specs.Worlds.{CodeState, Same, Stands, world_of}
use Rattle.ink_post.specs.declared.answer.Answer.{Answer}
use Rattle.ink_post.specs.declared.answer.Answer.TheVariants as a
use Rattle.ink_post.specs.declared.answer.Came.{Came as OneCame}
use Rattle.ink_post.specs.declared.answer.End.TheVariants as end
use Rattle.ink_post.specs.declared.post.Post.{Post}
use Rattle.ink_run.specs.Sinks.{SinkState}
use Rattle.ink_run.specs.Written.{ChecksOut, KeepsWritten, StandsOn, StaysWritten, TellsWrong, Writes, WritesLine, wrong_by}
use Rattle.ink_run.specs.declared.applied.Applied.{Applied}
use Rattle.ink_run.specs.declared.applied.Applied.TheVariants as applied
use Rattle.ink_worlds.specs.State.{Came, ChecksIn, put_in}
use Rattle.ink_worlds.specs.State as w
use Rattle.ink_worlds.specs.declared.halt.Halt.{Halt}
use Rattle.ink_worlds.specs.declared.status.Status.TheVariants.{Stopped}

-- whether an answer ends the run
abbrev halts_by : Applied → Bool
halts_by applied.Kept = false
halts_by applied.Moved = false
halts_by applied.Waits = false
halts_by applied.Panicked = true
halts_by applied.SinkFailed = true
halts_by applied.JournalFull = true
halts_by (applied.Spent steps) = true
halts_by applied.Wrong = false

-- inside: who is home, what is added, and what ended the run
record ComesInside (process : ℕ) (old new : CodeState) (answer : w.Answer) : Type 0 where
  home : IsHome process old.statuses new.statuses
  journal : new.journal ≡ entries_by answer process old.journal
  halt : new.halt ≡ halt_after answer process

-- outside
record ComesOutside (process : ℕ) (old new : Post) (got : Applied) : Type 0 where
  home : IsHome process old.statuses.items new.statuses.items
  journal : OneMore process old.journal.entries new.journal.entries
  halt : is_some new.halt ≡ halts_by got

module _ (code : Code) (limits : List ℕ) (process : ℕ) (p : Process) (old new : CodeState) (calm : old.halt ≡ None) where
  right_inside : (came : Came Parcel) (answer : w.Answer) → ChecksIn (code_machine code limits) limits process came p old answer new → ComesInside process old new answer
  right_inside came answer checks =
      let halts = checks_halts (code_machine code limits) limits process p old came None answer new calm (calmly came answer checks) in
      record { home = checks_home (code_machine code limits) limits process came p old answer new checks; journal = halts.1; halt = halts.0 }
    where
      calmly : (came : Came Parcel) (answer : w.Answer) → ChecksIn (code_machine code limits) limits process came p old answer new → w.ChecksInBy (code_machine code limits) limits process came p old None answer new
      calmly came answer checks = subst (λ (h : Option Halt). w.ChecksInBy (code_machine code limits) limits process came p old h answer new) calm checks

  gone_inside : new.statuses ≡ set_numbered old.statuses process Stopped → new.journal ≡ old.journal → new.halt ≡ old.halt → ComesInside process old new w.Wrong
  gone_inside statuses journal halt = record {
    home = put_home process Stopped old.statuses new.statuses refl statuses;
    journal = journal;
    halt = halt ∙ calm;
  }

  by_came : (came : Option (Came Parcel)) (answer : Answer) → ChecksBy code limits process came p old new answer → ComesInside process old new (told_answer answer)
  by_came None answer checks =
      subst (λ (x : Answer). ComesInside process old new (told_answer x)) (sym checks.0)
      (gone_inside (ap (λ (s : CodeState). s.statuses) checks.1) (ap (λ (s : CodeState). s.journal) checks.1) (ap (λ (s : CodeState). s.halt) checks.1))
  by_came (Some came) a.Wrong checks =
      gone_inside (ap (λ (s : CodeState). s.statuses) checks.1.same) (ap (λ (s : CodeState). s.journal) checks.1.same) (ap (λ (s : CodeState). s.halt) checks.1.same)
  by_came (Some came) a.Kept checks = right_inside came w.Kept checks
  by_came (Some came) a.Moved checks = right_inside came w.Moved checks
  by_came (Some came) (a.Printed text) checks = right_inside came w.Moved checks
  by_came (Some came) a.Waits checks = right_inside came w.Waits checks
  by_came (Some came) a.Panicked checks = right_inside came w.Panics checks
  by_came (Some came) a.JournalFull checks = right_inside came w.Full checks
  by_came (Some came) (a.Spent steps) checks = right_inside came (w.Over steps) checks

module _ (code : Code) (process : ℕ) (came : OneCame) (p : Process) (old middle new : Post) (before after : SinkState) (calm : old.halt ≡ None) where
  inside : (answer : Answer) → ChecksHome code process came p old middle (Ok answer) → ComesInside process (world_of old []) (world_of middle (with_line answer [])) (told_answer answer)
  inside answer checks = by_came code old.limits process p (world_of old []) (world_of middle (with_line answer [])) calm (told_came came) answer (checks [])

  plain : (output : List ℕ) (answer : w.Answer) (one got : Applied) → is_some (halt_after answer process) ≡ halts_by one → OneMore process old.journal.entries (entries_by answer process old.journal.entries) → ComesInside process (world_of old []) (world_of middle output) answer → got ≡ one → new ≡ middle → ComesOutside process old new got
  plain output answer one got halts more comes is same =
      subst (λ (g : Applied). ComesOutside process old new g) (sym is)
      (subst (λ (x : Post). ComesOutside process old x one) (sym same) (record {
        home = comes.home;
        journal = subst (λ (js : List ℕ). OneMore process old.journal.entries js) (sym comes.journal) more;
        halt = ap (λ (h : Option Halt). is_some h) comes.halt ∙ halts;
      }))

  printed : (output text : List ℕ) (got : Applied) → ComesInside process (world_of old []) (world_of middle output) w.Moved → WritesLine text middle new before after got → ComesOutside process old new got
  printed output text applied.Moved comes writes = plain output w.Moved applied.Moved applied.Moved refl (inr refl) comes refl writes.1
  printed output text applied.SinkFailed comes writes =
      subst (λ (x : Post). ComesOutside process old x applied.SinkFailed) (sym writes.1) (record { home = comes.home; journal = inr comes.journal; halt = refl })
  printed output text applied.Kept comes writes = absurd writes
  printed output text applied.Waits comes writes = absurd writes
  printed output text applied.Panicked comes writes = absurd writes
  printed output text applied.JournalFull comes writes = absurd writes
  printed output text (applied.Spent steps) comes writes = absurd writes
  printed output text applied.Wrong comes writes = absurd writes

  by_answer : (answer : Answer) (got : Applied) → ComesInside process (world_of old []) (world_of middle (with_line answer [])) (told_answer answer) → Writes answer middle new before after got → ComesOutside process old new got
  by_answer a.Kept got comes writes = plain [] w.Kept applied.Kept got refl (inl refl) comes writes.0 writes.1
  by_answer a.Moved got comes writes = plain [] w.Moved applied.Moved got refl (inr refl) comes writes.0 writes.1
  by_answer (a.Printed text) got comes writes = printed (with_line (a.Printed text) []) (text ++ 10 ∷ []) got comes writes
  by_answer a.Waits got comes writes = plain [] w.Waits applied.Waits got refl (inl refl) comes writes.0 writes.1
  by_answer a.Panicked got comes writes = plain [] w.Panics applied.Panicked got refl (inr refl) comes writes.0 writes.1
  by_answer a.JournalFull got comes writes = plain [] w.Full applied.JournalFull got refl (inl refl) comes writes.0 writes.1
  by_answer (a.Spent steps) got comes writes = plain [] (w.Over steps) (applied.Spent steps) got refl (inl refl) comes writes.0 writes.1
  by_answer a.Wrong got comes writes = plain [] w.Wrong applied.Wrong got refl (inl refl) comes writes.0 writes.1

outside : (code : Code) (process : ℕ) (came : OneCame) (p : Process) (old new : Post) (before after : SinkState) (got : Applied) → old.halt ≡ None → ChecksOut code process came p old new before after got → ComesOutside process old new got
outside code process came p old new before after got calm checks =
    by_answer code process came p old checks.middle new before after calm checks.answer got (inside code process came p old checks.middle new before after calm checks.answer checks.checks) checks.writes

no_halt : (h : Option Halt) → is_some h ≡ false → h ≡ None
no_halt None e = refl
no_halt (Some h) e = absurd (cc)

module _ (code : Code) (process : ℕ) (old new : Post) (before after : SinkState) (right : old.wrong ≡ None) (limits : new.limits ≡ old.limits) where
  -- the run goes on, or a check-in ended it
  goes_in : (got : Applied) → ComesOutside process old new got → halts_by got ≡ over_by got → new.wrong ≡ old.wrong → Stands code new → KeepsWritten code old new before after → ComesIn code process old new before after (over_by got)
  goes_in got comes over wrong stands written = record {
    limits = limits;
    home = comes.home;
    journal = comes.journal;
    leaves = subst (λ (o : Option ℕ). LeavesBy code old new before after o) (sym (wrong ∙ right)) (stands, written);
    over = sym over ∙ (sym comes.halt ∙ no_wrong new.halt new.wrong (wrong ∙ right));
  }
    where
      no_wrong : (h : Option Halt) (o : Option ℕ) → o ≡ None → is_some h ≡ (is_some h || is_some o)
      no_wrong None o e = sym (ap (λ (x : Option ℕ). is_some x) e)
      no_wrong (Some h) o e = refl

  fails_in : ComesOutside process old new applied.Wrong → new.wrong ≡ Some process → Ends code old.limits old.journal.entries (end.Wrong process) → (new.journal.entries ≡ old.journal.entries) × (after ≡ before) → ComesIn code process old new before after true
  fails_in comes wrong ends same =
      let halt : new.halt ≡ None = no_halt new.halt comes.halt in
      record {
        limits = limits;
        home = comes.home;
        journal = comes.journal;
        leaves = subst (λ (o : Option ℕ). LeavesBy code old new before after o) (sym wrong)
            (subst (λ (l : List ℕ). Ends code l new.journal.entries (end.Wrong process)) (sym limits) (subst (λ (js : List ℕ). Ends code old.limits js (end.Wrong process)) (sym same.0) ends), same.0, halt, same.1);
        over = sym (ap (λ (h : Option Halt). is_some h || is_some new.wrong) halt ∙ ap (λ (o : Option ℕ). is_some o) wrong);
      }

  by_got : (got : Applied) → ComesOutside process old new got → new.wrong ≡ wrong_by got process old.wrong → StandsOn code new got → StaysWritten code old new before after got → TellsWrong code process old got → ComesIn code process old new before after (over_by got)
  by_got applied.Kept comes wrong stands written tells = goes_in applied.Kept comes refl wrong stands written
  by_got applied.Moved comes wrong stands written tells = goes_in applied.Moved comes refl wrong stands written
  by_got applied.Waits comes wrong stands written tells = goes_in applied.Waits comes refl wrong stands written
  by_got applied.Panicked comes wrong stands written tells = goes_in applied.Panicked comes refl wrong stands written
  by_got applied.SinkFailed comes wrong stands written tells = goes_in applied.SinkFailed comes refl wrong stands written
  by_got applied.JournalFull comes wrong stands written tells = goes_in applied.JournalFull comes refl wrong stands written
  by_got (applied.Spent steps) comes wrong stands written tells = goes_in (applied.Spent steps) comes refl wrong stands written
  by_got applied.Wrong comes wrong stands written tells = fails_in comes wrong tells written

-- a process came home
pub comes_in : (code : Code) (process : ℕ) (came : OneCame) (p : Process) (old new : Post) (before after : SinkState) (got : Applied) (is_over : Bool) → is_over ≡ over_by got → old.halt ≡ None → old.wrong ≡ None → new.limits ≡ old.limits → ChecksOut code process came p old new before after got → new.wrong ≡ wrong_by got process old.wrong → StandsOn code new got → StaysWritten code old new before after got → TellsWrong code process old got → ComesIn code process old new before after is_over
comes_in code process came p old new before after got is_over over calm right limits checks wrong stands written tells =
    subst (λ (b : Bool). ComesIn code process old new before after b) (sym over)
    (by_got code process old new before after right limits got (outside code process came p old new before after got calm checks) wrong stands written tells)

-- room was made first, and then a process came home
module _ (code : Code) (process : ℕ) (old middle new : Post) (before between after : SinkState) (same : Same old middle) (keeps : Keeps code old middle before between) where
  leaves_behind : (o : Option ℕ) → LeavesBy code middle new between after o → LeavesBy code old new before after o
  leaves_behind None leaves = (leaves.0, (λ first written. leaves.1 first (kept_written code old middle before between keeps first written)))
  leaves_behind (Some other) leaves = (leaves.0, leaves.1 ∙ keeps.journal, leaves.2, leaves.3 ∙ keeps.sink)

  pub comes_behind : (is_over : Bool) → ComesIn code process middle new between after is_over → ComesIn code process old new before after is_over
  comes_behind is_over comes = record {
    limits = comes.limits ∙ keeps.limits;
    home = record {
      status = comes.home.status;
      home = comes.home.home;
      leases = λ seat. comes.home.leases seat ∙ ap (λ (s : CodeState). lease_of (set_numbered s.statuses process comes.home.status) seat) (same []);
    };
    journal = subst (λ (js : List ℕ). OneMore process js new.journal.entries) keeps.journal comes.journal;
    leaves = leaves_behind new.wrong comes.leaves;
    over = comes.over;
  }
