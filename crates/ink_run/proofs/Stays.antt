-- What a check-in prints goes out behind what was printed before.
use Rattle.std.proofs.Common.{◌≡◌, ℕ, Option, None, Some, Ok, List, [], ◌∷◌, ◌++◌, take, refl, ap, sym, ◌∙◌, subst, append_assoc}
use Rattle.ink_code.specs.declared.code.Code.{Code}
use Rattle.ink_code.specs.Process.{Process}
use Rattle.ink_code.specs.Trees.{Parcel}
use Rattle.ink_devices.specs.Outside.{appended}
use Rattle.ink_devices.proofs.Appended.{appended-appended}
use Rattle.ink_law_runs.specs.CodeMachine.{code_machine, opening_run}
use Rattle.ink_law_worlds.specs.Coming.{StandsForCode}
use Rattle.ink_post.specs.Answers.{ChecksBy, ChecksHome, StaysAhead, told_answer, with_line}
use Rattle.ink_post.specs.Answers.{StandsOn as StandsHome}
use Rattle.ink_post.specs.Asks.{told_came}
use Rattle.ink_post.specs.Entries.{halt_after}
use Rattle.ink_post.specs.Worlds.{CodeState, Same, Stands, StandsAfter, world_of}
use Rattle.ink_post.specs.declared.answer.Answer.{Answer}
use Rattle.ink_post.specs.declared.answer.Answer.TheVariants as a
use Rattle.ink_post.specs.declared.answer.Came.{Came as OneCame}
use Rattle.ink_post.specs.declared.post.Post.{Post}
use Rattle.ink_post.proofs.EntriesLemmas.{Halts, checks_halts}
use Rattle.ink_run.specs.Sinks.{Gets, SinkState}
use Rattle.ink_run.specs.Written.{GotBy, IsWritten, KeepsWritten, StandsOn, StaysWritten, Writes, WritesLine}
use Rattle.ink_run.specs.declared.applied.Applied.{Applied}
use Rattle.ink_run.specs.declared.applied.Applied.TheVariants as applied
use Rattle.ink_run.proofs.Written.{count_fault}
use Rattle.ink_law_turns.specs.Turns.{Turns}
use Rattle.ink_base.specs.Actions.{SharedState}
use Rattle.ink_worlds.proofs.Stands.{sink_fails}
use Rattle.ink_worlds.specs.State.{Came, ChecksIn}
use Rattle.ink_worlds.specs.State as w
use Rattle.ink_worlds.specs.declared.halt.Halt.{Halt}
use Rattle.ink_worlds.specs.declared.halt.Halt.TheVariants as halt

-- a sink that got one thing, and then another
gets_more : (first before after : SinkState) (front back : List ℕ) → Gets first before front → Gets before after back → Gets first after (front ++ back)
gets_more first before after front back one other = record {
  contents = other.contents ∙ ap (λ (s : Option (List ℕ)). appended s back) one.contents ∙ appended-appended first.contents front back;
  faults = other.faults ∙ one.faults;
}

no_sink : (answer : w.Answer) (process : ℕ) → Some halt.SinkFailed ≡ halt_after answer process → ⊥
no_sink w.Kept process e = cc
no_sink w.Moved process e = cc
no_sink w.Waits process e = cc
no_sink w.Panics process e = cc
no_sink w.Full process e = cc
no_sink (w.Over steps) process e = cc
no_sink w.Wrong process e = cc

-- no sink failed: it got all
got_all : (code : Code) (limits journal output : List ℕ) (o : Option Halt) (answer : w.Answer) (process : ℕ) (before after : SinkState) → o ≡ halt_after answer process → Gets before after output → GotBy code limits journal output o before after
got_all code limits journal output None answer process before after is gets = gets
got_all code limits journal output (Some (halt.Panicked other)) answer process before after is gets = gets
got_all code limits journal output (Some halt.SinkFailed) answer process before after is gets = absurd (no_sink answer process is)
got_all code limits journal output (Some (halt.Events other)) answer process before after is gets = gets
got_all code limits journal output (Some (halt.Local other steps)) answer process before after is gets = gets

abbrev Got : Code → List ℕ → SinkState → SinkState → List ℕ → List ℕ → Option Halt → Type 0
Got code limits first after output journal o = GotBy code limits journal output o first after

module _ (code : Code) (process : ℕ) (came : OneCame) (p : Process) (old middle : Post) (limits : middle.limits ≡ old.limits) (first before after : SinkState) (written : IsWritten code old first before) where
  -- what comes of a check-in, by whether the run had ended
  abbrev HaltsIn : w.Answer → List ℕ → Type 0
  HaltsIn answer output = Halts process old.halt (world_of old written.output) (world_of middle output) answer

  halts_in : (o : Option (Came Parcel)) (answer : w.Answer) (output : List ℕ) (one : Came Parcel) → ChecksIn (code_machine code old.limits) old.limits process one p (world_of old written.output) answer (world_of middle output) → HaltsIn answer output
  halts_in o answer output one checks = checks_halts (code_machine code old.limits) old.limits process p (world_of old written.output) one old.halt answer (world_of middle output) refl checks

  -- nothing was printed
  still_got : (o : Option Halt) (answer : w.Answer) → old.halt ≡ o → GotBy code old.limits old.journal.entries written.output o first before → Halts process o (world_of old written.output) (world_of middle written.output) answer → GotBy code middle.limits middle.journal.entries written.output middle.halt first before
  still_got None answer is got halts = got_all code middle.limits middle.journal.entries written.output middle.halt answer process first before halts.0 got
  still_got (Some ended) answer is got halts =
      subst (λ (h : Option Halt). Got code middle.limits first before written.output middle.journal.entries h) (sym halts.0)
      (subst (λ (js : List ℕ). Got code middle.limits first before written.output js (Some ended)) (sym halts.1)
      (subst (λ (ns : List ℕ). Got code ns first before written.output old.journal.entries (Some ended)) (sym limits) got))

  same_sink : (new : Post) → new ≡ middle → after ≡ before → IsWritten code middle first before → IsWritten code new first after
  same_sink new is same keeps = subst (λ (x : Post). IsWritten code x first after) (sym is) (subst (λ (x : SinkState). IsWritten code middle first x) (sym same) keeps)

  silent : (answer : Answer) (new : Post) → with_line answer written.output ≡ written.output → StandsAfter code middle written.output → HaltsIn (told_answer answer) written.output → new ≡ middle → after ≡ before → IsWritten code new first after
  silent answer new quiet stands halts is same =
      same_sink new is same (record { output = written.output; stands = stands; got = still_got old.halt (told_answer answer) refl written.got halts })

  -- a line was printed, in a run that had not ended
  line_got : (o : Option Halt) (text : List ℕ) → GotBy code old.limits old.journal.entries written.output o first before → Halts process o (world_of old written.output) (world_of middle (written.output ++ text ++ 10 ∷ [])) w.Moved → (middle.halt ≡ None) × (middle.journal.entries ≡ old.journal.entries ++ process ∷ []) × Gets first before written.output
  line_got None text got halts = (halts.0, halts.1, got)
  line_got (Some ended) text got halts = absurd (let e = halts.2 in cc)

  printed : (text : List ℕ) (new : Post) (answer : Applied) → StandsAfter code middle (written.output ++ text ++ 10 ∷ []) → HaltsIn w.Moved (written.output ++ text ++ 10 ∷ []) → WritesLine (text ++ 10 ∷ []) middle new before after answer → IsWritten code new first after
  printed text new applied.Moved stands halts writes =
      let found = line_got old.halt text written.got halts in
      subst (λ (x : Post). IsWritten code x first after) (sym writes.1)
      (record {
        output = written.output ++ text ++ 10 ∷ [];
        stands = stands;
        got = got_all code middle.limits middle.journal.entries (written.output ++ text ++ 10 ∷ []) middle.halt w.Moved process first after found.0
            (subst (λ (bytes : List ℕ). Gets first after bytes) (sym (append_assoc written.output text (10 ∷ []))) (gets_more first before after written.output (text ++ 10 ∷ []) found.2 writes.0));
      })
  printed text new applied.SinkFailed stands halts writes =
      let found = line_got old.halt text written.got halts in
      let line : List ℕ = text ++ 10 ∷ [] in
      let cut = writes.0.part in
      let run = written.stands.ahead.turned in
      let shows : written.output ≡ run.shared.output = ap (λ (s : SharedState Parcel). s.output) (written.stands.shared ∙ written.stands.ahead.shared) in
      subst (λ (x : Post). IsWritten code x first after) (sym writes.1)
      (record {
        output = written.output ++ text ++ 10 ∷ [];
        stands = sink_fails (code_machine code middle.limits) middle.limits (opening_run code) (world_of middle (written.output ++ text ++ 10 ∷ [])) stands found.0;
        got = record {
          earlier = old.journal.entries;
          last = process;
          entries = found.1;
          run = run;
          turns = subst (λ (ns : List ℕ). Turns (code_machine code ns) ns (opening_run code) old.journal.entries run) (sym limits) written.stands.ahead.turns;
          line = line;
          whole = append_assoc written.output text (10 ∷ []) ∙ ap (λ (out : List ℕ). out ++ line) shows;
          count = cut.0;
          cut = cut.1;
          contents = cut.2 ∙ ap (λ (s : Option (List ℕ)). appended s (take cut.0 line)) found.2.contents ∙ appended-appended first.contents written.output (take cut.0 line) ∙ ap (λ (out : List ℕ). appended first.contents (out ++ take cut.0 line)) shows;
          failed = count_fault first.faults before.faults after.faults found.2.faults writes.0.failed;
        };
      })
  printed text new applied.Kept stands halts writes = absurd writes
  printed text new applied.Waits stands halts writes = absurd writes
  printed text new applied.Panicked stands halts writes = absurd writes
  printed text new applied.JournalFull stands halts writes = absurd writes
  printed text new (applied.Spent steps) stands halts writes = absurd writes
  printed text new applied.Wrong stands halts writes = absurd writes

same_stands : (code : Code) (middle new : Post) (answer : Applied) (got : Applied) → got ≡ answer → new ≡ middle → StandsOn code middle answer → StandsOn code new got
same_stands code middle new answer got same is stands =
    subst (λ (g : Applied). StandsOn code new g) (sym same) (subst (λ (x : Post). StandsOn code x answer) (sym is) stands)

-- the world is ahead of its journal also when a sink failed
pub stands_out : (code : Code) (middle new : Post) (before after : SinkState) (answer : Answer) (got : Applied) → StandsHome code middle answer → ((text : List ℕ) → answer ≡ a.Printed text → middle.halt ≡ None) → Writes answer middle new before after got → StandsOn code new got
stands_out code middle new before after a.Kept got stands calm writes = same_stands code middle new applied.Kept got writes.0 writes.1 stands
stands_out code middle new before after a.Moved got stands calm writes = same_stands code middle new applied.Moved got writes.0 writes.1 stands
stands_out code middle new before after a.Waits got stands calm writes = same_stands code middle new applied.Waits got writes.0 writes.1 stands
stands_out code middle new before after a.Panicked got stands calm writes = same_stands code middle new applied.Panicked got writes.0 writes.1 stands
stands_out code middle new before after a.JournalFull got stands calm writes = same_stands code middle new applied.JournalFull got writes.0 writes.1 stands
stands_out code middle new before after (a.Spent steps) got stands calm writes = same_stands code middle new (applied.Spent steps) got writes.0 writes.1 stands
stands_out code middle new before after a.Wrong got stands calm writes = same_stands code middle new applied.Wrong got writes.0 writes.1 stands
stands_out code middle new before after (a.Printed text) applied.Moved stands calm writes = subst (λ (x : Post). Stands code x) (sym writes.1) stands
stands_out code middle new before after (a.Printed text) applied.SinkFailed stands calm writes =
    subst (λ (x : Post). Stands code x) (sym writes.1)
    (stands.0, sink_fails (code_machine code middle.limits) middle.limits (opening_run code) (world_of middle stands.0) stands.1 (calm text refl))
stands_out code middle new before after (a.Printed text) applied.Kept stands calm writes = absurd writes
stands_out code middle new before after (a.Printed text) applied.Waits stands calm writes = absurd writes
stands_out code middle new before after (a.Printed text) applied.Panicked stands calm writes = absurd writes
stands_out code middle new before after (a.Printed text) applied.JournalFull stands calm writes = absurd writes
stands_out code middle new before after (a.Printed text) (applied.Spent steps) stands calm writes = absurd writes
stands_out code middle new before after (a.Printed text) applied.Wrong stands calm writes = absurd writes

-- where only room was made, the sink got the output of the journal still
pub same_written : (code : Code) (old new : Post) (sink : SinkState) → Same old new → new.limits ≡ old.limits → KeepsWritten code old new sink sink
same_written code old new sink same limits first written = record {
  output = written.output;
  stands =
      subst (λ (ns : List ℕ). StandsForCode code ns (world_of new written.output)) (sym limits)
      (subst (λ (s : CodeState). StandsForCode code old.limits s) (sym (same written.output)) written.stands);
  got =
      subst (λ (ns : List ℕ). GotBy code ns new.journal.entries written.output new.halt first sink) (sym limits)
      (subst (λ (s : CodeState). GotBy code old.limits s.journal written.output s.halt first sink) (sym (same written.output)) written.got);
}

-- by what was answered inside
module _ (code : Code) (process : ℕ) (came : OneCame) (p : Process) (old middle : Post) (limits : middle.limits ≡ old.limits) (before after : SinkState) where
  abbrev Checks : Option (Came Parcel) → Answer → Type 0
  Checks o answer = (output : List ℕ) → ChecksBy code old.limits process o p (world_of old output) (world_of middle (with_line answer output)) answer

  quiet_stays : (answer : Answer) (one : Came Parcel) (new : Post) → ((output : List ℕ) → with_line answer output ≡ output) → ((output : List ℕ) → StandsAfter code old output → StandsAfter code middle output) → ((output : List ℕ) → ChecksIn (code_machine code old.limits) old.limits process one p (world_of old output) (told_answer answer) (world_of middle output)) → new ≡ middle → after ≡ before → (first : SinkState) → IsWritten code old first before → IsWritten code new first after
  quiet_stays answer one new quiet stays checks is same first written =
      silent code process came p old middle limits first before after written answer new (quiet written.output) (stays written.output written.stands)
      (halts_in code process came p old middle limits first before after written None (told_answer answer) written.output one (checks written.output)) is same

  printed_stays : (text : List ℕ) (one : Came Parcel) (new : Post) (got : Applied) → ((output : List ℕ) → StandsAfter code old output → StandsAfter code middle (output ++ text ++ 10 ∷ [])) → ((output : List ℕ) → ChecksIn (code_machine code old.limits) old.limits process one p (world_of old output) w.Moved (world_of middle (output ++ text ++ 10 ∷ []))) → WritesLine (text ++ 10 ∷ []) middle new before after got → (first : SinkState) → IsWritten code old first before → IsWritten code new first after
  printed_stays text one new got stays checks writes first written =
      printed code process came p old middle limits first before after written text new got (stays written.output written.stands)
      (halts_in code process came p old middle limits first before after written None w.Moved (written.output ++ text ++ 10 ∷ []) one (checks written.output)) writes

  lost_stays : (new : Post) → new ≡ middle → after ≡ before → middle.journal.entries ≡ old.journal.entries → (new.journal.entries ≡ old.journal.entries) × (after ≡ before)
  lost_stays new is same entries = (ap (λ (x : Post). x.journal.entries) is ∙ entries, same)

  abbrev Stays : Post → Applied → Type 0
  Stays new got = StaysWritten code old new before after got

  stays_by : (o : Option (Came Parcel)) (answer : Answer) (new : Post) (got : Applied) → StaysAhead code old middle answer → Checks o answer → Writes answer middle new before after got → Stays new got
  stays_by None a.Kept new got stays checks writes = absurd (let e = (checks []).0 in cc)
  stays_by None a.Moved new got stays checks writes = absurd (let e = (checks []).0 in cc)
  stays_by None a.Waits new got stays checks writes = absurd (let e = (checks []).0 in cc)
  stays_by None a.Panicked new got stays checks writes = absurd (let e = (checks []).0 in cc)
  stays_by None a.JournalFull new got stays checks writes = absurd (let e = (checks []).0 in cc)
  stays_by None (a.Spent steps) new got stays checks writes = absurd (let e = (checks []).0 in cc)
  stays_by None (a.Printed text) new got stays checks writes = absurd (let e = (checks []).0 in cc)
  stays_by None a.Wrong new got stays checks writes = subst (λ (g : Applied). Stays new g) (sym writes.0) (lost_stays new writes.1 writes.2 (ap (λ (x : CodeState). x.journal) ((checks []).1)))
  stays_by (Some one) a.Wrong new got stays checks writes = subst (λ (g : Applied). Stays new g) (sym writes.0) (lost_stays new writes.1 writes.2 (ap (λ (x : CodeState). x.journal) ((checks []).1.same)))
  stays_by (Some one) a.Kept new got stays checks writes = subst (λ (g : Applied). Stays new g) (sym writes.0) (quiet_stays a.Kept one new (λ output. refl) stays checks writes.1 writes.2)
  stays_by (Some one) a.Moved new got stays checks writes = subst (λ (g : Applied). Stays new g) (sym writes.0) (quiet_stays a.Moved one new (λ output. refl) stays checks writes.1 writes.2)
  stays_by (Some one) a.Waits new got stays checks writes = subst (λ (g : Applied). Stays new g) (sym writes.0) (quiet_stays a.Waits one new (λ output. refl) stays checks writes.1 writes.2)
  stays_by (Some one) a.Panicked new got stays checks writes = subst (λ (g : Applied). Stays new g) (sym writes.0) (quiet_stays a.Panicked one new (λ output. refl) stays checks writes.1 writes.2)
  stays_by (Some one) a.JournalFull new got stays checks writes = subst (λ (g : Applied). Stays new g) (sym writes.0) (quiet_stays a.JournalFull one new (λ output. refl) stays checks writes.1 writes.2)
  stays_by (Some one) (a.Spent steps) new got stays checks writes = subst (λ (g : Applied). Stays new g) (sym writes.0) (quiet_stays (a.Spent steps) one new (λ output. refl) stays checks writes.1 writes.2)
  stays_by (Some one) (a.Printed text) new applied.Moved stays checks writes = printed_stays text one new applied.Moved stays checks writes
  stays_by (Some one) (a.Printed text) new applied.SinkFailed stays checks writes = printed_stays text one new applied.SinkFailed stays checks writes
  stays_by (Some one) (a.Printed text) new applied.Kept stays checks writes = absurd writes
  stays_by (Some one) (a.Printed text) new applied.Waits stays checks writes = absurd writes
  stays_by (Some one) (a.Printed text) new applied.Panicked stays checks writes = absurd writes
  stays_by (Some one) (a.Printed text) new applied.JournalFull stays checks writes = absurd writes
  stays_by (Some one) (a.Printed text) new (applied.Spent steps) stays checks writes = absurd writes
  stays_by (Some one) (a.Printed text) new applied.Wrong stays checks writes = absurd writes

  pub stays_written : (answer : Answer) (new : Post) (got : Applied) → StaysAhead code old middle answer → ChecksHome code process came p old middle (Ok answer) → Writes answer middle new before after got → StaysWritten code old new before after got
  stays_written answer new got stays checks writes = stays_by (told_came came) answer new got stays checks writes

  -- a print is made in a run that goes on
  line_calm : (o : Option Halt) (before after : CodeState) → Halts process o before after w.Moved → after.halt ≡ None
  line_calm None before after halts = halts.0
  line_calm (Some ended) before after halts = absurd (let e = halts.2 in cc)

  printed_calm : (o : Option (Came Parcel)) (text : List ℕ) → Checks o (a.Printed text) → middle.halt ≡ None
  printed_calm None text checks = absurd (let e = (checks []).0 in cc)
  printed_calm (Some one) text checks =
      line_calm old.halt (world_of old []) (world_of middle (text ++ 10 ∷ [])) (checks_halts (code_machine code old.limits) old.limits process p (world_of old []) one old.halt w.Moved (world_of middle (text ++ 10 ∷ [])) refl (checks []))

  -- the world is ahead of its journal, whatever went out
  pub stands_written : (answer : Answer) (new : Post) (got : Applied) → StandsHome code middle answer → ChecksHome code process came p old middle (Ok answer) → Writes answer middle new before after got → StandsOn code new got
  stands_written answer new got stands checks writes =
      stands_out code middle new before after answer got stands (λ text is. printed_calm (told_came came) text (subst (λ (one : Answer). Checks (told_came came) one) is checks)) writes
