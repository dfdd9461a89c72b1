-- The report that a world gives is that of the panic in its journal.
use Rattle.std.proofs.Common.{◌≡◌, ℕ, inl, inr, List, Option, None, Some, Bool, true, false, refl, sym, ap, subst, ◌∙◌}
use Rattle.std.specs.List.{position}
use Rattle.std.specs.Option.{option_map}
use Rattle.ink_base.specs.Numbered.{numbered}
use Rattle.ink_causes.specs.declared.cause.Cause.{Cause}
use Rattle.ink_causes.specs.declared.cause.Cause.TheVariants.{BadEntry, JournalEnds, OutOfMemory, Panicked, RoundLimit}
use Rattle.ink_code.specs.declared.code.Code.{Code}
use Rattle.ink_code.specs.Process.{Process}
use Rattle.ink_law_turns.specs.Ahead.{panicked}
use Rattle.ink_law_turns.proofs.Numbering.{none_some, numbered-map, numbered_level, some_is}
use Rattle.ink_post.specs.Ends.{end_in, rest_by, some_is_up, waiting_end}
use Rattle.ink_post.specs.Worlds.{Stands, home_of, proc_at, world_of}
use Rattle.ink_post.specs.declared.answer.End.{End}
use Rattle.ink_post.specs.declared.answer.End.TheVariants as end
use Rattle.ink_post.specs.declared.post.Post.{Post}
use Rattle.ink_proc.specs.declared.process.Proc.{Proc}
use Rattle.ink_proc.specs.State.{state_of}
use Rattle.ink_replay.specs.Ends.{StopsAt}
use Rattle.ink_replay.specs.Stops.{UnlessWrong as UnlessIt}
use Rattle.ink_replay.specs.declared.replaying.ReplayStop.{ReplayStop}
use Rattle.ink_replay.specs.declared.replaying.ReplayStop.TheVariants as replay
use Rattle.ink_report.specs.Report.{report_text}
use Rattle.ink_rounds.specs.Stops.{stop_in, UnlessWrong as Unless}
use Rattle.ink_rounds.specs.declared.running.Stop.{Stop}
use Rattle.ink_rounds.specs.declared.running.Stop.TheVariants as rounds
use Rattle.ink_statuses.specs.Readings.{is_held}
use Rattle.ink_worlds.specs.Standing.{panic_in, text_in}
use Rattle.ink_worlds.specs.declared.halt.Halt.{Halt}
use Rattle.ink_worlds.specs.declared.halt.Halt.TheVariants as halt
use Rattle.ink_worlds.specs.declared.status.Status.{Status}
use Rattle.ink_worlds.specs.declared.status.Status.TheVariants.{Stopped}
use Rattle.ink_commands.specs.Reports.{IsReport, PanickedIn, Reports, ReportsOf, told_report}
use Rattle.ink_commands.specs.Runs.{IsPanic, StopsAs, StopsAtOnce, cause_by, replay_cause, rounds_cause}
use Rattle.ink_commands.proofs.Written.{stop_end}

-- a panic, by its process and its text
abbrev panic_at : ℕ → List ℕ → ℕ × List ℕ
panic_at process text = (process, text)

panic_of : (panic : Option (ℕ × List ℕ)) (process : ℕ) → panicked panic ≡ Some process → (text : List ℕ) × (panic ≡ Some (panic_at process text))
panic_of None process e = absurd (none_some process e)
panic_of (Some one) process e = (one.1, ap (λ (n : ℕ). Some (panic_at n one.1)) (some_is one.0 process e))

proc_home : (o : Option (Option Proc)) (q : Process) → option_map home_of o ≡ Some (Some q) → (proc : Proc) × (o ≡ Some (Some proc)) × (state_of proc ≡ q)
proc_home None q e = absurd (none_some (Some q) e)
proc_home (Some None) q e = absurd (none_some q (some_is None (Some q) e))
proc_home (Some (Some proc)) q e = (proc, refl, some_is (state_of proc) q (some_is (Some (state_of proc)) (Some q) e))

panic_reports : (code : Code) (post : Post) (stands : Stands code post) (process : ℕ) (report : List ℕ) → post.halt ≡ Some (halt.Panicked process)
    → report ≡ told_report post.text (proc_at (numbered post.homes.items process)) code → IsReport code post.limits post.journal.entries process report
panic_reports code post stands process report halted told =
    let s = stands.1 in
    let made : panicked s.run.panic ≡ Some process = sym s.panic ∙ ap panic_in halted in
    let panic = panic_of s.run.panic process made in
    let q = numbered_level (world_of post stands.0).statuses s.run.processes process Stopped s.statuses (s.rests process halted) in
    let home : option_map home_of (numbered post.homes.items process) ≡ Some (Some q.0) =
    sym (numbered-map home_of post.homes.items process) ∙ s.kept process q.0 halted q.1 in
    let proc = proc_home (numbered post.homes.items process) q.0 home in
    let text : post.text ≡ Some panic.0 = s.text ∙ ap text_in panic.1 in
    record {
      run = s.ahead.turned;
      turns = s.ahead.turns;
      text = panic.0;
      panicked = sym s.ahead.panic ∙ panic.1;
      p = q.0;
      stands = sym (s.ahead.rests process made) ∙ q.1;
      written = told
          ∙ (ap (λ (t : Option (List ℕ)). told_report t (proc_at (numbered post.homes.items process)) code) text
          ∙ (ap (λ (o : Option (Option Proc)). told_report (Some panic.0) (proc_at o) code) proc.1
          ∙ ap (λ (p : Process). report_text panic.0 p code) proc.2));
    }

reports_by : (cause : Cause) (code : Code) (post : Post) (report : List ℕ) → PanickedIn cause code post → ReportsOf cause code post report
    → Reports cause code post.limits post.journal.entries report
reports_by (Panicked process) code post report stopped told = panic_reports code post stopped.0 process report stopped.1 told
reports_by cause code post report stopped told = tt

pub stopped_reports : (stopped cause : Cause) (code : Code) (post : Post) (limits journal report : List ℕ) → StopsAs stopped cause → PanickedIn stopped code post
    → ReportsOf cause code post report → journal ≡ post.journal.entries → post.limits ≡ limits → Reports cause code limits journal report
stopped_reports stopped cause code post limits journal report is stands told same right =
    let here : Reports cause code post.limits post.journal.entries report = elim is [
      | inl alike ↦ subst (λ (c : Cause). Reports c code post.limits post.journal.entries report) (sym alike)
          (reports_by stopped code post report stands (subst (λ (c : Cause). ReportsOf c code post report) alike told))
      | inr memory ↦ (let none : Reports OutOfMemory code post.limits post.journal.entries report = tt in
          subst (λ (c : Cause). Reports c code post.limits post.journal.entries report) (sym memory.0) none)
    ] in
    subst (λ (j : List ℕ). Reports cause code limits j report) (sym same)
    (subst (λ (l : List ℕ). Reports cause code l post.journal.entries report) right here)

-- which end is a panic

other_end : {A : Type 0} (one other : End) → Some one ≡ Some other → (one ≡ other → ⊥) → A
other_end {A} one other same differ = absurd (differ (some_is one other same))

waiting_panicked : {A : Type 0} (held : Option ℕ) (process : ℕ) → Some (end.Panicked process) ≡ Some (waiting_end held) → A
waiting_panicked {A} None process is = other_end (end.Panicked process) end.Quiet is (λ e. cc)
waiting_panicked {A} (Some index) process is = other_end (end.Panicked process) (waiting_end (Some index)) is (λ e. cc)

rest_panicked : {A : Type 0} (up : Bool) (statuses : List Status) (process : ℕ) → Some (end.Panicked process) ≡ rest_by up statuses → A
rest_panicked {A} true statuses process is = absurd (none_some (end.Panicked process) (sym is))
rest_panicked {A} false statuses process is = waiting_panicked (position is_held statuses) process is

same_panic : (other process : ℕ) → Some (end.Panicked process) ≡ Some (end.Panicked other) → Some (halt.Panicked other) ≡ Some (halt.Panicked process)
same_panic other process is = let same : end.Panicked process ≡ end.Panicked other = some_is (end.Panicked process) (end.Panicked other) is in
    let number : other ≡ process = cc in ap (λ (n : ℕ). Some (halt.Panicked n)) number

halted_by : (by : Option Halt) (wrong : Option ℕ) (statuses : List Status) (process : ℕ) → Some (end.Panicked process) ≡ end_in by wrong statuses → by ≡ Some (halt.Panicked process)
halted_by (Some (halt.Panicked other)) wrong statuses process is = same_panic other process is
halted_by (Some halt.SinkFailed) wrong statuses process is = other_end (end.Panicked process) end.SinkFailed is (λ e. cc)
halted_by (Some (halt.Events other)) wrong statuses process is = other_end (end.Panicked process) (end.Events other) is (λ e. cc)
halted_by (Some (halt.Local other steps)) wrong statuses process is = other_end (end.Panicked process) (end.Local other steps) is (λ e. cc)
halted_by None (Some other) statuses process is = other_end (end.Panicked process) (end.Wrong other) is (λ e. cc)
halted_by None None statuses process is = rest_panicked (some_is_up statuses) statuses process is

end_panicked : (found : End) (code : Code) (post : Post) → Stands code post → Some found ≡ end_in post.halt post.wrong post.statuses.items → PanickedIn (cause_by found) code post
end_panicked (end.Panicked process) code post stands is = (stands, halted_by post.halt post.wrong post.statuses.items process is)
end_panicked end.Quiet code post stands is = tt
end_panicked (end.Waiting process) code post stands is = tt
end_panicked end.SinkFailed code post stands is = tt
end_panicked (end.Events process) code post stands is = tt
end_panicked (end.Local process steps) code post stands is = tt
end_panicked (end.Wrong process) code post stands is = tt

pub ended_panicked : (cause : Cause) (code : Code) (post : Post) (found : End) → Stands code post → Some found ≡ end_in post.halt post.wrong post.statuses.items
    → cause ≡ cause_by found → PanickedIn cause code post
ended_panicked cause code post found stands is same = subst (λ (c : Cause). PanickedIn c code post) (sym same) (end_panicked found code post stands is)

pub at_once_panicked : (cause : Cause) (code : Code) (post : Post) → StopsAtOnce cause → PanickedIn cause code post
at_once_panicked OutOfMemory code post stops = tt
at_once_panicked (Panicked process) code post stops = absurd stops
at_once_panicked cause code post stops = tt

-- where a run stopped for no panic there is no report to speak of

no_panic_reports : (cause : Cause) (code : Code) (limits journal report : List ℕ) → (IsPanic cause → ⊥) → Reports cause code limits journal report
no_panic_reports (Panicked process) code limits journal report none = absurd (none tt)
no_panic_reports cause code limits journal report none = tt

pub none_reports : (stopped cause : Cause) (code : Code) (limits journal report : List ℕ) → StopsAs stopped cause → (IsPanic stopped → ⊥)
    → Reports cause code limits journal report
none_reports stopped cause code limits journal report is none = elim is [
  | inl same ↦ subst (λ (c : Cause). Reports c code limits journal report) (sym same) (no_panic_reports stopped code limits journal report none)
  | inr memory ↦ absurd (none memory.1)
]

-- a run in rounds

rounds_report : (code : Code) (old new : Post) (budget : ℕ) (stop : Stop) (cause : Cause) (journal report : List ℕ) → StopsAs (rounds_cause stop) cause
    → ReportsOf cause code new report → journal ≡ new.journal.entries → Unless stop (stop ≡ stop_in budget (end_in new.halt new.wrong new.statuses.items))
    → Unless stop (Stands code new) → Unless stop (new.limits ≡ old.limits) → Reports cause code old.limits journal report
rounds_report code old new budget (rounds.Ended (end.Panicked process)) cause journal report alike told same ends stands limits =
    stopped_reports (Panicked process) cause code new old.limits journal report alike
    (stands, halted_by new.halt new.wrong new.statuses.items process (stop_end budget _ (end.Panicked process) ends)) told same limits
rounds_report code old new budget (rounds.Ended end.Quiet) cause journal report alike told same ends stands limits =
    none_reports (cause_by end.Quiet) cause code old.limits journal report alike (λ none. none)
rounds_report code old new budget (rounds.Ended (end.Waiting process)) cause journal report alike told same ends stands limits =
    none_reports (cause_by (end.Waiting process)) cause code old.limits journal report alike (λ none. none)
rounds_report code old new budget (rounds.Ended end.SinkFailed) cause journal report alike told same ends stands limits =
    none_reports (cause_by end.SinkFailed) cause code old.limits journal report alike (λ none. none)
rounds_report code old new budget (rounds.Ended (end.Events process)) cause journal report alike told same ends stands limits =
    none_reports (cause_by (end.Events process)) cause code old.limits journal report alike (λ none. none)
rounds_report code old new budget (rounds.Ended (end.Local process steps)) cause journal report alike told same ends stands limits =
    none_reports (cause_by (end.Local process steps)) cause code old.limits journal report alike (λ none. none)
rounds_report code old new budget (rounds.Ended (end.Wrong process)) cause journal report alike told same ends stands limits =
    none_reports (cause_by (end.Wrong process)) cause code old.limits journal report alike (λ none. none)
rounds_report code old new budget (rounds.RoundLimit limit) cause journal report alike told same ends stands limits =
    none_reports (RoundLimit limit) cause code old.limits journal report alike (λ none. none)

pub rounds_reports : (code : Code) (old new : Post) (budget : ℕ) (stop : Stop) (stopped cause : Cause) (journal report : List ℕ) → StopsAs stopped cause
    → stopped ≡ rounds_cause stop → ReportsOf cause code new report → journal ≡ new.journal.entries
    → Unless stop (stop ≡ stop_in budget (end_in new.halt new.wrong new.statuses.items)) → Unless stop (Stands code new)
    → Unless stop (new.limits ≡ old.limits) → Reports cause code old.limits journal report
rounds_reports code old new budget stop stopped cause journal report alike is told same ends stands limits =
    rounds_report code old new budget stop cause journal report (subst (λ (c : Cause). StopsAs c cause) is alike) told same ends stands limits

-- a replay

replay_report : (code : Code) (post : Post) (stop : ReplayStop) (cause : Cause) (limits journal report : List ℕ) → StopsAs (replay_cause stop) cause
    → ReportsOf cause code post report → journal ≡ post.journal.entries → StopsAt stop post → UnlessIt stop (Stands code post)
    → post.limits ≡ limits → Reports cause code limits journal report
replay_report code post (replay.Ended (end.Panicked process)) cause limits journal report alike told same ends stands right =
    stopped_reports (Panicked process) cause code post limits journal report alike
    (stands, halted_by post.halt post.wrong post.statuses.items process (sym ends)) told same right
replay_report code post (replay.Ended end.Quiet) cause limits journal report alike told same ends stands right =
    none_reports (cause_by end.Quiet) cause code limits journal report alike (λ none. none)
replay_report code post (replay.Ended (end.Waiting process)) cause limits journal report alike told same ends stands right =
    none_reports (cause_by (end.Waiting process)) cause code limits journal report alike (λ none. none)
replay_report code post (replay.Ended end.SinkFailed) cause limits journal report alike told same ends stands right =
    none_reports (cause_by end.SinkFailed) cause code limits journal report alike (λ none. none)
replay_report code post (replay.Ended (end.Events process)) cause limits journal report alike told same ends stands right =
    none_reports (cause_by (end.Events process)) cause code limits journal report alike (λ none. none)
replay_report code post (replay.Ended (end.Local process steps)) cause limits journal report alike told same ends stands right =
    none_reports (cause_by (end.Local process steps)) cause code limits journal report alike (λ none. none)
replay_report code post (replay.Ended (end.Wrong process)) cause limits journal report alike told same ends stands right =
    none_reports (cause_by (end.Wrong process)) cause code limits journal report alike (λ none. none)
replay_report code post (replay.JournalEnds process) cause limits journal report alike told same ends stands right =
    none_reports (JournalEnds process) cause code limits journal report alike (λ none. none)
replay_report code post (replay.BadEntry entry) cause limits journal report alike told same ends stands right =
    none_reports (BadEntry entry) cause code limits journal report alike (λ none. none)

pub replay_reports : (code : Code) (post : Post) (stop : ReplayStop) (stopped cause : Cause) (limits journal report : List ℕ) → StopsAs stopped cause
    → stopped ≡ replay_cause stop → ReportsOf cause code post report → journal ≡ post.journal.entries → StopsAt stop post
    → UnlessIt stop (Stands code post) → post.limits ≡ limits → Reports cause code limits journal report
replay_reports code post stop stopped cause limits journal report alike is told same ends stands right =
    replay_report code post stop cause limits journal report (subst (λ (c : Cause). StopsAs c cause) is alike) told same ends stands right
