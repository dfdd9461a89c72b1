-- What a run wrote, from what its world says of its sink.
use Rattle.std.proofs.Common.{◌≡◌, ℕ, ◌<◌, inl, inr, List, [], Option, None, Some, Bool, true, false, refl, sym, ap, subst, ◌∙◌}
use Rattle.std.specs.List.{position}
use Rattle.ink_code.specs.declared.code.Code.{Code}
use Rattle.ink_devices.specs.Outside.{greatest_count}
use Rattle.ink_law_runs.specs.CodeMachine.{opening_run}
use Rattle.ink_causes.proofs.Sinks.{appended-nothing, counted}
use Rattle.ink_causes.specs.Devices.{Change, SinkState}
use Rattle.ink_causes.specs.declared.cause.Cause.{Cause}
use Rattle.ink_causes.specs.declared.cause.Cause.TheVariants.{OutOfMemory, Panicked, Wrong}
use Rattle.ink_post.specs.Ends.{end_by, end_in, rest_by, some_is_up, waiting_end}
use Rattle.ink_post.specs.Worlds.{Stands}
use Rattle.ink_post.specs.declared.answer.End.{End}
use Rattle.ink_post.specs.declared.answer.End.TheVariants as end
use Rattle.ink_post.specs.declared.post.Post.{Post}
use Rattle.ink_replay.specs.Ends.{StopsAt}
use Rattle.ink_replay.specs.Keeps.{GotWhole}
use Rattle.ink_replay.specs.Stops.{UnlessWrong as UnlessIt, WroteBy}
use Rattle.ink_replay.specs.declared.replaying.ReplayStop.{ReplayStop}
use Rattle.ink_replay.specs.declared.replaying.ReplayStop.TheVariants as replay
use Rattle.ink_rounds.specs.Homes.{LeavesOn}
use Rattle.ink_rounds.specs.Stops.{stop_in, UnlessWrong as Unless}
use Rattle.ink_rounds.specs.declared.running.Stop.{Stop}
use Rattle.ink_rounds.specs.declared.running.Stop.TheVariants as rounds
use Rattle.ink_run.specs.Sinks as run
use Rattle.ink_run.specs.Written.{GotBy, IsWritten, IsCutIn, KeepsWritten}
use Rattle.ink_statuses.specs.Readings.{is_held}
use Rattle.ink_worlds.specs.declared.halt.Halt.{Halt}
use Rattle.ink_worlds.specs.declared.halt.Halt.TheVariants as halt
use Rattle.ink_worlds.specs.declared.status.Status.{Status}
use Rattle.ink_commands.specs.Runs.{IsPanic, IsUncut, RanCode, Replays, ReplaysCut, ReplaysSome, WroteRounds, replay_cause, rounds_cause, StopsAs, StopsAtOnce, StillReplays, StopsReplay, StopsRun, WritesUpTo, Wrote, WroteAll, WroteFrom, cause_by, seen}

pub stands_written : (code : Code) (post : Post) (before after : run.SinkState) → IsWritten code post before after → Stands code post
stands_written code post before after written = (written.output, written.stands)

-- the sink got the output whole, unless it failed

got_whole : (code : Code) (limits journal output : List ℕ) (by : Option Halt) (before after : run.SinkState) → IsUncut by
    → GotBy code limits journal output by before after → run.Gets before after output
got_whole code limits journal output None before after uncut got = got
got_whole code limits journal output (Some (halt.Panicked process)) before after uncut got = got
got_whole code limits journal output (Some halt.SinkFailed) before after uncut got = absurd uncut
got_whole code limits journal output (Some (halt.Events process)) before after uncut got = got
got_whole code limits journal output (Some (halt.Local process steps)) before after uncut got = got

pub whole : (code : Code) (post : Post) (first after : run.SinkState) → IsUncut post.halt → IsWritten code post first after
    → Replays code post.limits post.journal.entries (record { before = seen first; after = seen after })
whole code post first after uncut written =
    let ahead = written.stands.ahead in
    let same : written.output ≡ ahead.turned.shared.output = ap (λ s. s.output) (written.stands.shared ∙ ahead.shared) in
    let got : run.Gets first after written.output =
    got_whole code post.limits post.journal.entries written.output post.halt first after uncut written.got in
    let gets : run.Gets first after ahead.turned.shared.output = subst (λ (o : List ℕ). run.Gets first after o) same got in
    record { run = ahead.turned; turns = ahead.turns; gets = record { contents = gets.contents; faults = gets.faults } }

got_cut : (code : Code) (limits journal output : List ℕ) (by : Option Halt) (before after : run.SinkState) → by ≡ Some halt.SinkFailed
    → GotBy code limits journal output by before after → IsCutIn code limits journal output before after
got_cut code limits journal output by before after failed got =
    let here : GotBy code limits journal output (Some halt.SinkFailed) before after =
    subst (λ (h : Option Halt). GotBy code limits journal output h before after) failed got in here

pub cut : (code : Code) (post : Post) (first after : run.SinkState) → post.halt ≡ Some halt.SinkFailed → first.faults < greatest_count
    → IsWritten code post first after → ReplaysCut code post.limits post.journal.entries (record { before = seen first; after = seen after })
cut code post first after failed below written =
    let ahead = written.stands.ahead in
    let same : written.output ≡ ahead.turned.shared.output = ap (λ s. s.output) (written.stands.shared ∙ ahead.shared) in
    let got : IsCutIn code post.limits post.journal.entries written.output first after =
    got_cut code post.limits post.journal.entries written.output post.halt first after failed written.got in
    record {
      earlier = got.earlier;
      last = got.last;
      entries = got.entries;
      run = got.run;
      turns = got.turns;
      whole = ahead.turned;
      all_turns = ahead.turns;
      line = got.line;
      prints = sym same ∙ got.whole;
      count = got.count;
      cut = got.cut;
      contents = got.contents;
      failed = counted first.faults after.faults below got.failed;
    }

-- the end of a world, and what was written by then

some_injective : (A : Type 0) (a b : A) → Some a ≡ Some b → a ≡ b
some_injective A a b e = cc

never_some : {A B : Type 0} (a : A) → Some a ≡ None → B
never_some {A} {B} a e = absurd cc

-- by what ended the run
wrote_by : (code : Code) (limits journal : List ℕ) (first after : run.SinkState) (by : Option Halt) (wrong : Option ℕ) (statuses : List Status) (found : End)
    → Some found ≡ end_in by wrong statuses → (IsUncut by → Replays code limits journal (record { before = seen first; after = seen after }))
    → (by ≡ Some halt.SinkFailed → ReplaysCut code limits journal (record { before = seen first; after = seen after }))
    → WroteFrom (cause_by found) code limits journal first after
wrote_by code limits journal first after (Some (halt.Panicked process)) wrong statuses found is uncut cuts =
    subst (λ (e : End). WroteFrom (cause_by e) code limits journal first after) (sym (some_injective End found (end.Panicked process) is)) (uncut tt)
wrote_by code limits journal first after (Some halt.SinkFailed) wrong statuses found is uncut cuts =
    subst (λ (e : End). WroteFrom (cause_by e) code limits journal first after) (sym (some_injective End found end.SinkFailed is)) (cuts refl)
wrote_by code limits journal first after (Some (halt.Events process)) wrong statuses found is uncut cuts =
    subst (λ (e : End). WroteFrom (cause_by e) code limits journal first after) (sym (some_injective End found (end.Events process) is)) (uncut tt)
wrote_by code limits journal first after (Some (halt.Local process steps)) wrong statuses found is uncut cuts =
    subst (λ (e : End). WroteFrom (cause_by e) code limits journal first after) (sym (some_injective End found (end.Local process steps) is)) (uncut tt)
wrote_by code limits journal first after None (Some process) statuses found is uncut cuts =
    subst (λ (e : End). WroteFrom (cause_by e) code limits journal first after) (sym (some_injective End found (end.Wrong process) is)) (uncut tt)
wrote_by code limits journal first after None None statuses found is uncut cuts =
    at_rest code limits journal first after (some_is_up statuses) statuses found is (uncut tt)
  where
    resting : (code : Code) (limits journal : List ℕ) (first after : run.SinkState) (held : Option ℕ)
        → Replays code limits journal (record { before = seen first; after = seen after }) → WroteFrom (cause_by (waiting_end held)) code limits journal first after
    resting code limits journal first after None replays = replays
    resting code limits journal first after (Some index) replays = replays

    at_rest : (code : Code) (limits journal : List ℕ) (first after : run.SinkState) (up : Bool) (statuses : List Status) (found : End) → Some found ≡ rest_by up statuses
        → Replays code limits journal (record { before = seen first; after = seen after }) → WroteFrom (cause_by found) code limits journal first after
    at_rest code limits journal first after true statuses found is replays = never_some found is
    at_rest code limits journal first after false statuses found is replays =
        subst (λ (e : End). WroteFrom (cause_by e) code limits journal first after)
        (sym (some_injective End found (waiting_end (position is_held statuses)) is)) (resting code limits journal first after (position is_held statuses) replays)

pub ended : (code : Code) (post : Post) (first after : run.SinkState) (found : End) → Some found ≡ end_in post.halt post.wrong post.statuses.items
    → first.faults < greatest_count → IsWritten code post first after → WroteFrom (cause_by found) code post.limits post.journal.entries first after
ended code post first after found is below written =
    wrote_by code post.limits post.journal.entries first after post.halt post.wrong post.statuses.items found is
    (λ uncut. whole code post first after uncut written) (λ failed. cut code post first after failed below written)

-- where a run goes on, nothing failed
uncut_by : (by : Option Halt) (wrong : Option ℕ) (statuses : List Status) → None ≡ end_in by wrong statuses → IsUncut by
uncut_by None wrong statuses goes = tt
uncut_by (Some by) wrong statuses goes = never_some (end_by by) (sym goes)

pub goes_uncut : (post : Post) → None ≡ end_in post.halt post.wrong post.statuses.items → IsUncut post.halt
goes_uncut post goes = uncut_by post.halt post.wrong post.statuses.items goes

pub end_stops : (found : End) → StopsRun (cause_by found)
end_stops end.Quiet = tt
end_stops (end.Waiting process) = tt
end_stops (end.Panicked process) = tt
end_stops end.SinkFailed = tt
end_stops (end.Events process) = tt
end_stops (end.Local process steps) = tt
end_stops (end.Wrong process) = tt

-- a cause for which a run stops at once, or in place of a panic

pub at_once : (cause : Cause) (code : Code) (limits journal : List ℕ) (out : Change SinkState) → StopsAtOnce cause → Replays code limits journal out
    → Wrote cause code limits journal out
at_once OutOfMemory code limits journal out stops replays = replays
at_once (Wrong process) code limits journal out stops replays = replays
at_once cause code limits journal out stops replays = absurd stops

pub at_once_stops : (cause : Cause) → StopsAtOnce cause → StopsRun cause
at_once_stops OutOfMemory stops = tt
at_once_stops (Wrong process) stops = tt
at_once_stops cause stops = absurd stops

panic_replays : (stopped : Cause) (code : Code) (limits journal : List ℕ) (out : Change SinkState) → IsPanic stopped → Wrote stopped code limits journal out
    → Replays code limits journal out
panic_replays (Panicked process) code limits journal out panic wrote = wrote
panic_replays cause code limits journal out panic wrote = absurd panic

pub wrote_as : (stopped cause : Cause) (code : Code) (limits journal : List ℕ) (out : Change SinkState) → StopsAs stopped cause
    → Wrote stopped code limits journal out → Wrote cause code limits journal out
wrote_as stopped cause code limits journal out is wrote = elim is [
  | inl same ↦ subst (λ (c : Cause). Wrote c code limits journal out) (sym same) wrote
  | inr memory ↦ subst (λ (c : Cause). Wrote c code limits journal out) (sym memory.0) (panic_replays stopped code limits journal out memory.1 wrote)
]

pub stops_as : (stopped cause : Cause) → StopsAs stopped cause → StopsRun stopped → StopsRun cause
stops_as stopped cause is stops = elim is [
  | inl same ↦ subst StopsRun (sym same) stops
  | inr memory ↦ (let here : StopsRun OutOfMemory = tt in subst StopsRun (sym memory.0) here)
]

pub stops_replay_as : (stopped cause : Cause) → StopsAs stopped cause → StopsReplay stopped → StopsReplay cause
stops_replay_as stopped cause is stops = elim is [
  | inl same ↦ subst StopsReplay (sym same) stops
  | inr memory ↦ (let here : StopsReplay OutOfMemory = tt in subst StopsReplay (sym memory.0) here)
]

-- a run that goes on

-- what went out is the output of the journal still, and the world is ahead of it
pub record GoesOn (code : Code) (old new : Post) (before after : run.SinkState) : Type 0 where
  pub stands : Stands code new
  pub limits : new.limits ≡ old.limits
  pub right : new.wrong ≡ old.wrong
  pub written : KeepsWritten code old new before after

pub goes_first : (code : Code) (post : Post) (before : run.SinkState) → Stands code post → GoesOn code post post before before
goes_first code post before stands = record { stands = stands; limits = refl; right = refl; written = λ first written. written }

pub goes_next : (code : Code) (old middle new : Post) (before between after : run.SinkState) → GoesOn code old middle before between
    → Stands code new → new.limits ≡ middle.limits → new.wrong ≡ middle.wrong → KeepsWritten code middle new between after → GoesOn code old new before after
goes_next code old middle new before between after goes stands limits right keeps = record {
  stands = stands;
  limits = limits ∙ goes.limits;
  right = right ∙ goes.right;
  written = λ first written. keeps first (goes.written first written);
}

-- it stops at once
pub stops_now : (cause : Cause) (code : Code) (old middle new : Post) (before between after : run.SinkState) → GoesOn code old middle before between
    → IsUncut middle.halt → StopsAtOnce cause → StillReplays code middle new between after → WritesUpTo cause code old new before after
stops_now cause code old middle new before between after goes uncut stops still = λ first below written.
    at_once cause code new.limits new.journal.entries (record { before = seen first; after = seen after }) stops
    (still first uncut (goes.written first written))

-- it stops where no process goes on
pub stops_here : (cause : Cause) (code : Code) (old new : Post) (before after : run.SinkState) → GoesOn code old new before after
    → WroteAll cause code new after → WritesUpTo cause code old new before after
stops_here cause code old new before after goes wrote = λ first below written. wrote first below (goes.written first written)

-- an action that isn't made
pub unmade_replays : (code : Code) (old new : Post) (before after : run.SinkState) → new.halt ≡ old.halt → KeepsWritten code old new before after
    → StillReplays code old new before after
unmade_replays code old new before after same keeps = λ first uncut written.
    whole code new first after (subst IsUncut (sym same) uncut) (keeps first written)

-- a code that is found wrong
pub wrong_replays : (code : Code) (old new : Post) (before after : run.SinkState) → new.limits ≡ old.limits → new.journal.entries ≡ old.journal.entries
    → after ≡ before → StillReplays code old new before after
wrong_replays code old new before after limits journal same = λ first uncut written.
    let here = whole code old first before uncut written in
    subst (λ (l : List ℕ). Replays code l new.journal.entries (record { before = seen first; after = seen after })) (sym limits)
    (subst (λ (j : List ℕ). Replays code old.limits j (record { before = seen first; after = seen after })) (sym journal)
    (subst (λ (s : run.SinkState). Replays code old.limits old.journal.entries (record { before = seen first; after = seen s })) (sym same) here))

-- no process goes on, and there is no end
pub memory_wrote : (code : Code) (post : Post) (after : run.SinkState) → None ≡ end_in post.halt post.wrong post.statuses.items → WroteAll OutOfMemory code post after
memory_wrote code post after goes = λ first below written. whole code post first after (goes_uncut post goes) written

pub end_wrote : (cause : Cause) (code : Code) (post : Post) (after : run.SinkState) (found : End) → Some found ≡ end_in post.halt post.wrong post.statuses.items
    → cause ≡ cause_by found → WroteAll cause code post after
end_wrote cause code post after found is same = λ first below written.
    subst (λ (c : Cause). WroteFrom c code post.limits post.journal.entries first after) (sym same) (ended code post first after found is below written)

-- a run in rounds, or a replay

pub stop_end : (budget : ℕ) (end : Option End) (found : End) → rounds.Ended found ≡ stop_in budget end → Some found ≡ end
stop_end budget None found is = absurd (cc)
stop_end budget (Some end) found is = cc

pub no_end : (budget limit : ℕ) (end : Option End) → rounds.RoundLimit limit ≡ stop_in budget end → None ≡ end
no_end budget limit None is = refl
no_end budget limit (Some end) is = absurd (cc)

-- where a sink got what the journal of a world says, whole or cut
pub some_written : (code : Code) (post : Post) (first after : run.SinkState) → first.faults < greatest_count → IsWritten code post first after
    → ReplaysSome code post.limits post.journal.entries (record { before = seen first; after = seen after })
some_written code post first after below written = by_halt post.halt refl
  where
    by_halt : (by : Option Halt) → post.halt ≡ by → ReplaysSome code post.limits post.journal.entries (record { before = seen first; after = seen after })
    by_halt None is = (let uncut : IsUncut None = tt in inl (whole code post first after (subst IsUncut (sym is) uncut) written))
    by_halt (Some (halt.Panicked process)) is = (let uncut : IsUncut (Some (halt.Panicked process)) = tt in inl (whole code post first after (subst IsUncut (sym is) uncut) written))
    by_halt (Some halt.SinkFailed) is = inr (cut code post first after is below written)
    by_halt (Some (halt.Events process)) is = (let uncut : IsUncut (Some (halt.Events process)) = tt in inl (whole code post first after (subst IsUncut (sym is) uncut) written))
    by_halt (Some (halt.Local process steps)) is = (let uncut : IsUncut (Some (halt.Local process steps)) = tt in inl (whole code post first after (subst IsUncut (sym is) uncut) written))

-- a world further on, with the limits of before, that ended
ended_on : (code : Code) (old new : Post) (first before after : run.SinkState) (found : End) → first.faults < greatest_count
    → Some found ≡ end_in new.halt new.wrong new.statuses.items → KeepsWritten code old new before after → new.limits ≡ old.limits
    → IsWritten code old first before → WroteFrom (cause_by found) code old.limits new.journal.entries first after
ended_on code old new first before after found below is keeps limits written =
    subst (λ (l : List ℕ). WroteFrom (cause_by found) code l new.journal.entries first after) limits
    (ended code new first after found is below (keeps first written))

-- what a run in rounds wrote, by its stop
rounds_wrote : (code : Code) (old new : Post) (first before after : run.SinkState) (budget : ℕ) (stop : Stop) → first.faults < greatest_count
    → Unless stop (stop ≡ stop_in budget (end_in new.halt new.wrong new.statuses.items)) → Unless stop (KeepsWritten code old new before after)
    → Unless stop (new.limits ≡ old.limits) → IsWritten code old first before
    → WroteRounds (rounds_cause stop) code old.limits new.journal.entries (record { before = seen first; after = seen after })
rounds_wrote code old new first before after budget (rounds.Ended (end.Wrong process)) below is keeps limits written = tt
rounds_wrote code old new first before after budget (rounds.Ended end.Quiet) below is keeps limits written =
    ended_on code old new first before after end.Quiet below (stop_end budget _ end.Quiet is) keeps limits written
rounds_wrote code old new first before after budget (rounds.Ended (end.Waiting process)) below is keeps limits written =
    ended_on code old new first before after (end.Waiting process) below (stop_end budget _ (end.Waiting process) is) keeps limits written
rounds_wrote code old new first before after budget (rounds.Ended (end.Panicked process)) below is keeps limits written =
    ended_on code old new first before after (end.Panicked process) below (stop_end budget _ (end.Panicked process) is) keeps limits written
rounds_wrote code old new first before after budget (rounds.Ended end.SinkFailed) below is keeps limits written =
    ended_on code old new first before after end.SinkFailed below (stop_end budget _ end.SinkFailed is) keeps limits written
rounds_wrote code old new first before after budget (rounds.Ended (end.Events process)) below is keeps limits written =
    ended_on code old new first before after (end.Events process) below (stop_end budget _ (end.Events process) is) keeps limits written
rounds_wrote code old new first before after budget (rounds.Ended (end.Local process steps)) below is keeps limits written =
    ended_on code old new first before after (end.Local process steps) below (stop_end budget _ (end.Local process steps) is) keeps limits written
rounds_wrote code old new first before after budget (rounds.RoundLimit limit) below is keeps limits written =
    subst (λ (l : List ℕ). Replays code l new.journal.entries (record { before = seen first; after = seen after })) limits
    (whole code new first after (goes_uncut new (no_end budget limit _ is)) (keeps first written))

-- what went out whole
pub whole_replays : (code : Code) (limits journal : List ℕ) (first after : run.SinkState) → GotWhole code limits journal first after
    → Replays code limits journal (record { before = seen first; after = seen after })
whole_replays code limits journal first after got =
    record { run = got.run; turns = got.turns; gets = record { contents = got.gets.contents; faults = got.gets.faults } }

-- and what a replay did
replay_wrote : (code : Code) (limits : List ℕ) (post : Post) (first after : run.SinkState) (stop : ReplayStop) → first.faults < greatest_count
    → StopsAt stop post → UnlessIt stop (IsWritten code post first after) → post.limits ≡ limits
    → WroteBy code limits post.journal.entries stop first after
    → Wrote (replay_cause stop) code limits post.journal.entries (record { before = seen first; after = seen after })
replay_wrote code limits post first after (replay.Ended end.SinkFailed) below is written same wrote =
    subst (λ (l : List ℕ). WroteFrom (cause_by end.SinkFailed) code l post.journal.entries first after) same (ended code post first after end.SinkFailed (sym is) below written)
replay_wrote code limits post first after (replay.Ended (end.Wrong process)) below is written same wrote =
    whole_replays code limits post.journal.entries first after wrote
replay_wrote code limits post first after (replay.Ended end.Quiet) below is written same wrote =
    whole_replays code limits post.journal.entries first after wrote
replay_wrote code limits post first after (replay.Ended (end.Waiting process)) below is written same wrote =
    whole_replays code limits post.journal.entries first after wrote
replay_wrote code limits post first after (replay.Ended (end.Panicked process)) below is written same wrote =
    whole_replays code limits post.journal.entries first after wrote
replay_wrote code limits post first after (replay.Ended (end.Events process)) below is written same wrote =
    whole_replays code limits post.journal.entries first after wrote
replay_wrote code limits post first after (replay.Ended (end.Local process steps)) below is written same wrote =
    whole_replays code limits post.journal.entries first after wrote
replay_wrote code limits post first after (replay.JournalEnds process) below is written same wrote =
    whole_replays code limits post.journal.entries first after wrote
replay_wrote code limits post first after (replay.BadEntry entry) below is written same wrote =
    whole_replays code limits post.journal.entries first after wrote

-- want of memory for a report in place of a panic
panic_rounds : (stopped : Cause) (code : Code) (limits journal : List ℕ) (out : Change SinkState) → IsPanic stopped → WroteRounds stopped code limits journal out
    → WroteRounds OutOfMemory code limits journal out
panic_rounds (Panicked process) code limits journal out panic wrote = inl wrote
panic_rounds cause code limits journal out panic wrote = absurd panic

pub rounds_as : (stopped cause : Cause) (code : Code) (limits journal : List ℕ) (out : Change SinkState) → StopsAs stopped cause
    → WroteRounds stopped code limits journal out → WroteRounds cause code limits journal out
rounds_as stopped cause code limits journal out is wrote = elim is [
  | inl same ↦ subst (λ (c : Cause). WroteRounds c code limits journal out) (sym same) wrote
  | inr memory ↦ subst (λ (c : Cause). WroteRounds c code limits journal out) (sym memory.0) (panic_rounds stopped code limits journal out memory.1 wrote)
]

-- what a run in rounds came to that stopped, and one that had no memory
pub rounds_stopped : (code : Code) (old new : Post) (first before after : run.SinkState) (budget : ℕ) (stop : Stop) (stopped cause : Cause) (journal : List ℕ)
    → StopsAs stopped cause → stopped ≡ rounds_cause stop → journal ≡ new.journal.entries → first.faults < greatest_count
    → Unless stop (stop ≡ stop_in budget (end_in new.halt new.wrong new.statuses.items)) → Unless stop (KeepsWritten code old new before after)
    → Unless stop (new.limits ≡ old.limits) → IsWritten code old first before
    → WroteRounds cause code old.limits journal (record { before = seen first; after = seen after })
rounds_stopped code old new first before after budget stop stopped cause journal taken is same below ends keeps limits written =
    let O : Change SinkState = record { before = seen first; after = seen after } in
    let here = rounds_wrote code old new first before after budget stop below ends keeps limits written in
    let stops : WroteRounds stopped code old.limits new.journal.entries O = subst (λ (c : Cause). WroteRounds c code old.limits new.journal.entries O) (sym is) here in
    subst (λ (j : List ℕ). WroteRounds cause code old.limits j O) (sym same) (rounds_as stopped cause code old.limits new.journal.entries O taken stops)

pub rounds_failed : (code : Code) (old new : Post) (first before after : run.SinkState) (cause : Cause) (journal : List ℕ)
    → StopsAs OutOfMemory cause → journal ≡ new.journal.entries → first.faults < greatest_count → LeavesOn code old new before after
    → IsWritten code old first before → WroteRounds cause code old.limits journal (record { before = seen first; after = seen after })
rounds_failed code old new first before after cause journal taken same below leaves written =
    let O : Change SinkState = record { before = seen first; after = seen after } in
    let here : WroteRounds OutOfMemory code new.limits new.journal.entries O = some_written code new first after below (leaves.written first written) in
    let right : WroteRounds OutOfMemory code old.limits new.journal.entries O = subst (λ (l : List ℕ). WroteRounds OutOfMemory code l new.journal.entries O) leaves.limits here in
    subst (λ (j : List ℕ). WroteRounds cause code old.limits j O) (sym same) (rounds_as OutOfMemory cause code old.limits new.journal.entries O taken right)

-- and what a replay came to that stopped
pub replay_stopped : (code : Code) (limits : List ℕ) (post : Post) (first after : run.SinkState) (stop : ReplayStop) (stopped cause : Cause) (journal : List ℕ)
    → StopsAs stopped cause → stopped ≡ replay_cause stop → journal ≡ post.journal.entries → first.faults < greatest_count
    → StopsAt stop post → UnlessIt stop (IsWritten code post first after) → post.limits ≡ limits → WroteBy code limits post.journal.entries stop first after
    → Wrote cause code limits journal (record { before = seen first; after = seen after })
replay_stopped code limits post first after stop stopped cause journal taken is same below ends written right wrote =
    let O : Change SinkState = record { before = seen first; after = seen after } in
    let here = replay_wrote code limits post first after stop below ends written right wrote in
    let stops : Wrote stopped code limits post.journal.entries O = subst (λ (c : Cause). Wrote c code limits post.journal.entries O) (sym is) here in
    subst (λ (j : List ℕ). Wrote cause code limits j O) (sym same) (wrote_as stopped cause code limits post.journal.entries O taken stops)

-- nothing was run

nothing : (code : Code) (limits journal : List ℕ) (out : Change SinkState) → journal ≡ [] → out.after ≡ out.before → Replays code limits journal out
nothing code limits journal out none same =
    let R : SinkState → Type 0 = λ after. Replays code limits journal (record { before = out.before; after = after }) in
    subst R (sym same) (subst (λ (j : List ℕ). Replays code limits j (record { before = out.before; after = out.before })) (sym none)
    (record { run = opening_run code; turns = refl; gets = record { contents = appended-nothing out.before.contents; faults = refl } }))

pub ran_not : (code : Code) (limits : List ℕ) (rounds : Option ℕ) (cause : Cause) (journal : List ℕ) (out : Change SinkState) → cause ≡ OutOfMemory
    → journal ≡ [] → out.after ≡ out.before → RanCode code limits rounds cause journal out
ran_not code limits rounds cause journal out memory none same =
    subst (λ (c : Cause). RanCode code limits rounds c journal out) (sym memory) (by_rounds code limits rounds journal out (nothing code limits journal out none same))
  where
    by_rounds : (code : Code) (limits : List ℕ) (rounds : Option ℕ) (journal : List ℕ) (out : Change SinkState) → Replays code limits journal out
        → RanCode code limits rounds OutOfMemory journal out
    by_rounds code limits None journal out replays = record { stops = tt; means = tt; wrote = replays }
    by_rounds code limits (Some rounds) journal out replays = record { stops = tt; means = tt; wrote = inl replays }
