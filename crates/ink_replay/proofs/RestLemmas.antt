-- What is kept from one world to another, and what a stop means.
use Rattle.std.proofs.Common.{◌≡◌, ℕ, inl, inr, List, [], ◌+◌, Option, None, Some, Bool, true, false, refl, ap, sym, ◌∙◌, subst}
use Rattle.std.specs.List.{position}
use Rattle.ink_code.specs.declared.code.Code.{Code}
use Rattle.ink_law_runs.specs.CodeMachine.{opening_run}
use Rattle.ink_law_turns.proofs.Numbering.{none_some, some_is}
use Rattle.ink_post.specs.Ends.{end_in, rest_by, some_is_up, waiting_end}
use Rattle.ink_post.specs.Meaning.{Ends}
use Rattle.ink_post.specs.Worlds.{CodeState, Stands, world_of}
use Rattle.ink_post.specs.declared.answer.End.{End}
use Rattle.ink_post.specs.declared.answer.End.TheVariants as end
use Rattle.ink_post.specs.declared.post.Post.{Post}
use Rattle.ink_post.proofs.MeaningLemmas.{ends_mean}
use Rattle.ink_replay.specs.Ends.{EndsAs, StopsAt}
use Rattle.ink_replay.specs.Entries.{EndsIn, KeepsTo}
use Rattle.ink_replay.specs.Keeps.{GotWhole, IsUncut, Keeps, StopsWrong}
use Rattle.ink_replay.specs.Refusals.{Refuses}
use Rattle.ink_replay.specs.Stops.{Behind, FindsStop, KeepsUntil, MadeBy, MadeTo, StandsBehind, UncutAt, UnlessWrong, WroteBy}
use Rattle.ink_replay.specs.declared.replaying.ReplayStop.{ReplayStop}
use Rattle.ink_replay.specs.declared.replaying.ReplayStop.TheVariants as stop
use Rattle.ink_replay.proofs.EndLemmas.{uncut_as, whole, whole_by}
use Rattle.ink_run.specs.Sinks.{SinkState}
use Rattle.ink_run.specs.Written.{IsWritten}
use Rattle.ink_run.proofs.Written.{gets_nothing}
use Rattle.ink_statuses.specs.Readings.{is_held}
use Rattle.ink_worlds.specs.State.{first_state}
use Rattle.ink_worlds.specs.declared.halt.Halt.{Halt}
use Rattle.ink_worlds.specs.declared.halt.Halt.TheVariants as halt
use Rattle.ink_worlds.specs.declared.status.Status.{Status}

pub keeps_first : (code : Code) (post : Post) (sink : SinkState) → Stands code post → Keeps code post post sink sink
keeps_first code post sink stands = record { stands = stands; limits = refl; wrong = refl; written = λ first written. written }

pub keeps_then : (code : Code) (old middle new : Post) (before between after : SinkState) → Keeps code old middle before between → Keeps code middle new between after → Keeps code old new before after
keeps_then code old middle new before between after first then = record {
  stands = then.stands;
  limits = then.limits ∙ first.limits;
  wrong = then.wrong ∙ first.wrong;
  written = λ sink written. then.written sink (first.written sink written);
}

wrong_then : (code : Code) (process : ℕ) (old middle new : Post) (before between after : SinkState) → Keeps code old middle before between → StopsWrong code process middle new between after → StopsWrong code process old new before after
wrong_then code process old middle new before between after first then = record {
  limits = then.limits ∙ first.limits;
  ends = then.ends;
  wrote = λ sink written. then.wrote sink (first.written sink written);
}

module _ (code : Code) (old middle new : Post) (before between after : SinkState) (first : Keeps code old middle before between) where
  further : Keeps code middle new between after → Keeps code old new before after
  further then = keeps_then code old middle new before between after first then

  pub finds_then : (found : Option ReplayStop) → FindsStop code found middle new between after → FindsStop code found old new before after
  finds_then None finds = (further finds.0, finds.1, finds.2)
  finds_then (Some (stop.Ended (end.Local process steps))) finds = (further finds.0, finds.1, finds.2)
  finds_then (Some (stop.Ended (end.Wrong process))) finds = wrong_then code process old middle new before between after first finds
  finds_then (Some (stop.JournalEnds process)) finds = (further finds.0, finds.1, finds.2)
  finds_then (Some (stop.Ended end.Quiet)) finds = absurd finds
  finds_then (Some (stop.Ended (end.Waiting process))) finds = absurd finds
  finds_then (Some (stop.Ended (end.Panicked process))) finds = absurd finds
  finds_then (Some (stop.Ended end.SinkFailed)) finds = absurd finds
  finds_then (Some (stop.Ended (end.Events process))) finds = absurd finds
  finds_then (Some (stop.BadEntry entry)) finds = absurd finds

  pub until_then : (found : ReplayStop) → KeepsUntil code found middle new between after → KeepsUntil code found old new before after
  until_then (stop.Ended (end.Wrong process)) keeps = wrong_then code process old middle new before between after first keeps
  until_then (stop.Ended end.Quiet) keeps = further keeps
  until_then (stop.Ended (end.Waiting process)) keeps = further keeps
  until_then (stop.Ended (end.Panicked process)) keeps = further keeps
  until_then (stop.Ended end.SinkFailed) keeps = further keeps
  until_then (stop.Ended (end.Events process)) keeps = further keeps
  until_then (stop.Ended (end.Local process steps)) keeps = further keeps
  until_then (stop.JournalEnds process) keeps = further keeps
  until_then (stop.BadEntry entry) keeps = further keeps

-- the end of a world that nothing ended but a panic

other_end : {A : Type 0} (one other : End) → Some one ≡ Some other → (one ≡ other → ⊥) → A
other_end {A} one other same differ = absurd (differ (some_is one other same))

never_end : {A : Type 0} (one : End) → Some one ≡ None → A
never_end {A} one same = absurd (none_some one (sym same))

abbrev IsOpen : End → Type 0
IsOpen end.Quiet = Unit {0}
IsOpen (end.Waiting process) = Unit {0}
IsOpen (end.Panicked process) = Unit {0}
IsOpen other = ⊥

open_as : (found one : End) → Some found ≡ Some one → IsOpen one → IsOpen found
open_as found one is at = subst IsOpen (sym (some_is found one is)) at

open_rest : (found : End) (up : Bool) (statuses : List Status) → Some found ≡ rest_by up statuses → IsOpen found
open_rest found true statuses is = never_end found is
open_rest found false statuses is = by_held (position is_held statuses) is
  where
    by_held : (held : Option ℕ) → Some found ≡ Some (waiting_end held) → IsOpen found
    by_held None is = open_as found end.Quiet is tt
    by_held (Some index) is = open_as found (end.Waiting (index + 1)) is tt

open_end : (found : End) (by : Option Halt) (wrong : Option ℕ) (statuses : List Status) → Some found ≡ end_in by wrong statuses → IsUncut by → wrong ≡ None → IsOpen found
open_end found (Some (halt.Panicked process)) wrong statuses is uncut right = open_as found (end.Panicked process) is tt
open_end found (Some halt.SinkFailed) wrong statuses is uncut right = absurd uncut
open_end found (Some (halt.Events process)) wrong statuses is uncut right = absurd uncut
open_end found (Some (halt.Local process steps)) wrong statuses is uncut right = absurd uncut
open_end found None (Some process) statuses is uncut right = absurd (none_some process (sym right))
open_end found None None statuses is uncut right = open_rest found (some_is_up statuses) statuses is

pub behind_end : (code : Code) (old new : Post) (found : End) (before after : SinkState) → Keeps code old new before after → Some found ≡ end_in new.halt new.wrong new.statuses.items → IsUncut new.halt → new.wrong ≡ None → Behind code (stop.Ended found) old new before after
behind_end code old new found before after keeps is uncut right =
    by_end found (open_end found new.halt new.wrong new.statuses.items is uncut right) (sym is) (ends_mean code new (Some found) is keeps.stands right)
  where
    by_end : (found : End) → IsOpen found → end_in new.halt new.wrong new.statuses.items ≡ Some found → Ends code new.limits new.journal.entries found → Behind code (stop.Ended found) old new before after
    by_end end.Quiet at is ends = record { keeps = keeps; at = is; means = ends; stands = tt; uncut = tt }
    by_end (end.Waiting process) at is ends = record { keeps = keeps; at = is; means = ends; stands = tt; uncut = tt }
    by_end (end.Panicked process) at is ends = record { keeps = keeps; at = is; means = ends; stands = tt; uncut = tt }
    by_end end.SinkFailed at is ends = absurd at
    by_end (end.Events process) at is ends = absurd at
    by_end (end.Local process steps) at is ends = absurd at
    by_end (end.Wrong process) at is ends = absurd at

-- a stop that was found
pub behind_found : (code : Code) (old new : Post) (found : ReplayStop) (before after : SinkState) → old.wrong ≡ None → FindsStop code (Some found) old new before after → Behind code found old new before after
behind_found code old new (stop.Ended (end.Local process steps)) before after right finds = record {
  keeps = finds.0;
  at = finds.1;
  means = ends_mean code new (Some (end.Local process steps)) (sym finds.1) finds.0.stands (finds.0.wrong ∙ right);
  stands = finds.2;
  uncut = tt;
}
behind_found code old new (stop.Ended (end.Wrong process)) before after right finds = record { keeps = finds; at = tt; means = finds.ends; stands = tt; uncut = tt }
behind_found code old new (stop.JournalEnds process) before after right finds = record {
  keeps = finds.0;
  at = tt;
  means = finds.2;
  stands = tt;
  uncut = uncut_as new.halt None finds.1 tt;
}
behind_found code old new (stop.Ended end.Quiet) before after right finds = absurd finds
behind_found code old new (stop.Ended (end.Waiting process)) before after right finds = absurd finds
behind_found code old new (stop.Ended (end.Panicked process)) before after right finds = absurd finds
behind_found code old new (stop.Ended end.SinkFailed) before after right finds = absurd finds
behind_found code old new (stop.Ended (end.Events process)) before after right finds = absurd finds
behind_found code old new (stop.BadEntry entry) before after right finds = absurd finds

-- where a run goes on, nothing ended it
goes_by : (by : Option Halt) (wrong : Option ℕ) (statuses : List Status) → None ≡ end_in by wrong statuses → by ≡ None
goes_by None wrong statuses is = refl
goes_by (Some ended) wrong statuses is = absurd (cc)

pub goes_on : (post : Post) → None ≡ end_in post.halt post.wrong post.statuses.items → post.halt ≡ None
goes_on post is = goes_by post.halt post.wrong post.statuses.items is

-- the entries that were made

pub made_in : (code : Code) (limits : List ℕ) (found : End) (given made : List ℕ) → EndsIn found given made → MadeTo code limits found given made
made_in code limits end.SinkFailed given made ends = ends
made_in code limits (end.Events process) given made ends = ends
made_in code limits (end.Local process steps) given made ends = inr ends
made_in code limits (end.Wrong process) given made ends = inr ends
made_in code limits end.Quiet given made ends = absurd ends
made_in code limits (end.Waiting process) given made ends = absurd ends
made_in code limits (end.Panicked process) given made ends = absurd ends

pub made_behind : (code : Code) (found : ReplayStop) (post : Post) (given : List ℕ) → StandsBehind code found post → post.journal.entries ≡ given → MadeBy code post.limits found given post.journal.entries
made_behind code (stop.Ended (end.Local process steps)) post given stands made = inl (made, stands)
made_behind code (stop.Ended (end.Wrong process)) post given stands made = inl made
made_behind code (stop.Ended end.Quiet) post given stands made = made
made_behind code (stop.Ended (end.Waiting process)) post given stands made = made
made_behind code (stop.Ended (end.Panicked process)) post given stands made = made
made_behind code (stop.Ended (end.Events process)) post given stands made = absurd stands
made_behind code (stop.Ended end.SinkFailed) post given stands made = absurd stands
made_behind code (stop.JournalEnds process) post given stands made = made
made_behind code (stop.BadEntry entry) post given stands made = absurd stands

pub refuses_behind : (code : Code) (limits : List ℕ) (found : ReplayStop) (post : Post) (given : List ℕ) → StandsBehind code found post → Refuses code limits found given
refuses_behind code limits (stop.Ended found) post given stands = tt
refuses_behind code limits (stop.JournalEnds process) post given stands = tt
refuses_behind code limits (stop.BadEntry entry) post given stands = absurd stands

-- what an end means that an entry came to
pub ended_means : (code : Code) (found : End) (old new : Post) (before after : SinkState) → old.wrong ≡ None → KeepsTo code found old new before after → EndsAs found new → Ends code new.limits new.journal.entries found
ended_means code (end.Wrong process) old new before after right keeps is = keeps.ends
ended_means code end.Quiet old new before after right keeps is = ends_mean code new (Some end.Quiet) (sym is) keeps.stands (keeps.wrong ∙ right)
ended_means code (end.Waiting process) old new before after right keeps is = ends_mean code new (Some (end.Waiting process)) (sym is) keeps.stands (keeps.wrong ∙ right)
ended_means code (end.Panicked process) old new before after right keeps is = ends_mean code new (Some (end.Panicked process)) (sym is) keeps.stands (keeps.wrong ∙ right)
ended_means code end.SinkFailed old new before after right keeps is = ends_mean code new (Some end.SinkFailed) (sym is) keeps.stands (keeps.wrong ∙ right)
ended_means code (end.Events process) old new before after right keeps is = ends_mean code new (Some (end.Events process)) (sym is) keeps.stands (keeps.wrong ∙ right)
ended_means code (end.Local process steps) old new before after right keeps is = ends_mean code new (Some (end.Local process steps)) (sym is) keeps.stands (keeps.wrong ∙ right)

-- the parts of what is kept up to a stop

module _ (code : Code) (old new : Post) (before after : SinkState) where
  pub until_limits : (found : ReplayStop) → KeepsUntil code found old new before after → new.limits ≡ old.limits
  until_limits (stop.Ended (end.Wrong process)) keeps = keeps.limits
  until_limits (stop.Ended end.Quiet) keeps = keeps.limits
  until_limits (stop.Ended (end.Waiting process)) keeps = keeps.limits
  until_limits (stop.Ended (end.Panicked process)) keeps = keeps.limits
  until_limits (stop.Ended end.SinkFailed) keeps = keeps.limits
  until_limits (stop.Ended (end.Events process)) keeps = keeps.limits
  until_limits (stop.Ended (end.Local process steps)) keeps = keeps.limits
  until_limits (stop.JournalEnds process) keeps = keeps.limits
  until_limits (stop.BadEntry entry) keeps = keeps.limits

  pub until_stands : (found : ReplayStop) → KeepsUntil code found old new before after → UnlessWrong found (Stands code new)
  until_stands (stop.Ended (end.Wrong process)) keeps = tt
  until_stands (stop.Ended end.Quiet) keeps = keeps.stands
  until_stands (stop.Ended (end.Waiting process)) keeps = keeps.stands
  until_stands (stop.Ended (end.Panicked process)) keeps = keeps.stands
  until_stands (stop.Ended end.SinkFailed) keeps = keeps.stands
  until_stands (stop.Ended (end.Events process)) keeps = keeps.stands
  until_stands (stop.Ended (end.Local process steps)) keeps = keeps.stands
  until_stands (stop.JournalEnds process) keeps = keeps.stands
  until_stands (stop.BadEntry entry) keeps = keeps.stands

  pub until_written : (found : ReplayStop) (first : SinkState) → IsWritten code old first before → KeepsUntil code found old new before after → UnlessWrong found (IsWritten code new first after)
  until_written (stop.Ended (end.Wrong process)) first written keeps = tt
  until_written (stop.Ended end.Quiet) first written keeps = keeps.written first written
  until_written (stop.Ended (end.Waiting process)) first written keeps = keeps.written first written
  until_written (stop.Ended (end.Panicked process)) first written keeps = keeps.written first written
  until_written (stop.Ended end.SinkFailed) first written keeps = keeps.written first written
  until_written (stop.Ended (end.Events process)) first written keeps = keeps.written first written
  until_written (stop.Ended (end.Local process steps)) first written keeps = keeps.written first written
  until_written (stop.JournalEnds process) first written keeps = keeps.written first written
  until_written (stop.BadEntry entry) first written keeps = keeps.written first written

  -- an end that is no failure of the sink
  unfailed : (found : End) → end_in new.halt new.wrong new.statuses.items ≡ Some found → (end.SinkFailed ≡ found → ⊥) → new.halt ≡ Some halt.SinkFailed → ⊥
  unfailed found ends differ is =
      let both : Some end.SinkFailed ≡ Some found = sym (ap (λ (h : Option Halt). end_in h new.wrong new.statuses.items) is) ∙ ends in
      differ (some_is end.SinkFailed found both)

  kept_whole : (found : End) (first : SinkState) → IsWritten code old first before → Keeps code old new before after → end_in new.halt new.wrong new.statuses.items ≡ Some found → (end.SinkFailed ≡ found → ⊥) → GotWhole code new.limits new.journal.entries first after
  kept_whole found first written keeps ends differ = whole_by code new first after (unfailed found ends differ) (keeps.written first written)

  pub until_wrote : (found : ReplayStop) (first : SinkState) → IsWritten code old first before → KeepsUntil code found old new before after → StopsAt found new → UncutAt found new → WroteBy code new.limits new.journal.entries found first after
  until_wrote (stop.Ended end.SinkFailed) first written keeps at uncut = tt
  until_wrote (stop.Ended (end.Wrong process)) first written keeps at uncut = keeps.wrote first written
  until_wrote (stop.Ended end.Quiet) first written keeps at uncut = kept_whole end.Quiet first written keeps at (λ e. cc)
  until_wrote (stop.Ended (end.Waiting process)) first written keeps at uncut = kept_whole (end.Waiting process) first written keeps at (λ e. cc)
  until_wrote (stop.Ended (end.Panicked process)) first written keeps at uncut = kept_whole (end.Panicked process) first written keeps at (λ e. cc)
  until_wrote (stop.Ended (end.Events process)) first written keeps at uncut = kept_whole (end.Events process) first written keeps at (λ e. cc)
  until_wrote (stop.Ended (end.Local process steps)) first written keeps at uncut = kept_whole (end.Local process steps) first written keeps at (λ e. cc)
  until_wrote (stop.JournalEnds process) first written keeps at uncut = whole code new first after uncut (keeps.written first written)
  until_wrote (stop.BadEntry entry) first written keeps at uncut = whole code new first after uncut (keeps.written first written)

-- where a run begins nothing ended it, and nothing went out

pub begins_uncut : (code : Code) (post : Post) → world_of post [] ≡ first_state (opening_run code) → IsUncut post.halt
begins_uncut code post begins = uncut_as post.halt None (ap (λ (s : CodeState). s.halt) begins) tt

pub nothing_whole : (code : Code) (limits : List ℕ) (sink : SinkState) → GotWhole code limits [] sink sink
nothing_whole code limits sink = record { run = opening_run code; turns = refl; gets = gets_nothing sink }
