-- What the cause means that a run stopped for, from what its world says of its end.
use Rattle.std.proofs.Common.{◌≡◌, ℕ, inl, inr, List, Option, None, Some, refl, sym, subst, length, take}
use Rattle.std.proofs.Math.Seq.{take-length}
use Rattle.ink_causes.specs.declared.cause.Cause.{Cause}
use Rattle.ink_causes.specs.declared.cause.Cause.TheVariants.{OutOfMemory, Panicked, Wrong}
use Rattle.ink_code.specs.declared.code.Code.{Code}
use Rattle.ink_law_turns.proofs.Numbering.{some_is}
use Rattle.ink_post.proofs.MeaningLemmas.{ends_mean, ends_same}
use Rattle.ink_post.specs.Ends.{end_in}
use Rattle.ink_post.specs.Meaning.{Ends}
use Rattle.ink_post.specs.Worlds.{Stands}
use Rattle.ink_post.specs.declared.answer.End.{End}
use Rattle.ink_post.specs.declared.answer.End.TheVariants as end
use Rattle.ink_post.specs.declared.post.Post.{Post}
use Rattle.ink_replay.specs.Ends.{Means}
use Rattle.ink_replay.specs.Entries.{Begins}
use Rattle.ink_replay.specs.Refusals.{Refuses}
use Rattle.ink_replay.specs.Stops.{MadeBy}
use Rattle.ink_replay.specs.declared.replaying.ReplayStop.{ReplayStop}
use Rattle.ink_replay.specs.declared.replaying.ReplayStop.TheVariants as replay
use Rattle.ink_rounds.specs.Stops.{stop_in, UnlessWrong as Unless}
use Rattle.ink_rounds.specs.declared.running.Stop.{Stop}
use Rattle.ink_rounds.specs.declared.running.Stop.TheVariants as rounds
use Rattle.ink_worlds.specs.declared.halt.Halt.{Halt}
use Rattle.ink_worlds.specs.declared.status.Status.{Status}
use Rattle.ink_commands.specs.Meanings.{CauseMeans, MeansWrong, ReplayMeans}
use Rattle.ink_commands.specs.Runs.{IsPanic, StopsAs, cause_by, replay_cause, rounds_cause}
use Rattle.ink_commands.proofs.Written.{stop_end}

wrong_means_in : (code : Code) (limits : List ℕ) (rounds : Option ℕ) (journal : List ℕ) (process : ℕ) → Ends code limits journal (end.Wrong process)
    → MeansWrong rounds code limits journal process
wrong_means_in code limits None journal process ends = ends
wrong_means_in code limits (Some most) journal process ends = tt

-- an end means the cause that it is
pub end_means : (code : Code) (limits : List ℕ) (rounds : Option ℕ) (journal : List ℕ) (found : End) → Ends code limits journal found
    → CauseMeans code limits rounds journal (cause_by found)
end_means code limits rounds journal end.Quiet ends = ends
end_means code limits rounds journal (end.Waiting process) ends = ends
end_means code limits rounds journal (end.Panicked process) ends = ends
end_means code limits rounds journal end.SinkFailed ends = tt
end_means code limits rounds journal (end.Events process) ends = ends
end_means code limits rounds journal (end.Local process steps) ends = ends
end_means code limits rounds journal (end.Wrong process) ends = wrong_means_in code limits rounds journal process ends

pub ended_means : (cause : Cause) (code : Code) (post : Post) (found : End) → Some found ≡ end_in post.halt post.wrong post.statuses.items → Stands code post
    → post.wrong ≡ None → cause ≡ cause_by found → CauseMeans code post.limits None post.journal.entries cause
ended_means cause code post found is stands right same =
    subst (λ (c : Cause). CauseMeans code post.limits None post.journal.entries c) (sym same)
    (end_means code post.limits None post.journal.entries found (ends_mean code post (Some found) is stands right))

-- a cause that takes the place of a panic means nothing further
pub means_as : (stopped cause : Cause) (code : Code) (limits : List ℕ) (rounds : Option ℕ) (journal : List ℕ) → StopsAs stopped cause
    → CauseMeans code limits rounds journal stopped → CauseMeans code limits rounds journal cause
means_as stopped cause code limits rounds journal is means = elim is [
  | inl same ↦ subst (λ (c : Cause). CauseMeans code limits rounds journal c) (sym same) means
  | inr memory ↦ (let none : CauseMeans code limits rounds journal OutOfMemory = tt in subst (λ (c : Cause). CauseMeans code limits rounds journal c) (sym memory.0) none)
]

pub stopped_means : (stopped cause : Cause) (code : Code) (new : Post) (limits : List ℕ) (rounds : Option ℕ) (journal : List ℕ) → StopsAs stopped cause
    → CauseMeans code new.limits rounds new.journal.entries stopped → new.limits ≡ limits → journal ≡ new.journal.entries
    → CauseMeans code limits rounds journal cause
stopped_means stopped cause code new limits rounds journal is means right same =
    means_as stopped cause code limits rounds journal is
    (subst (λ (j : List ℕ). CauseMeans code limits rounds j stopped) (sym same)
    (subst (λ (l : List ℕ). CauseMeans code l rounds new.journal.entries stopped) right means))

-- a code that was found wrong, in the world that is left
pub wrong_means : (code : Code) (process : ℕ) (old new : Post) → new.limits ≡ old.limits → new.journal.entries ≡ old.journal.entries
    → Ends code old.limits old.journal.entries (end.Wrong process) → CauseMeans code new.limits None new.journal.entries (Wrong process)
wrong_means code process old new limits journal ends =
    ends_same code new.limits old.limits new.journal.entries old.journal.entries (end.Wrong process) (sym limits) (sym journal) ends

-- the stop of a run in rounds

-- an end at which no code was found wrong is the end where none was
right_end : (by : Option Halt) (wrong : Option ℕ) (statuses : List Status) (found : End) → ((process : ℕ) → found ≡ end.Wrong process → ⊥)
    → Some found ≡ end_in by wrong statuses → Some found ≡ end_in by None statuses
right_end (Some ended) wrong statuses found differ is = is
right_end None None statuses found differ is = is
right_end None (Some process) statuses found differ is = absurd (differ process (some_is found (end.Wrong process) is))

-- a world as it is where no code was found wrong
abbrev righted : Post → Post
righted post = record {
  homes = post.homes;
  statuses = post.statuses;
  mail = post.mail;
  futures = post.futures;
  journal = post.journal;
  text = post.text;
  halt = post.halt;
  wrong = None;
  limits = post.limits;
  alloc = post.alloc;
  few = post.few;
  homes_level = post.homes_level;
  mail_level = post.mail_level;
}

right_means : (code : Code) (post : Post) (found : End) → ((process : ℕ) → found ≡ end.Wrong process → ⊥)
    → Some found ≡ end_in post.halt post.wrong post.statuses.items → Stands code post → Ends code post.limits post.journal.entries found
right_means code post found differ is stands =
    ends_mean code (righted post) (Some found) (right_end post.halt post.wrong post.statuses.items found differ is) stands refl

limit_is : (budget limit : ℕ) (found : Option End) → rounds.RoundLimit limit ≡ stop_in budget found → Some budget ≡ Some limit
limit_is budget limit None is = cc
limit_is budget limit (Some found) is = absurd (cc)

rounds_mean : (code : Code) (post : Post) (budget : ℕ) (stop : Stop) → Unless stop (stop ≡ stop_in budget (end_in post.halt post.wrong post.statuses.items))
    → Unless stop (Stands code post) → CauseMeans code post.limits (Some budget) post.journal.entries (rounds_cause stop)
rounds_mean code post budget (rounds.Ended end.Quiet) is stands =
    right_means code post end.Quiet (λ process e. cc) (stop_end budget _ end.Quiet is) stands
rounds_mean code post budget (rounds.Ended (end.Waiting process)) is stands =
    right_means code post (end.Waiting process) (λ other e. cc) (stop_end budget _ (end.Waiting process) is) stands
rounds_mean code post budget (rounds.Ended (end.Panicked process)) is stands =
    right_means code post (end.Panicked process) (λ other e. cc) (stop_end budget _ (end.Panicked process) is) stands
rounds_mean code post budget (rounds.Ended end.SinkFailed) is stands = tt
rounds_mean code post budget (rounds.Ended (end.Events process)) is stands =
    right_means code post (end.Events process) (λ other e. cc) (stop_end budget _ (end.Events process) is) stands
rounds_mean code post budget (rounds.Ended (end.Local process steps)) is stands =
    right_means code post (end.Local process steps) (λ other e. cc) (stop_end budget _ (end.Local process steps) is) stands
rounds_mean code post budget (rounds.Ended (end.Wrong process)) is stands = tt
rounds_mean code post budget (rounds.RoundLimit limit) is stands = limit_is budget limit _ is

-- with the limits of before
rounds_mean_on : (code : Code) (old new : Post) (budget : ℕ) (stop : Stop) → Unless stop (new.limits ≡ old.limits)
    → CauseMeans code new.limits (Some budget) new.journal.entries (rounds_cause stop)
    → CauseMeans code old.limits (Some budget) new.journal.entries (rounds_cause stop)
rounds_mean_on code old new budget (rounds.Ended (end.Wrong process)) limits means = tt
rounds_mean_on code old new budget (rounds.Ended end.Quiet) limits means = ends_same code old.limits new.limits new.journal.entries new.journal.entries end.Quiet limits refl means
rounds_mean_on code old new budget (rounds.Ended (end.Waiting process)) limits means =
    ends_same code old.limits new.limits new.journal.entries new.journal.entries (end.Waiting process) limits refl means
rounds_mean_on code old new budget (rounds.Ended (end.Panicked process)) limits means =
    ends_same code old.limits new.limits new.journal.entries new.journal.entries (end.Panicked process) limits refl means
rounds_mean_on code old new budget (rounds.Ended end.SinkFailed) limits means = tt
rounds_mean_on code old new budget (rounds.Ended (end.Events process)) limits means =
    ends_same code old.limits new.limits new.journal.entries new.journal.entries (end.Events process) limits refl means
rounds_mean_on code old new budget (rounds.Ended (end.Local process steps)) limits means =
    ends_same code old.limits new.limits new.journal.entries new.journal.entries (end.Local process steps) limits refl means
rounds_mean_on code old new budget (rounds.RoundLimit limit) limits means = means

pub rounds_stopped_means : (code : Code) (old new : Post) (budget : ℕ) (stop : Stop) (stopped cause : Cause) (journal : List ℕ) → StopsAs stopped cause
    → stopped ≡ rounds_cause stop → journal ≡ new.journal.entries → Unless stop (stop ≡ stop_in budget (end_in new.halt new.wrong new.statuses.items))
    → Unless stop (Stands code new) → Unless stop (new.limits ≡ old.limits) → CauseMeans code old.limits (Some budget) journal cause
rounds_stopped_means code old new budget stop stopped cause journal taken is same ends stands limits =
    let here : CauseMeans code old.limits (Some budget) new.journal.entries (rounds_cause stop) =
    rounds_mean_on code old new budget stop limits (rounds_mean code new budget stop ends stands) in
    subst (λ (j : List ℕ). CauseMeans code old.limits (Some budget) j cause) (sym same)
    (means_as stopped cause code old.limits (Some budget) new.journal.entries taken
    (subst (λ (c : Cause). CauseMeans code old.limits (Some budget) new.journal.entries c) (sym is) here))

-- without memory a run in rounds means nothing further
pub memory_means : (cause : Cause) (code : Code) (limits : List ℕ) (rounds : Option ℕ) (journal : List ℕ) → StopsAs OutOfMemory cause
    → CauseMeans code limits rounds journal cause
memory_means cause code limits rounds journal is =
    means_as OutOfMemory cause code limits rounds journal is (let none : CauseMeans code limits rounds journal OutOfMemory = tt in none)

-- the stop of a replay

replay_means : (code : Code) (limits entries journal : List ℕ) (stop : ReplayStop) → Means code limits journal stop → MadeBy code limits stop entries journal
    → Refuses code limits stop entries → ReplayMeans code limits entries journal (replay_cause stop)
replay_means code limits entries journal (replay.Ended end.Quiet) means made refuses = (means, made)
replay_means code limits entries journal (replay.Ended (end.Waiting process)) means made refuses = (means, made)
replay_means code limits entries journal (replay.Ended (end.Panicked process)) means made refuses = (means, made)
replay_means code limits entries journal (replay.Ended end.SinkFailed) means made refuses = made
replay_means code limits entries journal (replay.Ended (end.Events process)) means made refuses = (means, made.0, made.1)
replay_means code limits entries journal (replay.Ended (end.Local process steps)) means made refuses = (means, made)
replay_means code limits entries journal (replay.Ended (end.Wrong process)) means made refuses = (means, made)
replay_means code limits entries journal (replay.JournalEnds process) means made refuses = (means, made)
replay_means code limits entries journal (replay.BadEntry entry) means made refuses = (made, refuses)

begins_all : (entries journal : List ℕ) → journal ≡ entries → Begins entries journal
begins_all entries journal same = subst (λ (e : List ℕ). journal ≡ take (length journal) e) same (sym (take-length journal))

panic_begins : (stopped : Cause) (code : Code) (limits entries journal : List ℕ) → IsPanic stopped → ReplayMeans code limits entries journal stopped → Begins entries journal
panic_begins (Panicked process) code limits entries journal panic means = begins_all entries journal means.1
panic_begins cause code limits entries journal panic means = absurd panic

pub replay_stopped_means : (code : Code) (limits entries : List ℕ) (post : Post) (stop : ReplayStop) (stopped cause : Cause) (journal : List ℕ) → StopsAs stopped cause
    → stopped ≡ replay_cause stop → journal ≡ post.journal.entries → Means code limits post.journal.entries stop
    → MadeBy code limits stop entries post.journal.entries → Refuses code limits stop entries → ReplayMeans code limits entries journal cause
replay_stopped_means code limits entries post stop stopped cause journal taken is same means made refuses =
    let made_to : List ℕ = post.journal.entries in
    let here : ReplayMeans code limits entries made_to stopped =
    subst (λ (c : Cause). ReplayMeans code limits entries made_to c) (sym is) (replay_means code limits entries made_to stop means made refuses) in
    subst (λ (j : List ℕ). ReplayMeans code limits entries j cause) (sym same) (elim taken [
      | inl alike ↦ subst (λ (c : Cause). ReplayMeans code limits entries made_to c) (sym alike) here
      | inr memory ↦ (let begins : ReplayMeans code limits entries made_to OutOfMemory = panic_begins stopped code limits entries made_to memory.1 here in
          subst (λ (c : Cause). ReplayMeans code limits entries made_to c) (sym memory.0) begins)
    ])
