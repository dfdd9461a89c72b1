-- What a look finds: a process that can go on, or one that made all steps that it may make.
use Rattle.std.proofs.Common.{◌≡◌, ◌<◌, ℕ, zero, suc, ◌+◌, Bool, true, false, Option, None, Some, Result, Ok, Err, List, [], get_or, inl, inr, refl, ap, sym, ◌∙◌, subst, arith}
use Rattle.std.specs.List.{position, slice_get}
use Rattle.std.specs.Option.{option_map}
use Rattle.std.proofs.lemmas.List.Quantifiers.{position-Some}
use Rattle.std.proofs.lemmas.Option.{get_or_from_slice_get}
use Rattle.ink_base.specs.Actions.{Action, Take, Print, Spawn, Send, NewFuture, SetFuture, BreakFuture, GetFuture, Panic, SharedState, is_enabled}
use Rattle.ink_base.specs.Numbered.{numbered, set_numbered}
use Rattle.ink_code.specs.declared.code.Code.{Code}
use Rattle.ink_code.specs.Process.{Process}
use Rattle.ink_code.specs.Trees.{Parcel}
use Rattle.ink_interp.specs.Slices.{AnswersSlice}
use Rattle.ink_law_replays.proofs.NextLemmas.{held_at_get, idle_at_take, stands_ready}
use Rattle.ink_law_replays.specs.Next.{IsReady, Waits}
use Rattle.ink_law_runs.specs.CodeMachine.{code_machine, opening_run}
use Rattle.ink_law_turns.specs.Ahead.{StandsAt}
use Rattle.ink_law_turns.specs.Machines.{Machine}
use Rattle.ink_law_turns.specs.Turns.{Run}
use Rattle.ink_law_turns.proofs.Numbering.{none_some, numbered-set_other, numbered-suc, numbered_level, some_is}
use Rattle.ink_post.specs.Asks.{ComesAs, came_with, told_came}
use Rattle.ink_post.specs.Turning.{LooksAs, SeesBy, SeesWish}
use Rattle.ink_post.specs.Worlds.{CodeState, Stands, world_of}
use Rattle.ink_post.specs.declared.answer.End.TheVariants as end
use Rattle.ink_post.specs.declared.answer.Looked.TheVariants as looked
use Rattle.ink_post.specs.declared.post.Post.{Post}
use Rattle.ink_post.specs.Ends.{end_in}
use Rattle.ink_post.proofs.Slices.{comes_by}
use Rattle.ink_replay.specs.Calm.{AreAtRest, IsAtRest, NoneReadyBefore}
use Rattle.ink_replay.specs.Ends.{EndsAs, IsLeastReady, WaitsBefore}
use Rattle.ink_replay.proofs.CalmLemmas.{OthersAtRest, rest_set}
use Rattle.ink_statuses.specs.Readings.{is_ready}
use Rattle.ink_steps.specs.declared.stepped.StepFault.{StepFault}
use Rattle.ink_steps.specs.declared.stepped.StepFault.TheVariants as fault
use Rattle.ink_steps.specs.declared.stepped.Stepped.{Stepped}
use Rattle.ink_steps.specs.declared.stepped.Stepped.TheVariants as step
use Rattle.ink_worlds.proofs.Stands.{checks_out}
use Rattle.ink_worlds.specs.State.{Came, back_in, checked_out, waits_at}
use Rattle.ink_worlds.specs.State as w
use Rattle.ink_worlds.specs.declared.halt.Halt.{Halt}
use Rattle.ink_worlds.specs.declared.halt.Halt.TheVariants.{Local}
use Rattle.ink_worlds.specs.declared.status.Status.{Status}
use Rattle.ink_worlds.specs.declared.status.Status.TheVariants.{Ready, Out, Idle, Held, Stopped}

enabled_by : (process : ℕ) (wish : Action Parcel) (q : Process) (old : CodeState) (enabled : Bool) (new : CodeState) → SeesWish process wish q old enabled new looked.Enabled → enabled ≡ true
enabled_by process wish q old true new sees = refl
enabled_by process wish q old false new sees = absurd (let e = sees.0 in cc)

module _ (code : Code) (process : ℕ) (old : Post) (stands : Stands code old) where
  abbrev m : Machine Process Parcel
  m = code_machine code old.limits

  abbrev turned : Run Process Parcel
  turned = stands.1.ahead.turned

  -- a process that came to an action which can be made
  goes_by : (before q : Process) (middle new : CodeState) → StandsAt m old.limits (opening_run code) old.journal.entries process before → (o : Option (Came Parcel)) → ComesAs code old.limits before o q → middle.shared ≡ (world_of old stands.0).shared → SeesBy process o q middle new looked.Enabled → IsReady m turned process
  goes_by before q middle new stood None from same sees = absurd (let e = sees.0 in cc)
  goes_by before q middle new stood (Some w.Went) from same sees = absurd (let e = sees.0 in cc)
  goes_by before q middle new stood (Some w.GivesUp) from same sees = absurd (let e = sees.0 in cc)
  goes_by before q middle new stood (Some (w.Spent steps)) from same sees = absurd (let e = sees.0 in cc)
  goes_by before q middle new stood (Some (w.Wants wish)) from same sees =
      let ahead = stands.1.ahead in
      let shared = same ∙ (stands.1.shared ∙ ahead.shared) in
      stands_ready m old.limits (opening_run code) old.journal.entries ahead.turned process before q wish ahead.turns stood from
      (ap (λ (s : SharedState Parcel). is_enabled wish process s) (sym shared) ∙ enabled_by process wish q middle (is_enabled wish process middle.shared) new sees)

  looks_go : (new : Post) → LooksAs code process old new looked.Enabled → IsReady m turned process
  looks_go new looks =
      let by = looks.lends stands.0 in
      let out = checks_out m old.limits (opening_run code) (world_of old stands.0) process process looks.p stands.1 by.0 by.1 in
      let comes = comes_by code old.limits old.journal.entries process looks.sees.turns looks.p looks.sees.q looks.sees.stepped out.1 out.2
      (subst (λ (l : List ℕ). AnswersSlice looks.sees.turns code l looks.sees.stepped looks.p looks.sees.q) looks.limits looks.sees.sliced) in
      goes_by comes.before looks.sees.q (world_of looks.middle stands.0) (world_of new stands.0) comes.stood (told_came (came_with looks.sees.stepped)) comes.from
      (ap (λ (s : CodeState). s.shared) by.2) (looks.sees.sees stands.0)

  -- the processes before the least that is ready wait
  module _ (rest : AreAtRest old.statuses.items) (first : NoneReadyBefore process old.statuses.items) where
    waits_by : (other : ℕ) (status : Status) → numbered old.statuses.items other ≡ Some status → other < process → Waits m turned other
    waits_by other Ready at low = absurd (first other low at)
    waits_by other (Out seat ran) at low = absurd (rest other (Out seat ran) at)
    waits_by other Idle at low = inl (idle_at_take m old.limits (opening_run code) (world_of old stands.0) stands.1 other at)
    waits_by other (Held future) at low = inr (held_at_get m old.limits (opening_run code) (world_of old stands.0) stands.1 other future at)
    waits_by other Stopped at low = absurd (rest other Stopped at)

    waits : (other : ℕ) (p : Process) → numbered turned.processes other ≡ Some p → other < process → Waits m turned other
    waits other p there low =
        let s = numbered_level turned.processes old.statuses.items other p (sym (stands.1.statuses ∙ stands.1.ahead.count)) there in
        waits_by other s.0 s.1 low

    wait_before : WaitsBefore code old.limits old.journal.entries process
    wait_before = record { run = turned; turns = stands.1.ahead.turns; waits = waits }

    least_ready : (new : Post) → LooksAs code process old new looked.Enabled → IsLeastReady code old.limits old.journal.entries process
    least_ready new looks = record { run = turned; turns = stands.1.ahead.turns; ready = looks_go new looks; waits = waits }

-- how the processes stand where one waits

rest_wish : (wish : Action Parcel) → IsAtRest (waits_at wish)
rest_wish (GetFuture future) = tt
rest_wish Take = tt
rest_wish (Print text) = tt
rest_wish (Spawn kind given) = tt
rest_wish (Send to method values) = tt
rest_wish NewFuture = tt
rest_wish (SetFuture future value) = tt
rest_wish (BreakFuture future) = tt
rest_wish (Panic text) = tt

-- no slice ends with giving up
never_gives : (stepped : Result Stepped StepFault) → told_came (came_with stepped) ≡ Some w.GivesUp → ⊥
never_gives (Ok step.Went) e = cc
never_gives (Ok (step.Wants wish)) e = cc
never_gives (Ok (step.Panics text)) e = cc
never_gives (Ok (step.Spent steps)) e = cc
never_gives (Err (fault.Wrong why)) e = cc
never_gives (Err fault.OutOfMemory) e = cc

module _ (process : ℕ) (q : Process) (old new : CodeState) (others : OthersAtRest process old.statuses) where
  rest_put : (status : Status) → IsAtRest status → new ≡ back_in process q status old → AreAtRest new.statuses
  rest_put status at_rest is =
      subst (λ (s : CodeState). AreAtRest s.statuses) (sym is) (rest_set old.statuses process status at_rest others)

  rest_seen : (wish : Action Parcel) (enabled : Bool) → SeesWish process wish q old enabled new looked.Waits → AreAtRest new.statuses
  rest_seen wish true sees = absurd (let e = sees.0 in cc)
  rest_seen wish false sees = rest_put (waits_at wish) (rest_wish wish) sees.1

  rest_sees : (o : Option (Came Parcel)) → (o ≡ Some w.GivesUp → ⊥) → SeesBy process o q old new looked.Waits → AreAtRest new.statuses
  rest_sees None never sees = absurd (let e = sees.0 in cc)
  rest_sees (Some w.Went) never sees = rest_put Ready tt sees.1
  rest_sees (Some w.GivesUp) never sees = absurd (never refl)
  rest_sees (Some (w.Wants wish)) never sees = rest_seen wish (is_enabled wish process old.shared) sees
  rest_sees (Some (w.Spent steps)) never sees = absurd (let e = sees.0 in cc)

pub look_rests : (code : Code) (process : ℕ) (old new : Post) → AreAtRest old.statuses.items → LooksAs code process old new looked.Waits → AreAtRest new.statuses.items
look_rests code process old new rest looks =
    let by = looks.lends [] in
    let out : looks.middle.statuses.items ≡ set_numbered old.statuses.items process (Out process looks.p.ran) = ap (λ (s : CodeState). s.statuses) by.2 in
    rest_sees process looks.sees.q (world_of looks.middle []) (world_of new [])
    (λ other status differ at. rest other status
    (sym (numbered-set_other old.statuses.items process other (Out process looks.p.ran) differ) ∙ (ap (λ (ss : List Status). numbered ss other) (sym out) ∙ at)))
    (told_came (came_with looks.sees.stepped)) (never_gives looks.sees.stepped) (looks.sees.sees [])

-- what a look finds, in the world that is left

pub look_goes : (code : Code) (process : ℕ) (old new : Post) → Stands code old → AreAtRest old.statuses.items → NoneReadyBefore process old.statuses.items → new.limits ≡ old.limits → new.journal.entries ≡ old.journal.entries → LooksAs code process old new looked.Enabled → IsLeastReady code new.limits new.journal.entries process
look_goes code process old new stands rest first limits journal looks =
    subst (λ (l : List ℕ). IsLeastReady code l new.journal.entries process) (sym limits)
    (subst (λ (js : List ℕ). IsLeastReady code old.limits js process) (sym journal) (least_ready code process old stands rest first new looks))

pub look_waits : (code : Code) (process : ℕ) (old new : Post) → Stands code old → AreAtRest old.statuses.items → NoneReadyBefore process old.statuses.items → new.limits ≡ old.limits → new.journal.entries ≡ old.journal.entries → WaitsBefore code new.limits new.journal.entries process
look_waits code process old new stands rest first limits journal =
    subst (λ (l : List ℕ). WaitsBefore code l new.journal.entries process) (sym limits)
    (subst (λ (js : List ℕ). WaitsBefore code old.limits js process) (sym journal) (wait_before code process old stands rest first))

spent_by : (process steps : ℕ) (q : Process) (old new : CodeState) (o : Option (Came Parcel)) → SeesBy process o q old new (looked.Spent steps) → new.halt ≡ Some (Local process steps)
spent_by process steps q old new None sees = absurd (let e = sees.0 in cc)
spent_by process steps q old new (Some w.Went) sees = absurd (let e = sees.0 in cc)
spent_by process steps q old new (Some w.GivesUp) sees = absurd (let e = sees.0 in cc)
spent_by process steps q old new (Some (w.Wants wish)) sees = spent_wish (is_enabled wish process old.shared) sees
  where
    spent_wish : (enabled : Bool) → SeesWish process wish q old enabled new (looked.Spent steps) → new.halt ≡ Some (Local process steps)
    spent_wish true sees = absurd (let e = sees.0 in cc)
    spent_wish false sees = absurd (let e = sees.0 in cc)
spent_by process steps q old new (Some (w.Spent made)) sees =
    let same : steps ≡ made = spent_same steps made sees.0 in
    ap (λ (s : CodeState). s.halt) sees.1 ∙ ap (λ (n : ℕ). Some (Local process n)) (sym same)
  where
    spent_same : (one other : ℕ) → looked.Spent one ≡ looked.Spent other → one ≡ other
    spent_same one other e = cc

-- where a process made all steps that it may make, the world ended with that
pub look_spends : (code : Code) (process steps : ℕ) (old new : Post) → LooksAs code process old new (looked.Spent steps) → EndsAs (end.Local process steps) new
look_spends code process steps old new looks =
    ap (λ (o : Option Halt). end_in o new.wrong new.statuses.items)
    (spent_by process steps looks.sees.q (world_of looks.middle []) (world_of new []) (told_came (came_with looks.sees.stepped)) (looks.sees.sees []))

-- the least process that is ready has none before it

found_least : (statuses : List Status) (o : Option ℕ) (process : ℕ) → position is_ready statuses ≡ o → Some process ≡ option_map (λ index. index + 1) o → NoneReadyBefore process statuses
found_least statuses None process found is other low at = absurd (none_some process (sym is))
found_least statuses (Some index) process found is zero low at = absurd (none_some Ready at)
found_least statuses (Some index) process found is (suc k) low at =
    let same : process ≡ index + 1 = some_is process (index + 1) is in
    let before : k < index = omega (arith, same, low) in
    let there : slice_get statuses k ≡ Some Ready = sym (numbered-suc statuses k) ∙ at in
    let fails : is_ready (get_or statuses k Ready) ≡ false = (position-Some is_ready statuses index Ready found).2 k before in
    let clash : true ≡ false = ap is_ready (sym (get_or_from_slice_get statuses k Ready Ready there)) ∙ fails in
    cc

pub first_is_least : (statuses : List Status) (process : ℕ) → Some process ≡ option_map (λ index. index + 1) (position is_ready statuses) → NoneReadyBefore process statuses
first_is_least statuses process is = found_least statuses (position is_ready statuses) process refl is
