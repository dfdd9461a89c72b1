-- What a process that comes home finds in its world.
use Rattle.std.proofs.Common.{◌≡◌, ℕ, ◌+◌, ◌<◌, ◌≤◌, Option, None, Some, List, length, refl, ap, sym, ◌∙◌, subst, arith, inl, inr, ◌⊎◌}
use Rattle.std.specs.Prelude.{◌≢◌, IfSome, IsSome}
use Rattle.std.specs.FinMap.{get}
use Rattle.ink_base.specs.declared.ident.ObjectId.{ObjectId}
use Rattle.ink_base.specs.Actions.{Action, SharedState}
use Rattle.ink_base.specs.Actions as action
use Rattle.ink_base.specs.Messages.{Message, front_of}
use Rattle.ink_base.specs.Numbered.{numbered, set_numbered}
use Rattle.ink_base.specs.Objects.{Objects}
use Rattle.ink_code.specs.declared.code.Code.{Code}
use Rattle.ink_code.specs.Owned.{times_there}
use Rattle.ink_code.specs.Process.{Process}
use Rattle.ink_code.specs.Runs.{World, CodeAhead, held_by}
use Rattle.ink_code.specs.Slice as slice
use Rattle.ink_code.specs.Trees.{Parcel}
use Rattle.ink_parcel.specs.Parts.{AreApartFrom}
use Rattle.ink_law_ownership.specs.Names.{StandApart}
use Rattle.ink_law_ownership.proofs.Apart.{heap_le, there_once, message_apart, value_apart}
use Rattle.ink_law_ownership.proofs.Numbers.{number_within}
use Rattle.ink_law_ownership.proofs.Trace.{NamesAt, came}
use Rattle.ink_law_ownership.proofs.Turned.{made_of}
use Rattle.ink_law_ownership.proofs.Worlds.{ahead_apart}
use Rattle.ink_law_runs.specs.CodeMachine.{code_machine, opening_run}
use Rattle.ink_law_runs.proofs.Counted.{code_is_counted}
use Rattle.ink_law_runs.proofs.Replayed.{ahead_back, comes_from}
use Rattle.ink_law_turns.specs.Ahead.{with_process}
use Rattle.ink_law_turns.specs.Machines.{ComesTo, Comes}
use Rattle.ink_law_turns.specs.Turns.{Run}
use Rattle.ink_law_turns.proofs.Numbering.{numbered-set_same, length-set_numbered}
use Rattle.ink_law_worlds.specs.Coming.{ComesHome, IsApartFor, IsFresh, StandsForCode, world_of}
use Rattle.ink_worlds.specs.State.{State, Wants}
use Rattle.ink_worlds.specs.declared.status.Status.TheVariants.{Out}
use Rattle.ink_worlds.proofs.Stands.{at_run, ahead_lent}

pub world_ahead : (code : Code) (limits : List ℕ) (state : State Process Parcel) → (stands : StandsForCode code limits state) → CodeAhead code limits state.journal (world_of stands.run)
world_ahead code limits state stands = ahead_back code limits state.journal (world_of stands.run) stands.ahead

-- a name that goes out of a process of a run is one of a process that is there
module _ (world : World) (apart : StandApart world) (number : ℕ) (p waiting : Process) (parcel : Parcel) (stands : numbered world.processes number ≡ Some p) where
  known : (id : ObjectId) → NamesAt id p waiting parcel.objects → 0 < times_there id parcel.objects → id.process < length world.processes + 1
  known id (inl old) some =
      let heap = heap_le world apart number p stands id in
      let q = made_of id world.processes (apart.made id (omega arith)) in
      (number_within world.processes id.process q.0 q.1).1
  known id (inr (new, once)) some =
      let low = (number_within world.processes number p stands).1 in
      let here = new.process in
      let mine = apart.numbers number p stands in
      omega arith

  unknown : (id : ObjectId) → NamesAt id p waiting parcel.objects → IsSome (get parcel.objects id) → id.process ≢ length world.processes + 1
  unknown id names there same =
      let one = there_once (get parcel.objects id) there in
      let low = known id names (omega arith) in
      omega arith

module _ (code : Code) (limits : List ℕ) (state : State Process Parcel) (process seat : ℕ) (wish : Action Parcel) (p : Process) (stands : StandsForCode code limits state) (home : ComesHome code limits state process seat (Wants wish) p) where
  -- the run in which the process that comes home stands as it came
  abbrev world : World
  world = world_of (with_process process home.before stands.run)

  apart_there : StandApart world
  apart_there =
      ahead_apart code limits state.journal world (ahead_back code limits state.journal world (ahead_lent (code_machine code limits) limits (opening_run code) state stands process seat home.ran home.before home.lent home.stood))

  stands_there : numbered world.processes process ≡ Some home.before
  stands_there =
      let q = at_run (code_machine code limits) limits (opening_run code) state stands process (Out seat home.ran) home.lent in
      numbered-set_same stands.run.processes process home.before q.0 q.1

  as_found : (o : Option (Message Parcel)) → front_of world.shared.mail process ≡ o → IfSome o (λ message. AreApartFrom home.before.objects message.values.objects)
  as_found None is = tt
  as_found (Some message) is = message_apart world apart_there process home.before stands_there message is

  as_held : (future : ℕ) (o : Option Parcel) → held_by (numbered world.shared.futures future) ≡ o → IfSome o (λ parcel. AreApartFrom home.before.objects parcel.objects)
  as_held future None is = tt
  as_held future (Some parcel) is = value_apart world apart_there process home.before stands_there future parcel is

  abbrev TakesApart : SharedState Parcel → Objects → Type 0
  TakesApart shared objects = IfSome (front_of shared.mail process) (λ message. AreApartFrom objects message.values.objects)

  abbrev GetsApart : ℕ → SharedState Parcel → Objects → Type 0
  GetsApart future shared objects = IfSome (held_by (numbered shared.futures future)) (λ parcel. AreApartFrom objects parcel.objects)

  same_objects : p ≡ home.before → home.before.objects ≡ p.objects
  same_objects same = ap (λ (q : Process). q.objects) (sym same)

  take_apart : p ≡ home.before → TakesApart state.shared p.objects
  take_apart same =
      subst (λ (s : SharedState Parcel). TakesApart s p.objects) (sym stands.shared)
      (subst (λ (os : Objects). TakesApart stands.run.shared os) (same_objects same) (as_found (front_of world.shared.mail process) refl))

  get_apart : (future : ℕ) → p ≡ home.before → GetsApart future state.shared p.objects
  get_apart future same =
      subst (λ (s : SharedState Parcel). GetsApart future s p.objects) (sym stands.shared)
      (subst (λ (os : Objects). GetsApart future stands.run.shared os) (same_objects same) (as_held future (held_by (numbered world.shared.futures future)) refl))

  fresh : (kind : ℕ) (parcel : Parcel) → (code_machine code limits).step home.before ≡ Comes (action.Spawn kind parcel) p → (id : ObjectId) → IsSome (get parcel.objects id) → id.process ≢ length state.homes + 1
  fresh kind parcel comes id there =
      let here : ComesTo (code_machine code limits) home.before (action.Spawn kind parcel) p = record { steps = 0; before = home.before; goes = refl; comes = comes } in
      let names = (came code limits home.before p (action.Spawn kind parcel) (comes_from code limits home.before p (action.Spawn kind parcel) here)).2.names id in
      let level : length world.processes ≡ length state.homes = length-set_numbered stands.run.processes process home.before ∙ sym stands.homes in
      let other = unknown world apart_there process home.before p parcel stands_there id names there in
      λ same. other (same ∙ ap (λ (n : ℕ). n + 1) (sym level))

-- by what the process wants
pub apart_for : (code : Code) (limits : List ℕ) (state : State Process Parcel) (process seat : ℕ) (wish : Action Parcel) (p : Process) → StandsForCode code limits state → ComesHome code limits state process seat (Wants wish) p → IsApartFor wish process state.shared p.objects
apart_for code limits state process seat action.Take p stands home = take_apart code limits state process seat action.Take p stands home ((code_is_counted code limits).stays home.before p action.Take home.from refl)
apart_for code limits state process seat (action.GetFuture future) p stands home = get_apart code limits state process seat (action.GetFuture future) p stands home future ((code_is_counted code limits).stays home.before p (action.GetFuture future) home.from refl)
apart_for code limits state process seat (action.Print text) p stands home = tt
apart_for code limits state process seat (action.Spawn kind parcel) p stands home = tt
apart_for code limits state process seat (action.Send to method parcel) p stands home = tt
apart_for code limits state process seat action.NewFuture p stands home = tt
apart_for code limits state process seat (action.SetFuture future parcel) p stands home = tt
apart_for code limits state process seat (action.BreakFuture future) p stands home = tt
apart_for code limits state process seat (action.Panic text) p stands home = tt

pub fresh_for : (code : Code) (limits : List ℕ) (state : State Process Parcel) (process seat : ℕ) (wish : Action Parcel) (p : Process) → StandsForCode code limits state → ComesHome code limits state process seat (Wants wish) p → IsFresh wish (length state.homes + 1)
fresh_for code limits state process seat (action.Spawn kind parcel) p stands home = fresh code limits state process seat (action.Spawn kind parcel) p stands home kind parcel home.from
fresh_for code limits state process seat action.Take p stands home = tt
fresh_for code limits state process seat (action.GetFuture future) p stands home = tt
fresh_for code limits state process seat (action.Print text) p stands home = tt
fresh_for code limits state process seat (action.Send to method parcel) p stands home = tt
fresh_for code limits state process seat action.NewFuture p stands home = tt
fresh_for code limits state process seat (action.SetFuture future parcel) p stands home = tt
fresh_for code limits state process seat (action.BreakFuture future) p stands home = tt
fresh_for code limits state process seat (action.Panic text) p stands home = tt
