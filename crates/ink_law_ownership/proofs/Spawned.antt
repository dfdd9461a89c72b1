-- A process that is to be started can start.
use Rattle.std.proofs.Common.{◌≡◌, ℕ, ◌+◌, ◌<◌, ◌≤◌, Option, Some, List, length, arith, inl, inr, ◌⊎◌}
use Rattle.std.specs.Prelude.{◌≢◌, IsSome}
use Rattle.std.specs.FinMap.{get}
use Rattle.ink_base.specs.declared.ident.ObjectId.{ObjectId}
use Rattle.ink_base.specs.Actions as action
use Rattle.ink_base.specs.Numbered.{numbered}
use Rattle.ink_code.specs.declared.code.Code.{Code}
use Rattle.ink_code.specs.Owned.{times_there}
use Rattle.ink_code.specs.Process.{Process, state_name}
use Rattle.ink_code.specs.Runs.{World, with_state}
use Rattle.ink_code.specs.Slice.{ComesTo}
use Rattle.ink_code.specs.Trees.{Parcel}
use Rattle.ink_proc.specs.Starts.{CanStart}
use Rattle.ink_law_ownership.specs.Names.{StandApart}
use Rattle.ink_law_ownership.proofs.Apart.{heap_le, there_once}
use Rattle.ink_law_ownership.proofs.CutTree.{tree_starts}
use Rattle.ink_law_ownership.proofs.Numbers.{number_within}
use Rattle.ink_law_ownership.proofs.Trace.{NamesAt, came, came_tree}
use Rattle.ink_law_ownership.proofs.Turned.{made_of}

module _ (world : World) (apart : StandApart world) (number : ℕ) (p waiting : Process) (parcel : Parcel) (stands : numbered world.processes number ≡ Some p) where
  -- a name that goes out of a process is one of a process that is there
  known : (id : ObjectId) → NamesAt id p waiting parcel.objects → 0 < times_there id parcel.objects → id.process < length world.processes + 1
  known id (inl old) some =
      let heap = heap_le world apart number p stands id in
      let q = made_of id world.processes (apart.made id (omega arith)) in
      (number_within world.processes id.process q.0 q.1).1
  known id (inr (new, once)) some =
      let low = (number_within world.processes number p stands).1 in
      let here = new.process in
      let mine = apart.numbers number p stands in
      omega arith

  unknown : (id : ObjectId) → NamesAt id p waiting parcel.objects → IsSome (get parcel.objects id) → id.process ≢ length world.processes + 1
  unknown id names there same =
      let one = there_once (get parcel.objects id) there in
      let low = known id names (omega arith) in
      omega arith

pub spawn-starts : (code : Code) (limits : List ℕ) (world : World) → StandApart world → (number : ℕ) (p waiting : Process) (kind : ℕ) (parcel : Parcel) → numbered world.processes number ≡ Some p → ComesTo code limits p (action.Spawn kind parcel) waiting → CanStart (length world.processes + 1) (state_name (length world.processes + 1)) (with_state (length world.processes + 1) kind parcel)
spawn-starts code limits world apart number p waiting kind parcel stands comes =
    let c = came code limits p waiting (action.Spawn kind parcel) comes in
    tree_starts (length world.processes + 1) kind parcel (came_tree code limits p waiting kind parcel comes) (λ id there.
    unknown world apart number p waiting parcel stands id (c.2.names id) there)
