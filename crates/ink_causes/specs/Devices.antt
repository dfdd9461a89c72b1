-- The devices of a call: what is seen of each, and how a call changed it.
use Rattle.std.specs.Prelude.{◌≡◌, ℕ, ◌<◌, List, Option}
use Rattle.ink_devices.specs.Outside.{Directory, appended, CutsWrite}
use Rattle.ink_devices.specs.declared.faults.Faults.{Faults}

-- what is seen of something before a call, and after it
pub record Change (State : Type 0) : Type 0 where
  pub before : State
  pub after : State

-- files: what they hold, where they tell that, and which of their calls failed
pub record FilesState : Type 0 where
  pub held : Option Directory
  pub reads : Faults
  pub writes : Faults

-- a sink: what it got, where it tells that, and how often it failed
pub record SinkState : Type 0 where
  pub contents : Option (List ℕ)
  pub faults : ℕ

-- what is seen of files and of a sink, by what their types tell of them
abbrev pub files_of : {Files : Type 0} → (Files → Option Directory) → (Files → Faults) → (Files → Faults) → Files → FilesState
files_of held reads writes files = record { held = held files; reads = reads files; writes = writes files }

abbrev pub sink_of : {Sink : Type 0} → (Sink → Option (List ℕ)) → (Sink → ℕ) → Sink → SinkState
sink_of contents faults sink = record { contents = contents sink; faults = faults sink }

-- no file was written
pub record KeepsFiles (files : Change FilesState) : Type 0 where
  pub held : files.after.held ≡ files.before.held
  pub writes : files.after.writes ≡ files.before.writes

-- a sink failed in the call
abbrev pub HasFailed : Change SinkState → Type 0
HasFailed sink = sink.before.faults < sink.after.faults

-- a sink got these bytes whole
pub record Gets (sink : Change SinkState) (bytes : List ℕ) : Type 0 where
  pub contents : sink.after.contents ≡ appended sink.before.contents bytes
  pub faults : sink.after.faults ≡ sink.before.faults

-- a sink failed within these bytes: it got a part of them, cut before their end
pub record Cuts (sink : Change SinkState) (bytes : List ℕ) : Type 0 where
  pub part : CutsWrite sink.before.contents sink.after.contents bytes
  pub failed : HasFailed sink
