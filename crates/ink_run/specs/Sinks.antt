-- A sink as plain data, and what a line makes of it.
use Rattle.std.specs.Prelude.{◌≡◌, ℕ, List, Option}
use Rattle.ink_devices.specs.Outside.{appended, CountsFault, CutsWrite}

-- what a sink got, where it tells that, and how often it failed
pub record SinkState : Type 0 where
  pub contents : Option (List ℕ)
  pub faults : ℕ

-- what is seen of a sink, by what its type tells of it
abbrev pub sink_of : {Sink : Type 0} → (Sink → Option (List ℕ)) → (Sink → ℕ) → Sink → SinkState
sink_of contents faults sink = record { contents = contents sink; faults = faults sink }

-- a sink got these bytes whole
pub record Gets (before after : SinkState) (bytes : List ℕ) : Type 0 where
  pub contents : after.contents ≡ appended before.contents bytes
  pub faults : after.faults ≡ before.faults

-- a sink failed within these bytes: it got a part of them, cut before their end
pub record Cuts (before after : SinkState) (bytes : List ℕ) : Type 0 where
  pub part : CutsWrite before.contents after.contents bytes
  pub failed : CountsFault before.faults after.faults
