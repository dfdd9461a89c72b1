-- How a cause is told on a sink, and what cause then holds.
use Rattle.std.specs.Prelude.{◌≡◌, ℕ, ◌<◌, ◌⊎◌, List, [], ◌++◌, length, take}
use Rattle.ink_devices.specs.Outside.{CountsFault, appended, CutsWrite}
use Rattle.ink_causes.specs.Causes.{cause_text}
use Rattle.ink_causes.specs.Devices.{Change, SinkState, HasFailed, Gets, Cuts}
use Rattle.ink_causes.specs.declared.cause.Cause.{Cause}
use Rattle.ink_causes.specs.declared.cause.Cause.TheVariants.{Quiet, Accepted, Written, WriteFault, OutOfMemory}

-- a line was tried once: the sink got it whole, or failed within it
abbrev pub TriesLine : List ℕ → Change SinkState → Type 0
TriesLine line sink =
    Gets sink line
    ⊎ (CutsWrite sink.before.contents sink.after.contents line × CountsFault sink.before.faults sink.after.faults)

-- the first bytes of a text, perhaps none, perhaps all
abbrev pub IsFront : List ℕ → List ℕ → Type 0
IsFront front text = (count : ℕ) × (front ≡ take count text)

-- the first bytes of a text, and not all
abbrev pub IsCutFront : List ℕ → List ℕ → Type 0
IsCutFront front text = (count : ℕ) × (count < length text) × (front ≡ take count text)

-- A sink failed within one text, and then got another one or a front of it.
pub record Replaces (sink : Change SinkState) (text other : List ℕ) : Type 0 where
  pub failed : HasFailed sink
  pub part : List ℕ
  pub is-part : IsCutFront part text
  pub front : List ℕ
  pub is-front : IsFront front other
  pub contents : sink.after.contents ≡ appended sink.before.contents (part ++ front)

-- A cause whose text takes memory is told, and what cause then holds: the same, or there was no memory for the text,
-- or the sink failed within it. What then holds is told in its place, by a text that takes no memory.
abbrev pub TellsMade : Cause → Cause → List ℕ → List ℕ → Change SinkState → Type 0
TellsMade cause told name report err =
    ((told ≡ cause) × Gets err (cause_text cause name report))
    ⊎ ((told ≡ OutOfMemory) × (Gets err (cause_text OutOfMemory name report) ⊎ Cuts err (cause_text OutOfMemory name report)))
    ⊎ ((told ≡ WriteFault) × Replaces err (cause_text cause name report) (cause_text WriteFault name report))

-- a cause whose text takes no memory is told, by one try, and holds in any case
abbrev pub TellsFixed : Cause → Cause → List ℕ → List ℕ → Change SinkState → Type 0
TellsFixed cause told name report err =
    (told ≡ cause) × (Gets err (cause_text cause name report) ⊎ Cuts err (cause_text cause name report))

-- a cause of which nothing is told
abbrev pub TellsNothing : Cause → Cause → Change SinkState → Type 0
TellsNothing cause told err = (told ≡ cause) × (err.after ≡ err.before)

-- how a cause is told, and what cause then holds
abbrev pub Tells : Cause → Cause → List ℕ → List ℕ → Change SinkState → Type 0
Tells Quiet told name report err = TellsNothing Quiet told err
Tells Accepted told name report err = TellsNothing Accepted told err
Tells Written told name report err = TellsNothing Written told err
Tells WriteFault told name report err = TellsFixed WriteFault told name report err
Tells OutOfMemory told name report err = TellsFixed OutOfMemory told name report err
Tells cause told name report err = TellsMade cause told name report err
