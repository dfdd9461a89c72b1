-- What a replay without memory gives back.
use Rattle.std.specs.Prelude.{ℕ, List}
use Rattle.ink_replay.specs.declared.replaying.ReplayFault.{ReplayFault}
use Rattle.ink_replay.specs.declared.replaying.ReplayFault.TheVariants.{OutOfMemory}

-- the entries that were made
abbrev pub made_of : {K : Type 0} → ReplayFault K → List ℕ
made_of (OutOfMemory journal sink) = journal.entries

-- and the sink
abbrev pub sink_in : {K : Type 0} → ReplayFault K → K
sink_in (OutOfMemory journal sink) = sink
