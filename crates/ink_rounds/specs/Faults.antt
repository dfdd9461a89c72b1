-- The world that comes back from a run in rounds that had no memory.
use Rattle.ink_run.specs.declared.world.World.{World}
use Rattle.ink_rounds.specs.declared.running.RoundFault.{RoundFault}
use Rattle.ink_rounds.specs.declared.running.RoundFault.TheVariants.{OutOfMemory}

abbrev pub world_in : {K : Type 0} → RoundFault K → World K
world_in (OutOfMemory world) = world
