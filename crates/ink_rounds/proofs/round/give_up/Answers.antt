use Rattle.ink_proc.specs.State.{state_of}
use Rattle.ink_rounds.proofs.Idling.{idle_coming, idle_makes}
use Rattle.ink_rounds.proofs.round.give_up.Goals as goal

pub come_idle-requires-clause-comes : goal.come_idle-requires-clause-comes
come_idle-requires-clause-comes g c =
    idle_coming c.args.code.now c.args.world.now.post c.args.one.number c.args.one.number c.args.one.came c.idle.result (state_of c.args.one.proc) c.idle.ensures c.requires.comes

pub come_idle-requires-clause-idle : goal.come_idle-requires-clause-idle
come_idle-requires-clause-idle g c = idle_makes c.args.one.came c.idle.result c.idle.ensures
