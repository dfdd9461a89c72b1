use Rattle.ink_commands.proofs.Lowered.{made_code}
use Rattle.ink_commands.proofs.verdict.code_of.Goals as goal

pub returns-in-Ok : goal.returns-in-Ok
returns-in-Ok c =
    made_code c.args.limits.now c.args.source.now _ c.in-Ok.ensures c.lowered.ensures.within c.lowered.ensures.fault
