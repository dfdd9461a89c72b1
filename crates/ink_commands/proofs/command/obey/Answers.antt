use Rattle.std.specs.Prelude.{option_map}
use Rattle.ink_commands.proofs.command.obey.Goals as goal

pub returns-in-Run-clause-did : goal.returns-in-Run-clause-did
returns-in-Run-clause-did g c =
    rw (c.in-Run.is, c.found.ensures.outcome, c.found.ensures.name, c.bytes.ensures)
    (c.run_file.ensures.did (option_map (λ f. f.now) c.in-Run.journal))
