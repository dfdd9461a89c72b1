use Rattle.ink_causes.specs.Devices.{files_of}
use Rattle.ink_commands.proofs.Replays.{replays}
use Rattle.ink_commands.proofs.command.replay_file.Goals as goal

pub returns-in-Ok-clause-did : goal.returns-in-Ok-clause-did
returns-in-Ok-clause-did g c =
    rw (c.found-in-Ok.ensures.outcome, c.found-in-Ok.ensures.name, c.bytes-in-Ok.ensures)
    (replays _ c.args.file.now c.args.journal.now (files_of g.F.Files.held g.F.Files.read_faults g.F.Files.write_faults c.args.files.now)
    (files_of g.F.Files.held g.F.Files.read_faults g.F.Files.write_faults c.code_of_file.new.files)
    (files_of g.F.Files.held g.F.Files.read_faults g.F.Files.write_faults c.replay_journal-outcome.new.files) _ _ _ c.args.limits.now c.in-Ok.code
    c.in-Ok.ensures.made c.code_of_file.ensures.files c.replay_journal-outcome.ensures.did)
