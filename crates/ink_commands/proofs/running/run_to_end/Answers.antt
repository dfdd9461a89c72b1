use Rattle.std.proofs.Common.{sym}
use Rattle.ink_commands.proofs.Meant.{stopped_means}
use Rattle.ink_commands.proofs.Reported.{stopped_reports}
use Rattle.ink_commands.proofs.Written.{wrote_as}
use Rattle.ink_commands.proofs.running.run_to_end.Goals as goal

pub returns-clause-wrote : goal.returns-clause-wrote
returns-clause-wrote g c first below written =
    rw (c.stopped.ensures.journal, c.stopped.ensures.out, sym c.run_freely-cause.ensures.limits)
    (wrote_as _ _ c.args.code.now _ _ _ c.stopped.ensures.cause (c.run_freely-cause.ensures.wrote first below written))

pub returns-clause-reports : goal.returns-clause-reports
returns-clause-reports g c =
    stopped_reports c.run_freely-cause.result c.stopped.result.cause c.args.code.now c.run_freely-cause.new.world.post c.args.world.post.limits
    c.stopped.result.journal.entries c.stopped.result.report c.stopped.ensures.cause c.run_freely-cause.ensures.panicked c.stopped.ensures.report
    c.stopped.ensures.journal c.run_freely-cause.ensures.limits

pub returns-clause-means : goal.returns-clause-means
returns-clause-means g c =
    stopped_means c.run_freely-cause.result c.stopped.result.cause c.args.code.now c.run_freely-cause.new.world.post c.args.world.post.limits _
    c.stopped.result.journal.entries c.stopped.ensures.cause c.run_freely-cause.ensures.means c.run_freely-cause.ensures.limits c.stopped.ensures.journal
