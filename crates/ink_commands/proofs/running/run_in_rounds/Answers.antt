use Rattle.std.proofs.Common.{ap, ◌∙◌}
use Rattle.ink_post.specs.declared.post.Post.{Post}
use Rattle.ink_rounds.specs.Faults.{world_in}
use Rattle.ink_commands.proofs.Meant.{memory_means, rounds_stopped_means}
use Rattle.ink_commands.proofs.Reported.{none_reports, rounds_reports}
use Rattle.ink_commands.proofs.Written.{rounds_failed, rounds_stopped}
use Rattle.ink_commands.proofs.running.run_in_rounds.Goals as goal

pub returns-in-Err-clause-wrote : goal.returns-in-Err-clause-wrote
returns-in-Err-clause-wrote g c first below written =
    rw (c.stopped.ensures.out, c.world_back.ensures.sink)
    (rounds_failed c.args.code.now c.args.world.post (world_in c.in-Err.fault).post first _ _ c.stopped.result.cause c.stopped.result.journal.entries c.stopped.ensures.cause
    (c.stopped.ensures.journal ∙ ap (λ (p : Post). p.journal.entries) c.world_back.ensures.post) below c.in-Err.ensures.fault written)

pub returns-in-Ok-clause-wrote : goal.returns-in-Ok-clause-wrote
returns-in-Ok-clause-wrote g c first below written =
    rw (c.stopped-in-Ok.ensures.out)
    (rounds_stopped c.args.code.now c.args.world.post c.in-Ok.ran.world.post first _ _ c.args.rounds c.in-Ok.ran.stop c.cause_of_rounds.result c.stopped-in-Ok.result.cause c.stopped-in-Ok.result.journal.entries
    c.stopped-in-Ok.ensures.cause c.cause_of_rounds.ensures.is c.stopped-in-Ok.ensures.journal below c.in-Ok.ensures.stop c.in-Ok.ensures.written c.in-Ok.ensures.limits written)

pub returns-in-Err-clause-reports : goal.returns-in-Err-clause-reports
returns-in-Err-clause-reports g c = none_reports _ c.stopped.result.cause c.args.code.now _ _ _ c.stopped.ensures.cause (λ none. none)

pub returns-in-Ok-clause-reports : goal.returns-in-Ok-clause-reports
returns-in-Ok-clause-reports g c =
    rounds_reports c.args.code.now c.args.world.post c.in-Ok.ran.world.post c.args.rounds c.in-Ok.ran.stop c.cause_of_rounds.result c.stopped-in-Ok.result.cause
    c.stopped-in-Ok.result.journal.entries c.stopped-in-Ok.result.report c.stopped-in-Ok.ensures.cause c.cause_of_rounds.ensures.is c.stopped-in-Ok.ensures.report
    c.stopped-in-Ok.ensures.journal c.in-Ok.ensures.stop c.in-Ok.ensures.stands c.in-Ok.ensures.limits

pub returns-in-Err-clause-means : goal.returns-in-Err-clause-means
returns-in-Err-clause-means g c = memory_means c.stopped.result.cause c.args.code.now _ _ _ c.stopped.ensures.cause

pub returns-in-Ok-clause-means : goal.returns-in-Ok-clause-means
returns-in-Ok-clause-means g c =
    rounds_stopped_means c.args.code.now c.args.world.post c.in-Ok.ran.world.post c.args.rounds c.in-Ok.ran.stop c.cause_of_rounds.result
    c.stopped-in-Ok.result.cause c.stopped-in-Ok.result.journal.entries c.stopped-in-Ok.ensures.cause c.cause_of_rounds.ensures.is
    c.stopped-in-Ok.ensures.journal c.in-Ok.ensures.stop c.in-Ok.ensures.stands c.in-Ok.ensures.limits
