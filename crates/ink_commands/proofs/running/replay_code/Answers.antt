use Rattle.ink_commands.proofs.Meant.{replay_stopped_means}
use Rattle.ink_commands.proofs.Reported.{replay_reports}
use Rattle.ink_commands.proofs.Written.{replay_stopped, stops_replay_as}
use Rattle.ink_commands.proofs.running.replay_code.Goals as goal

pub returns-in-Ok-clause-replayed : goal.returns-in-Ok-clause-replayed
returns-in-Ok-clause-replayed g c = record {
  stops = stops_replay_as c.cause_of_replay.result c.stopped.result.cause c.stopped.ensures.cause c.cause_of_replay.ensures.stops;
  means = replay_stopped_means c.args.code.now c.args.limits.now c.args.journal.now.entries c.in-Ok.replayed.world.post c.in-Ok.replayed.stop
      c.cause_of_replay.result c.stopped.result.cause c.stopped.result.journal.entries c.stopped.ensures.cause c.cause_of_replay.ensures.is
      c.stopped.ensures.journal c.in-Ok.ensures.means c.in-Ok.ensures.made c.in-Ok.ensures.refuses;
  wrote = rw (c.stopped.ensures.out)
      (replay_stopped c.args.code.now c.args.limits.now c.in-Ok.replayed.world.post _ _ c.in-Ok.replayed.stop c.cause_of_replay.result c.stopped.result.cause c.stopped.result.journal.entries
      c.stopped.ensures.cause c.cause_of_replay.ensures.is c.stopped.ensures.journal c.requires c.in-Ok.ensures.stops c.in-Ok.ensures.written c.in-Ok.ensures.limits c.in-Ok.ensures.wrote);
}

pub returns-in-Ok-clause-reports : goal.returns-in-Ok-clause-reports
returns-in-Ok-clause-reports g c =
    replay_reports c.args.code.now c.in-Ok.replayed.world.post c.in-Ok.replayed.stop c.cause_of_replay.result c.stopped.result.cause c.args.limits.now
    c.stopped.result.journal.entries c.stopped.result.report c.stopped.ensures.cause c.cause_of_replay.ensures.is c.stopped.ensures.report c.stopped.ensures.journal
    c.in-Ok.ensures.stops c.in-Ok.ensures.stands c.in-Ok.ensures.limits
