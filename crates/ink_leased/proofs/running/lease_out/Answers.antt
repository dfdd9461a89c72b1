use Rattle.std.proofs.Common.{refl}
use Rattle.ink_leased.proofs.Beginning.{begins_leased, none_leased}
use Rattle.ink_leased.proofs.running.lease_out.Goals as goal
use Rattle.ink_run.specs.Sinks.{sink_of}

pub returns-clause-stands : goal.returns-clause-stands
returns-clause-stands g c =
    begins_leased (sink_of g.K.Sink.contents g.K.Sink.faults) c.args.code.now _ c.of.ensures c.of-2.ensures refl c.requires.stands c.requires.goes c.requires.right

pub returns-clause-leases : goal.returns-clause-leases
returns-clause-leases g c = none_leased c.args.world.post.statuses.items c.requires.home
