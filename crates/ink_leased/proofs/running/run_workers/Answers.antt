use denote.Param.Send.{sendable}
use Rattle.std.proofs.Crossing.{crosses}
use Rattle.ink_leased.proofs.Beginning.{fits_so, none_out, rests_so, told}
use Rattle.ink_leased.proofs.Sending.{leased_send}
use Rattle.ink_leased.proofs.running.run_workers.Goals as goal
use Rattle.ink_run.specs.Sinks.{sink_of}

pub run_shared-leased-requires-send-S : goal.run_shared-leased-requires-send-S
run_shared-leased-requires-send-S g c = λ lifetimes outlives. let bound = c.type_bounds.send-K in search (leased_send, sendable, crosses) depth 100 fits 4000

pub run_shared-leased-requires-clause-fits : goal.run_shared-leased-requires-clause-fits
run_shared-leased-requires-clause-fits g c =
    λ lifetimes outlives. fits_so c.args.code.now c.limits.result.now c.args.world c.lease_out-leased.result.began c.lease_out-leased.ensures.began.0 c.lease_out-leased.ensures.began.1 c.limits.ensures

pub returns : goal.returns
returns g c =
    let before = c.lease_out-leased.result in
    let after = c.run_shared-leased.result.0 in
    let stands = told (sink_of g.K.Sink.contents g.K.Sink.faults) c.args.code.now c.args.world before.began after c.lease_out-leased.ensures.began.0 c.lease_out-leased.ensures.began.1 c.run_shared-leased.ensures.stands in
    record {
      limits = stands.limits;
      stands = stands.stands;
      written = stands.written;
      went = stands.went;
      wrong = stands.wrong;
      ended = stands.ended;
      home = none_out after.world.post.statuses.items c.run_shared-leased.ensures.no_lease;
      rests = λ whole. rests_so after.world.post after.is_over stands.over (c.run_shared-leased.ensures.rest whole);
    }
