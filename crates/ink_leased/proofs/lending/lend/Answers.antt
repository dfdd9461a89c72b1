use Rattle.std.proofs.Common.{ap}
use Rattle.ink_leased.proofs.Keeping.{kept_for}
use Rattle.ink_leased.proofs.Lent.{goes_out, lends_apart, lends_journal, lends_one, lent_keeps, same_journal, same_keeps, same_leases}
use Rattle.ink_leased.proofs.lending.lend.Goals as goal
use Rattle.ink_proc.specs.State.{state_of}
use Rattle.ink_run.specs.Sinks.{sink_of}

pub returns-in-Ok-clause-journal : goal.returns-in-Ok-clause-journal
returns-in-Ok-clause-journal g c = lends_journal c.args.process c.args.seat (state_of c.in-Ok.proc) c.args.world.now.post c.check_out.new.self.post c.in-Ok.ensures.lends

pub returns-in-Ok-clause-stands : goal.returns-in-Ok-clause-stands
returns-in-Ok-clause-stands g c = λ code began first is_over stands.
    let before = sink_of g.K.Sink.contents g.K.Sink.faults c.args.world.now.sink in
    let after = sink_of g.K.Sink.contents g.K.Sink.faults c.check_out.new.self.sink in
    kept_for code c.args.world.now.post c.check_out.new.self.post before after began first is_over
    (lent_keeps c.args.world.now.post c.check_out.new.self.post before after c.check_out.ensures.limits c.check_out.ensures.wrong (ap (sink_of g.K.Sink.contents g.K.Sink.faults) c.check_out.ensures.sink)
    code c.args.process c.args.seat (state_of c.in-Ok.proc) c.in-Ok.ensures.lends) stands

pub returns-in-Ok-clause-others : goal.returns-in-Ok-clause-others
returns-in-Ok-clause-others g c = λ k differ. lends_apart c.args.process c.args.seat (state_of c.in-Ok.proc) c.args.world.now.post c.check_out.new.self.post c.in-Ok.ensures.lends k differ

pub returns-in-Ok-clause-lends : goal.returns-in-Ok-clause-lends
returns-in-Ok-clause-lends g c = lends_one c.args.process c.args.seat (state_of c.in-Ok.proc) c.args.world.now.post c.check_out.new.self.post c.in-Ok.ensures.lends

pub returns-in-Ok-clause-run : goal.returns-in-Ok-clause-run
returns-in-Ok-clause-run g c = λ code stands.
    goes_out code c.check_out.new.self.post c.args.process c.args.seat c.of.result.came (state_of c.in-Ok.proc) (state_of c.of.result.proc) c.of.ensures.came (ap state_of c.of.ensures.process) (c.in-Ok.ensures.lent code stands)

pub returns-in-Err-clause-journal : goal.returns-in-Err-clause-journal
returns-in-Err-clause-journal g c = same_journal c.args.world.now.post c.check_out.new.self.post c.in-Err.ensures.same

pub returns-in-Err-clause-stands : goal.returns-in-Err-clause-stands
returns-in-Err-clause-stands g c = λ code began first is_over stands.
    let before = sink_of g.K.Sink.contents g.K.Sink.faults c.args.world.now.sink in
    let after = sink_of g.K.Sink.contents g.K.Sink.faults c.check_out.new.self.sink in
    kept_for code c.args.world.now.post c.check_out.new.self.post before after began first is_over
    (same_keeps c.args.world.now.post c.check_out.new.self.post before after c.check_out.ensures.limits c.check_out.ensures.wrong (ap (sink_of g.K.Sink.contents g.K.Sink.faults) c.check_out.ensures.sink)
    code c.in-Err.ensures.same) stands

pub returns-in-Err-clause-others : goal.returns-in-Err-clause-others
returns-in-Err-clause-others g c = λ k differ. same_leases c.args.world.now.post c.check_out.new.self.post c.in-Err.ensures.same k

pub returns-in-Err-clause-lends : goal.returns-in-Err-clause-lends
returns-in-Err-clause-lends g c = same_leases c.args.world.now.post c.check_out.new.self.post c.in-Err.ensures.same c.args.seat
