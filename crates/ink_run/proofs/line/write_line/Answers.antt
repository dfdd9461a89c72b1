use Rattle.std.proofs.Common.{[], ◌∷◌, ap, ◌∙◌}
use Rattle.ink_devices.specs.Outside.{appended}
use Rattle.ink_run.specs.Sinks.{sink_of}
use Rattle.ink_run.proofs.Written.{cut_back, on_err}
use Rattle.ink_run.proofs.line.write_line.Goals as goal

pub returns-in_err-write_whole-2-clause-cut : goal.returns-in_err-write_whole-2-clause-cut
returns-in_err-write_whole-2-clause-cut g c =
    on_err _ (cut_back (sink_of g.K.Sink.contents g.K.Sink.faults c.args.sink.now) (sink_of g.K.Sink.contents g.K.Sink.faults c.write_whole.new.sink) (sink_of g.K.Sink.contents g.K.Sink.faults c.write_whole-2.new.sink) c.args.text.now (10 ∷ []) (c.in_ok-write_whole.ensures.contents ∙ ap (appended (g.K.Sink.contents c.args.sink.now)) c.bytes.ensures) c.in_ok-write_whole.ensures.ok c.in_err-write_whole-2.ensures.cut c.in_err-write_whole-2.ensures.fault)
