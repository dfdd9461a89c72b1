use Rattle.std.specs.Prelude.{option_map}
use Rattle.ink_causes.specs.Devices.{files_of, sink_of}
use Rattle.ink_top.proofs.Promise.{promised}
use Rattle.ink_top.proofs.call.inko_still.Goals as goal

pub returns-clause-promise : goal.returns-clause-promise
returns-clause-promise g c =
    rw (c.by.ensures.out, c.by.ensures.cause, c.by.ensures.journal) (promised _ (record {
      found = c.perform-outcome.result.outcome.cause;
      name = c.perform-outcome.result.name.now;
      report = c.bytes.result.now;
      recording = option_map (λ f. f.now) c.recording.result;
      told = c.tell-told.result;
      files = files_of g.F.Files.held g.F.Files.read_faults g.F.Files.write_faults c.perform-outcome.new.files;
      err = sink_of g.E.Sink.contents g.E.Sink.faults c.tell-told.new.err;
      room = c.requires.err_faults;
      performed = rw (c.bytes.ensures) c.perform-outcome.ensures.performed;
      asks = c.recording.ensures;
      read = c.perform-outcome.ensures.files;
      tells = c.tell-told.ensures;
      keeps = c.keep-cause.ensures;
    }) (λ file limits bytes tokens tree source reads. c.print_reads_back.ensures bytes tokens tree reads.lexed reads.parsed)
    (λ code limits world events made sender receiver. (c.messages_are_handled_in_order.ensures.order code limits _ world events made sender receiver, c.messages_are_handled_in_order.ensures.numbers code limits _ world events made sender receiver)))
