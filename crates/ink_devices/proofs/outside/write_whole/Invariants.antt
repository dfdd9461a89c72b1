use Rattle.std.proofs.Common.{length, ◌-◌, ◌≡◌, ◌≤◌, take}
use Rattle.ink_devices.specs.Outside.{appended}
use Rattle.ink_devices.proofs.outside.write_whole.Given as goal

-- what was written so far is the front of the bytes, and nothing failed
abbrev pub invariant-loop-written : goal.invariant-loop-written
invariant-loop-written g l = record {
  within : l.written ≤ length l.bytes;
  contents : g.K.Sink.contents l.sink ≡ appended (g.K.Sink.contents l.fn.sink) (take l.written l.bytes);
  faults : g.K.Sink.faults l.sink ≡ g.K.Sink.faults l.fn.sink;
}

abbrev pub decreases-loop-written : goal.decreases-loop-written
decreases-loop-written g l = length l.bytes - l.written
