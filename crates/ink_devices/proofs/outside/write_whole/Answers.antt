use Rattle.std.proofs.Common.{◌-◌, take, drop, length, arith, ◌∙◌, ap}
use Rattle.ink_devices.specs.Outside.{appended}
use Rattle.ink_devices.proofs.Appended.{appended-appended, take-take_drop}
use Rattle.ink_devices.proofs.outside.write_whole.Goals as goal

pub loop-written-preserved : goal.loop-written-preserved
loop-written-preserved g c =
    let sent = c.in_ok-written.field-0 in
    let bytes = c.args.bytes.now in
    let before = g.K.Sink.contents c.args.sink.now in
    let at = c.loop-written.written in
    record {
      within = omega (arith, c.in_ok-written.ensures);
      contents =
          c.in_ok-written.ensures.contents
          ∙ ap (λ s. appended s (take sent (take (length bytes - at) (drop at bytes)))) c.loop-written.invariant.contents
          ∙ appended-appended before (take at bytes) (take sent (take (length bytes - at) (drop at bytes)))
          ∙ ap (appended before) (take-take_drop at sent bytes);
      faults = c.in_ok-written.ensures.ok ∙ c.loop-written.invariant.faults;
    }
