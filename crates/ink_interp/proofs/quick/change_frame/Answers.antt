use Rattle.ink_interp.proofs.QuickLemmas.{calls, returns}
use Rattle.ink_interp.proofs.quick.change_frame.Goals as goal

pub returns-in-Some-default-Invoke : goal.returns-in-Some-default-Invoke
returns-in-Some-default-Invoke c =
    calls c.args.code.now c.args.limits.now c.args.frames.now c.call_if_room.new.frames c.in-Some-default-Invoke.to c.in-Some-default-Invoke.method c.as_slice.result.now c.call_if_room.result
    (let found = c.in-Some-default-Invoke.ensures.0 in let is = c.in-Some-default-Invoke.field-0-1-is in let slice = c.as_slice.ensures in cc) c.call_if_room.ensures

pub returns-in-Some-default-Return : goal.returns-in-Some-default-Return
returns-in-Some-default-Return c =
    returns c.args.code.now c.args.limits.now c.args.frames.now c.end.new.frames c.in-Some-default-Return.from c.end.result
    (let found = c.in-Some-default-Return.ensures.0 in let is = c.in-Some-default-Return.field-0-1-is in cc) c.end.ensures
