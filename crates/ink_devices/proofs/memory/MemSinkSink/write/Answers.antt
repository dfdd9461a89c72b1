use Rattle.std.proofs.Common.{◌≡◌, length, refl}
use Rattle.std.specs.Vec.{vec_len}
use Rattle.ink_devices.proofs.memory.MemSinkSink.write.Goals as goal

-- the call that the test told to be amiss
pub returns-then-is_amiss-clause-plan : goal.returns-then-is_amiss-clause-plan
returns-then-is_amiss-clause-plan c =
    let told = c.is_amiss.ensures.0 c.if-is_amiss.true in
    let called = c.one_more-self-inside.ensures.value in
    let len : vec_len c.self.inside.bytes ≡ length c.self.inside.bytes.items = c.self.inside.bytes.ok.0 in
    let amiss = rw (c.as_slice-2.ensures.value, c.taken_of-taken.ensures, c.as_slice.ensures.value, c.len.ensures, len) at told in
    rw (← c.self.view_is, ← called)
    (amiss, rw c.one_more-self-inside-then-is_amiss.ensures.value refl)
