use Rattle.std.proofs.Common.{inr}
use Rattle.ink_causes.proofs.Sinks.{replaces}
use Rattle.ink_causes.proofs.telling.tell_made.Goals as goal

pub returns-in-Err : goal.returns-in-Err
returns-in-Err g c = inr (inr (
  c.try_line-in-Err.ensures.cause,
  replaces _ _ _ _ _ c.requires (rw (c.deref.ensures.value, c.in-Ok.ensures) at c.in-Err.ensures.cut) c.in-Err.ensures.fault
      c.try_line-in-Err.ensures.faults c.try_line-in-Err.ensures.told,
))
