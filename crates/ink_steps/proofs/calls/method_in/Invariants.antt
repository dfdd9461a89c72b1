use Rattle.std.proofs.Common.{◌≡◌, drop}
use Rattle.ink_code.specs.Calls.{method_in}
use Rattle.ink_steps.proofs.calls.method_in.Given as goal

-- the method is told by what is left, if anywhere
abbrev pub invariant-loop-told : goal.invariant-loop-told
invariant-loop-told l = method_in l.impls l.kind l.slot ≡ method_in (drop l.told-index l.impls) l.kind l.slot
