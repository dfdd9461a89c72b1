use Rattle.std.proofs.Common.{◌≡◌}
use Rattle.ink_statuses.proofs.Woken.{woken_up_to}
use Rattle.ink_statuses.proofs.statuses.Statuses.wake_all.Given as goal

-- the first so many have heard
abbrev pub invariant-loop-index : goal.invariant-loop-index
invariant-loop-index l = record {
  woken : l.self.items ≡ woken_up_to l.future l.index l.initial.self.items;
  spare : l.self.spare ≡ l.initial.self.spare;
}
