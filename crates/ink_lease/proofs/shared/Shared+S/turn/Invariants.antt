use Rattle.std.proofs.Common.{◌≡◌, ℕ}
use Rattle.ink_lease.specs.Rule.{view, IsIdle, IsSameSeat}
use Rattle.ink_lease.proofs.shared.Shared+S.turn.Given as goal

abbrev pub invariant-loop : goal.invariant-loop
invariant-loop g l =
    (goal.iterator-loop g).can_next l.iterator' × (goal.iterator-loop g).is_finite l.iterator' × IsSameSeat l.fn.pass.seat l.pass.seat × IsIdle l.pass.seat × ((n : ℕ) × (view l.pass.seat ≡ record (view l.fn.pass.seat) { lost = n }))
