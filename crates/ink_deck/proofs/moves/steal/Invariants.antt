use Rattle.std.proofs.Common.{◌≡◌}
use Rattle.ink_deck.specs.Sides.{far_hand}
use Rattle.ink_deck.proofs.moves.steal.Given as goal

abbrev pub invariant-loop : goal.invariant-loop
invariant-loop g l =
    (goal.iterator-loop g).can_next l.iterator' × (goal.iterator-loop g).is_finite l.iterator' × (l.far.thief ≡ l.fn.far.thief) × (far_hand l.far ≡ far_hand l.fn.far)
