use Rattle.std.proofs.Common.{◌≡◌, vec_len}
use Rattle.ink_deck.proofs.deck.far_sides.Given as goal

abbrev pub invariant-loop-i : goal.invariant-loop-i
invariant-loop-i l = vec_len l.far ≡ l.i
