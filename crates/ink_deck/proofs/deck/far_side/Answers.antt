use Rattle.ink_deck.proofs.Fairly.{admits}
use Rattle.ink_deck.proofs.deck.far_side.Goals as goal

pub pass-pass-requires : goal.pass-pass-requires
pass-pass-requires c = admits
