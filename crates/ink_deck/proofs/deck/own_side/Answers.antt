use Rattle.ink_deck.proofs.Fairly.{admits}
use Rattle.ink_deck.proofs.deck.own_side.Goals as goal

pub pass-requires : goal.pass-requires
pass-requires c = admits
