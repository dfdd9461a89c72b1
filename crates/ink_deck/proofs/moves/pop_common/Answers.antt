use Rattle.ink_deck.proofs.Fairly.{queue_takes}
use Rattle.ink_deck.proofs.moves.pop_common.Goals as goal

pub pop_as-requires-clause-rule : goal.pop_as-requires-clause-rule
pop_as-requires-clause-rule g c = let e = c.args.side.now.entry in (queue_takes e.id e.me.view.client, λ _ _ _ _. tt)
