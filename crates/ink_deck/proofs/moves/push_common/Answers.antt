use Rattle.ink_deck.proofs.Fairly.{queue_puts}
use Rattle.ink_deck.proofs.moves.push_common.Goals as goal

pub push_as-requires-clause-rule : goal.push_as-requires-clause-rule
push_as-requires-clause-rule g c = λ n. queue_puts n c.args.side.now.entry.id c.args.side.now.entry.me.view.client c.args.number
