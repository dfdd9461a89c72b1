use Rattle.std.proofs.Common.{◌∷◌, []}
use Rattle.crossbeam_deque.specs.Handles.{worker_port, worker_view}
use Rattle.ink_deck.proofs.Fairly.{deque_puts}
use Rattle.ink_deck.proofs.moves.push_own.Goals as goal

pub push_as-requires-clause-pushes : goal.push_as-requires-clause-pushes
push_as-requires-clause-pushes c = deque_puts (worker_port c.args.side.now.deque) (worker_view c.args.side.now.deque) (c.args.number ∷ [])
