use Rattle.crossbeam_deque.specs.Handles.{worker_port, worker_view}
use Rattle.ink_deck.proofs.Fairly.{deque_takes}
use Rattle.ink_deck.proofs.moves.pop_own.Goals as goal

pub pop_as-requires-clause-fifo : goal.pop_as-requires-clause-fifo
pop_as-requires-clause-fifo c = λ _. deque_takes (worker_port c.args.side.now.deque) 1 (worker_view c.args.side.now.deque)
