use Rattle.crossbeam_deque.specs.Handles.{view}
use Rattle.ink_deck.proofs.Fairly.{deque_takes}
use Rattle.ink_deck.proofs.moves.steal.Goals as goal

pub steal_as-requires-clause-takes : goal.steal_as-requires-clause-takes
steal_as-requires-clause-takes g c = let p = c.loop.far.pass in deque_takes p.id 1 (view p)
