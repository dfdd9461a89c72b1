-- What a seat has put and was given.
use Rattle.crossbeam_deque.specs.Handles.{view, worker_view}
use Rattle.ink_deck.specs.declared.hand.Hand.{Hand}
use Rattle.ink_deck.specs.declared.sides.OwnSide.{OwnSide}
use Rattle.ink_deck.specs.declared.sides.FarSide.{FarSide}

-- by its own deque, and by the queue for all
abbrev pub hands : OwnSide → Hand × Hand
hands side = (worker_view side.deque, side.entry.me.view.client)

-- by a deque that others put into
abbrev pub far_hand : FarSide → Hand
far_hand side = view side.pass
