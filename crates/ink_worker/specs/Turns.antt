-- What stays of a pass from turn to turn.
use Rattle.std.specs.Prelude.{◌≡◌}
use Rattle.ink_lease.specs.declared.view.View.{View}
use Rattle.ink_worker.specs.Hands.{Begins}

-- the numbers and the fixed part stay, and the journal that was seen goes on
pub record Stays {S F : Type 0} (v w : View S F) : Type 0 where
  pub from : w.from ≡ v.from
  pub to : w.to ≡ v.to
  pub seats : w.seats ≡ v.seats
  pub fixed : w.fixed ≡ v.fixed
  pub seen : Begins v.seen w.seen
