use Rattle.std.proofs.Common.{sym}
use Rattle.ink_object_rows.proofs.given.item_given.Goals as goal

pub returns-in-Some : goal.returns-in-Some
returns-in-Some c = record { operands = c.in_ok-id.operands.now; all = c.in_ok-id.ensures; lone = c.in_ok-value.ensures; sized = sym c.in-Some.ensures }
