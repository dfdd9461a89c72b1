use Rattle.std.proofs.Common.{rules, sym}
use Rattle.ink_object_rows.proofs.given.place_given.Goals as goal

pub returns-in-Some : goal.returns-in-Some
returns-in-Some c = record { operands = c.in_ok-id.operands.now; one = c.in_ok-one.one.now; all = c.in_ok-id.ensures; two = c.in_ok-one.ensures; number = search rules; sized = sym c.in-Some.ensures }
