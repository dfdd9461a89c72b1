use Rattle.std.proofs.Common.{◌≡◌, true, take}
use Rattle.ink_matrix.specs.Rows as spec
use Rattle.ink_matrix.specs.Views.{alternatives}
use Rattle.ink_matrix.proofs.rows.is_whole.Given as goal

abbrev pub invariant-loop-part : goal.invariant-loop-part
invariant-loop-part l = spec.is_whole (alternatives l.patterns) (take l.part-index l.parts) ≡ true
