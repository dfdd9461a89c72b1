use Rattle.std.proofs.Common.{◌≡◌, take}
use Rattle.ink_matrix.specs.Views as view
use Rattle.ink_matrix.proofs.rows.arm_rows.Given as goal

abbrev pub invariant-loop-arm : goal.invariant-loop-arm
invariant-loop-arm l = view.rows_of l.rows.items ≡ view.arm_rows (take l.arm-index l.arms)
