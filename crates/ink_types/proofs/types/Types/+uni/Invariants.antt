use Rattle.std.proofs.Common.{◌+◌}
use Rattle.ink_types.specs.Table.{list_height}
use Rattle.ink_types.proofs.types.Types.+uni.Given as goal

abbrev pub decreases-uni_of_borrow : goal.decreases-uni_of_borrow
decreases-uni_of_borrow l = l.t + 1

abbrev pub decreases-uni_of_borrow_among : goal.decreases-uni_of_borrow_among
decreases-uni_of_borrow_among l = list_height l.list
