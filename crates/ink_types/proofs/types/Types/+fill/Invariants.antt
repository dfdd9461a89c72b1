use Rattle.std.proofs.Common.{◌+◌}
use Rattle.ink_types.specs.Table.{list_height}
use Rattle.ink_types.proofs.types.Types.+fill.Given as goal

abbrev pub decreases-fill : goal.decreases-fill
decreases-fill l = l.t + 1

abbrev pub decreases-fill_list : goal.decreases-fill_list
decreases-fill_list l = list_height l.list
