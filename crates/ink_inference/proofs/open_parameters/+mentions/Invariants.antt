use Rattle.std.proofs.Common.{◌+◌}
use Rattle.ink_types.specs.Table.{list_height}
use Rattle.ink_inference.proofs.open_parameters.+mentions.Given as goal

abbrev pub decreases-is_open : goal.decreases-is_open
decreases-is_open l = l.t + 1

abbrev pub decreases-is_any_open : goal.decreases-is_any_open
decreases-is_any_open l = list_height l.list
