use Rattle.std.proofs.Common.{◌+◌}
use Rattle.ink_types.specs.Table.{list_height}
use Rattle.ink_types.proofs.types.Types.+asked.Given as goal

abbrev pub decreases-asked : goal.decreases-asked
decreases-asked l = l.pattern + 1

abbrev pub decreases-asked_among : goal.decreases-asked_among
decreases-asked_among l = list_height l.patterns
