use Rattle.std.proofs.Common.{◌+◌}
use Rattle.ink_types.specs.Table.{list_height}
use Rattle.ink_types.proofs.types.Types.+fits.Given as goal

abbrev pub decreases-fits_under : goal.decreases-fits_under
decreases-fits_under l = l.pattern + 1

abbrev pub decreases-fit_all : goal.decreases-fit_all
decreases-fit_all l = list_height l.patterns
