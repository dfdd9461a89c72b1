use Rattle.std.proofs.Common.{◌+◌, ◌*◌}
use Rattle.ink_declare.proofs.written.+written_names.Given as goal

abbrev pub decreases-written_names : goal.decreases-written_names
decreases-written_names l = 2 * l.number + 1

abbrev pub decreases-all_written : goal.decreases-all_written
decreases-all_written l = 2 * l.parent
