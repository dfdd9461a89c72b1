use Rattle.std.proofs.Common.{◌+◌, ◌*◌}
use Rattle.ink_arms.proofs.tests.+fit.Given as goal

abbrev pub decreases-test_pattern : goal.decreases-test_pattern
decreases-test_pattern l = 3 * l.number + 1

abbrev pub decreases-test_object : goal.decreases-test_object
decreases-test_object l = 3 * l.number

abbrev pub decreases-test_part : goal.decreases-test_part
decreases-test_part l = 3 * l.number + 2

abbrev pub decreases-test_alternatives : goal.decreases-test_alternatives
decreases-test_alternatives l = 3 * l.parent
