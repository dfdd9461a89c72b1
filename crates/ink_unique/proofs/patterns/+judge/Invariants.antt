use Rattle.std.proofs.Common.{◌+◌, ◌*◌}
use Rattle.ink_unique.proofs.patterns.+judge.Given as goal

abbrev pub decreases-judge_pattern : goal.decreases-judge_pattern
decreases-judge_pattern l = 2 * l.number + 1

abbrev pub decreases-judge_parts : goal.decreases-judge_parts
decreases-judge_parts l = 2 * l.parent

abbrev pub decreases-judge_fields : goal.decreases-judge_fields
decreases-judge_fields l = 2 * l.parent
