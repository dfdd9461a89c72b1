use Rattle.std.proofs.Common.{◌≡◌, ◌+◌, ◌*◌}
use Rattle.ink_pattern_types.proofs.walk.+judge.Given as goal

abbrev pub decreases-judge : goal.decreases-judge
decreases-judge l = 2 * l.number + 1

abbrev pub decreases-judge_parts : goal.decreases-judge_parts
decreases-judge_parts l = 2 * l.parent

abbrev pub decreases-judge_fields : goal.decreases-judge_fields
decreases-judge_fields l = 2 * l.parent

abbrev pub decreases-judge_alternatives : goal.decreases-judge_alternatives
decreases-judge_alternatives l = 2 * l.parent

abbrev pub invariant-judge_parts-loop-place : goal.invariant-judge_parts-loop-place
invariant-judge_parts-loop-place l = l.state.types.kinds ≡ l.initial.state.types.kinds

abbrev pub invariant-judge_fields-loop-field : goal.invariant-judge_fields-loop-field
invariant-judge_fields-loop-field l = l.state.types.kinds ≡ l.initial.state.types.kinds

abbrev pub invariant-judge_alternatives-loop-alternative : goal.invariant-judge_alternatives-loop-alternative
invariant-judge_alternatives-loop-alternative l = l.state.types.kinds ≡ l.initial.state.types.kinds
