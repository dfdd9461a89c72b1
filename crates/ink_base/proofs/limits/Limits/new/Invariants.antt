use Rattle.std.proofs.Common.{ℕ, ◌<◌}
use Rattle.ink_base.specs.Limits.{IsInRangeAt}
use Rattle.ink_base.proofs.limits.Limits.new.Given as goal

-- the numbers before this one are in their ranges
abbrev pub invariant-loop-index : goal.invariant-loop-index
invariant-loop-index l = (before : ℕ) → before < l.index → IsInRangeAt l.numbers before
