use Rattle.std.proofs.Common.{ℕ, All}
use Rattle.ink_arms.specs.Parts as spec
use Rattle.ink_arms.proofs.parts.bare_parts.Given as goal

-- the parts so far have no pattern
abbrev pub invariant-loop-place : goal.invariant-loop-place
invariant-loop-place l = (parent : ℕ) → All (spec.IsPartBefore parent) l.parts.items
