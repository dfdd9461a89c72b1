use Rattle.std.proofs.Common.{All}
use Rattle.ink_arms.specs.Parts as spec
use Rattle.ink_arms.proofs.parts.put_list.Given as goal

-- the patterns so far come before that of the whole
abbrev pub invariant-loop-pattern : goal.invariant-loop-pattern
invariant-loop-pattern l = All (spec.IsPartBefore l.parent) l.parts.items
