use Rattle.std.proofs.Common.{All}
use Rattle.ink_arms.specs.Parts as spec
use Rattle.ink_arms.proofs.parts.put_fields.Given as goal

-- the patterns so far come before that of the whole
abbrev pub invariant-loop-field : goal.invariant-loop-field
invariant-loop-field l = All (spec.IsPartBefore l.parent) l.parts.items
