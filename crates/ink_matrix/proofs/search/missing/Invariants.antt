use Rattle.std.proofs.Common.{[], ◌∷◌}
use Rattle.ink_matrix.specs.Search.{Stands}
use Rattle.ink_matrix.specs.Views.{kind_at, alternatives, arm_rows}
use Rattle.ink_matrix.proofs.search.missing.Given as goal

abbrev pub invariant-loop : goal.invariant-loop
invariant-loop l = Stands (kind_at l.kinds) (alternatives l.patterns) (l.scrutinee ∷ []) (arm_rows l.arms) l.frames.items l.here
