use Rattle.std.proofs.Common.{[], ◌∷◌, subst}
use Rattle.ink_matrix.specs.Views.{kind_at, alternatives, arm_rows}
use Rattle.ink_matrix.specs.Search.{Turns}
use Rattle.ink_matrix.proofs.search.missing.Goals as goal

pub returns-in-Found : goal.returns-in-Found
returns-in-Found c = subst (λ t. Turns (kind_at c.args.kinds.now) (alternatives c.args.patterns.now) (c.args.scrutinee ∷ []) (arm_rows c.args.arms.now) c.take_turn.new.frames.items t) c.in-Found.is (c.in_ok-next.ensures (c.args.scrutinee ∷ []) (arm_rows c.args.arms.now) c.loop.invariant)

pub returns-in-Covered : goal.returns-in-Covered
returns-in-Covered c = subst (λ t. Turns (kind_at c.args.kinds.now) (alternatives c.args.patterns.now) (c.args.scrutinee ∷ []) (arm_rows c.args.arms.now) c.take_turn.new.frames.items t) c.in-Covered.is (c.in_ok-next.ensures (c.args.scrutinee ∷ []) (arm_rows c.args.arms.now) c.loop.invariant)

pub loop-preserved : goal.loop-preserved
loop-preserved c = subst (λ t. Turns (kind_at c.args.kinds.now) (alternatives c.args.patterns.now) (c.args.scrutinee ∷ []) (arm_rows c.args.arms.now) c.take_turn.new.frames.items t) c.in-On.is (c.in_ok-next.ensures (c.args.scrutinee ∷ []) (arm_rows c.args.arms.now) c.loop.invariant)
