use Rattle.std.proofs.Common.{refl}
use Rattle.ink_rounds.proofs.lent.Lent.make_slice.Goals as goal
use Rattle.ink_rounds.proofs.SliceLemmas.{is_sliced}

-- src/lent.rt:37:5
pub returns : goal.returns
returns c =
    is_sliced c.args.code.now c.args.limits.now c.args.self.now _ c.get-most.result c.slice.result c.slice.ensures
    c.came_of-came.ensures.came c.came_of-came.ensures.memory c.get-most.ensures.number refl
