use Rattle.ink_leased.proofs.Slices.{slice_comes}
use Rattle.ink_leased.proofs.away.Away.make_slice.Goals as goal
use Rattle.ink_proc.specs.State.{state_of}

pub returns : goal.returns
returns c =
    slice_comes c.args.code.now c.args.limits.now c.args.self.now.came c.came_of-came.result.0 (state_of c.args.self.now.proc) (state_of c.slice.new.proc) c.get-most.result c.slice.result
    c.if-not-goes_on.ensures c.came_of-came.ensures.came c.slice.ensures
