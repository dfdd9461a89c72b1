use Rattle.ink_leased.proofs.Slices.{comes_as}
use Rattle.ink_leased.proofs.lending.LeasedWorkable.run.Goals as goal
use Rattle.ink_proc.specs.State.{state_of}

pub returns : goal.returns
returns g c = λ began journal process fits run.
    comes_as c.args.code.now began.code.value c.args.limits.now began.world.value.post.limits journal process c.args.work.now.came c.make_slice.new.self.came (state_of c.args.work.now.proc) (state_of c.make_slice.new.self.proc)
    fits c.make_slice.ensures run
