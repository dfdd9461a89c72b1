use Rattle.ink_paths.proofs.Listed.{arrives_listed}
use Rattle.ink_paths.proofs.flow.Flow.moved_variables.Goals as goal

pub returns-clause-others : goal.returns-clause-others
returns-clause-others c = arrives_listed c.args.self.now _ c.in_ok-moved.moved.items c.points.ensures.points c.in_ok-moved.ensures
