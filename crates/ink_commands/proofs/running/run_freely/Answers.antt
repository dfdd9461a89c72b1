use Rattle.std.proofs.Common.{◌∙◌}
use Rattle.ink_commands.proofs.running.run_freely.Goals as goal

pub returns-clause-means : goal.returns-clause-means
returns-clause-means g c = c.stop_of.ensures.means c.args.code.now c.loop.invariant.stands (c.loop.invariant.right ∙ c.requires.right)
