use Rattle.ink_types.specs.Table.{list_height}
use Rattle.ink_members.proofs.receiver.listed.Given as goal

abbrev pub decreases-loop-first : goal.decreases-loop-first
decreases-loop-first l = list_height l.left
