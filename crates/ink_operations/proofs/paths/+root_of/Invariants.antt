use Rattle.ink_operations.proofs.paths.+root_of.Given as goal

abbrev pub decreases-root_of : goal.decreases-root_of
decreases-root_of l = l.path
