use Rattle.ink_operations.proofs.paths.+find_path.Given as goal

abbrev pub decreases-find_path : goal.decreases-find_path
decreases-find_path l = l.path
