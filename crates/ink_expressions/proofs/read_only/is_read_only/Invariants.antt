use Rattle.ink_expressions.proofs.read_only.is_read_only.Given as goal

abbrev pub decreases-loop-base : goal.decreases-loop-base
decreases-loop-base l = l.end
