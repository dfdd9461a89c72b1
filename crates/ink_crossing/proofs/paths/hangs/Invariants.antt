use Rattle.ink_crossing.proofs.paths.hangs.Given as goal

abbrev pub decreases-loop-base : goal.decreases-loop-base
decreases-loop-base l = l.end
