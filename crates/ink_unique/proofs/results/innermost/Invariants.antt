use Rattle.ink_unique.proofs.results.innermost.Given as goal

abbrev pub decreases-loop-inner : goal.decreases-loop-inner
decreases-loop-inner l = l.end
