use Rattle.ink_cover.proofs.columns.+within.Given as goal

abbrev pub decreases-within : goal.decreases-within
decreases-within l = l.of
