use Rattle.std.proofs.Common.{◌≡◌, map, take}
use Rattle.ink_matrix.specs.Search.{choice_of}
use Rattle.ink_matrix.proofs.search.choices_of.Given as goal

abbrev pub invariant-loop-frame : goal.invariant-loop-frame
invariant-loop-frame l = l.choices.items ≡ map choice_of (take l.frame-index l.frames)
