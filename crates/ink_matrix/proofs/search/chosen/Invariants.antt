use Rattle.std.proofs.Common.{◌≡◌, ◌++◌, map, replicate}
use Rattle.ink_matrix.specs.declared.pattern.Choice.TheVariants as choice
use Rattle.ink_matrix.specs.Search.{choice_of}
use Rattle.ink_matrix.proofs.search.chosen.Given as goal

abbrev pub invariant-loop : goal.invariant-loop
invariant-loop l = l.choices.items ≡ map choice_of l.frames ++ replicate l.counter choice.Any
