use Rattle.std.specs.Option.{option_map}
use Rattle.ink_types.specs.Table.{type_at, HoldsType, AreHeld}
use Rattle.ink_types.specs.Matching.{wanted}
use Rattle.ink_types.proofs.Filling.{IsFilledUpTo}
use Rattle.ink_types.proofs.types.Types.fill_places.Given as goal

abbrev pub invariant-loop-number : goal.invariant-loop-number
invariant-loop-number l = record {
  filled : IsFilledUpTo (option_map (type_at l.self)) (wanted l.self.kinds (type_at l.self l.pattern) (type_at l.self l.actual)) l.initial.found l.found l.number;
  held : HoldsType l.self.items l.actual → AreHeld l.self l.initial.found → AreHeld l.self l.found;
}
