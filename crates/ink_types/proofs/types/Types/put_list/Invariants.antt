use Rattle.std.proofs.Common.{◌≡◌, ◌≤◌, length, take, drop}
use Rattle.ink_types.specs.TypeTerms.{terms}
use Rattle.ink_types.specs.Table.{Keeps, HoldsList, list_at, types_in}
use Rattle.ink_types.proofs.types.Types.put_list.Given as goal

abbrev pub decreases-loop-left : goal.decreases-loop-left
decreases-loop-left l = l.left

abbrev pub invariant-loop-left : goal.invariant-loop-left
invariant-loop-left l = record {
  within : l.left ≤ length l.arguments;
  keeps : Keeps l.initial.self l.self;
  fits : HoldsList l.self.items l.list;
  means : list_at l.self l.list ≡ terms (types_in (take l.before l.initial.self.items) (drop l.left l.arguments));
}
