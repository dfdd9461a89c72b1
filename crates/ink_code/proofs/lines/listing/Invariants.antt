use Rattle.std.proofs.Common.{◌≡◌, take}
use Rattle.std.specs.List.{flat_map}
use Rattle.ink_code.specs.Listing.{method_text}
use Rattle.ink_code.proofs.lines.listing.Given as goal

abbrev pub invariant-loop-method : goal.invariant-loop-method
invariant-loop-method l = l.out.items ≡ flat_map method_text (take l.method-index l.method-items)
