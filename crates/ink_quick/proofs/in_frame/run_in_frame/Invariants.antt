use Rattle.std.proofs.Common.{◌≡◌, ℕ, List, ◌∷◌}
use Rattle.ink_code.specs.declared.frame.Frame.{Frame}
use Rattle.ink_quick.specs.Makes.{Runs}
use Rattle.ink_quick.proofs.in_frame.run_in_frame.Given as goal

abbrev pub invariant-loop-made : goal.invariant-loop-made
invariant-loop-made l = record {
  runs : (limits : List ℕ) (outer : List Frame) → Runs l.code limits l.made (l.fn.frame ∷ outer) (l.frame ∷ outer);
  method : l.frame.method ≡ l.fn.frame.method;
  place : l.place ≡ l.frame.place;
}
