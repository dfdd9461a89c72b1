use Rattle.std.proofs.Common.{◌≡◌, ◌++◌, ◌≤◌, drop}
use Rattle.ink_print.specs.Layout.{laid}
use Rattle.ink_print.specs.declared.class.Class.TheVariants as class
use Rattle.ink_print.proofs.layout.lay_out.Given as goal

abbrev pub invariant-loop-piece : goal.invariant-loop-piece
invariant-loop-piece l = record { few : l.depth ≤ l.piece-index; stands : l.text.items ++ laid l.source (drop l.piece-index l.pieces) l.depth l.before ≡ laid l.source l.pieces 0 class.Line }
