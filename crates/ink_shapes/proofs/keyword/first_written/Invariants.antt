use Rattle.std.proofs.Common.{◌≡◌, drop}
use Rattle.ink_shapes.specs.Keywords.{first_written}
use Rattle.ink_shapes.proofs.keyword.first_written.Given as goal

-- it is the first of those that are left
abbrev pub invariant-loop-keyword : goal.invariant-loop-keyword
invariant-loop-keyword l =
    first_written l.keywords l.written ≡ first_written (drop l.keyword-index l.keywords) l.written
