use Rattle.std.proofs.Common.{◌≡◌, ◌++◌, take}
use Rattle.ink_code.specs.Listing.{body_text}
use Rattle.ink_code.proofs.lines.put_body.Given as goal

abbrev pub invariant-loop-place : goal.invariant-loop-place
invariant-loop-place l = l.out.items ≡ l.initial.out.items ++ body_text 0 (take l.place l.body)
