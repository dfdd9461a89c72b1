use Rattle.std.proofs.Common.{refl, subst, sym}
use Rattle.ink_text.specs.Utf8.{StopsAt}
use Rattle.ink_text.proofs.Sequences.{Utf8-from_IsUtf8, IsUtf8-from_Utf8, StopsAt-from_IsValidUpTo}
use Rattle.ink_text.proofs.utf8.decode.Goals as goal

pub returns-in-Ok-clause-ok : goal.returns-in-Ok-clause-ok
returns-in-Ok-clause-ok c = (λ _. Utf8-from_IsUtf8 c.args.bytes.now c.in-Ok.ensures.cases.1, λ _. refl)

pub returns-in-Err-clause-ok : goal.returns-in-Err-clause-ok
returns-in-Err-clause-ok c =
    (λ ok. cc, λ is. absurd (c.in-Err.ensures.cases.0 (IsUtf8-from_Utf8 c.args.bytes.now is)))

pub returns-in-Err-clause-stops : goal.returns-in-Err-clause-stops
returns-in-Err-clause-stops c =
    subst (StopsAt c.args.bytes.now) (sym c.valid_up_to.ensures)
    (StopsAt-from_IsValidUpTo c.args.bytes.now _ c.in-Err.ensures.cases.1)
