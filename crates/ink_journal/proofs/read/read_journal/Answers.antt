use Rattle.std.proofs.Common.{◌≡◌, ◌∙◌, [], sym, take, refl, arith, false, true}
use Rattle.std.proofs.lemmas.List.{take_more}
use Rattle.ink_journal.proofs.Runs.{reaches_start, reaches_next, wrong_byte, whole, only, missing_bytes}
use Rattle.ink_journal.proofs.read.read_journal.Goals as goal

pub loop-right-init : goal.loop-right-init
loop-right-init c = rw c.new-journal.ensures (reaches_start c.get-most.result)

pub returns-in_default-clause-bad : goal.returns-in_default-clause-bad
returns-in_default-clause-bad c = rw (sym c.get-most.ensures.number)
    (wrong_byte c.get-most.result c.args.bytes.now c.loop-right.right _ c.loop-right.here c.loop-right.journal.entries c.loop-right.invariant
    c.loop-right-test.true (take_more c.args.bytes.now c.loop-right.right _ c.loop-right-test.true) c.in_default.ensures.none)

pub loop-right-preserved : goal.loop-right-preserved
loop-right-preserved c =
    reaches_next c.get-most.result (take c.loop-right.right c.args.bytes.now) _ _ c.loop-right.here c.in-Some.step.next c.loop-right.journal.entries _ c.in-Some.step.ended
    c.loop-right.invariant c.in-Some.ensures.some c.in-Some.ensures.«open» (take_more c.args.bytes.now c.loop-right.right _ c.loop-right-test.true) c.in_ok-add.ensures

pub returns-then-is_end-clause-journal : goal.returns-then-is_end-clause-journal
returns-then-is_end-clause-journal c = rw (sym c.get-most.ensures.number)
    (whole c.get-most.result c.args.bytes.now c.loop-right.right c.loop-right.here c.loop-right.journal.entries (λ inside. omega (arith, c.loop-right-test.false, inside)) c.loop-right.invariant
    ((c.is_end.ensures c.get-most.result []).1 (c.if-is_end.true, refl)))

pub returns-then-is_end-clause-only : goal.returns-then-is_end-clause-only
returns-then-is_end-clause-only c = λ entries is.
    only c.get-most.result c.args.bytes.now c.loop-right.right c.loop-right.here c.loop-right.journal.entries (λ inside. omega (arith, c.loop-right-test.false, inside)) c.loop-right.invariant
    (λ more goes. ((c.is_end.ensures c.get-most.result more).0 goes).1) entries (rw c.get-most.ensures.number is)

pub returns-else-is_end-clause-bad : goal.returns-else-is_end-clause-bad
returns-else-is_end-clause-bad c = rw (sym c.get-most.ensures.number)
    (missing_bytes c.get-most.result c.args.bytes.now c.loop-right.right c.loop-right.here c.loop-right.journal.entries (λ inside. omega (arith, c.loop-right-test.false, inside)) c.loop-right.invariant
    (λ more goes. let told : false ≡ true = sym c.if-is_end.false ∙ ((c.is_end.ensures c.get-most.result more).0 goes).0 in cc))
