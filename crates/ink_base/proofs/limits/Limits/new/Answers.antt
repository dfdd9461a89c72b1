use Rattle.std.proofs.Common.{ℕ, ◌<◌, sym, subst, arith}
use Rattle.ink_base.specs.Limits.{IsInRangeAt}
use Rattle.ink_base.proofs.LimitLemmas.{index_at}
use Rattle.ink_base.proofs.limits.Limits.new.Goals as goal
use Rattle.ink_base.proofs.limits.Limits.new.Goals.{then-numbers-index-lt1-via-then-numbers-index-lt1, then-numbers-index-lt1-via-else-numbers-index-lt1+then-numbers-index}

pub returns-then-numbers-index-lt1-clause-bad : goal.returns-then-numbers-index-lt1-clause-bad
returns-then-numbers-index-lt1-clause-bad c =
    let numbers = c.args.numbers in
    let out : ¬ IsInRangeAt numbers c.loop-index.index =
    elim c.then-numbers-index-lt1.branch [
      | then-numbers-index-lt1-via-then-numbers-index-lt1 w ↦ λ within. omega (arith, w.if-numbers-index-lt1, within.0)
      | then-numbers-index-lt1-via-else-numbers-index-lt1+then-numbers-index w ↦ λ within. omega (arith, w.if-numbers-index, within.1)
    ] in
    subst (λ (index : ℕ). (¬ IsInRangeAt numbers index) × ((before : ℕ) → before < index → IsInRangeAt numbers before))
    (sym (index_at c.loop-index.index _ (omega (arith, c.loop-index-test.true)))) (out, c.loop-index.invariant)
