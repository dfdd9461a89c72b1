use Rattle.std.proofs.Common.{◌≡◌, ℕ, ◌+◌, ◌-◌, List, ◌∷◌, length, reverse, set, subst, sym, take, ◌∙◌, arith}
use Rattle.ink_code.specs.declared.frame.Frame.{Frame}
use Rattle.ink_proc.proofs.FrontLemmas.{front-last, front-set}
use Rattle.ink_quick.specs.Makes.{Runs}
use Rattle.ink_proc.proofs.frames.Frames.run_top.Goals as goal

pub returns-clause-runs : goal.returns-clause-runs
returns-clause-runs c limits =
    let items : List Frame = c.self.inside.items.items in
    let index : ℕ = c.len-count.result - 1 in
    let end : index + 1 ≡ length items = omega (arith, c.len-count.ensures, c.if-count-eq0.false) in
    let before : reverse items ≡ c.index_mut-frame.result.now ∷ reverse (take index items) = front-last items index c.index_mut-frame.result.now end c.index_mut-frame.ensures.value in
    let behind : reverse (set items index c.run_in_frame.new.frame) ≡ c.run_in_frame.new.frame ∷ reverse (take index items) = front-set items index c.run_in_frame.new.frame end in
    let P : List Frame → List Frame → Type 0 = λ old new. Runs c.args.code.now limits c.run_in_frame.result old new in
    subst (λ old. P old (reverse (set items index c.run_in_frame.new.frame))) c.self.view_is
    (subst (λ old. P old (reverse (set items index c.run_in_frame.new.frame))) (sym before)
    (subst (P (c.index_mut-frame.result.now ∷ reverse (take index items))) (sym behind)
    (c.run_in_frame.ensures.runs limits (reverse (take index items)))))
