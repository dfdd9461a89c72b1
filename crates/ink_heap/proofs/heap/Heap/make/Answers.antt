use Rattle.std.proofs.Common.{refl, ap, arith}
use Rattle.ink_heap.proofs.PairsLemmas.{len-seen, objects-put, AreApart-put}
use Rattle.ink_heap.proofs.heap.Heap.make.Goals as goal

pub returns-then-len-most : goal.returns-then-len-most
returns-then-len-most c =
    let len = len-seen _ _ _ c.self.view_is c.self.invariant in
    let held = c.self.inside.pairs.ok.0 in
    (omega arith, refl, refl)

pub returns-in-Err : goal.returns-in-Err
returns-in-Err c =
    let len = len-seen _ _ _ c.self.view_is c.self.invariant in
    let held = c.self.inside.pairs.ok.0 in
    let spare = ap (λ view. view.spare) c.self.view_is in
    (omega arith, omega (arith, c.in-Err.ensures.full), refl, rw (c.in-Err.ensures.items, c.in-Err.ensures.len, c.in-Err.ensures.err) c.self.view_is)

pub invariant_of-self-2 : goal.invariant_of-self-2
invariant_of-self-2 c =
    rw (c.push_reserved.ensures.items, c.in_default.ensures.items) (AreApart-put _ _ _ c.self.view_is c.self.invariant c.args.id _ c.requires)

pub returns : goal.returns
returns c =
    let len = len-seen _ _ _ c.self.view_is c.self.invariant in
    let held = c.self.inside.pairs.ok.0 in
    let spare = ap (λ view. view.spare) c.self.view_is in
    (omega arith, rw (c.push_reserved.ensures.items, c.in_default.ensures.items) (objects-put _ _ _ c.self.view_is c.self.invariant c.args.id _ c.requires), omega arith)
