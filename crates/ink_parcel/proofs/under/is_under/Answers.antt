use Rattle.std.proofs.Common.{◌≡◌, ℕ, true, false, ◌+◌, ◌-◌, ◌<◌, ◌++◌, length, suc, ap, sym, ◌∙◌, arith}
use Rattle.std.specs.FinMap.{len}
use Rattle.ink_parcel.specs.Owners.{owner_in}
use Rattle.std.specs.Ordering.{is_eq}
use Rattle.ink_parcel.proofs.ExactLemmas.{found_in_tree, found_exactly}
use Rattle.ink_parcel.proofs.UnderLemmas.{met_from, met_from-value, met_from-empty, met_from-zero, met_from-here, met_from-on, not_empty}
use Rattle.ink_parcel.proofs.under.is_under.Goals as goal

pub loop-init : goal.loop-init
loop-init c =
    let objects = c.args.heap.now.objects in
    let stack = c.push_owner.new.stack.items in
    let own = c.in_ok-push_owner.ensures.pushed ∙ ap (λ items. items ++ owner_in c.args.value.now) c.new-stack.ensures.items in
    let size : len objects ≡ c.len-end.result - 0 = omega arith in
    record {
      walk = met_from-value c.args.id.now c.args.value.now objects stack own
          ∙ ap (λ (n : ℕ). met_from n c.args.id.now objects stack) size;
      plain = λ none. ap length (own ∙ none);
    }

pub returns-in-None-clause-found : goal.returns-in-None-clause-found
returns-in-None-clause-found c =
    let held = c.loop.stack.ok.0 in
    let size = c.in-None.ensures.cases.0 in
    let none : length c.loop.stack.items ≡ 0 = omega arith in
    sym (c.loop.invariant.walk ∙ met_from-empty (c.len-end.result - c.loop.counter) c.args.id.now c.args.heap.now.objects c.loop.stack.items none)

pub returns-then-is_eq-clause-found : goal.returns-then-is_eq-clause-found
returns-then-is_eq-clause-found c =
    let most = c.len-end.result - c.loop.counter in
    let some : 0 < most = omega arith in
    sym (c.loop.invariant.walk ∙ met_from-here most c.args.id.now c.in-Some.next c.args.heap.now.objects c.loop.stack.items c.pop.new.self.items some c.in-Some.ensures.items (ap is_eq (sym c.compare.ensures) ∙ sym c.is_eq.ensures ∙ c.if-is_eq.true))

pub loop-preserved : goal.loop-preserved
loop-preserved c =
    let most = c.len-end.result - c.loop.counter in
    let less = c.len-end.result - (c.loop.counter + 1) in
    let one : most ≡ suc less = omega arith in
    let other = ap is_eq (sym c.compare.ensures) ∙ sym c.is_eq.ensures ∙ c.if-is_eq.false in
    record {
      walk = c.loop.invariant.walk
          ∙ met_from-on most less c.args.id.now c.in-Some.next c.args.heap.now.objects c.loop.stack.items c.pop.new.self.items c.push_owners.new.stack.items one c.in-Some.ensures.items other c.in_ok-push_owners.ensures;
      plain = λ none. absurd (not_empty c.loop.stack.items c.pop.new.self.items c.in-Some.next c.in-Some.ensures.items (c.loop.invariant.plain none));
    }

pub returns-in_err-push_owners-clause-succeeds : goal.returns-in_err-push_owners-clause-succeeds
returns-in_err-push_owners-clause-succeeds c =
    λ none. absurd (not_empty c.loop.stack.items c.pop.new.self.items c.in-Some.next c.in-Some.ensures.items (c.loop.invariant.plain none))

pub returns-clause-found : goal.returns-clause-found
returns-clause-found c =
    let none : c.len-end.result - c.loop.counter ≡ 0 = omega arith in
    sym (c.loop.invariant.walk ∙ met_from-zero (c.len-end.result - c.loop.counter) c.args.id.now c.args.heap.now.objects c.loop.stack.items none)

pub returns-then-is_eq-clause-tree : goal.returns-then-is_eq-clause-tree
returns-then-is_eq-clause-tree c =
    found_in_tree c.args.id.now c.args.value.now c.args.heap.now.objects true (returns-then-is_eq-clause-found c)

pub returns-in-None-clause-exact : goal.returns-in-None-clause-exact
returns-in-None-clause-exact c = λ others once.
    found_exactly c.args.id.now c.args.value.now others c.args.heap.now.objects false (returns-in-None-clause-found c) once

pub returns-then-is_eq-clause-exact : goal.returns-then-is_eq-clause-exact
returns-then-is_eq-clause-exact c = λ others once.
    found_exactly c.args.id.now c.args.value.now others c.args.heap.now.objects true (returns-then-is_eq-clause-found c) once

pub returns-clause-exact : goal.returns-clause-exact
returns-clause-exact c = λ others once.
    found_exactly c.args.id.now c.args.value.now others c.args.heap.now.objects false (returns-clause-found c) once
