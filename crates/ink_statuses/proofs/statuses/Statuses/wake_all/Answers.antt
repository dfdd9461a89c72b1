use Rattle.std.proofs.Common.{◌≡◌, ℕ, ◌+◌, length, List, ap, ◌∙◌, arith}
use Rattle.ink_base.specs.Numbered.{numbered}
use Rattle.ink_statuses.proofs.Woken.{woken_up_to, woken_more, woken_all}
use Rattle.ink_numbered.specs.Roomy.{Roomy}
use Rattle.ink_statuses.specs.Readings.{woken_for}
use Rattle.ink_worlds.specs.declared.status.Status.{Status}
use Rattle.ink_statuses.proofs.statuses.Statuses.wake_all.Goals as goal

pub loop-index-preserved : goal.loop-index-preserved
loop-index-preserved c = record {
  woken = c.wake_one.ensures.items
      ∙ (ap (λ (zs : List Status). woken_for c.args.future (numbered zs (c.loop-index.index + 1)) zs (c.loop-index.index + 1)) c.loop-index.invariant.woken
      ∙ woken_more c.args.future c.loop-index.index c.args.self.now.items);
  spare = c.wake_one.ensures.spare ∙ c.loop-index.invariant.spare;
}

pub returns-clause-items : goal.returns-clause-items
returns-clause-items c =
    let same : length c.self.inside.list.items ≡ length c.args.self.now.items = ap (λ (r : Roomy Status). length r.items) c.self.view_is in
    let all : c.loop-index.index ≡ length c.args.self.now.items = omega (arith, c.loop-index-test.false, c.loop-index.auto.index-end, c.len-index-end.ensures, same) in
    c.loop-index.invariant.woken
    ∙ (ap (λ (count : ℕ). woken_up_to c.args.future count c.args.self.now.items) all ∙ woken_all c.args.future c.args.self.now.items)
