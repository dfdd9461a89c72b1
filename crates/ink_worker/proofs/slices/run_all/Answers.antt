use Rattle.std.proofs.Common.{List, length, arith, ◌<◌, ◌∙◌, sym, ap, subst}
use lib.ListN.{get_or}
use Rattle.ink_worker.proofs.HandLemmas.{carries_set}
use Rattle.ink_worker.specs.declared.held.Held.{Held}
use Rattle.ink_worker.proofs.slices.run_all.Goals as goal

pub loop-index-preserved : goal.loop-index-preserved
loop-index-preserved g c =
    let hand : List (Held g.row.S-Work.Denot) = c.loop-index.hand.items in
    let held : Held g.row.S-Work.Denot = c.index_mut.result.now in
    let small : c.loop-index.index < length hand = omega arith in
    let at : Held g.row.S-Work.Denot = get_or hand c.loop-index.index held in
    record {
      count = c.loop-index.invariant.count;
      hand = λ f lease journal fits carries.
          carries_set lease (g.S.Workable.is_run f journal) hand c.loop-index.index c.run_one.new.held held small
          (c.run_one.ensures.process ∙ ap (λ (h : Held g.row.S-Work.Denot). h.process) c.index_mut.ensures.value)
          (λ run. c.run_one.ensures.run f journal at.process fits
          (subst (λ (h : Held g.row.S-Work.Denot). g.S.Workable.is_run f journal at.process h.work) (sym c.index_mut.ensures.value) run))
          (c.loop-index.invariant.hand f lease journal fits carries);
    }
