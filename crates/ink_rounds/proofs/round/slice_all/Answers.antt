use Rattle.std.proofs.Common.{ap, length, sym, ◌∙◌}
use Rattle.ink_rounds.proofs.LentLemmas.{all_sliced}
use Rattle.ink_rounds.proofs.round.slice_all.Goals as goal

-- src/round.rt:75:1
pub returns : goal.returns
returns g c =
    let same = c.as_mut_slice.ensures.value in
    all_sliced c.args.code.now c.args.limits.now c.args.lent.now.items c.make_slices.new.lent c.args.lent.now.len
    (sym c.as_mut_slice.ensures.len ∙ ap length same)
    (c.make_slices.ensures.count ∙ ap length same)
    (rw same at c.make_slices.ensures.each)
