use Rattle.std.proofs.Common.{arith}
use Rattle.std.proofs.lemmas.List.{drop_all}
use Rattle.ink_assemble.proofs.Asked.{one_more, whole}
use Rattle.ink_assemble.proofs.methods.methods_of.Goals as goal

pub loop-entry-preserved : goal.loop-entry-preserved
loop-entry-preserved c =
    one_more _ _ c.args.entries.now c.loop-entry.entry-index _ c.entry-item.result _ _ _ _ _ c.loop-entry-test.true c.entry-item.is (omega arith)
    c.in_ok-end.ensures c.in_ok-add.ensures c.loop-entry.invariant c.in_ok-method.ensures

pub returns : goal.returns
returns c = rw c.of.ensures (whole _ _ c.args.entries.now _ _ _ (drop_all c.loop-entry.entry-index c.args.entries.now c.loop-entry-test.false) c.loop-entry.invariant)
