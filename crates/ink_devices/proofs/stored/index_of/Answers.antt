use Rattle.std.proofs.Common.{arith, sym, ap, ◌∙◌}
use Rattle.ink_devices.proofs.StoredLemmas.{IsAt-first, bytes_under-take_more}
use Rattle.ink_devices.proofs.stored.index_of.Goals as goal

pub returns-then-is-clause-found : goal.returns-then-is-clause-found
returns-then-is-clause-found c =
    let file = c.index-files-index.result in
    IsAt-first c.args.files.now c.args.name.now c.loop-index.index file c.loop-index.invariant (omega arith)
    (ap (λ f. f.0) (sym c.index-files-index.is) ∙ c.is.ensures.0 c.if-is.true)

pub loop-index-preserved : goal.loop-index-preserved
loop-index-preserved c =
    let file = c.index-files-index.result in
    bytes_under-take_more c.args.files.now c.args.name.now c.loop-index.index file (omega arith) c.loop-index.invariant
    (λ same. let told = c.is.ensures.1 (ap (λ f. f.0) c.index-files-index.is ∙ same) in let other = c.if-is.false in cc)
