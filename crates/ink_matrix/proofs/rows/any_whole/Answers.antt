use Rattle.std.proofs.Common.{sym, ap, ◌∙◌}
use Rattle.ink_matrix.specs.Rows.{is_whole}
use Rattle.ink_matrix.specs.Views.{alternatives}
use Rattle.ink_matrix.proofs.Loops.{some_found}
use Rattle.ink_matrix.proofs.rows.any_whole.Goals as goal

pub returns-then-is_whole : goal.returns-then-is_whole
returns-then-is_whole c = sym (some_found (λ r. r.parts.items) (is_whole (alternatives c.args.patterns.now)) c.args.rows.now c.loop-row.row-index c.row-item.result c.loop-row-test.true c.row-item.is (sym (c.if-is_whole.ensures ∙ ap (λ x. is_whole (alternatives c.args.patterns.now) x) c.deref.ensures.value)))
