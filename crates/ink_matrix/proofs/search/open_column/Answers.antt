use Rattle.ink_matrix.specs.Views.{kind_at, alternatives}
use Rattle.ink_matrix.proofs.Searches.{skip_on}
use Rattle.ink_matrix.proofs.search.open_column.Goals as goal

pub returns-then-is_skipped : goal.returns-then-is_skipped
returns-then-is_skipped c = λ columns rows l. skip_on (kind_at c.args.kinds.now) (alternatives c.args.patterns.now) columns rows c.args.frames.now.items c.skip_column.new.frames.items c.args.matrix.columns.items c.args.matrix.rows.items c.in_ok-next.next c.requires c.if-is_skipped.ensures c.in_ok-next.ensures.0 c.in_ok-next.ensures.1 l
