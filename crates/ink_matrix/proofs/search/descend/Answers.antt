use Rattle.std.proofs.Common.{◌++◌, map, sym, ap, ◌∙◌, arith}
use Rattle.ink_matrix.specs.Views.{kind_at, alternatives, rows_of}
use Rattle.std.proofs.lemmas.Bool.{eqb-true}
use Rattle.std.specs.Prelude.{replicate}
use Rattle.ink_matrix.specs.declared.pattern.Choice.TheVariants as choice
use Rattle.ink_matrix.specs.Rows.{some_of, is_whole}
use Rattle.ink_matrix.specs.Search.{choice_of}
use Rattle.ink_matrix.proofs.Searches.{found_here, whole_here}
use Rattle.ink_matrix.proofs.search.descend.Goals as goal

pub returns-then-is_empty : goal.returns-then-is_empty
returns-then-is_empty c = λ columns rows l. found_here (kind_at c.args.kinds.now) (alternatives c.args.patterns.now) columns rows c.args.frames.now.items c.args.matrix.columns.items c.args.matrix.rows.items _ (let z = eqb-true c.args.matrix.rows.len 0 (sym c.if-is_empty.ensures) in omega (arith, z, c.args.matrix.rows.ok.0))
    (c.in_ok-choices.ensures ∙ (ap (λ x. map choice_of x ++ replicate c.len.result choice.Any) c.deref.ensures.value ∙ ap (λ n. map choice_of c.args.frames.now.items ++ replicate n choice.Any) (omega (arith, c.len.ensures, c.args.matrix.columns.ok.0)))) l

pub returns-then-any_whole : goal.returns-then-any_whole
returns-then-any_whole c = λ columns rows l. whole_here (kind_at c.args.kinds.now) (alternatives c.args.patterns.now) columns rows c.args.frames.now.items c.args.matrix.columns.items (rows_of c.args.matrix.rows.items) (sym (c.if-any_whole.ensures ∙ ap (λ x. some_of (is_whole (alternatives c.args.patterns.now)) (rows_of x)) c.deref-2.ensures.value)) l
