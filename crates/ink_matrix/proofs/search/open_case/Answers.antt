use Rattle.std.proofs.Common.{◌++◌, length, refl, sym, ap, ◌∙◌}
use Rattle.ink_matrix.specs.Views.{kind_at, alternatives, rows_of}
use Rattle.ink_matrix.specs.Rows.{open_rows}
use Rattle.ink_matrix.proofs.Searches.{opened, closed}
use Rattle.ink_matrix.proofs.search.open_case.Goals as goal

pub returns-in_default-fields_of : goal.returns-in_default-fields_of
returns-in_default-fields_of c = λ columns rows r l. closed (kind_at c.args.kinds.now) (alternatives c.args.patterns.now) refl columns rows c.args.frames.now.items c.args.matrix c.args.case c.in-Some.column.now c.in-Some.rest.now (sym c.deref.ensures.value ∙ c.in-Some.ensures.cases.0) c.in_default-fields_of.ensures.none r l

pub returns : goal.returns
returns c = λ columns rows r l. opened (kind_at c.args.kinds.now) (alternatives c.args.patterns.now) refl columns rows c.args.frames.now.items c.push.new.self.items c.args.matrix c.extend_from_slice.new.self.items (rows_of c.in_ok-rows.rows.items) c.args.case c.in-Some.column.now c.in-Some.rest.now c.in-Some-fields_of.fields.now (sym c.deref.ensures.value ∙ c.in-Some.ensures.cases.0) c.in-Some-fields_of.ensures.some r l c.in_ok-push.ensures.items (c.in_ok-extend_from_slice.ensures.items ∙ ap (λ x. x ++ c.in-Some.rest.now) c.in_ok-columns.ensures.items) (c.in_ok-rows.ensures ∙ ap (λ x. open_rows (alternatives c.args.patterns.now) c.args.case (length c.in-Some-fields_of.fields.now) (rows_of x)) c.deref-2.ensures.value)
