use Rattle.std.proofs.Common.{◌≡◌, ◌-◌, ℕ, List, get_or, take, arith, sym, subst, ap, ◌∙◌}
use Rattle.ink_text.specs.Place.{line_behind, column_behind}
use Rattle.ink_tables.specs.Lines.{line_starts, IsSplitAt}
use Rattle.ink_tables.proofs.LineLemmas.{lines_split, column_is, few_lines}
use Rattle.ink_tables.proofs.lines.Lines.place_of.Goals as goal

pub returns : goal.returns
returns c = λ source is inside small.
    let byte = c.args.byte in
    let starts : c.deref.result.now ≡ line_starts source = c.deref.ensures.value ∙ c.self.view_is ∙ is in
    let starts-2 : c.deref-2.result.now ≡ line_starts source = c.deref-2.ensures.value ∙ c.self.view_is ∙ is in
    let line = c.count_up_to-line.result in
    let P : List ℕ → Type 0 = λ xs. IsSplitAt byte xs (line_behind (take byte source)) in
    let line_found : line ≡ line_behind (take byte source) = c.count_up_to-line.ensures _ (subst P (sym starts) (lines_split source byte inside)) in
    let few = few_lines source byte inside in
    let start : c.number_at-start.result ≡ get_or (line_starts source) (line - 1) 0 =
    c.number_at-start.ensures ∙ ap (λ xs. get_or xs c.saturating_sub.result 0) starts-2 ∙ ap (λ n. get_or (line_starts source) n 0) c.saturating_sub.ensures in
    let column_found = column_is source byte line inside line_found in
    let line_same : c.min.result ≡ line_behind (take byte source) = omega (arith, c.min.ensures, line_found, few, small) in
    let column_same : c.saturating_add.result ≡ column_behind (take byte source) =
    omega (arith, c.saturating_add.ensures, c.saturating_sub-2.ensures, start, column_found, small) in
    cc
