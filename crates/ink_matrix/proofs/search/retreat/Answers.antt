use Rattle.std.proofs.Common.{◌+◌, [], ◌∷◌, ◌++◌, refl, ap, ◌∙◌}
use Rattle.ink_matrix.specs.Views.{kind_at, alternatives}
use Rattle.ink_matrix.proofs.Searches.{popped_any, popped_case}
use Rattle.ink_matrix.proofs.search.retreat.Goals as goal

pub returns-in-Some-Any : goal.returns-in-Some-Any
returns-in-Some-Any c = λ columns rows b. popped_any (kind_at c.args.kinds.now) (alternatives c.args.patterns.now) columns rows c.args.frames.now.items c.pop.new.self.items (c.in-Some-Any.ensures.items ∙ ap (λ f. c.pop.new.self.items ++ f ∷ []) c.in-Some-Any.field-0-is) b

pub returns-in_ok-here-in-Some-Case : goal.returns-in_ok-here-in-Some-Case
returns-in_ok-here-in-Some-Case c = λ columns rows b.
    let p = popped_case (kind_at c.args.kinds.now) (alternatives c.args.patterns.now) columns rows c.args.frames.now.items c.pop.new.self.items c.in-Some-Case.matrix c.in-Some-Case.case (c.in-Some-Case.case + 1) (c.in-Some-Case.ensures.items ∙ ap (λ f. c.pop.new.self.items ++ f ∷ []) c.in-Some-Case.field-0-is) refl b in
    c.in_ok-here-in-Some-Case.ensures columns rows p.0 p.1
