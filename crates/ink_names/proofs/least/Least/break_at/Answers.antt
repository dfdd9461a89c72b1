use Rattle.std.proofs.Common.{◌≡◌, ◌∙◌, sym, subst, Option, Some}
use Rattle.ink_names.specs.declared.least.Broken.{Broken}
use Rattle.ink_names.specs.Least.{IsLeastOf}
use Rattle.ink_names.proofs.least.Least.break_at.Goals as goal

pub returns-in-Some : goal.returns-in-Some
returns-in-Some c = λ told least.
    let kept : c.args.self.now ≡ Some c.in-Some.kept = sym c.self.view_is ∙ c.in-Some.is in
    let P : Option Broken → Type 0 = λ o. IsLeastOf told o in
    c.lesser.ensures.least told (subst P kept least)
