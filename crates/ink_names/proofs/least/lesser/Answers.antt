use Rattle.std.proofs.Common.{◌≡◌, ◌∙◌, sym, true}
use Rattle.ink_names.specs.Least.{is_before}
use Rattle.ink_names.proofs.LeastLemmas as lemmas
use Rattle.ink_names.proofs.least.lesser.Goals as goal

pub returns-then-is_before-clause-least : goal.returns-then-is_before-clause-least
returns-then-is_before-clause-least c = λ told least.
    let less : is_before c.args.broken c.args.kept ≡ true = sym c.is_before.ensures ∙ c.if-is_before.true in
    lemmas.lesser told c.args.broken c.args.kept less least
