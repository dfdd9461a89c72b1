use Rattle.std.proofs.Common.{◌≡◌, ◌-◌, ℕ, min, take, length, arith, w64, drop, get_or, ap, sym, ◌∙◌, if◌then◌else◌, ◌==◌, true, rules}
use Rattle.std.proofs.lemmas.Int.{to_z-of_z}
use Rattle.std.proofs.lemmas.Grind.{common_steps}
use Rattle.ink_tokens.specs.Integer.{magnitude}
use Rattle.ink_tables.specs.Value.{integer_value, negative, positive}
use Rattle.ink_tables.proofs.NumberLemmas.{negative_min}
use Rattle.ink_tables.proofs.value.integer_value.Goals as goal

pub returns-then-byte_at-eq45 : goal.returns-then-byte_at-eq45
unfolding integer_value
returns-then-byte_at-eq45 c =
    let text = c.args.text.now in
    let signed : (get_or text 0 0 == 45) ≡ true = ap (λ (n : ℕ). n == 45) (sym c.byte_at.ensures ∙ c.if-byte_at-eq45.true) in
    let rest : take (length text - 1) (drop 1 text) ≡ drop 1 text = grind (arith, common_steps) in
    to_z-of_z w64 c.negative.result (search rules) ∙ c.negative.ensures ∙ ap negative c.magnitude.ensures
    ∙ ap (λ t. negative (min (magnitude t) 18446744073709551615)) rest ∙ negative_min (magnitude (drop 1 text))
    ∙ ap (λ b. if b then negative (magnitude (drop 1 text)) else positive (magnitude text)) (sym signed)
