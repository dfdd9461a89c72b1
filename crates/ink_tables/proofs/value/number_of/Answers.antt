use Rattle.std.proofs.Common.{◌≡◌, ◌<◌, ◌+◌, ◌∷◌, [], fold, drop, min, length, get_or, sym, ap, ◌∙◌, arith, drop-cons, add-one, rules}
use Rattle.std.proofs.lemmas.Grind.{common_steps}
use Rattle.ink_tokens.specs.Integer.{number_behind}
use Rattle.ink_tables.proofs.NumberLemmas.{counted}
use Rattle.ink_tables.proofs.value.number_of.Goals as goal

pub loop-byte-preserved : goal.loop-byte-preserved
loop-byte-preserved c = record {
  whole =
      let base = c.args.base in
      let digits = c.args.digits.now in
      let index = c.loop-byte.byte-index in
      let number = c.loop-byte.number in
      let inside : index < length digits = search rules in
      let front : drop index digits ≡ get_or digits index 0 ∷ drop (index + 1) digits = drop-cons digits index 0 inside ∙ ap (λ n. get_or digits index 0 ∷ drop n digits) (sym (add-one index)) in
      ap (λ n. min (fold (number_behind base) n (drop (index + 1) digits)) 18446744073709551615) c.number_behind-number.ensures
      ∙ counted base 18446744073709551615 (number_behind base number (get_or digits index 0)) (drop (index + 1) digits) c.requires
      ∙ ap (λ ds. min (fold (number_behind base) number ds) 18446744073709551615) (sym front)
      ∙ c.loop-byte.invariant.whole;
  small = omega (arith, c.number_behind-number.ensures);
}

pub returns : goal.returns
returns c =
    let base = c.args.base in
    let number = c.loop-byte.number in
    let none : drop c.loop-byte.byte-index c.args.digits.now ≡ [] = grind (arith, common_steps) in
    omega (arith, c.loop-byte.invariant.small, ap (λ ds. min (fold (number_behind base) number ds) 18446744073709551615) none, c.loop-byte.invariant.whole)
