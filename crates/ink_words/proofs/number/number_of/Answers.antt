use Rattle.std.proofs.Common.{◌≡◌, Ok, sym, ap, ◌∙◌, subst, arith}
use Rattle.std.specs.Str.{IsUtf8}
use Rattle.std.specs.Fmt.{decimal}
use Rattle.ink_words.proofs.LimitLemmas.{number_utf8, number_parsed}
use Rattle.ink_words.proofs.number.number_of.Goals as goal
use Rattle.ink_words.proofs.number.number_of.Goals.{then-number-lt1-via-then-number-lt1, then-number-lt1-via-else-number-lt1+then-number-greatest}

pub returns-in_default-clause-none : goal.returns-in_default-clause-none
returns-in_default-clause-none c = λ number is.
    c.in_default.ensures.cases.0 (subst IsUtf8 (sym c.bytes.ensures) (number_utf8 c.args.greatest number c.args.word.now c.ranges.greatest.fits is))

pub returns-in_default-parse-clause-none : goal.returns-in_default-parse-clause-none
returns-in_default-parse-clause-none c = λ number is.
    let e : c.parse.result ≡ Ok number = number_parsed c.args.greatest number c.in-Ok.digits.now c.parse.result c.ranges.greatest.fits (rw (c.in-Ok.ensures.cases.0, c.bytes.ensures) is) c.parse.ensures.value.0 in
    c.in_default-parse.not-Ok number e

pub returns-then-number-lt1-clause-none : goal.returns-then-number-lt1-clause-none
returns-then-number-lt1-clause-none c = λ number is.
    let e : c.parse.result ≡ Ok number = number_parsed c.args.greatest number c.in-Ok.digits.now c.parse.result c.ranges.greatest.fits (rw (c.in-Ok.ensures.cases.0, c.bytes.ensures) is) c.parse.ensures.value.0 in
    let same : c.in-Ok-parse.number ≡ number = let read = c.in-Ok-parse.is in cc in
    elim c.then-number-lt1.branch [
      | then-number-lt1-via-then-number-lt1 w ↦ omega (arith, w.if-number-lt1, same, is.0.0)
      | then-number-lt1-via-else-number-lt1+then-number-greatest w ↦ omega (arith, w.if-number-greatest, same, is.0.1)
    ]

pub returns-then-not-is-clause-none : goal.returns-then-not-is-clause-none
returns-then-not-is-clause-none c = λ number is.
    let e : c.parse.result ≡ Ok number = number_parsed c.args.greatest number c.in-Ok.digits.now c.parse.result c.ranges.greatest.fits (rw (c.in-Ok.ensures.cases.0, c.bytes.ensures) is) c.parse.ensures.value.0 in
    let same : c.in-Ok-parse.number ≡ number = let read = c.in-Ok-parse.is in cc in
    let spelled : c.args.word.now ≡ c.as_bytes.result.now = is.1 ∙ ap decimal (sym same) ∙ sym c.format.ensures.text ∙ sym c.as_bytes.ensures.value in
    let told = c.if-not-is.ensures.1 spelled in cc
