use Rattle.std.proofs.Common.{◌≡◌, Some, sym, ap, ◌∙◌, None, take, ◌++◌, ◌∷◌, [], option_map}
use Rattle.std.proofs.lemmas.List.{take_more}
use Rattle.ink_words.specs.Commands.{asked_by}
use Rattle.ink_words.proofs.WordLemmas.{reaches_next, wrong_word, value_missing, operand_missing, is_behind, only_behind}
use Rattle.ink_words.proofs.order.behind_command.Goals as goal

pub returns-in_default-clause-wrong : goal.returns-in_default-clause-wrong
returns-in_default-clause-wrong c =
    wrong_word c.args.command c.args.words.now c.loop-right.right c.index-words-right.result _ _ c.loop-right.invariant c.loop-right-test.true
    (take_more c.args.words.now c.loop-right.right c.index-words-right.result c.loop-right-test.true ∙ ap (λ w. take c.loop-right.right c.args.words.now ++ w ∷ []) (sym c.index-words-right.is))
    c.in_default.ensures.none

pub loop-right-preserved : goal.loop-right-preserved
loop-right-preserved c =
    reaches_next c.args.command _ _ c.index-words-right.result _ _ _ _ c.loop-right.invariant c.in-Some.ensures.some
    (take_more c.args.words.now c.loop-right.right c.index-words-right.result c.loop-right-test.true ∙ ap (λ w. take c.loop-right.right c.args.words.now ++ w ∷ []) (sym c.index-words-right.is))

pub returns-in-Some-awaited-clause-wrong : goal.returns-in-Some-awaited-clause-wrong
returns-in-Some-awaited-clause-wrong c =
    value_missing c.args.command c.args.words.now c.loop-right.right c.in-Some-awaited._setting c.loop-right.progress.arguments c.loop-right-test.false
    (rw c.in-Some-awaited.is at c.loop-right.invariant)

pub returns-in-Some-order-clause-fits : goal.returns-in-Some-order-clause-fits
returns-in-Some-order-clause-fits c =
    is_behind c.args.command c.args.words.now c.loop-right.right c.loop-right.progress.arguments _ c.loop-right-test.false
    (rw c.in-None.is at c.loop-right.invariant) (sym c.order.ensures ∙ ap (option_map asked_by) c.in-Some-order.is)

pub returns-in-Some-order-clause-only : goal.returns-in-Some-order-clause-only
returns-in-Some-order-clause-only c = λ other.
    only_behind c.args.command c.args.words.now c.loop-right.right c.loop-right.progress.arguments _ other c.loop-right-test.false
    (rw c.in-None.is at c.loop-right.invariant) (sym c.order.ensures ∙ ap (option_map asked_by) c.in-Some-order.is)

pub returns-in-None-order-clause-wrong : goal.returns-in-None-order-clause-wrong
returns-in-None-order-clause-wrong c =
    operand_missing c.args.command c.args.words.now c.loop-right.right c.loop-right.progress.arguments c.loop-right-test.false
    (rw c.in-None.is at c.loop-right.invariant) (sym c.order.ensures ∙ ap (option_map asked_by) c.in-None-order.is)
