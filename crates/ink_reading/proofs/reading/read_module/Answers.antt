use Rattle.std.proofs.Common.{rules}
use Rattle.ink_grammar.specs.Views.{tree}
use Rattle.ink_reading.proofs.ReadingLemmas.{answers-fault, answers-length, answers-text, answers-tokens, answers-grammar, answers-height, answers-read}
use Rattle.ink_reading.proofs.reading.read_module.Goals as goal

pub returns-in_err-judge_length : goal.returns-in_err-judge_length
returns-in_err-judge_length c =
    let limits = c.args.limits.now in
    let told = c.in_err-judge_length.ensures.long in
    answers-fault limits c.args.source.now c.from_residual.result c.in_err-judge_length.field-0.0 (search rules)
    (answers-length limits c.args.source.now c.in_err-judge_length.field-0.0 told.0 told.1)

pub returns-in_err-judge_text : goal.returns-in_err-judge_text
returns-in_err-judge_text c =
    let limits = c.args.limits.now in
    answers-fault limits c.args.source.now c.from_residual-in_err-judge_text.result c.in_err-judge_text.field-0.0 (search rules)
    (answers-text limits c.args.source.now c.in_err-judge_text.field-0.0 c.in_ok-judge_length.ensures.short
    c.in_err-judge_text.ensures.other)

pub returns-in_err-tokens : goal.returns-in_err-tokens
returns-in_err-tokens c =
    let limits = c.args.limits.now in
    answers-fault limits c.args.source.now c.from_residual-in_err-tokens.result c.in_err-tokens.field-0.0 (search rules)
    (answers-tokens limits c.args.source.now c.in_err-tokens.field-0.0 c.in_ok-judge_length.ensures.short
    c.in_ok-judge_text.ensures.text c.in_err-tokens.ensures.answers)

pub returns-in_err-module : goal.returns-in_err-module
returns-in_err-module c =
    let limits = c.args.limits.now in
    answers-fault limits c.args.source.now c.from_residual-in_err-module.result c.in_err-module.field-0.0 (search rules)
    (answers-grammar limits c.args.source.now c.in_ok-tokens.tokens.items c.deref.result.now c.in_err-module.field-0.0
    c.in_ok-judge_length.ensures.short c.in_ok-judge_text.ensures.text c.in_ok-tokens.ensures.answers c.deref.ensures.value
    c.in_err-module.ensures)

pub returns-in_err-judge_height : goal.returns-in_err-judge_height
returns-in_err-judge_height c =
    let limits = c.args.limits.now in
    answers-fault limits c.args.source.now c.from_residual-in_err-judge_height.result c.in_err-judge_height.field-0.0 (search rules)
    (answers-height limits c.args.source.now c.in_ok-tokens.tokens.items c.deref.result.now (tree c.in_ok-module.«module»)
    c.in_err-judge_height.field-0.0 c.in_ok-judge_length.ensures.short c.in_ok-judge_text.ensures.text
    c.in_ok-tokens.ensures.answers c.deref.ensures.value c.in_ok-module.ensures c.in_err-judge_height.ensures)

pub returns : goal.returns
returns c =
    answers-read c.args.limits.now c.args.source.now c.deref.result.now
    (record { tokens = c.in_ok-tokens.tokens; «module» = c.in_ok-module.«module» }) c.in_ok-judge_length.ensures.short
    c.in_ok-judge_text.ensures.text c.in_ok-tokens.ensures.answers c.deref.ensures.value c.in_ok-module.ensures
    c.in_ok-judge_height.ensures
