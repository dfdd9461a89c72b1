use Rattle.std.proofs.Common.{sym, ◌∙◌}
use Rattle.std.proofs.lemmas.Result.{err_from_is_err_and}
use Rattle.ink_commands.proofs.Verdicts.{not_read, is_no_main, judged, no_item, some_item}
use Rattle.ink_commands.proofs.verdict.judge.Goals as goal

pub returns-in_err-reading : goal.returns-in_err-reading
returns-in_err-reading c =
    let p = err_from_is_err_and c.from_residual.result c.from_residual.ensures.1 in
    rw (p.1, p.2) (not_read c.args.limits.now c.args.source.now c.in_err-reading.field-0.0 c.in_err-reading.ensures)

pub returns-then-is_empty : goal.returns-then-is_empty
returns-then-is_empty c =
    let tokens = c.in_ok-reading.reading.tokens in
    is_no_main c.args.limits.now c.args.source.now tokens.items _ c.in_ok-reading.ensures
    (no_item tokens.items (tokens.ok.0) (sym c.is_empty.ensures ∙ c.if-is_empty.true))

pub returns : goal.returns
returns c =
    let tokens = c.in_ok-reading.reading.tokens in
    judged c.args.limits.now c.args.source.now tokens.items _ _ c.in_ok-reading.ensures
    (some_item tokens.items (tokens.ok.0) (sym c.is_empty.ensures ∙ c.if-is_empty.false)) c.judge.ensures
