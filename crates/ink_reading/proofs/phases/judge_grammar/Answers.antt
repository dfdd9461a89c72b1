use Rattle.std.proofs.Common.{◌∙◌}
use Rattle.ink_grammar.specs.Views.{tree}
use Rattle.ink_reading.proofs.GrammarLemmas.{refuses-grammar, judges-module}
use Rattle.ink_reading.proofs.phases.judge_grammar.Goals as goal

pub returns : goal.returns
returns c =
    refuses-grammar c.args.source.now c.args.tokens.now c.deref.result.now c.in-Err-Unexpected.field-0 c.in-Err-Unexpected.number
    c.byte_of-byte.result c.broken.result (c.deref.ensures.value ∙ c.in_ok-seen.ensures) c.in-Err-Unexpected.ensures.refused
    c.in-Err-Unexpected.field-0-is c.byte_of-byte.ensures.byte c.broken.ensures

pub returns-in-Ok : goal.returns-in-Ok
returns-in-Ok c =
    judges-module c.args.source.now c.args.tokens.now c.deref.result.now (tree c.in-Ok.«module»)
    (c.deref.ensures.value ∙ c.in_ok-seen.ensures) c.in-Ok.ensures.parsed c.in-Ok.ensures.only
