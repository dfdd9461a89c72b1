use Rattle.std.proofs.Common.{arith, sym, ◌∙◌}
use Rattle.std.proofs.lemmas.Option.{slice_get_within}
use Rattle.std.proofs.lemmas.Result.{err_from_is_err_and}
use Rattle.ink_grammar.specs.Views as view
use Rattle.ink_grammar.proofs.Ends.{made_in, token_in, place_in, part_in, part_shrinks, token_out, place_out, part_refused, begun_in, end_out, end_parsed, end_only}
use Rattle.ink_grammar.proofs.parser.parse.Goals as goal

pub loop-symbol-init : goal.loop-symbol-init
loop-symbol-init c = record { in_range = omega arith; stands = begun_in c.args.tokens.now c.push.new.self (view.found c.new-builder.result) (rw c.new-stack.ensures at c.in_ok-push.ensures) c.new-builder.ensures }

pub loop-symbol-preserved-in-Token : goal.loop-symbol-preserved-in-Token
loop-symbol-preserved-in-Token c =
    let d = c.in_ok-token-in-Token.ensures.taken in
    let k = slice_get_within c.args.tokens.now c.loop-symbol.at c.in_ok-token-in-Token.token (sym c.token_at-token.ensures ∙ d.0) in
    record { in_range = omega arith; stands = token_in c.args.tokens.now c.loop-symbol.at c.loop-symbol.stack c.pop.new.self c.in-Some.symbol (view.found c.loop-symbol.builder) c.token_at-token.result c.in-Some.ensures c.token_at-token.ensures c.loop-symbol.invariant.stands c.in-Token.line c.in-Token.wanted c.in_ok-token-in-Token.token (view.found c.keep.new.self) c.in-Token.is d.0 d.1 d.2 c.in_ok-keep-in-Token.ensures }

pub returns-in_err-token-in-Token-clause-refused : goal.returns-in_err-token-in-Token-clause-refused
returns-in_err-token-in-Token-clause-refused c =
    let p = err_from_is_err_and c.from_residual-in_err-token-in-Token.result c.from_residual-in_err-token-in-Token.ensures.1 in
    rw (p.1, p.2, c.in_err-token-in-Token.ensures.refused.0)
    (token_out c.args.tokens.now c.loop-symbol.at c.loop-symbol.stack c.pop.new.self c.in-Some.symbol (view.found c.loop-symbol.builder) c.token_at-token.result c.in-Some.ensures c.token_at-token.ensures c.loop-symbol.invariant.stands c.in-Token.line c.in-Token.wanted c.in-Token.is c.in_err-token-in-Token.ensures.refused.1 c.loop-symbol.invariant.in_range)

pub loop-symbol-preserved-in-Place : goal.loop-symbol-preserved-in-Place
loop-symbol-preserved-in-Place c =
    let d = c.in_ok-token-in-Place.ensures.taken in
    let k = slice_get_within c.args.tokens.now c.loop-symbol.at c.in_ok-token-in-Place.token (sym c.token_at-token.ensures ∙ d.0) in
    record { in_range = omega arith; stands = place_in c.args.tokens.now c.loop-symbol.at c.loop-symbol.stack c.pop.new.self c.in-Some.symbol (view.found c.loop-symbol.builder) c.token_at-token.result c.in-Some.ensures c.token_at-token.ensures c.loop-symbol.invariant.stands c.in-Place.wanted c.in_ok-token-in-Place.token (view.found c.keep-in-Place.new.self) c.in-Place.is d.0 (sym c.is_place.ensures ∙ d.1) d.2 d.3 c.in_ok-keep-in-Place.ensures }

pub returns-in_err-token-in-Place-clause-refused : goal.returns-in_err-token-in-Place-clause-refused
returns-in_err-token-in-Place-clause-refused c =
    let p = err_from_is_err_and c.from_residual-in_err-token-in-Place.result c.from_residual-in_err-token-in-Place.ensures.1 in
    rw (p.1, p.2, c.in_err-token-in-Place.ensures.refused.0)
    (place_out c.args.tokens.now c.loop-symbol.at c.loop-symbol.stack c.pop.new.self c.in-Some.symbol (view.found c.loop-symbol.builder) c.token_at-token.result c.in-Some.ensures c.token_at-token.ensures c.loop-symbol.invariant.stands c.in-Place.wanted c.in-Place.is (λ t b p. c.in_err-token-in-Place.ensures.refused.1 t b (c.is_place.ensures ∙ p)) c.loop-symbol.invariant.in_range)

pub loop-symbol-smaller-in-Continue-branch-7 : goal.loop-symbol-smaller-in-Continue-branch-7
loop-symbol-smaller-in-Continue-branch-7 c = part_shrinks c.args.tokens.now c.loop-symbol.at c.loop-symbol.stack c.pop.new.self c.in-Some.symbol (view.found c.loop-symbol.builder) c.token_at-token.result c.in-Some.ensures c.token_at-token.ensures c.loop-symbol.invariant.stands c.in-Part.line c.in-Part.part c.in_ok-rule-in-Part.rule.now c.push_all.new.self c.in-Part.is c.in_ok-rule-in-Part.ensures.chosen.1 c.in_ok-push_all-in-Part.ensures

pub loop-symbol-preserved-in-Continue-branch-7 : goal.loop-symbol-preserved-in-Continue-branch-7
loop-symbol-preserved-in-Continue-branch-7 c = record { in_range = c.loop-symbol.invariant.in_range; stands = part_in c.args.tokens.now c.loop-symbol.at c.loop-symbol.stack c.pop.new.self c.in-Some.symbol (view.found c.loop-symbol.builder) c.token_at-token.result c.in-Some.ensures c.token_at-token.ensures c.loop-symbol.invariant.stands c.in-Part.line c.in-Part.part c.in_ok-rule-in-Part.rule.now c.push_all.new.self c.in-Part.is c.in_ok-rule-in-Part.ensures.chosen.0 c.in_ok-rule-in-Part.ensures.chosen.1 c.in_ok-push_all-in-Part.ensures }

pub returns-in_err-rule-in-Part-clause-refused : goal.returns-in_err-rule-in-Part-clause-refused
returns-in_err-rule-in-Part-clause-refused c =
    let p = err_from_is_err_and c.from_residual-in_err-rule-in-Part.result c.from_residual-in_err-rule-in-Part.ensures.1 in
    rw (p.1, p.2, c.in_err-rule-in-Part.ensures.refused.0)
    (part_refused c.args.tokens.now c.loop-symbol.at c.loop-symbol.stack c.pop.new.self c.in-Some.symbol (view.found c.loop-symbol.builder) c.token_at-token.result c.in-Some.ensures c.token_at-token.ensures c.loop-symbol.invariant.stands c.in-Part.line c.in-Part.part c.in-Part.is c.in_err-rule-in-Part.ensures.refused.1 c.loop-symbol.invariant.in_range)

pub loop-symbol-preserved : goal.loop-symbol-preserved
loop-symbol-preserved c = record { in_range = c.loop-symbol.invariant.in_range; stands = made_in c.args.tokens.now c.loop-symbol.at c.loop-symbol.stack c.pop.new.self c.in-Some.symbol (view.found c.loop-symbol.builder) c.token_at-token.result c.in-Some.ensures c.token_at-token.ensures c.loop-symbol.invariant.stands c.in-Do.action (view.found c.act.new.self) c.in-Do.is c.in_ok-act-in-Do.ensures }

pub returns-then-at-tokens-clause-refused : goal.returns-then-at-tokens-clause-refused
returns-then-at-tokens-clause-refused c = end_out c.args.tokens.now c.loop-symbol.at c.loop-symbol.stack (view.found c.loop-symbol.builder) c.in_default.ensures.0 c.loop-symbol.invariant.stands c.if-at-tokens.true

pub returns-clause-parsed : goal.returns-clause-parsed
returns-clause-parsed c = end_parsed c.args.tokens.now c.loop-symbol.at c.loop-symbol.stack (view.found c.loop-symbol.builder) c.in_default.ensures.0 c.loop-symbol.invariant.stands c.if-at-tokens.false (view.tree c.finish.result) c.finish.ensures

pub returns-clause-only : goal.returns-clause-only
returns-clause-only c = end_only c.args.tokens.now c.loop-symbol.at c.loop-symbol.stack (view.found c.loop-symbol.builder) c.in_default.ensures.0 c.loop-symbol.invariant.stands c.if-at-tokens.false (view.tree c.finish.result) c.finish.ensures
