use Rattle.std.proofs.Common.{arith, refl, sym, ap, subst, ◌≤◌, length, length-drop, Err}
use Rattle.ink_base.specs.declared.refusal.Rule.TheVariants.{BadToken}
use Rattle.ink_tokens.specs.Scan.{scan_of}
use Rattle.ink_tokens.specs.Lexes.{Lexes, begins, Answers}
use Rattle.ink_tokens.specs.Ending.{IsSound}
use Rattle.ink_tokens.proofs.SoundLemmas.{IsSound-start, IsSound-gap, IsSound-token, first_fault-le}
use Rattle.ink_tokens.proofs.LexesLemmas.{one_outcome}
use Rattle.ink_tokens.proofs.AnswerLemmas.{lexes-gap, lexes-token, refuses-nothing, answers-end}
use Rattle.ink_tokens.proofs.lexing.tokens.Goals as goal

pub loop-scanner-init : goal.loop-scanner-init
loop-scanner-init c =
    let source = c.args.source.now in
    record {
      lexes = subst (Lexes source) (sym c.new-scanner.ensures) begins;
      sound = subst (IsSound source) (sym c.new-scanner.ensures) (IsSound-start source);
    }

pub loop-scanner-preserved-in-Gap : goal.loop-scanner-preserved-in-Gap
loop-scanner-preserved-in-Gap c =
    let source = c.args.source.now in
    let scan = scan_of c.loop-scanner.scanner in
    let held = c.loop-scanner.invariant in
    let is_rest = c.bytes_from-rest.ensures in
    let room = c.in-Gap.ensures.inside in
    record {
      lexes = lexes-gap source c.bytes_from-rest.result.now scan (scan_of c.skip.new.self) c.in-Gap.length c.in-Gap.line_feed
          held.lexes c.loop-scanner-test.true is_rest c.in-Gap.ensures.value c.skip.ensures;
      sound = subst (IsSound source) (sym c.skip.ensures) (IsSound-gap source scan c.in-Gap.length c.in-Gap.line_feed held.sound
          (omega (arith, room, ap length is_rest, length-drop scan.at source, held.sound.inside)));
    }

pub loop-scanner-preserved : goal.loop-scanner-preserved
loop-scanner-preserved c =
    let source = c.args.source.now in
    let scan = scan_of c.loop-scanner.scanner in
    let held = c.loop-scanner.invariant in
    let is_rest = c.bytes_from-rest.ensures in
    let room = c.in-Token.ensures.inside in
    record {
      lexes = lexes-token source c.bytes_from-rest.result.now scan (scan_of c.take.new.self) c.in-Token.read
          held.lexes c.loop-scanner-test.true is_rest c.in-Token.ensures.value c.in_ok-take-in-Token.ensures;
      sound = subst (IsSound source) (sym c.in_ok-take-in-Token.ensures) (IsSound-token source scan c.in-Token.read held.sound room.0
          (omega (arith, room, ap length is_rest, length-drop scan.at source, held.sound.inside)));
    }

pub told_fault-requires-clause-inside : goal.told_fault-requires-clause-inside
told_fault-requires-clause-inside c =
    let scanner = c.loop-scanner.scanner in
    let sound = c.loop-scanner.invariant.sound in
    let within = first_fault-le scanner.wide BadToken scanner.at scanner.at sound.wide (omega arith) in
    omega (arith, subst (λ fault. fault.byte ≤ scanner.at) (sym c.first_fault-fault.ensures) within, sound.inside)

pub returns-in_err-take-in-Token-clause-only : goal.returns-in_err-take-in-Token-clause-only
returns-in_err-take-in-Token-clause-only c = one_outcome c.args.source.now

pub returns-in-Nothing-clause-only : goal.returns-in-Nothing-clause-only
returns-in-Nothing-clause-only c = one_outcome c.args.source.now

pub returns-clause-only : goal.returns-clause-only
returns-clause-only c = one_outcome c.args.source.now

pub returns-in-Nothing-clause-answers : goal.returns-in-Nothing-clause-answers
returns-in-Nothing-clause-answers c =
    let source = c.args.source.now in
    let fault = c.first_fault-fault.result in
    let comes = refuses-nothing source c.bytes_from-rest.result.now (scan_of c.loop-scanner.scanner) fault
    c.loop-scanner.invariant.lexes c.loop-scanner-test.true c.bytes_from-rest.ensures c.in-Nothing.ensures.value
    c.first_fault-fault.ensures in
    subst (λ f. Answers source (Err f)) (sym c.told_fault.ensures) (fault, comes, refl)

pub returns-clause-answers : goal.returns-clause-answers
returns-clause-answers c =
    answers-end c.args.source.now (scan_of c.loop-scanner.scanner) c.answer_at_end.result
    c.loop-scanner.invariant.lexes c.loop-scanner-test.false c.answer_at_end.ensures
