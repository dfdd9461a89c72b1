-- How the scan goes on, and what its end answers.
use Rattle.std.proofs.Common.{◌≡◌, ℕ, ◌<◌, ◌≤◌, Bool, List, length, drop, Result, Ok, Err, Vec, sym, ap, ◌∙◌}
use Rattle.std.specs.declared.alloc.Global.{Global}
use Rattle.ink_base.specs.declared.token.Token.{Token}
use Rattle.ink_base.specs.declared.refusal.Rule.TheVariants.{BadToken}
use Rattle.ink_base.specs.declared.refusal.JudgeFault.{JudgeFault}
use Rattle.ink_base.specs.declared.refusal.JudgeFault.TheVariants.{Refused, OutOfMemory}
use Rattle.ink_tokens.specs.declared.reading.Found.TheVariants as found
use Rattle.ink_tokens.specs.declared.reading.Read.{Read}
use Rattle.ink_tokens.specs.declared.fault.Fault.{Fault}
use Rattle.ink_tokens.specs.Fault.{first_fault}
use Rattle.ink_tokens.specs.Ending.{Finishes}
use Rattle.ink_tokens.specs.Found.{found_at}
use Rattle.ink_tokens.specs.Scan.{Scan, behind_gap, behind_token}
use Rattle.ink_tokens.specs.Lexes.{Gives, Refuses, Goes, Ends, end_outcome, step_by, Lexes, goes, ComesTo, Answers}
use Rattle.ink_tokens.proofs.LexesLemmas.{step_at-inside, step_at-end}

-- behind a blank or a comment
pub lexes-gap : (source rest : List ℕ) (scan next : Scan) (count : ℕ) (line_feed : Bool) → Lexes source scan →
    scan.at < length source → rest ≡ drop scan.at source →
    found.Gap count line_feed ≡ found_at scan.nest.level scan.before rest → next ≡ behind_gap scan count line_feed →
    Lexes source next
unfolding step_by
lexes-gap source rest scan next count line_feed lexes inside is_rest stands is_next =
    goes lexes
    (step_at-inside source scan (found.Gap count line_feed) inside
    (stands ∙ ap (found_at scan.nest.level scan.before) is_rest)
    ∙ ap Goes (sym is_next))

-- behind a token
pub lexes-token : (source rest : List ℕ) (scan next : Scan) (read : Read) → Lexes source scan →
    scan.at < length source → rest ≡ drop scan.at source →
    found.Token read ≡ found_at scan.nest.level scan.before rest → next ≡ behind_token source scan read →
    Lexes source next
unfolding step_by
lexes-token source rest scan next read lexes inside is_rest stands is_next =
    goes lexes
    (step_at-inside source scan (found.Token read) inside
    (stands ∙ ap (found_at scan.nest.level scan.before) is_rest)
    ∙ ap Goes (sym is_next))

-- where nothing stands that may
pub refuses-nothing : (source rest : List ℕ) (scan : Scan) (fault : Fault) → Lexes source scan →
    scan.at < length source → rest ≡ drop scan.at source →
    found.Nothing ≡ found_at scan.nest.level scan.before rest → fault ≡ first_fault scan.wide BadToken scan.at →
    ComesTo source (Refuses fault)
unfolding step_by
refuses-nothing source rest scan fault lexes inside is_rest stands is_fault = record {
  scan = scan;
  lexes = lexes;
  ends =
      step_at-inside source scan found.Nothing inside (stands ∙ ap (found_at scan.nest.level scan.before) is_rest)
      ∙ ap (λ f. Ends (Refuses f)) (sym is_fault);
}

-- at the end
pub answers-end : (source : List ℕ) (scan : Scan) (result : Result (Vec Token Global) JudgeFault) → Lexes source scan →
    length source ≤ scan.at → Finishes source scan result → Answers source result
unfolding end_outcome
answers-end source scan (Ok tokens) lexes past finishes = record {
  scan = scan;
  lexes = lexes;
  ends =
      step_at-end source scan past
      ∙ ap (λ fault. Ends (end_outcome fault scan.tokens)) finishes.0
      ∙ ap (λ items. Ends (Gives items)) (sym finishes.1);
}
answers-end source scan (Err (Refused refusal)) lexes past (fault, is_fault, is_refusal) =
    let comes : ComesTo source (Refuses fault) = record {
      scan = scan;
      lexes = lexes;
      ends = step_at-end source scan past ∙ ap (λ f. Ends (end_outcome f scan.tokens)) is_fault;
    } in (fault, comes, is_refusal)
answers-end source scan (Err OutOfMemory) lexes past finishes = absurd finishes
