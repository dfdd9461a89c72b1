-- What is kept of a source that was read, and what its end answers.
use Rattle.std.specs.Prelude.{◌≡◌, ℕ, ◌≤◌, All, List, length, None, Some, Result, Ok, Err, Vec}
use Rattle.std.specs.declared.alloc.Global.{Global}
use Rattle.ink_base.specs.declared.token.Token.{Token}
use Rattle.ink_base.specs.declared.refusal.JudgeFault.{JudgeFault}
use Rattle.ink_base.specs.declared.refusal.JudgeFault.TheVariants.{Refused, OutOfMemory}
use Rattle.ink_tokens.specs.declared.fault.Fault.{Fault}
use Rattle.ink_tokens.specs.Fault.{end_fault, refusal_at}
use Rattle.ink_tokens.specs.Scan.{Scan}
use Rattle.ink_tokens.specs.Lexes.{IsInside}

-- no place that was kept is behind the place that was read up to
pub record IsSound (source : List ℕ) (scan : Scan) : Type 0 where
  pub inside : scan.at ≤ length source
  pub wide : (first : ℕ) → scan.wide ≡ Some first → first ≤ scan.at
  pub opened : scan.nest.opened ≤ scan.at
  pub each : All (IsInside source) scan.tokens

-- the answer is that at the end of the source
abbrev pub Finishes : List ℕ → Scan → Result (Vec Token Global) JudgeFault → Type 0
Finishes source scan (Ok tokens) = (end_fault scan.nest.level scan.wide scan.nest.opened ≡ None) × (tokens.items ≡ scan.tokens)
Finishes source scan (Err (Refused refusal)) =
    (fault : Fault) × (end_fault scan.nest.level scan.wide scan.nest.opened ≡ Some fault) × (refusal ≡ refusal_at source fault)
Finishes source scan (Err OutOfMemory) = ⊥
