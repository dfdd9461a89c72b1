-- What a source comes to: its tokens, or what is wrong with it.
use Rattle.std.specs.Prelude.{◌≡◌, ℕ, ◌+◌, ◌^◌, ◌<◌, ◌≤◌, nat_lt, if◌then◌else◌, List, length, drop, Option, None, Some, Result, Ok, Err, Vec}
use Rattle.std.specs.declared.alloc.Global.{Global}
use Rattle.ink_base.specs.declared.token.Token.{Token}
use Rattle.ink_base.specs.declared.refusal.Rule.TheVariants.{BadToken}
use Rattle.ink_base.specs.declared.refusal.JudgeFault.{JudgeFault}
use Rattle.ink_base.specs.declared.refusal.JudgeFault.TheVariants.{Refused, OutOfMemory}
use Rattle.ink_tokens.specs.declared.reading.Found.{Found}
use Rattle.ink_tokens.specs.declared.reading.Found.TheVariants as found
use Rattle.ink_tokens.specs.declared.fault.Fault.{Fault}
use Rattle.ink_tokens.specs.Fault.{first_fault, end_fault, refusal_at}
use Rattle.ink_tokens.specs.Found.{found_at}
use Rattle.ink_tokens.specs.Scan.{Scan, start, behind_gap, behind_token}

-- what becomes of a source
pub data Outcome : Type 0 where
  -- it is these tokens
  Gives : (tokens : List Token) → Outcome
  -- it is refused
  Refuses : (fault : Fault) → Outcome

-- what comes at a place
pub data Step : Type 0 where
  -- the source goes on, with more of it read
  Goes : (scan : Scan) → Step
  -- nothing more is read
  Ends : (outcome : Outcome) → Step

-- where the source ends, with or without a fault
unfoldable pub end_outcome : Option Fault → List Token → Outcome
end_outcome None tokens = Gives tokens
end_outcome (Some fault) tokens = Refuses fault

-- what comes of what stands at a place
unfoldable pub step_by : List ℕ → Scan → Found → Step
step_by source scan (found.Gap length line_feed) = Goes (behind_gap scan length line_feed)
step_by source scan (found.Token read) = Goes (behind_token source scan read)
step_by source scan found.Nothing = Ends (Refuses (first_fault scan.wide BadToken scan.at))

-- what comes at a place: the end, or what stands there
unfoldable pub step_at : List ℕ → Scan → Step
step_at source scan =
    if nat_lt scan.at (length source)
    then step_by source scan (found_at scan.nest.level scan.before (drop scan.at source))
    else Ends (end_outcome (end_fault scan.nest.level scan.wide scan.nest.opened) scan.tokens)

-- the source up to a place is blanks, comments and these tokens, each the longest match at its place
pub data Lexes (source : List ℕ) : Scan → Type 0 where
  begins : Lexes source start
  goes : {scan next : Scan} → Lexes source scan → step_at source scan ≡ Goes next → Lexes source next

-- what the source comes to
pub record ComesTo (source : List ℕ) (outcome : Outcome) : Type 0 where
  pub scan : Scan
  pub lexes : Lexes source scan
  pub ends : step_at source scan ≡ Ends outcome

-- these are the tokens of the source
abbrev pub AreTokens : List ℕ → List Token → Type 0
AreTokens source tokens = ComesTo source (Gives tokens)

-- this is what is wrong with the source
abbrev pub IsRefused : List ℕ → Fault → Type 0
IsRefused source fault = ComesTo source (Refuses fault)

-- the answer is what the source comes to; where there was no memory, nothing is known
abbrev pub Answers : List ℕ → Result (Vec Token Global) JudgeFault → Type 0
Answers source (Ok tokens) = AreTokens source tokens.items
Answers source (Err (Refused refusal)) = (fault : Fault) × IsRefused source fault × (refusal ≡ refusal_at source fault)
Answers source (Err OutOfMemory) = Unit {0}

-- a token takes at least a byte of the source
abbrev pub IsInside : List ℕ → Token → Type 0
IsInside source token = (token.start < token.end) × (token.end ≤ length source)

-- the source is short enough that each of its bytes, and its end, has a line and a column
abbrev pub HasPlaces : List ℕ → Type 0
HasPlaces source = length source + 1 < 2 ^ 32
