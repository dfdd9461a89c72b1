-- What becomes of a source that is to be judged, by its reading.
use Rattle.std.specs.Prelude.{◌≡◌, ◌≢◌, ℕ, ◌⊎◌, List, [], None, Result, Ok, Err}
use Rattle.ink_base.specs.declared.token.Token.{Token}
use Rattle.ink_base.specs.declared.refusal.Refusal.{Refusal}
use Rattle.ink_base.specs.declared.refusal.Rule.TheVariants.{NoMain}
use Rattle.ink_base.specs.declared.refusal.JudgeFault.{JudgeFault}
use Rattle.ink_base.specs.declared.refusal.JudgeFault.TheVariants as fault
use Rattle.ink_grammar.specs.Tree.{Tree}
use Rattle.ink_names.specs.Later.{IsLater}
use Rattle.ink_reading.specs.Reading.{Reads, Refuses, ComesTo}

-- the refusal of a source that has no token
abbrev pub no_main : Refusal
no_main = record { rule = NoMain; place = record { line = 1; column = 1; byte = 0 }; detail = None }

-- the bytes break a phase of the reading, which this refusal says, or are read and have no token
abbrev pub IsRefused : List ℕ → List ℕ → Refusal → Type 0
IsRefused limits bytes refusal =
    ComesTo limits bytes (Refuses refusal) ⊎ ((tree : Tree) × ComesTo limits bytes (Reads [] tree) × (refusal ≡ no_main))

-- the bytes are a module that is read and has a token: the phases behind the reading judge it
pub record IsFurther (limits bytes : List ℕ) : Type 0 where
  pub tokens : List Token
  pub tree : Tree
  pub reads : ComesTo limits bytes (Reads tokens tree)
  pub some : tokens ≢ []

-- what becomes of a source by its reading
pub data Verdict : Type 0 where
  Refused : (refusal : Refusal) → Verdict
  Further : Verdict

abbrev pub IsVerdict : List ℕ → List ℕ → Verdict → Type 0
IsVerdict limits bytes (Refused refusal) = IsRefused limits bytes refusal
IsVerdict limits bytes Further = IsFurther limits bytes

-- this becomes of it, and nothing else
pub record IsOnlyVerdict (limits bytes : List ℕ) (verdict : Verdict) : Type 0 where
  pub is : IsVerdict limits bytes verdict
  pub only : (other : Verdict) → IsVerdict limits bytes other → other ≡ verdict

-- a source is refused: by its reading, or by a phase behind it
abbrev pub IsRefusedBy : List ℕ → List ℕ → Refusal → Type 0
IsRefusedBy limits bytes refusal =
    IsOnlyVerdict limits bytes (Refused refusal) ⊎ (IsOnlyVerdict limits bytes Further × IsLater refusal)

-- why a source isn't accepted: where there was no memory, nothing is known
abbrev pub JudgesFault : List ℕ → List ℕ → JudgeFault → Type 0
JudgesFault limits bytes (fault.Refused refusal) = IsRefusedBy limits bytes refusal
JudgesFault limits bytes fault.OutOfMemory = Unit {0}

-- A source is judged by all phases: where none refuses it, those behind the reading judged it.
abbrev pub Judges : {Module : Type 0} → List ℕ → List ℕ → Result Module JudgeFault → Type 0
Judges limits bytes (Ok checked) = IsOnlyVerdict limits bytes Further
Judges limits bytes (Err why) = JudgesFault limits bytes why
