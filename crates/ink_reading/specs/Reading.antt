-- What a source is read as, or which rule it breaks first.
use Rattle.std.specs.Prelude.{◌≡◌, ℕ, ◌<◌, ◌≤◌, List, length, Some, None, Result, Ok, Err}
use Rattle.ink_base.specs.declared.token.Token.{Token}
use Rattle.ink_base.specs.declared.refusal.Rule.TheVariants.{SourceTooLong, NotUtf8, Unexpected, TooDeep}
use Rattle.ink_base.specs.declared.refusal.Refusal.{Refusal}
use Rattle.ink_base.specs.declared.refusal.JudgeFault.{JudgeFault}
use Rattle.ink_base.specs.declared.refusal.JudgeFault.TheVariants.{Refused, OutOfMemory}
use Rattle.ink_base.specs.declared.limits.Limit.TheVariants.{Source, Height}
use Rattle.ink_base.specs.Limits.{limit_of}
use Rattle.ink_text.specs.Utf8.{Utf8, StopsAt}
use Rattle.ink_tokens.specs.Lexes as lexes
use Rattle.ink_grammar.specs.declared.parser.ParseError.TheVariants as fault
use Rattle.ink_grammar.specs.Tree.{Tree}
use Rattle.ink_grammar.specs.Language.{Parses}
use Rattle.ink_grammar.specs.Faults.{IsFault}
use Rattle.ink_grammar.specs.Views.{tree}
use Rattle.ink_heights.specs.Heights.{first_too_high}
use Rattle.ink_reading.specs.declared.reading.Reading.{Reading}
use Rattle.ink_reading.specs.Phases.{broken, seen_by_grammar, byte_of}

-- the source is no longer than its limit
abbrev pub IsShort : List ℕ → List ℕ → Type 0
IsShort limits source = length source ≤ limit_of Source limits

-- within these limits a source has these tokens and this tree
pub record IsRead (limits source : List ℕ) (tokens : List Token) (tree : Tree) : Type 0 where
  pub short : IsShort limits source
  pub text : Utf8 source
  pub lexed : lexes.AreTokens source tokens
  pub parsed : Parses (seen_by_grammar source tokens) tree
  pub low : first_too_high (limit_of Height limits) tree ≡ None

-- the first phase that a source breaks, and what is told of it
pub data IsRefused (limits source : List ℕ) : Refusal → Type 0 where
  -- length: it has more bytes than the limit, and the place is the first of them that is over it
  too_long : limit_of Source limits < length source →
      IsRefused limits source (broken source SourceTooLong (limit_of Source limits))
  -- bytes: it isn't UTF-8, and the place is where it stops being so
  no_text : {byte : ℕ} → IsShort limits source → StopsAt source byte → IsRefused limits source (broken source NotUtf8 byte)
  -- tokens: it has none, for this reason
  no_tokens : {refusal : Refusal} → IsShort limits source → Utf8 source → lexes.Answers source (Err (Refused refusal)) →
      IsRefused limits source refusal
  -- grammar: no module begins with the tokens up to this one, or they end too early
  no_module : {tokens : List Token} {number : ℕ} → IsShort limits source → Utf8 source → lexes.AreTokens source tokens →
      IsFault (seen_by_grammar source tokens) (fault.Unexpected number) →
      IsRefused limits source (broken source Unexpected (byte_of source tokens number))
  -- height: this is the first node that is too high
  too_deep : {tokens : List Token} {tree : Tree} {byte : ℕ} → IsShort limits source → Utf8 source →
      lexes.AreTokens source tokens → Parses (seen_by_grammar source tokens) tree →
      first_too_high (limit_of Height limits) tree ≡ Some byte → IsRefused limits source (broken source TooDeep byte)

-- what becomes of a source
pub data Outcome : Type 0 where
  -- it has these tokens and this tree
  Reads : (tokens : List Token) (tree : Tree) → Outcome
  -- it is refused
  Refuses : (refusal : Refusal) → Outcome

-- what a source comes to within these limits
abbrev pub ComesTo : List ℕ → List ℕ → Outcome → Type 0
ComesTo limits source (Reads tokens tree) = IsRead limits source tokens tree
ComesTo limits source (Refuses refusal) = IsRefused limits source refusal

-- it comes to this, and to nothing else
pub record ComesOnlyTo (limits source : List ℕ) (outcome : Outcome) : Type 0 where
  pub comes : ComesTo limits source outcome
  pub only : (other : Outcome) → ComesTo limits source other → other ≡ outcome

-- the answer is what the source comes to; where there was no memory, nothing is known
abbrev pub Answers : List ℕ → List ℕ → Result Reading JudgeFault → Type 0
Answers limits source (Ok reading) = ComesOnlyTo limits source (Reads reading.tokens.items (tree reading.«module»))
Answers limits source (Err (Refused refusal)) = ComesOnlyTo limits source (Refuses refusal)
Answers limits source (Err OutOfMemory) = Unit {0}
