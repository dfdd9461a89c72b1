-- What each phase of the reading answers.
use Rattle.std.specs.Prelude.{◌≡◌, ℕ, List, length, map, slice_get, Option, None, Some, Result, Ok, Err}
use Rattle.ink_base.specs.declared.token.Token.{Token}
use Rattle.ink_base.specs.declared.refusal.Rule.{Rule}
use Rattle.ink_base.specs.declared.refusal.Rule.TheVariants as rule
use Rattle.ink_base.specs.declared.refusal.Refusal.{Refusal}
use Rattle.ink_base.specs.declared.refusal.JudgeFault.{JudgeFault}
use Rattle.ink_base.specs.declared.refusal.JudgeFault.TheVariants.{Refused, OutOfMemory}
use Rattle.ink_text.specs.Place.{place_at}
use Rattle.ink_grammar.specs.declared.token.Terminal as seen
use Rattle.ink_grammar.specs.declared.tree.Module.{Module}
use Rattle.ink_grammar.specs.declared.parser.ParseError.TheVariants.{Unexpected}
use Rattle.ink_grammar.specs.Language.{Parses}
use Rattle.ink_grammar.specs.Faults.{IsFault}
use Rattle.ink_grammar.specs.Views.{tree}
use Rattle.ink_grammar.specs.Tree.{Tree}
use Rattle.ink_shapes.specs.Terminals.{terminal_of}
use Rattle.ink_heights.specs.Heights.{first_too_high}

-- a rule that is broken at a byte, as it is told
abbrev pub broken : List ℕ → Rule → ℕ → Refusal
broken source rule byte = record { rule = rule; place = place_at source byte; detail = None }

-- the tokens as the grammar sees them
abbrev pub seen_by_grammar : List ℕ → List Token → List seen.Terminal
seen_by_grammar source tokens = map (terminal_of source) tokens

-- where a token begins, and the end of the source where there is none
unfoldable pub start_or_end : List ℕ → Option Token → ℕ
start_or_end source (Some token) = token.start
start_or_end source None = length source

-- the byte of the token of this number, or the end of the source
abbrev pub byte_of : List ℕ → List Token → ℕ → ℕ
byte_of source tokens number = start_or_end source (slice_get tokens number)

-- the tokens are the module of this tree, and of no other
abbrev pub IsOnlyTree : List ℕ → List Token → Tree → Type 0
IsOnlyTree source tokens tree =
    Parses (seen_by_grammar source tokens) tree × ((other : Tree) → Parses (seen_by_grammar source tokens) other → other ≡ tree)

-- the answer is the module that the tokens are, or the first token with which no module begins
abbrev pub JudgesGrammar : List ℕ → List Token → Result Module JudgeFault → Type 0
JudgesGrammar source tokens (Ok parsed) = IsOnlyTree source tokens (tree parsed)
JudgesGrammar source tokens (Err (Refused refusal)) =
    (number : ℕ) × IsFault (seen_by_grammar source tokens) (Unexpected number)
    × (refusal ≡ broken source rule.Unexpected (byte_of source tokens number))
JudgesGrammar source tokens (Err OutOfMemory) = Unit {0}

-- the answer is that nothing in the tree is higher than this, or the first node that is
abbrev pub JudgesHeight : List ℕ → ℕ → Tree → Result (Unit {0}) JudgeFault → Type 0
JudgesHeight source most tree (Ok _) = first_too_high most tree ≡ None
JudgesHeight source most tree (Err (Refused refusal)) =
    (byte : ℕ) × (first_too_high most tree ≡ Some byte) × (refusal ≡ broken source rule.TooDeep byte)
JudgesHeight source most tree (Err OutOfMemory) = Unit {0}
