-- A print that is read as the module that it was made of.
use Rattle.std.specs.Prelude.{◌≡◌, ℕ, List, Result, Ok, Err}
use Rattle.ink_base.specs.declared.token.Token.{Token}
use Rattle.ink_base.specs.declared.text.Text.{Text}
use Rattle.ink_base.specs.declared.refusal.JudgeFault.{JudgeFault}
use Rattle.ink_base.specs.declared.refusal.JudgeFault.TheVariants.{Refused, OutOfMemory}
use Rattle.ink_tokens.specs.Lexes.{AreTokens}
use Rattle.ink_grammar.specs.Tree.{Tree}
use Rattle.ink_grammar.specs.Language.{Parses}
use Rattle.ink_reading.specs.Phases.{seen_by_grammar}
use Rattle.ink_reading.specs.Reading.{ComesOnlyTo, Reads, Refuses}
use Rattle.ink_print.specs.Layout.{print as canonical}
use Rattle.ink_law_categories.specs.Alike.{Alike}

-- the text has tokens that are a module, whose tree is this one but for the places of its tokens
pub record ReadsBack (source text : List ℕ) (tree : Tree) : Type 0 where
  pub tokens : List Token
  pub again : Tree
  pub lexed : AreTokens text tokens
  pub parsed : Parses (seen_by_grammar text tokens) again
  pub alike : Alike source text tree again

-- the bytes are read as a module, and this is its canonical print, which is read as the same module
pub record IsPrint (limits bytes text : List ℕ) : Type 0 where
  pub tokens : List Token
  pub tree : Tree
  pub reads : ComesOnlyTo limits bytes (Reads tokens tree)
  pub print : text ≡ canonical bytes tree
  pub back : ReadsBack bytes text tree

-- The answer is the print of the module that the source is, or the first rule that the source breaks; where there was
-- no memory, nothing is known.
abbrev pub Prints : List ℕ → List ℕ → Result Text JudgeFault → Type 0
Prints limits source (Ok text) = IsPrint limits source text
Prints limits source (Err (Refused refusal)) = ComesOnlyTo limits source (Refuses refusal)
Prints limits source (Err OutOfMemory) = Unit {0}
