-- What is to be shown of the print of each category of trees.
use Rattle.std.proofs.Common.{◌≡◌, ◌⊎◌, ℕ, Bool, true, false, List, ◌∷◌, Some}
use Rattle.ink_grammar.specs.declared.token.Shape.{Shape}
use Rattle.ink_grammar.specs.declared.token.Terminal.{Terminal}
use Rattle.ink_grammar.specs.declared.symbol.Wanted.{Wanted}
use Rattle.ink_grammar.specs.Tree.{Tree, Missing, Leaf}
use Rattle.ink_print.specs.declared.context.Context.{Context}
use Rattle.ink_print.specs.declared.context.Context.TheVariants as context
use Rattle.ink_print.specs.declared.context.Rank.{Rank}
use Rattle.ink_print.specs.declared.context.Rank.TheVariants as rank
use Rattle.ink_print.specs.declared.step.Piece.{Piece}
use Rattle.ink_print.specs.declared.step.Sign.TheVariants as sign
use Rattle.ink_print.specs.Printed.{printed, around}
use Rattle.ink_print.specs.Surround.{opening, closing}
use Rattle.ink_law_categories.specs.Nested.{Level, Inside, IsCode}
use Rattle.ink_law_categories.specs.Written.{IsToken, IsWanted, IsQuote}
use Rattle.ink_law_categories.specs.Categories as category
use Rattle.ink_law_categories.specs.Categories.{Category}
use Rattle.ink_law_neighbours.specs.Follow.{is_word}
use Rattle.ink_law_neighbours.proofs.Leads.{Leads, ValueContext}

-- In code, its print leads on.
abbrev pub Prints : List ℕ → Tree → Context → Bool → Bool → Type 0
Prints source a p free end = (l : Level) (ls : List Level) → IsCode l → Leads source (l ∷ ls) free (printed a p) (l ∷ ls) end

-- The same where a word need not stand before it.
abbrev pub PrintsAnywhere : List ℕ → Tree → Context → Type 0
PrintsAnywhere source a p = (free : Bool) → Prints source a p free false

-- a token of a shape
pub record HasWord (source : List ℕ) (x : Shape) (a : Tree) : Type 0 where
  pub t : Terminal
  pub is : a ≡ Leaf t
  pub token : IsToken source x t

-- a token that is wanted so
pub record HasWanted (source : List ℕ) (w : Wanted) (a : Tree) : Type 0 where
  pub t : Terminal
  pub is : a ≡ Leaf t
  pub token : IsWanted source w t

-- a list, in each context of lists
pub record PrintsList (source : List ℕ) (a : Tree) : Type 0 where
  pub lines : Prints source a context.Lines true true
  pub body : Prints source a context.Body true true
  pub before_comma : Prints source a context.BeforeComma true true
  pub before_dot : Prints source a context.BeforeDot true true
  pub before_plus : Prints source a context.BeforePlus true true
  pub items : Prints source a context.Items true false
  pub dotted : Prints source a context.Dotted true false
  pub bracketed : PrintsAnywhere source a context.Bracketed
  pub parenthesised : PrintsAnywhere source a context.Parenthesised
  pub import_names : PrintsAnywhere source a context.ImportNames
  pub bounded : PrintsAnywhere source a context.Bounded

-- a value: what it is printed as between its parentheses, if it has any
pub record PrintsValue (source : List ℕ) (a : Tree) : Type 0 where
  pub rank : Rank
  pub inside : List Piece
  pub at : (p : Context) → ValueContext p → printed a p ≡ around p rank inside
  pub in_text : printed a context.TextItem ≡ around context.TextItem rank inside
  pub begins : opening context.TextItem rank ≡ Some sign.TextOpening
  pub ends : closing context.TextItem rank ≡ Some sign.TextClosing
  pub leads : (l : Level) (ls : List Level) → IsCode l → Leads source (l ∷ ls) true inside (l ∷ ls) false

-- a node that is printed alike in each context, but for the signs round it
pub record PrintsPlain (source : List ℕ) (a : Tree) : Type 0 where
  pub inside : List Piece
  pub at : (p : Context) → printed a p ≡ around p rank.Base inside
  pub leads : (l : Level) (ls : List Level) → IsCode l → Leads source (l ∷ ls) true inside (l ∷ ls) false

-- a block
pub record PrintsBlock (source : List ℕ) (a : Tree) : Type 0 where
  pub expression : PrintsAnywhere source a context.Expression
  pub operand : PrintsAnywhere source a context.Operand
  pub otherwise : PrintsAnywhere source a context.Otherwise

-- a value that counts as a statement
pub record PrintsCounted (source : List ℕ) (a : Tree) : Type 0 where
  pub expression : Prints source a context.Expression true false
  pub chain : Prints source a context.Chain true false
  pub operand : Prints source a context.Operand true false
  pub guard : PrintsAnywhere source a context.Guard

-- what stands in a text
abbrev pub PrintsText : List ℕ → Terminal → Bool → Tree → Type 0
PrintsText source quote ends a = IsQuote source quote → (l : Level) (ls : List Level) → IsCode l →
    Leads source (Inside quote false ∷ l ∷ ls) true (printed a context.TextParts) (Inside quote ends ∷ l ∷ ls) true

-- what may be an item of a list
abbrev pub Fit : Category → Type 0
Fit (category.Word x) = is_word x ≡ true
Fit category.ImportName = Unit {0}
Fit category.Import = Unit {0}
Fit category.Declaration = Unit {0}
Fit category.ObjectMember = Unit {0}
Fit category.EnumMember = Unit {0}
Fit category.Method = Unit {0}
Fit category.TraitMethod = Unit {0}
Fit category.Parameter = Unit {0}
Fit category.TypeParameter = Unit {0}
Fit category.FullType = Unit {0}
Fit category.Statement = Unit {0}
Fit category.Expression = Unit {0}
Fit category.Named = Unit {0}
Fit category.Arm = Unit {0}
Fit category.Pattern = Unit {0}
Fit category.FieldPattern = Unit {0}
Fit _ = ⊥

-- what is to be shown of a tree of a category
abbrev pub Says : List ℕ → Category → Tree → Type 0
Says source (category.Word x) a = HasWord source x a
Says source (category.Wants w) a = HasWanted source w a
Says source (category.Bracket x) a = Unit {0}
Says source (category.ListOf item) a = Fit item → PrintsList source a
Says source (category.SomeOf item) a = Fit item → PrintsList source a
Says source (category.Maybe kind) a = (a ≡ Missing) ⊎ Says source kind a
Says source category.PubWord a = Prints source a context.Words true true
Says source category.PubMutWords a = Prints source a context.Words true true
Says source category.PubAsyncWords a = Prints source a context.Words true true
Says source category.MethodWords a = Prints source a context.Words true true
Says source category.TraitMethodWords a = Prints source a context.Words true true
Says source category.FullType a = PrintsPlain source a
Says source category.BareType a = PrintsPlain source a
Says source category.Block a = PrintsBlock source a
Says source category.Counted a = PrintsCounted source a
Says source category.Recovered a = Prints source a context.Operand true false
Says source category.Branch a = PrintsAnywhere source a context.Otherwise
Says source category.Conditional a = PrintsValue source a × PrintsAnywhere source a context.Otherwise
Says source category.Place a = PrintsValue source a
Says source category.Expression a = PrintsValue source a
Says source category.Constructed a = PrintsValue source a
Says source category.ConstructorArguments a = Prints source a context.Items true false
Says source (category.TextItems quote ends) a = PrintsText source quote ends a
Says source (category.PartItems quote ends) a = PrintsText source quote ends a
Says source _ a = Prints source a context.Expression true false
