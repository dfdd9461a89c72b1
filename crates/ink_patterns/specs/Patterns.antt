-- The table of patterns. The numbers of their nodes come after it.
use Rattle.std.specs.Prelude.{ℕ, List, [], ◌∷◌, ◌++◌, map, true, false}
use Rattle.ink_grammar.specs.declared.token.Keyword.TheVariants as keyword
use Rattle.ink_grammar.specs.declared.token.Shape.{Shape}
use Rattle.ink_grammar.specs.declared.token.Shape.TheVariants as shape
use Rattle.ink_grammar.specs.declared.token.Terminal.{Terminal}
use Rattle.ink_grammar.specs.declared.tree.TwoChildren.TheVariants as two_of
use Rattle.ink_grammar.specs.declared.tree.ThreeChildren.TheVariants as three_of
use Rattle.ink_grammar.specs.declared.tree.FourChildren.TheVariants as four_of
use Rattle.ink_grammar.specs.declared.tree.TwoChildren.{TwoChildren}
use Rattle.ink_grammar.specs.Tree.{Tree, Leaf, Two, Three, Four}
use Rattle.ink_grammar.specs.Views.{tree_at}
use Rattle.ink_forms.specs.declared.word.Literal.{Literal}
use Rattle.ink_forms.specs.declared.word.Literal.TheVariants as literal
use Rattle.ink_forms.specs.declared.word.Made.TheVariants as made
use Rattle.ink_forms.specs.Trees.{Spot, Pat, Wildcard, LitPat, Name, Constructor, Either, Fields, NoPat, OneField, pats, field_pats}
use Rattle.ink_lexicon.specs.declared.surface.Surface.{Surface}
use Rattle.ink_lexicon.specs.Lexicon.{name, identifier, integer_literal, text_literal, empty_literal, made_of}
use Rattle.ink_lexicon.specs.Trees.{token_of, start_of}
use Rattle.ink_patterns.specs.declared.pattern_form.FieldPart.{FieldPart}
use Rattle.ink_patterns.specs.declared.pattern_form.PatternForm.{PatternForm}
use Rattle.ink_patterns.specs.declared.pattern_form.PatternForm.TheVariants as form
use Rattle.ink_patterns.specs.Makes.{here}

-- a keyword as a pattern
abbrev pub keyword_pattern : Shape → Spot → Pat
keyword_pattern (shape.Keyword keyword.True) spot = LitPat spot (literal.Bool true)
keyword_pattern (shape.Keyword keyword.False) spot = LitPat spot (literal.Bool false)
keyword_pattern _ spot = Wildcard spot

-- a token as a pattern
unfoldable pub leaf_pattern : Surface → Shape → Terminal → Pat
leaf_pattern x shape.Name token = Name (here token.start) false (name x token)
leaf_pattern x shape.Constant token = Constructor (here token.start) (made_of x token) NoPat
leaf_pattern x shape.Integer token = LitPat (here token.start) (integer_literal x token)
leaf_pattern x shape.Hexadecimal token = LitPat (here token.start) (integer_literal x token)
leaf_pattern x form token = keyword_pattern form (here token.start)

-- a text without embedded expressions
abbrev pub whole_text : Surface → Tree → Literal
whole_text x (Two two_of.More start list part) = text_literal x (token_of part)
whole_text x _ = empty_literal x

-- the table: what each form of the grammar is as a pattern
unfoldable mutual
  pub pattern : Surface → Tree → Pat
  pattern x (Leaf token) = leaf_pattern x token.shape token
  pattern x (Two two_of.MutableName start word named) = Name (here start) true (name x (token_of named))
  pattern x (Two two_of.ConstructorPattern start named list) = Constructor (here start) (made_of x (token_of named)) (pats (patterns_in x list))
  pattern x (Two two_of.FieldPatterns start brace list) = Fields (here start) (field_pats (fields_in x list))
  pattern x (Two two_of.Either start a b) = Either (here start) (pats (alternatives_in x a (pattern x a) ++ pattern x b ∷ []))
  pattern x (Two two_of.Text start quote list) = LitPat (here start) (whole_text x list)
  pattern x (Three three_of.PairPattern start parenthesis a b) = Constructor (here start) made.Tuple2 (pats (pattern x a ∷ pattern x b ∷ []))
  pattern x (Four four_of.TriplePattern start parenthesis a b c) =
      Constructor (here start) made.Tuple3 (pats (pattern x a ∷ pattern x b ∷ pattern x c ∷ []))
  pattern x tree = Wildcard (here (start_of tree))

  -- the patterns of a list, in their order
  pub patterns_in : Surface → Tree → List Pat
  patterns_in x (Two two_of.More start list item) = patterns_in x list ++ pattern x item ∷ []
  patterns_in x _ = []

  -- the alternatives of a tree whose pattern is this one
  pub alternatives_in : Surface → Tree → Pat → List Pat
  alternatives_in x (Two two_of.Either start a b) whole = alternatives_in x a (pattern x a) ++ pattern x b ∷ []
  alternatives_in x _ whole = whole ∷ []

  -- the fields of a list, with their patterns
  pub fields_in : Surface → Tree → List OneField
  fields_in x (Two two_of.More start list (Two two_of.FieldPattern at named part)) =
      fields_in x list ++ record { field = identifier x (token_of named); pattern = pattern x part } ∷ []
  fields_in x (Two two_of.More start list item) = fields_in x list ++ record { field = identifier x (token_of item); pattern = pattern x item } ∷ []
  fields_in x _ = []

-- a field and its pattern
abbrev pub field : Surface → Tree → OneField
field x (Two two_of.FieldPattern at named part) = record { field = identifier x (token_of named); pattern = pattern x part }
field x item = record { field = identifier x (token_of item); pattern = pattern x item }

-- the patterns of nodes, by their numbers
abbrev pub pattern_at : Surface → ℕ → Pat
pattern_at x number = pattern x (tree_at x.module.now number)

abbrev pub patterns_at : Surface → List ℕ → List Pat
patterns_at x numbers = map (pattern_at x) numbers

abbrev pub field_of : Surface → ℕ → OneField
field_of x number = field x (tree_at x.module.now number)

abbrev pub field_at : Surface → FieldPart → OneField
field_at x named = record { field = named.field; pattern = pattern_at x named.part }

-- the pattern of a node of two
abbrev pub pattern_of_two : Surface → TwoChildren → ℕ → ℕ → ℕ → Pat
pattern_of_two x form start a b = pattern x (Two form start (tree_at x.module.now a) (tree_at x.module.now b))

-- the pattern that a form stands for, where it begins at a byte, and at the node of a number
abbrev pub shown_from : Surface → ℕ → PatternForm → Pat
shown_from x start form.Wildcard = Wildcard (here start)
shown_from x start (form.Lit literal) = LitPat (here start) literal
shown_from x start (form.Name is_mutable word) = Name (here start) is_mutable word
shown_from x start (form.Constructor made parts) = Constructor (here start) made (pats (patterns_at x parts.items))
shown_from x start (form.Either alternatives) = Either (here start) (pats (patterns_at x alternatives.items))
shown_from x start (form.Fields fields) = Fields (here start) (field_pats (map (field_at x) fields.items))

abbrev pub shown : Surface → ℕ → PatternForm → Pat
shown x number found = shown_from x (start_of (tree_at x.module.now number)) found
