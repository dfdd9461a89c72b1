-- The table of written types. The numbers of their nodes come after it.
use Rattle.std.specs.Prelude.{ℕ, List, [], ◌∷◌, ◌++◌, map, Option, Some, None}
use Rattle.ink_grammar.specs.declared.token.Keyword.TheVariants as keyword
use Rattle.ink_grammar.specs.declared.token.Shape.{Shape}
use Rattle.ink_grammar.specs.declared.token.Shape.TheVariants as shape
use Rattle.ink_grammar.specs.declared.tree.TwoChildren.TheVariants as two_of
use Rattle.ink_grammar.specs.declared.tree.ThreeChildren.TheVariants as three_of
use Rattle.ink_grammar.specs.declared.tree.FourChildren.TheVariants as four_of
use Rattle.ink_grammar.specs.Tree.{Tree, Missing, Two, Three, Four}
use Rattle.ink_grammar.specs.Views.{tree_at}
use Rattle.ink_forms.specs.declared.written.Prefix.{Prefix}
use Rattle.ink_forms.specs.declared.written.Prefix.TheVariants as prefix
use Rattle.ink_forms.specs.Trees.{Written, Named, Prefixed, Tuple, NoWritten, written_list}
use Rattle.ink_lexicon.specs.declared.surface.Surface.{Surface}
use Rattle.ink_lexicon.specs.Lexicon.{name, no_word}
use Rattle.ink_lexicon.specs.Trees.{token_of, start_of}
use Rattle.ink_patterns.specs.declared.type_form.TypeForm.{TypeForm}
use Rattle.ink_patterns.specs.declared.type_form.TypeForm.TheVariants as form
use Rattle.ink_patterns.specs.Makes.{here}

-- what stands before a type, by its word
unfoldable pub prefix_of : Shape → Prefix
prefix_of (shape.Keyword keyword.Mut) = prefix.Mut
prefix_of (shape.Keyword keyword.Uni) = prefix.Uni
prefix_of _ = prefix.Ref

-- the table
unfoldable mutual
  pub written : Surface → Tree → Written
  written x (Two two_of.NamedType start named list) = Named (here start) (name x (token_of named)) (written_list (written_in x list))
  written x (Two two_of.PrefixedType start word bare) = Prefixed (here start) (prefix_of (token_of word).shape) (written x bare)
  written x (Three three_of.PairType start parenthesis a b) = Tuple (here start) (written_list (written x a ∷ written x b ∷ []))
  written x (Four four_of.TripleType start parenthesis a b c) = Tuple (here start) (written_list (written x a ∷ written x b ∷ written x c ∷ []))
  written x tree = Named (here (start_of tree)) no_word NoWritten

  -- the types of a list, in their order
  pub written_in : Surface → Tree → List Written
  written_in x (Two two_of.More start list item) = written_in x list ++ written x item ∷ []
  written_in x _ = []

-- the type of a node, where one is written
abbrev pub optional : Surface → Tree → Option Written
optional x Missing = None
optional x tree = Some (written x tree)

-- the types of nodes, by their numbers
abbrev pub written_at : Surface → ℕ → Written
written_at x number = written x (tree_at x.module.now number)

abbrev pub optional_at : Surface → ℕ → Option Written
optional_at x number = optional x (tree_at x.module.now number)

abbrev pub types_at : Surface → List ℕ → List Written
types_at x numbers = map (written_at x) numbers

-- the type that a form stands for, at the node of this number
abbrev pub shown_from : Surface → ℕ → TypeForm → Written
shown_from x start (form.Named word arguments) = Named (here start) word (written_list (types_at x arguments.items))
shown_from x start (form.Prefixed word bare) = Prefixed (here start) word (written_at x bare)
shown_from x start (form.Tuple parts) = Tuple (here start) (written_list (types_at x parts.items))

abbrev pub shown : Surface → ℕ → TypeForm → Written
shown x number found = shown_from x (start_of (tree_at x.module.now number)) found
