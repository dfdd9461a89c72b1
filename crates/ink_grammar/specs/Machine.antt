-- What the parser does with the symbols that are still to come.
use Rattle.std.specs.Prelude.{ℕ, Bool, true, false, not, ◌&&◌, ◌||◌, if◌then◌else◌, List, [], ◌∷◌, Option, Some, None, slice_get}
use Rattle.ink_grammar.specs.declared.token.Shape.{Shape}
use Rattle.ink_grammar.specs.declared.token.Terminal.{Terminal}
use Rattle.ink_grammar.specs.declared.symbol.Line.{Line}
use Rattle.ink_grammar.specs.declared.symbol.Line.TheVariants as line
use Rattle.ink_grammar.specs.declared.symbol.Symbol.{Symbol}
use Rattle.ink_grammar.specs.declared.symbol.Symbol.TheVariants as s
use Rattle.ink_grammar.specs.Grammar.{begins, may_be_empty}
use Rattle.ink_grammar.specs.Shapes.{is, stands}

-- the token of this number, if there is one
abbrev pub token_at : List Terminal → ℕ → Option Terminal
token_at ts i = slice_get ts i

-- whether a rule may go on with a token of this shape
abbrev pub goes : List Symbol → Shape → Bool → Bool
goes [] shape new_line = true
goes (s.Do a ∷ r) shape new_line = true
goes (s.Token l w ∷ r) shape new_line = stands l new_line && is w shape
goes (s.Place w ∷ r) shape new_line = not new_line && is w shape
goes (s.Part l n ∷ r) shape new_line = may_be_empty n || (stands l new_line && begins n shape new_line)

-- whether a rule may go on where the tokens end
abbrev pub ends : List Symbol → Bool
ends [] = true
ends (s.Do a ∷ r) = true
ends (s.Token l w ∷ r) = false
ends (s.Place w ∷ r) = false
ends (s.Part l n ∷ r) = may_be_empty n

-- whether a rule may go on with this token, or where the tokens end
abbrev pub fits : List Symbol → Option Terminal → Bool
fits r None = ends r
fits r (Some t) = goes r t.shape t.new_line

-- the first rule that may go on so
abbrev pub pick : List (List Symbol) → Option Terminal → Option (List Symbol)
pick [] o = None
pick (r ∷ rs) o = if fits r o then Some r else pick rs o

-- whether the token, or the end, stands so
abbrev pub stands_so : Line → Option Terminal → Bool
stands_so line.Any o = true
stands_so line.Same None = false
stands_so line.Same (Some t) = not t.new_line
stands_so line.Fresh None = false
stands_so line.Fresh (Some t) = t.new_line
