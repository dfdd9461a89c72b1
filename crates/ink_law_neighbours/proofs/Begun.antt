-- No line ends before the first piece of a module.
use Rattle.std.proofs.Common.{◌≡◌, ℕ, true, List, [], ◌∷◌, ◌++◌, refl, sym, ap, subst, ◌∙◌, append_assoc, append-nil}
use Rattle.ink_grammar.specs.declared.tree.TwoChildren.TheVariants as two_of
use Rattle.ink_grammar.specs.declared.tree.ThreeChildren.TheVariants as three_of
use Rattle.ink_grammar.specs.declared.tree.FourChildren.TheVariants as four_of
use Rattle.ink_grammar.specs.declared.tree.FiveChildren.TheVariants as five_of
use Rattle.ink_grammar.specs.Tree.{Tree, Empty, Two, Three, Four, Five}
use Rattle.ink_print.specs.declared.context.Context.TheVariants as context
use Rattle.ink_print.specs.declared.step.Piece.{Piece}
use Rattle.ink_print.specs.declared.step.Piece.TheVariants as piece
use Rattle.ink_print.specs.declared.step.Sign.TheVariants as sign
use Rattle.ink_print.specs.Printed.{printed, pieces}
use Rattle.ink_law_categories.specs.Nested.{Outside}
use Rattle.ink_law_categories.specs.Categories as category
use Rattle.ink_law_categories.specs.Categories.{Category, IsA}
use Rattle.ink_law_neighbours.specs.Follow as follow
use Rattle.ink_law_neighbours.specs.Follow.{Follow, is_begun}
use Rattle.ink_law_neighbours.proofs.Trees.{says}

-- the pieces of a list of lines, and what stands behind it
lines-more : (s : ℕ) (a b : Tree) (rest : List Piece) →
    printed (Two two_of.More s a b) context.Lines ++ rest ≡ printed a context.Lines ++ (printed b context.Expression ++ (piece.Sign sign.Line ∷ rest))
unfolding printed
lines-more s a b rest =
    append_assoc (printed a context.Lines ++ (printed b context.Expression ++ piece.Sign sign.Line ∷ [])) [] rest
    ∙ append_assoc (printed a context.Lines) (printed b context.Expression ++ piece.Sign sign.Line ∷ []) rest
    ∙ ap (λ ps. printed a context.Lines ++ ps) (append_assoc (printed b context.Expression) (piece.Sign sign.Line ∷ []) rest)

lines-none : (rest : List Piece) → printed Empty context.Lines ++ rest ≡ rest
unfolding printed
lines-none rest = refl

module _ {source : List ℕ} where
  import-begun : {a : Tree} (rest : List Piece) → IsA source category.Import a → is_begun (printed a context.Expression ++ rest) ≡ true
  unfolding printed
  import-begun rest (category.an_import {s} {b = b} {c} x y z) =
      subst (λ a. is_begun (printed (Three three_of.Import s a b c) context.Expression ++ rest) ≡ true) (sym (says x).is) refl

  method-begun : {a : Tree} (rest : List Piece) → IsA source category.Method a → is_begun (printed a context.Expression ++ rest) ≡ true
  unfolding printed
  method-begun rest (category.a_method {s} {b = b} {c} {d} x y z w) =
      subst (λ a. is_begun (printed (Four four_of.Method s a b c d) context.Expression ++ rest) ≡ true) (sym (says x).is) refl

  declaration-begun : {a : Tree} (rest : List Piece) → IsA source category.Declaration a → is_begun (printed a context.Expression ++ rest) ≡ true
  unfolding printed
  declaration-begun rest (category.a_type {s} {b = b} {c} {d} {e} x y z v w) =
      subst (λ a. is_begun (printed (Five five_of.TypeDeclaration s a b c d e) context.Expression ++ rest) ≡ true) (sym (says x).is) refl
  declaration-begun rest (category.an_enum {s} {b = b} {c} {d} {e} x y z v w) =
      subst (λ a. is_begun (printed (Five five_of.EnumDeclaration s a b c d e) context.Expression ++ rest) ≡ true) (sym (says x).is) refl
  declaration-begun rest (category.a_trait {s} {b = b} {c} {d} x y z w) =
      subst (λ a. is_begun (printed (Four four_of.Trait s a b c d) context.Expression ++ rest) ≡ true) (sym (says x).is) refl
  declaration-begun rest (category.an_implementation {s} {b = b} {c} {d} x y z w) =
      subst (λ a. is_begun (printed (Four four_of.Implementation s a b c d) context.Expression ++ rest) ≡ true) (sym (says x).is) refl
  declaration-begun rest (category.a_module_method x) = method-begun rest x

  imports-begun : {a : Tree} (rest : List Piece) → IsA source (category.ListOf category.Import) a → is_begun rest ≡ true → is_begun (printed a context.Lines ++ rest) ≡ true
  imports-begun rest category.list_empty begun = ap is_begun (lines-none rest) ∙ begun
  imports-begun rest (category.list_more {s = s} {a} {b} x y) begun =
      ap is_begun (lines-more s a b rest) ∙ imports-begun (printed b context.Expression ++ (piece.Sign sign.Line ∷ rest)) x (import-begun (piece.Sign sign.Line ∷ rest) y)

  declarations-begun : {a : Tree} (rest : List Piece) → IsA source (category.ListOf category.Declaration) a → is_begun rest ≡ true → is_begun (printed a context.Lines ++ rest) ≡ true
  declarations-begun rest category.list_empty begun = ap is_begun (lines-none rest) ∙ begun
  declarations-begun rest (category.list_more {s = s} {a} {b} x y) begun =
      ap is_begun (lines-more s a b rest) ∙ declarations-begun (printed b context.Expression ++ (piece.Sign sign.Line ∷ rest)) x (declaration-begun (piece.Sign sign.Line ∷ rest) y)

  -- no line ends before the first piece
  pub begun : (tree : Tree) → IsA source category.Module tree → is_begun (pieces tree) ≡ true
  unfolding printed
  begun _ (category.a_module {a = a} {b} x y) =
      ap is_begun (append-nil (printed a context.Lines ++ (printed b context.Lines ++ [])))
      ∙ imports-begun (printed b context.Lines ++ []) x (declarations-begun [] y refl)

  -- the pieces of a module may follow one another
  pub follows : (tree : Tree) → IsA source category.Module tree → Follow source (Outside ∷ []) true (pieces tree)
  follows tree is = subst (Follow source (Outside ∷ []) true) (append-nil (pieces tree)) ((says is Outside [] tt).on [] follow.nothing)
