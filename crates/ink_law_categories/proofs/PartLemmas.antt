-- A part of a text is no expression, and no part is followed by a part.
use Rattle.std.proofs.Common.{◌≡◌, ℕ, Bool, true, false, List, refl, sym, ap, ◌∙◌}
use Rattle.ink_grammar.specs.declared.token.Shape.TheVariants.{TextPart}
use Rattle.ink_grammar.specs.declared.token.Terminal.{Terminal}
use Rattle.ink_grammar.specs.declared.symbol.Wanted.TheVariants as wanted
use Rattle.ink_grammar.specs.declared.tree.TwoChildren.TheVariants.{More}
use Rattle.ink_grammar.specs.Tree.{Tree, Leaf, Two}
use Rattle.ink_law_categories.specs.Nested.{is_flat}
use Rattle.ink_law_categories.specs.Categories.{IsA, Expression, Place, Constructed, Conditional, TextItems, word, wants, an_atom, a_place, a_place_name, a_place_field, a_loop_jump, a_constructed, a_conditional, a_constant, text_part, text_value}
use Rattle.ink_law_categories.proofs.Shapes.{said_flat}

module _ {source : List ℕ} where
  place_flat : {t : Terminal} → IsA source Place (Leaf t) → is_flat t.shape ≡ true
  place_flat (a_place_name (word i)) = ap is_flat i.shape
  place_flat (a_place_field (word i)) = ap is_flat i.shape

  constructed_flat : {t : Terminal} → IsA source Constructed (Leaf t) → is_flat t.shape ≡ true
  constructed_flat (a_constant (word i)) = ap is_flat i.shape

  no_conditional : {C : Type 0} {t : Terminal} → IsA source Conditional (Leaf t) → C
  no_conditional h = elim h [ ]

  -- a token that is an expression opens and closes nothing
  expression_flat : {t : Terminal} → IsA source Expression (Leaf t) → is_flat t.shape ≡ true
  expression_flat {t = t} (an_atom (wants i)) = said_flat wanted.Atom refl t.shape i.shape
  expression_flat {t = t} (a_loop_jump (wants i)) = said_flat wanted.LoopJump refl t.shape i.shape
  expression_flat (a_place p) = place_flat p
  expression_flat (a_constructed c) = constructed_flat c
  expression_flat (a_conditional c) = no_conditional c

  part_expression : {t : Terminal} → t.shape ≡ TextPart → IsA source Expression (Leaf t) → ⊥
  part_expression e x = let bad : true ≡ false = sym (expression_flat x) ∙ ap is_flat e in cc

  behind_part : {quote t : Terminal} {z : ℕ} {items : Tree} → t.shape ≡ TextPart → IsA source (TextItems quote false) (Two More z items (Leaf t)) → ⊥
  behind_part e (text_value x y) = part_expression e y

  two_parts : {quote t u : Terminal} {ends : Bool} {s z : ℕ} {items : Tree} → t.shape ≡ TextPart → u.shape ≡ TextPart → IsA source (TextItems quote ends) (Two More s (Two More z items (Leaf t)) (Leaf u)) → ⊥
  two_parts e f (text_part x i p) = behind_part e x
  two_parts e f (text_value x y) = part_expression f y

pub part : (source : List ℕ) (t : Terminal) → t.shape ≡ TextPart → IsA source Expression (Leaf t) → ⊥
part source t = part_expression

pub apart : (source : List ℕ) (quote t u : Terminal) (ends : Bool) (s z : ℕ) (items : Tree) → t.shape ≡ TextPart → u.shape ≡ TextPart → IsA source (TextItems quote ends) (Two More s (Two More z items (Leaf t)) (Leaf u)) → ⊥
apart source quote t u ends s z items = two_parts
