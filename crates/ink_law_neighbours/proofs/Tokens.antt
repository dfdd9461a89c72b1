-- The prints of tokens.
use Rattle.std.proofs.Common.{◌≡◌, ℕ, Bool, true, false, not, List, [], ◌∷◌, Some, refl, sym, ap, subst, ◌∙◌}
use Rattle.ink_grammar.specs.declared.token.Keyword.{Keyword}
use Rattle.ink_grammar.specs.declared.token.Keyword.TheVariants as keyword
use Rattle.ink_grammar.specs.declared.token.Mark.TheVariants as mark
use Rattle.ink_grammar.specs.declared.token.Shape.{Shape}
use Rattle.ink_grammar.specs.declared.token.Shape.TheVariants as shape
use Rattle.ink_grammar.specs.declared.token.Terminal.{Terminal}
use Rattle.ink_grammar.specs.declared.symbol.Wanted.TheVariants as wanted
use Rattle.ink_grammar.specs.Shapes.{is}
use Rattle.ink_grammar.specs.Tree.{Tree, Leaf}
use Rattle.ink_print.specs.declared.context.Context.{Context}
use Rattle.ink_print.specs.declared.context.Context.TheVariants as context
use Rattle.ink_print.specs.declared.step.Piece.TheVariants as piece
use Rattle.ink_print.specs.declared.step.Sign.TheVariants as sign
use Rattle.ink_print.specs.Layout.{class_of_shape}
use Rattle.ink_print.specs.Printed.{printed, around}
use Rattle.ink_print.specs.Surround.{rank_of_shape, opening, closing}
use Rattle.ink_law_categories.specs.Nested.{Level, IsCode}
use Rattle.ink_law_categories.specs.Written.{IsWorded, IsToken}
use Rattle.ink_law_neighbours.specs.Follow.{is_word, is_value}
use Rattle.ink_law_neighbours.proofs.Leads.{Leads, loose, a_sign, a_word, a_name, a_keyword, an_operator, ValueContext, at_expression, at_chain, at_operand, at_base}
use Rattle.ink_law_neighbours.proofs.Says.{Prints, PrintsAnywhere, HasWord, HasWanted, PrintsValue}

-- a test that has failed didn't pass
never : {A : Type 0} → false ≡ true → A
never failed = cc

-- in a text, a token is a value where it is no part
abbrev pub is_part : Shape → Bool
is_part shape.TextPart = true
is_part _ = false

begins-of : (x : Shape) → is_part x ≡ false → opening context.TextItem (rank_of_shape x) ≡ Some sign.TextOpening
begins-of shape.TextPart plain = never (sym plain)
begins-of (shape.Keyword keyword.Break) plain = refl
begins-of (shape.Keyword keyword.Next) plain = refl
begins-of _ plain = refl

ends-of : (x : Shape) → is_part x ≡ false → closing context.TextItem (rank_of_shape x) ≡ Some sign.TextClosing
ends-of shape.TextPart plain = never (sym plain)
ends-of (shape.Keyword keyword.Break) plain = refl
ends-of (shape.Keyword keyword.Next) plain = refl
ends-of _ plain = refl

leaf-at : (t : Terminal) (p : Context) → ValueContext p → printed (Leaf t) p ≡ around p (rank_of_shape t.shape) (piece.Token t ∷ [])
unfolding printed
leaf-at t _ at_expression = refl
leaf-at t _ at_chain = refl
leaf-at t _ at_operand = refl
leaf-at t _ at_base = refl

leaf-in_text : (t : Terminal) → printed (Leaf t) context.TextItem ≡ around context.TextItem (rank_of_shape t.shape) (piece.Token t ∷ [])
unfolding printed
leaf-in_text t = refl

atom-plain : (x : Shape) → is wanted.Atom x ≡ true → is_part x ≡ false
atom-plain shape.TextPart w = never w
atom-plain _ w = refl

jump-plain : (x : Shape) → is wanted.LoopJump x ≡ true → is_part x ≡ false
jump-plain shape.TextPart w = never w
jump-plain _ w = refl

module _ {source : List ℕ} where
  -- a word
  pub word-leads : {x : Shape} {t : Terminal} → IsToken source x t → is_word x ≡ true → (l : Level) (ls : List Level) → IsCode l → Leads source (l ∷ ls) true (piece.Token t ∷ []) (l ∷ ls) false
  word-leads i w l ls code = a_word code (ap is_word i.shape ∙ w) i.written

  pub word-in : {x : Shape} {a : Tree} → HasWord source x a → is_word x ≡ true → Prints source a context.Expression true false
  unfolding printed
  word-in h w l ls code = subst (λ z. Leads source (l ∷ ls) true (printed z context.Expression) (l ∷ ls) false) (sym h.is) (word-leads h.token w l ls code)

  -- a keyword, anywhere
  pub keyword-in : {k : Keyword} {a : Tree} {f : Bool} → HasWord source (shape.Keyword k) a → (l : Level) (ls : List Level) → IsCode l → Leads source (l ∷ ls) f (printed a context.Expression) (l ∷ ls) (not (is_value k))
  unfolding printed
  keyword-in {k} {f = f} h l ls code =
      subst (λ z. Leads source (l ∷ ls) f (printed z context.Expression) (l ∷ ls) (not (is_value k))) (sym h.is) (a_keyword k code h.token.shape h.token.written)

  -- what stands between operands
  operator-leads : {t : Terminal} {f : Bool} (x : Shape) → t.shape ≡ x → is wanted.Operator x ≡ true → IsWorded source t → (l : Level) (ls : List Level) → IsCode l → Leads source (l ∷ ls) f (piece.Token t ∷ []) (l ∷ ls) true
  operator-leads (shape.Mark mark.Operator) e w worded l ls code = an_operator code (ap class_of_shape e) worded
  operator-leads (shape.Mark mark.Plus) e w worded l ls code = an_operator code (ap class_of_shape e) worded
  operator-leads (shape.Keyword keyword.And) e w worded l ls code = never w
  operator-leads _ e w worded l ls code = never w

  logical-leads : {t : Terminal} {f : Bool} (x : Shape) → t.shape ≡ x → is wanted.Logical x ≡ true → IsWorded source t → (l : Level) (ls : List Level) → IsCode l → Leads source (l ∷ ls) f (piece.Token t ∷ []) (l ∷ ls) true
  logical-leads (shape.Keyword keyword.And) e w worded l ls code = a_keyword keyword.And code e worded
  logical-leads (shape.Keyword keyword.Or) e w worded l ls code = a_keyword keyword.Or code e worded
  logical-leads (shape.Mark mark.LeftParen) e w worded l ls code = never w
  logical-leads _ e w worded l ls code = never w

  setter-leads : {t : Terminal} {f : Bool} (x : Shape) → t.shape ≡ x → is wanted.Setter x ≡ true → IsWorded source t → (l : Level) (ls : List Level) → IsCode l → Leads source (l ∷ ls) f (piece.Token t ∷ []) (l ∷ ls) true
  setter-leads (shape.Mark mark.Equals) e w worded l ls code = an_operator code (ap class_of_shape e) worded
  setter-leads (shape.Mark mark.Swap) e w worded l ls code = an_operator code (ap class_of_shape e) worded
  setter-leads (shape.Mark mark.OperatorEquals) e w worded l ls code = an_operator code (ap class_of_shape e) worded
  setter-leads (shape.Keyword keyword.And) e w worded l ls code = never w
  setter-leads _ e w worded l ls code = never w

  borrow-leads : {t : Terminal} {f : Bool} (x : Shape) → t.shape ≡ x → is wanted.BorrowWord x ≡ true → IsWorded source t → (l : Level) (ls : List Level) → IsCode l → Leads source (l ∷ ls) f (piece.Token t ∷ []) (l ∷ ls) true
  borrow-leads (shape.Keyword keyword.Ref) e w worded l ls code = a_keyword keyword.Ref code e worded
  borrow-leads (shape.Keyword keyword.Mut) e w worded l ls code = a_keyword keyword.Mut code e worded
  borrow-leads (shape.Mark mark.LeftParen) e w worded l ls code = never w
  borrow-leads _ e w worded l ls code = never w

  prefix-leads : {t : Terminal} {f : Bool} (x : Shape) → t.shape ≡ x → is wanted.TypePrefix x ≡ true → IsWorded source t → (l : Level) (ls : List Level) → IsCode l → Leads source (l ∷ ls) f (piece.Token t ∷ []) (l ∷ ls) true
  prefix-leads (shape.Keyword keyword.Ref) e w worded l ls code = a_keyword keyword.Ref code e worded
  prefix-leads (shape.Keyword keyword.Mut) e w worded l ls code = a_keyword keyword.Mut code e worded
  prefix-leads (shape.Keyword keyword.Uni) e w worded l ls code = a_keyword keyword.Uni code e worded
  prefix-leads (shape.Mark mark.LeftParen) e w worded l ls code = never w
  prefix-leads _ e w worded l ls code = never w

  jump-leads : {t : Terminal} {f : Bool} (x : Shape) → t.shape ≡ x → is wanted.LoopJump x ≡ true → IsWorded source t → (l : Level) (ls : List Level) → IsCode l → Leads source (l ∷ ls) f (piece.Token t ∷ []) (l ∷ ls) true
  jump-leads (shape.Keyword keyword.Break) e w worded l ls code = a_keyword keyword.Break code e worded
  jump-leads (shape.Keyword keyword.Next) e w worded l ls code = a_keyword keyword.Next code e worded
  jump-leads (shape.Mark mark.LeftParen) e w worded l ls code = never w
  jump-leads _ e w worded l ls code = never w

  atom-leads : {t : Terminal} (x : Shape) → t.shape ≡ x → is wanted.Atom x ≡ true → IsWorded source t → (l : Level) (ls : List Level) → IsCode l → Leads source (l ∷ ls) true (piece.Token t ∷ []) (l ∷ ls) false
  atom-leads shape.Integer e w worded l ls code = a_word code (ap is_word e) worded
  atom-leads shape.Hexadecimal e w worded l ls code = a_word code (ap is_word e) worded
  atom-leads shape.Field e w worded l ls code = a_word code (ap is_word e) worded
  atom-leads (shape.Keyword keyword.True) e w worded l ls code = a_keyword keyword.True code e worded
  atom-leads (shape.Keyword keyword.False) e w worded l ls code = a_keyword keyword.False code e worded
  atom-leads (shape.Keyword keyword.Nil) e w worded l ls code = a_keyword keyword.Nil code e worded
  atom-leads (shape.Keyword keyword.SelfWord) e w worded l ls code = a_keyword keyword.SelfWord code e worded
  atom-leads (shape.Mark mark.LeftParen) e w worded l ls code = never w
  atom-leads _ e w worded l ls code = never w

  pattern-leads : {t : Terminal} (x : Shape) → t.shape ≡ x → is wanted.PatternAtom x ≡ true → IsWorded source t → (l : Level) (ls : List Level) → IsCode l → Leads source (l ∷ ls) true (piece.Token t ∷ []) (l ∷ ls) false
  pattern-leads shape.Underscore e w worded l ls code = a_word code (ap is_word e) worded
  pattern-leads shape.Integer e w worded l ls code = a_word code (ap is_word e) worded
  pattern-leads shape.Hexadecimal e w worded l ls code = a_word code (ap is_word e) worded
  pattern-leads shape.Name e w worded l ls code = a_word code (ap is_word e) worded
  pattern-leads (shape.Keyword keyword.True) e w worded l ls code = a_keyword keyword.True code e worded
  pattern-leads (shape.Keyword keyword.False) e w worded l ls code = a_keyword keyword.False code e worded
  pattern-leads (shape.Mark mark.LeftParen) e w worded l ls code = never w
  pattern-leads _ e w worded l ls code = never w

  -- the same of trees
  at_expression-in : {a : Tree} {t : Terminal} {l : Level} {ls : List Level} {f g : Bool} → a ≡ Leaf t → Leads source (l ∷ ls) f (piece.Token t ∷ []) (l ∷ ls) g → Leads source (l ∷ ls) f (printed a context.Expression) (l ∷ ls) g
  unfolding printed
  at_expression-in {l = l} {ls = ls} {f = f} {g = g} same x = subst (λ z. Leads source (l ∷ ls) f (printed z context.Expression) (l ∷ ls) g) (sym same) x

  pub operator-in : {a : Tree} {f : Bool} → HasWanted source wanted.Operator a → (l : Level) (ls : List Level) → IsCode l → Leads source (l ∷ ls) f (printed a context.Expression) (l ∷ ls) true
  operator-in h l ls code = at_expression-in h.is (operator-leads h.t.shape refl h.token.shape h.token.written l ls code)

  pub logical-in : {a : Tree} {f : Bool} → HasWanted source wanted.Logical a → (l : Level) (ls : List Level) → IsCode l → Leads source (l ∷ ls) f (printed a context.Expression) (l ∷ ls) true
  logical-in h l ls code = at_expression-in h.is (logical-leads h.t.shape refl h.token.shape h.token.written l ls code)

  pub setter-in : {a : Tree} {f : Bool} → HasWanted source wanted.Setter a → (l : Level) (ls : List Level) → IsCode l → Leads source (l ∷ ls) f (printed a context.Expression) (l ∷ ls) true
  setter-in h l ls code = at_expression-in h.is (setter-leads h.t.shape refl h.token.shape h.token.written l ls code)

  pub borrow-in : {a : Tree} {f : Bool} → HasWanted source wanted.BorrowWord a → (l : Level) (ls : List Level) → IsCode l → Leads source (l ∷ ls) f (printed a context.Expression) (l ∷ ls) true
  borrow-in h l ls code = at_expression-in h.is (borrow-leads h.t.shape refl h.token.shape h.token.written l ls code)

  pub prefix-in : {a : Tree} {f : Bool} → HasWanted source wanted.TypePrefix a → (l : Level) (ls : List Level) → IsCode l → Leads source (l ∷ ls) f (printed a context.Expression) (l ∷ ls) true
  prefix-in h l ls code = at_expression-in h.is (prefix-leads h.t.shape refl h.token.shape h.token.written l ls code)

  pub pattern-in : {a : Tree} → HasWanted source wanted.PatternAtom a → Prints source a context.Expression true false
  pattern-in h l ls code = at_expression-in h.is (pattern-leads h.t.shape refl h.token.shape h.token.written l ls code)

  -- behind a dot
  pub link-in : {a : Tree} → HasWanted source wanted.LinkName a → Prints source a context.Name true false
  unfolding printed
  link-in h l ls code = subst (λ z. Leads source (l ∷ ls) true (printed z context.Name) (l ∷ ls) false) (sym h.is) (a_name code h.token.shape h.token.written)

  -- the constant behind `for`
  pub implemented-in : {a : Tree} → HasWord source shape.Constant a → PrintsAnywhere source a context.Implemented
  unfolding printed
  implemented-in h f l ls code =
      subst (λ z. Leads source (l ∷ ls) f (printed z context.Implemented) (l ∷ ls) false) (sym h.is) (a_sign sign.For code refl (word-leads h.token refl l ls code))

  leaf-value : {a : Tree} {t : Terminal} → a ≡ Leaf t → is_part t.shape ≡ false → ((l : Level) (ls : List Level) → IsCode l → Leads source (l ∷ ls) true (piece.Token t ∷ []) (l ∷ ls) false) → PrintsValue source a
  leaf-value {t = t} same plain leads = subst (PrintsValue source) (sym same) (record {
    rank = rank_of_shape t.shape;
    inside = piece.Token t ∷ [];
    at = leaf-at t;
    in_text = leaf-in_text t;
    begins = begins-of t.shape plain;
    ends = ends-of t.shape plain;
    leads = leads;
  })

  pub atom-value : {a : Tree} → HasWanted source wanted.Atom a → PrintsValue source a
  atom-value h = leaf-value h.is (atom-plain h.t.shape h.token.shape) (atom-leads h.t.shape refl h.token.shape h.token.written)

  pub jump-value : {a : Tree} → HasWanted source wanted.LoopJump a → PrintsValue source a
  jump-value h = leaf-value h.is (jump-plain h.t.shape h.token.shape) (λ l ls code. loose (jump-leads h.t.shape refl h.token.shape h.token.written l ls code))

  pub word-value : {x : Shape} {a : Tree} → HasWord source x a → is_word x ≡ true → is_part x ≡ false → PrintsValue source a
  word-value h w plain = leaf-value h.is (ap is_part h.token.shape ∙ plain) (word-leads h.token w)
