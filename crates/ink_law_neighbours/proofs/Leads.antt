-- Pieces that lead from one place of a print to another, whatever may follow there.
use Rattle.std.proofs.Common.{◌≡◌, ℕ, Bool, true, false, not, cond, List, [], ◌∷◌, ◌++◌, None, Some, refl, sym, subst, append_assoc}
use Rattle.ink_grammar.specs.declared.token.Keyword.{Keyword}
use Rattle.ink_grammar.specs.declared.token.Shape.TheVariants as shape
use Rattle.ink_grammar.specs.declared.token.Terminal.{Terminal}
use Rattle.ink_grammar.specs.Shapes.{is_link_name}
use Rattle.ink_print.specs.declared.class.Class.TheVariants as class
use Rattle.ink_print.specs.declared.context.Context.{Context}
use Rattle.ink_print.specs.declared.context.Context.TheVariants as context
use Rattle.ink_print.specs.declared.context.Rank.{Rank}
use Rattle.ink_print.specs.declared.step.Piece.{Piece}
use Rattle.ink_print.specs.declared.step.Piece.TheVariants as piece
use Rattle.ink_print.specs.declared.step.Sign.{Sign}
use Rattle.ink_print.specs.declared.step.Sign.TheVariants as sign
use Rattle.ink_print.specs.Layout.{class_of_shape}
use Rattle.ink_print.specs.Printed.{sign_piece, around}
use Rattle.ink_print.specs.Surround.{needs_parentheses}
use Rattle.ink_law_categories.specs.Nested.{Level, Outside, Inside, Embedded, Braces, IsCode}
use Rattle.ink_law_categories.specs.Written.{IsWorded, IsQuote}
use Rattle.ink_law_neighbours.specs.Follow.{is_word, is_value, is_plain, is_left_brace, is_right_brace, is_closing, within, Follow}
use Rattle.ink_law_neighbours.specs.Follow as follow

-- what may follow where no word may stand may follow where one may
pub weaken : {source : List ℕ} {from : List Level} {ps : List Piece} → Follow source from false ps → Follow source from true ps
weaken follow.nothing = follow.nothing
weaken (follow.ends_line code x) = follow.ends_line code x
weaken (follow.a_keyword code is worded x) = follow.a_keyword code is worded x
weaken (follow.an_operator code is worded x) = follow.an_operator code is worded x
weaken (follow.a_sign code is x) = follow.a_sign code is x
weaken (follow.left_brace code is x) = follow.left_brace code is x
weaken (follow.right_brace is x) = follow.right_brace is x
weaken (follow.closes_braces is x) = follow.closes_braces is x
weaken (follow.opens_text code is quote x) = follow.opens_text code is quote x
weaken (follow.closes_text is quote x) = follow.closes_text is quote x
weaken (follow.a_part quote is part x) = follow.a_part quote is part x
weaken (follow.opens_value quote x) = follow.opens_value quote x
weaken (follow.closes_value x) = follow.closes_value x

-- With anything behind them that may follow there, the pieces may follow here.
pub record Leads (source : List ℕ) (from : List Level) (free : Bool) (ps : List Piece) (to : List Level) (end : Bool) : Type 0 where
  pub on : (qs : List Piece) → Follow source to end qs → Follow source from free (ps ++ qs)

-- where a value may stand, with parentheses if they are wanted
pub data ValueContext : Context → Type 0 where
  at_expression : ValueContext context.Expression
  at_chain : ValueContext context.Chain
  at_operand : ValueContext context.Operand
  at_base : ValueContext context.Base

module _ {source : List ℕ} where
  pub done : {from : List Level} {free : Bool} → Leads source from free [] from free
  done = record { on = λ qs x. x }

  -- a word may stand there, and none needs to
  pub free : {from : List Level} → Leads source from true [] from false
  free = record { on = λ qs x. weaken x }

  pub then : {a b c : List Level} {f g h : Bool} {ps qs : List Piece} → Leads source a f ps b g → Leads source b g qs c h → Leads source a f (ps ++ qs) c h
  then {a = a} {f = f} {ps = ps} {qs = qs} first second =
      record { on = λ rest x. subst (Follow source a f) (sym (append_assoc ps qs rest)) (first.on (qs ++ rest) (second.on rest x)) }

  -- it ends in what a word may follow, and none needs to
  pub loose : {a b : List Level} {f : Bool} {ps : List Piece} → Leads source a f ps b true → Leads source a f ps b false
  loose x = record { on = λ rest y. x.on rest (weaken y) }

  -- a word needn't stand there
  pub eased : {a b : List Level} {g : Bool} {ps : List Piece} → Leads source a false ps b g → Leads source a true ps b g
  eased x = record { on = λ rest y. weaken (x.on rest y) }

  pub line : {l : Level} {ls to : List Level} {f g : Bool} {ps : List Piece} → IsCode l → Leads source (l ∷ ls) true ps to g → Leads source (l ∷ ls) f (piece.Sign sign.Line ∷ ps) to g
  line code x = record { on = λ rest y. follow.ends_line code (x.on rest y) }

  pub a_sign : {l : Level} {ls to : List Level} {f g : Bool} {ps : List Piece} (s : Sign) → IsCode l → is_plain s ≡ true → Leads source (l ∷ ls) (not (is_closing s)) ps to g → Leads source (l ∷ ls) f (piece.Sign s ∷ ps) to g
  a_sign s code is x = record { on = λ rest y. follow.a_sign code is (x.on rest y) }

  pub a_word : {l : Level} {ls : List Level} {t : Terminal} → IsCode l → is_word t.shape ≡ true → IsWorded source t → Leads source (l ∷ ls) true (piece.Token t ∷ []) (l ∷ ls) false
  a_word code is worded = record { on = λ rest y. follow.a_word code is worded y }

  pub a_name : {l : Level} {ls : List Level} {t : Terminal} → IsCode l → is_link_name t.shape ≡ true → IsWorded source t → Leads source (l ∷ ls) true (piece.Name t ∷ []) (l ∷ ls) false
  a_name code is worded = record { on = λ rest y. follow.a_name code is worded y }

  pub a_keyword : {l : Level} {ls : List Level} {f : Bool} {t : Terminal} (k : Keyword) → IsCode l → t.shape ≡ shape.Keyword k → IsWorded source t → Leads source (l ∷ ls) f (piece.Token t ∷ []) (l ∷ ls) (not (is_value k))
  a_keyword k code is worded = record { on = λ rest y. follow.a_keyword code is worded y }

  pub an_operator : {l : Level} {ls : List Level} {f : Bool} {t : Terminal} → IsCode l → class_of_shape t.shape ≡ class.Operator → IsWorded source t → Leads source (l ∷ ls) f (piece.Token t ∷ []) (l ∷ ls) true
  an_operator code is worded = record { on = λ rest y. follow.an_operator code is worded y }

  -- what stands in braces, at whatever levels are open there
  pub braces : {l : Level} {ls : List Level} {f : Bool} {ps : List Piece} (left right : Sign) → IsCode l → is_left_brace left ≡ true → is_right_brace right ≡ true →
      ((m : Level) (ms : List Level) → IsCode m → Leads source (m ∷ ms) true ps (m ∷ ms) false) →
      Leads source (l ∷ ls) f (piece.Sign left ∷ (ps ++ piece.Sign right ∷ [])) (l ∷ ls) false
  braces {l = Outside} {ls} {ps = ps} left right code is_left is_right inside = record {
    on = λ rest y. follow.left_brace code is_left
        (subst (Follow source (Outside ∷ ls) true) (sym (append_assoc ps (piece.Sign right ∷ []) rest))
        ((inside Outside ls tt).on (piece.Sign right ∷ rest) (follow.right_brace is_right y)));
  }
  braces {l = Inside quote ends} {ls} {ps = ps} left right code is_left is_right inside = absurd code
  braces {l = Embedded} {ls} {ps = ps} left right code is_left is_right inside = record {
    on = λ rest y. follow.left_brace code is_left
        (subst (Follow source (Braces ∷ Embedded ∷ ls) true) (sym (append_assoc ps (piece.Sign right ∷ []) rest))
        ((inside Braces (Embedded ∷ ls) tt).on (piece.Sign right ∷ rest) (follow.closes_braces is_right y)));
  }
  braces {l = Braces} {ls} {ps = ps} left right code is_left is_right inside = record {
    on = λ rest y. follow.left_brace code is_left
        (subst (Follow source (Braces ∷ Braces ∷ ls) true) (sym (append_assoc ps (piece.Sign right ∷ []) rest))
        ((inside Braces (Braces ∷ ls) tt).on (piece.Sign right ∷ rest) (follow.closes_braces is_right y)));
  }

  -- a value in a text
  pub in_value : {quote : Terminal} {f ends : Bool} {ls : List Level} {ps : List Piece} → IsQuote source quote →
      Leads source (Embedded ∷ Inside quote false ∷ ls) true ps (Embedded ∷ Inside quote false ∷ ls) false →
      Leads source (Inside quote ends ∷ ls) f (piece.Sign sign.TextOpening ∷ (ps ++ piece.Sign sign.TextClosing ∷ [])) (Inside quote false ∷ ls) true
  in_value {quote = quote} {ls = ls} {ps = ps} is x = record {
    on = λ rest y. follow.opens_value is
        (subst (Follow source (Embedded ∷ Inside quote false ∷ ls) true) (sym (append_assoc ps (piece.Sign sign.TextClosing ∷ []) rest))
        (x.on (piece.Sign sign.TextClosing ∷ rest) (follow.closes_value y)));
  }

  -- in parentheses where they are wanted
  pub wrapped : {l : Level} {ls : List Level} {ps : List Piece} (b : Bool) → IsCode l → Leads source (l ∷ ls) true ps (l ∷ ls) false →
      Leads source (l ∷ ls) true (sign_piece (cond b (Some sign.LeftParen) None) ++ (ps ++ sign_piece (cond b (Some sign.RightParen) None))) (l ∷ ls) false
  wrapped true code x = a_sign sign.LeftParen code refl (then x (a_sign sign.RightParen code refl done))
  wrapped false code x = then x done

  pub around_value : {l : Level} {ls : List Level} {ps : List Piece} {p : Context} → ValueContext p → (r : Rank) → IsCode l → Leads source (l ∷ ls) true ps (l ∷ ls) false →
      Leads source (l ∷ ls) true (around p r ps) (l ∷ ls) false
  around_value at_expression r code x = then x done
  around_value at_chain r code x = wrapped (needs_parentheses context.Chain r) code x
  around_value at_operand r code x = wrapped (needs_parentheses context.Operand r) code x
  around_value at_base r code x = wrapped (needs_parentheses context.Base r) code x
