-- The prints of trees, category by category.
use Rattle.std.proofs.Common.{◌≡◌, ◌⊎◌, ℕ, Bool, true, false, not, List, [], ◌∷◌, ◌++◌, Some, refl, sym, subst, inl, inr, append_assoc}
use Rattle.ink_grammar.specs.declared.token.Keyword.{Keyword}
use Rattle.ink_grammar.specs.declared.token.Keyword.TheVariants as keyword
use Rattle.ink_grammar.specs.declared.token.Shape.TheVariants as shape
use Rattle.ink_grammar.specs.declared.token.Terminal.{Terminal}
use Rattle.ink_grammar.specs.declared.tree.OneChild.TheVariants as one_of
use Rattle.ink_grammar.specs.declared.tree.TwoChildren.TheVariants as two_of
use Rattle.ink_grammar.specs.declared.tree.ThreeChildren.TheVariants as three_of
use Rattle.ink_grammar.specs.declared.tree.FourChildren.TheVariants as four_of
use Rattle.ink_grammar.specs.Tree.{Tree, Missing, Leaf, Empty, One, Two, Three, Four}
use Rattle.ink_print.specs.declared.context.Context.{Context}
use Rattle.ink_print.specs.declared.context.Context.TheVariants as context
use Rattle.ink_print.specs.declared.context.Rank.{Rank}
use Rattle.ink_print.specs.declared.context.Rank.TheVariants as rank
use Rattle.ink_print.specs.declared.step.Piece.{Piece}
use Rattle.ink_print.specs.declared.step.Piece.TheVariants as piece
use Rattle.ink_print.specs.declared.step.Sign.TheVariants as sign
use Rattle.ink_print.specs.Printed.{printed, around, sign_piece}
use Rattle.ink_print.specs.Surround.{rank_of_shape, opening, closing}
use Rattle.ink_law_categories.specs.Nested.{Level, Inside, Embedded, IsCode}
use Rattle.ink_law_categories.specs.Written.{IsToken, IsQuote, IsPartOf}
use Rattle.ink_law_categories.specs.Categories as category
use Rattle.ink_law_categories.specs.Categories.{Category, IsA}
use Rattle.ink_law_neighbours.specs.Follow as follow
use Rattle.ink_law_neighbours.specs.Follow.{Follow, is_word}
use Rattle.ink_law_neighbours.proofs.Leads.{Leads, done, free, then, loose, eased, line, a_sign, braces, in_value, ValueContext, at_expression, at_chain, at_operand, at_base, around_value}
use Rattle.ink_law_neighbours.proofs.Says.{Prints, PrintsAnywhere, HasWord, PrintsList, PrintsValue, PrintsPlain, PrintsBlock, PrintsCounted, Fit, Says}
use Rattle.ink_law_neighbours.proofs.Tokens.{word-in, keyword-in, operator-in, logical-in, setter-in, borrow-in, prefix-in, pattern-in, link-in, implemented-in, atom-value, jump-value, word-value}

module _ {source : List ℕ} where
  -- a value in a context of values
  pub value-at : {a : Tree} {p : Context} → ValueContext p → PrintsValue source a → Prints source a p true false
  value-at {p = p} at v l ls code = subst (λ ps. Leads source (l ∷ ls) true ps (l ∷ ls) false) (sym (v.at p at)) (around_value at v.rank code (v.leads l ls code))

  -- a value in a text
  pub value-in_text : {a : Tree} {f ends : Bool} {quote : Terminal} → PrintsValue source a → IsQuote source quote → (l : Level) (ls : List Level) → IsCode l →
      Leads source (Inside quote ends ∷ l ∷ ls) f (printed a context.TextItem) (Inside quote false ∷ l ∷ ls) true
  value-in_text {f = f} {ends = ends} {quote = quote} v is_quote l ls code =
      subst (λ ps. Leads source (Inside quote ends ∷ l ∷ ls) f ps (Inside quote false ∷ l ∷ ls) true) (sym v.in_text)
      (subst (λ o. Leads source (Inside quote ends ∷ l ∷ ls) f (sign_piece o ++ (v.inside ++ sign_piece (closing context.TextItem v.rank))) (Inside quote false ∷ l ∷ ls) true) (sym v.begins)
      (subst (λ o. Leads source (Inside quote ends ∷ l ∷ ls) f (piece.Sign sign.TextOpening ∷ (v.inside ++ sign_piece o)) (Inside quote false ∷ l ∷ ls) true) (sym v.ends)
      (in_value is_quote (v.leads Embedded (Inside quote false ∷ l ∷ ls) tt))))

  -- nodes without parentheses
  plain-expression : {a : Tree} → PrintsPlain source a → Prints source a context.Expression true false
  plain-expression v l ls code = subst (λ ps. Leads source (l ∷ ls) true ps (l ∷ ls) false) (sym (v.at context.Expression)) (then (v.leads l ls code) done)

  plain-annotated : {a : Tree} → PrintsPlain source a → PrintsAnywhere source a context.Annotated
  plain-annotated v f l ls code = subst (λ ps. Leads source (l ∷ ls) f ps (l ∷ ls) false) (sym (v.at context.Annotated)) (a_sign sign.Colon code refl (then (v.leads l ls code) done))

  plain-returned : {a : Tree} → PrintsPlain source a → PrintsAnywhere source a context.Returned
  plain-returned v f l ls code = subst (λ ps. Leads source (l ∷ ls) f ps (l ∷ ls) false) (sym (v.at context.Returned)) (a_sign sign.Arrow code refl (then (v.leads l ls code) done))

  -- what may be left out
  optional : {X : Type 0} {a : Tree} (p : Context) → (a ≡ Missing) ⊎ X → (X → PrintsAnywhere source a p) → Prints source a p false false
  unfolding printed
  optional p (inl none) there l ls code = subst (λ z. Leads source (l ∷ ls) false (printed z p) (l ∷ ls) false) (sym none) done
  optional p (inr some) there l ls code = there some false l ls code

  -- the items of lists
  item-in : (item : Category) (a : Tree) → Fit item → Says source item a → Prints source a context.Expression true false
  item-in (category.Word x) a fit says = word-in says fit
  item-in category.ImportName a fit says = says
  item-in category.Import a fit says = says
  item-in category.Declaration a fit says = says
  item-in category.ObjectMember a fit says = says
  item-in category.EnumMember a fit says = says
  item-in category.Method a fit says = says
  item-in category.TraitMethod a fit says = says
  item-in category.Parameter a fit says = says
  item-in category.TypeParameter a fit says = says
  item-in category.FullType a fit says = plain-expression says
  item-in category.Statement a fit says = says
  item-in category.Expression a fit says = value-at at_expression says
  item-in category.Named a fit says = says
  item-in category.Arm a fit says = says
  item-in category.Pattern a fit says = says
  item-in category.FieldPattern a fit says = says
  item-in _ a fit says = absurd fit

  -- lists
  empty-list : PrintsList source Empty
  unfolding printed
  empty-list = record {
    lines = λ l ls code. done;
    body = λ l ls code. done;
    before_comma = λ l ls code. done;
    before_dot = λ l ls code. done;
    before_plus = λ l ls code. done;
    items = λ l ls code. free;
    dotted = λ l ls code. free;
    bracketed = λ f l ls code. a_sign sign.LeftBracket code refl (eased (a_sign sign.RightBracket code refl done));
    parenthesised = λ f l ls code. a_sign sign.LeftParen code refl (eased (a_sign sign.RightParen code refl done));
    import_names = λ f l ls code. a_sign sign.ImportParen code refl (eased (a_sign sign.RightParen code refl done));
    bounded = λ f l ls code. a_sign sign.Colon code refl free;
  }

  more-list : {s : ℕ} {a b : Tree} → PrintsList source a → Prints source b context.Expression true false → PrintsList source (Two two_of.More s a b)
  unfolding printed
  more-list list item = record {
    lines = λ l ls code. then (then (list.lines l ls code) (then (item l ls code) (line code done))) done;
    body = λ l ls code. line code (then (then (list.lines l ls code) (then (item l ls code) (line code done))) done);
    before_comma = λ l ls code. then (then (list.before_comma l ls code) (then (item l ls code) (a_sign sign.Comma code refl done))) done;
    before_dot = λ l ls code. then (then (list.before_dot l ls code) (then (item l ls code) (a_sign sign.Dot code refl done))) done;
    before_plus = λ l ls code. then (then (list.before_plus l ls code) (then (item l ls code) (a_sign sign.Plus code refl done))) done;
    items = λ l ls code. then (then (list.before_comma l ls code) (then (item l ls code) done)) done;
    dotted = λ l ls code. then (then (list.before_dot l ls code) (then (item l ls code) done)) done;
    bracketed = λ f l ls code. a_sign sign.LeftBracket code refl (then (then (list.before_comma l ls code) (then (item l ls code) done)) (a_sign sign.RightBracket code refl done));
    parenthesised = λ f l ls code. a_sign sign.LeftParen code refl (then (then (list.before_comma l ls code) (then (item l ls code) done)) (a_sign sign.RightParen code refl done));
    import_names = λ f l ls code. a_sign sign.ImportParen code refl (then (then (list.before_comma l ls code) (then (item l ls code) done)) (a_sign sign.RightParen code refl done));
    bounded = λ f l ls code. a_sign sign.Colon code refl (then (then (list.before_plus l ls code) (then (item l ls code) done)) done);
  }

  -- words
  words-more : (s : ℕ) (a : Tree) {t : Terminal} (k : Keyword) → Prints source a context.Words true true → follow.is_value k ≡ false → IsToken source (shape.Keyword k) t →
      Prints source (Two two_of.More s a (Leaf t)) context.Words true true
  unfolding printed
  words-more s a {t = t} k words plain is l ls code =
      then (then (words l ls code) (then (subst (λ b. Leads source (l ∷ ls) true (printed (Leaf t) context.Expression) (l ∷ ls) (not b)) plain
      (keyword-in {k = k} (record { t = t; is = refl; token = is }) l ls code)) done)) done

  no-words : Prints source Empty context.Words true true
  unfolding printed
  no-words l ls code = done

  -- what opens and closes braces
  body-braces : {a : Tree} {f : Bool} → PrintsList source a → (l : Level) (ls : List Level) → IsCode l →
      Leads source (l ∷ ls) f (piece.Sign sign.BlockOpening ∷ (printed a context.Body ++ piece.Sign sign.BlockClosing ∷ [])) (l ∷ ls) false
  body-braces list l ls code = braces sign.BlockOpening sign.BlockClosing code refl refl (λ m ms inner. loose (list.body m ms inner))

  -- types
  a_value_node : {a : Tree} (r : Rank) (inside : List Piece) → ((p : Context) → printed a p ≡ around p r inside) → opening context.TextItem r ≡ Some sign.TextOpening → closing context.TextItem r ≡ Some sign.TextClosing →
      ((l : Level) (ls : List Level) → IsCode l → Leads source (l ∷ ls) true inside (l ∷ ls) false) → PrintsValue source a
  a_value_node r inside at begins ends leads = record { rank = r; inside = inside; at = λ p v. at p; in_text = at context.TextItem; begins = begins; ends = ends; leads = leads }

  counted : {s : ℕ} {a : Tree} → PrintsValue source a → PrintsCounted source (One one_of.Statement s a)
  unfolding printed
  counted v = record {
    expression = λ l ls code. then (then (value-at at_expression v l ls code) done) done;
    chain = λ l ls code. then (then (value-at at_chain v l ls code) done) done;
    operand = λ l ls code. then (then (value-at at_operand v l ls code) done) done;
    guard = λ f l ls code. a_sign sign.If code refl (then (then (value-at at_chain v l ls code) done) done);
  }

  block : {s : ℕ} {a b c : Tree} → PrintsList source b → PrintsBlock source (Three three_of.Block s a b c)
  unfolding printed
  block list = record {
    expression = λ f l ls code. then (body-braces list l ls code) done;
    operand = λ f l ls code. then (body-braces list l ls code) done;
    otherwise = λ f l ls code. a_sign sign.Else code refl (then (body-braces list l ls code) done);
  }

  -- a conditional, where a value may stand and behind `else`
  conditional : {s : ℕ} {a b c d : Tree} → HasWord source (shape.Keyword keyword.If) a → PrintsCounted source b → PrintsBlock source c → (d ≡ Missing) ⊎ PrintsAnywhere source d context.Otherwise →
      PrintsValue source (Four four_of.If s a b c d) × PrintsAnywhere source (Four four_of.If s a b c d) context.Otherwise
  unfolding printed
  conditional {a = a} {b} {c} {d} word condition inside other =
      let leads : (f : Bool) (l : Level) (ls : List Level) → IsCode l → Leads source (l ∷ ls) f (printed a context.Expression ++ (printed b context.Chain ++ (printed c context.Expression ++ (printed d context.Otherwise ++ [])))) (l ∷ ls) false =
      λ f l ls code. then (keyword-in word l ls code) (then (condition.chain l ls code) (then (inside.expression false l ls code) (then (optional context.Otherwise other (λ x. x) l ls code) done))) in
      (a_value_node rank.Base _ (λ p. refl) refl refl (leads true), λ f l ls code. a_sign sign.Else code refl (then (leads true l ls code) done))

  -- `mut`, or nothing
  mutable : {a : Tree} → (a ≡ Missing) ⊎ HasWord source (shape.Keyword keyword.Mut) a → Prints source a context.Expression true true
  unfolding printed
  mutable (inl none) l ls code = subst (λ z. Leads source (l ∷ ls) true (printed z context.Expression) (l ∷ ls) true) (sym none) done
  mutable (inr word) l ls code = keyword-in word l ls code

  -- a value behind `return`, or nothing
  returned : {a : Tree} → (a ≡ Missing) ⊎ PrintsValue source a → Prints source a context.Expression true false
  unfolding printed
  returned (inl none) l ls code = subst (λ z. Leads source (l ∷ ls) true (printed z context.Expression) (l ∷ ls) false) (sym none) free
  returned (inr value) l ls code = value-at at_expression value l ls code

  -- a part of a text
  part-in : {t quote : Terminal} {f : Bool} {ls : List Level} → t.shape ≡ shape.TextPart → IsQuote source quote → IsPartOf source quote t →
      Leads source (Inside quote false ∷ ls) f (printed (Leaf t) context.TextItem) (Inside quote true ∷ ls) true
  unfolding printed
  part-in {t = t} {quote} {f} {ls} is written part =
      subst (λ x. Leads source (Inside quote false ∷ ls) f (around context.TextItem (rank_of_shape x) (piece.Token t ∷ [])) (Inside quote true ∷ ls) true) (sym is)
      (record { on = λ rest y. follow.a_part written is part y })

  -- a text between its quotes
  quote-text : {t : Terminal} {ends : Bool} (b : Tree) → t.shape ≡ shape.Quote → IsQuote source t → ((l : Level) (ls : List Level) → IsCode l → Leads source (Inside t false ∷ l ∷ ls) true (printed b context.TextParts) (Inside t ends ∷ l ∷ ls) true) →
      (l : Level) (ls : List Level) → IsCode l → Leads source (l ∷ ls) true (piece.Token t ∷ (printed b context.TextParts ++ piece.Token t ∷ [])) (l ∷ ls) false
  quote-text {t = t} {ends} b is written items l ls code = record {
    on = λ rest y. follow.opens_text code is written
        (subst (Follow source (Inside t false ∷ l ∷ ls) true) (sym (append_assoc (printed b context.TextParts) (piece.Token t ∷ []) rest))
        ((items l ls code).on (piece.Token t ∷ rest) (follow.closes_text is written y)));
  }

  quoted : {t : Terminal} (b : Tree) → ((l : Level) (ls : List Level) → IsCode l → Leads source (l ∷ ls) true (piece.Token t ∷ (printed b context.TextParts ++ piece.Token t ∷ [])) (l ∷ ls) false) →
      (l : Level) (ls : List Level) → IsCode l → Leads source (l ∷ ls) true (printed (Leaf t) context.Expression ++ (printed b context.TextParts ++ (printed (Leaf t) context.Expression ++ []))) (l ∷ ls) false
  unfolding printed
  quoted b x l ls code = x l ls code

  -- all categories
  pub says : {kind : Category} {a : Tree} → IsA source kind a → Says source kind a
  unfolding printed
  says (category.word {t = t} i) = record { t = t; is = refl; token = i }
  says (category.wants {t = t} i) = record { t = t; is = refl; token = i }
  says (category.bracket i) = tt
  says category.list_empty = λ fit. empty-list
  says (category.list_more {item} {b = b} x y) = λ fit. more-list (says x fit) (item-in item b fit (says y))
  says (category.some_more {item} {b = b} x y) = λ fit. more-list (says x fit) (item-in item b fit (says y))
  says category.maybe_missing = inl refl
  says (category.maybe_there x) = inr (says x)
  -- imports, declarations and their members
  says (category.a_module x y) = λ l ls code. then (then ((says x tt).lines l ls code) (then (loose ((says y tt).lines l ls code)) done)) done
  says (category.an_import x y z) = λ l ls code. then (then (keyword-in (says x) l ls code) (then ((says y refl).dotted l ls code) (then (optional context.ImportNames (says z) (λ list. (list tt).import_names) l ls code) done))) done
  says (category.import_name x) = word-in (says x) refl
  says (category.import_constant x) = word-in (says x) refl
  says (category.a_type v w x y z) = λ l ls code. then (then (keyword-in (says v) l ls code) (then (says w l ls code) (then (word-in (says x) refl l ls code) (then (optional context.Bracketed (says y) (λ list. (list tt).bracketed) l ls code) (body-braces (says z tt) l ls code))))) done
  says (category.an_enum v w x y z) = λ l ls code. then (then (keyword-in (says v) l ls code) (then (says w l ls code) (a_sign sign.Enum code refl (then (word-in (says x) refl l ls code) (then (optional context.Bracketed (says y) (λ list. (list tt).bracketed) l ls code) (body-braces (says z tt) l ls code)))))) done
  says (category.a_trait w x y z) = λ l ls code. then (then (keyword-in (says w) l ls code) (then (says x l ls code) (then (word-in (says y) refl l ls code) (body-braces (says z tt) l ls code)))) done
  says (category.an_implementation w x y z) = λ l ls code. then (then (keyword-in (says w) l ls code) (then (word-in (says x) refl l ls code) (then (optional context.Implemented (says y) implemented-in l ls code) (body-braces (says z tt) l ls code)))) done
  says (category.a_module_method x) = says x
  says (category.a_field w x y z) = λ l ls code. then (then (keyword-in (says w) l ls code) (then (says x l ls code) (then (word-in (says y) refl l ls code) (a_sign sign.Colon code refl (then (plain-expression (says z) l ls code) done))))) done
  says (category.an_object_method x) = says x
  says (category.a_constructor x y z) = λ l ls code. then (then (keyword-in (says x) l ls code) (then (word-in (says y) refl l ls code) (then (optional context.Parenthesised (says z) (λ list. (list tt).parenthesised) l ls code) done))) done
  says (category.an_enum_method x) = says x
  says (category.a_method w x y z) = λ l ls code. then (then (keyword-in (says w) l ls code) (then (says x l ls code) (then (says y l ls code) (then ((says z).expression false l ls code) done)))) done
  says (category.a_signature w x y z) = λ l ls code. then (then (word-in (says w) refl l ls code) (then (optional context.Bracketed (says x) (λ list. (list tt).bracketed) l ls code) (then (optional context.Parenthesised (says y) (λ list. (list tt).parenthesised) l ls code) (then (optional context.Returned (says z) plain-returned l ls code) done)))) done
  says (category.a_trait_method v w x y z) = λ l ls code. then (then (keyword-in (says v) l ls code) (then (says w l ls code) (then (word-in (says x) refl l ls code) (then (optional context.Parenthesised (says y) (λ list. (list tt).parenthesised) l ls code) (then (optional context.Returned (says z) plain-returned l ls code) done))))) done
  says (category.a_parameter x y) = λ l ls code. then (then (word-in (says x) refl l ls code) (a_sign sign.Colon code refl (then (plain-expression (says y) l ls code) done))) done
  says (category.a_type_parameter x y) = λ l ls code. then (then (word-in (says x) refl l ls code) (then (optional context.Bounded (says y) (λ list. (list refl).bounded) l ls code) done)) done
  -- words behind `let`, `type`, `fn` and `trait`
  says category.no_pub = no-words
  says (category.with_pub {s = s} i) = words-more s Empty keyword.Pub no-words refl i
  says (category.no_mut x) = says x
  says (category.with_mut {s = s} {a = a} x i) = words-more s a keyword.Mut (says x) refl i
  says (category.no_async x) = says x
  says (category.with_async {s = s} {a = a} x i) = words-more s a keyword.Async (says x) refl i
  says (category.no_kind x) = says x
  says (category.with_kind {s = s} {a = a} x (inl i)) = words-more s a keyword.Mut (says x) refl i
  says (category.with_kind {s = s} {a = a} x (inr (inl i))) = words-more s a keyword.Move (says x) refl i
  says (category.with_kind {s = s} {a = a} x (inr (inr i))) = words-more s a keyword.Static (says x) refl i
  says (category.no_trait_kind x) = says x
  says (category.with_trait_kind {s = s} {a = a} x (inl i)) = words-more s a keyword.Mut (says x) refl i
  says (category.with_trait_kind {s = s} {a = a} x (inr i)) = words-more s a keyword.Move (says x) refl i
  -- types
  says (category.a_prefixed_type x y) = record { inside = _; at = λ p. refl; leads = λ l ls code. then (prefix-in (says x) l ls code) (then (plain-expression (says y) l ls code) done) }
  says (category.a_plain_type x) = says x
  says (category.a_named_type x y) = record { inside = _; at = λ p. refl; leads = λ l ls code. then (word-in (says x) refl l ls code) (then (optional context.Bracketed (says y) (λ list. (list tt).bracketed) l ls code) done) }
  says (category.a_pair_type x y z) = record { inside = _; at = λ p. refl; leads = λ l ls code. a_sign sign.LeftParen code refl (then (plain-expression (says y) l ls code) (a_sign sign.Comma code refl (then (plain-expression (says z) l ls code) (a_sign sign.RightParen code refl done)))) }
  says (category.a_triple_type w x y z) = record { inside = _; at = λ p. refl; leads = λ l ls code. a_sign sign.LeftParen code refl (then (plain-expression (says x) l ls code) (a_sign sign.Comma code refl (then (plain-expression (says y) l ls code) (a_sign sign.Comma code refl (then (plain-expression (says z) l ls code) (a_sign sign.RightParen code refl done)))))) }
  -- blocks and statements
  says (category.a_block x y z) = block (says y tt)
  says (category.a_let v w x y z) = λ l ls code. then (then (keyword-in (says v) l ls code) (then (mutable (says w) l ls code) (then (says x l ls code) (then (optional context.Annotated (says y) plain-annotated l ls code) (a_sign sign.Equals code refl (then (value-at at_expression (says z) l ls code) done)))))) done
  says (category.a_value_statement {s = s} x) = (counted {s = s} (says x)).expression
  says (category.a_let_name x) = word-in (says x) refl
  says (category.a_let_underscore x) = word-in (says x) refl
  says (category.a_counted x) = counted (says x)
  -- jumps, assignments and chains
  says (category.a_return x y) = a_value_node rank.Expression _ (λ p. refl) refl refl (λ l ls code. then (keyword-in (says x) l ls code) (then (returned (says y) l ls code) done))
  says (category.a_throw x y) = a_value_node rank.Expression _ (λ p. refl) refl refl (λ l ls code. then (keyword-in (says x) l ls code) (then (value-at at_expression (says y) l ls code) done))
  says (category.a_loop_jump x) = jump-value (says x)
  says (category.an_assignment x y z) = a_value_node rank.Expression _ (λ p. refl) refl refl (λ l ls code. then (value-at at_base (says x) l ls code) (then (setter-in (says y) l ls code) (then (value-at at_expression (says z) l ls code) done)))
  says (category.a_chain x y z) = a_value_node rank.Chain _ (λ p. refl) refl refl (λ l ls code. then (value-at at_chain (says x) l ls code) (then (operator-in (says y) l ls code) (then (value-at at_operand (says z) l ls code) done)))
  says (category.a_logical_chain x y z) = a_value_node rank.Chain _ (λ p. refl) refl refl (λ l ls code. then (value-at at_chain (says x) l ls code) (then (logical-in (says y) l ls code) (then ((says z).operand l ls code) done)))
  says (category.a_place x) = says x
  says (category.a_place_name x) = word-value (says x) refl refl
  says (category.a_place_field x) = word-value (says x) refl refl
  says (category.a_member x y) = a_value_node rank.Base _ (λ p. refl) refl refl (λ l ls code. then (value-at at_base (says x) l ls code) (a_sign sign.Dot code refl (then (link-in (says y) l ls code) done)))
  -- operands
  says (category.a_borrow x y) = a_value_node rank.Operand _ (λ p. refl) refl refl (λ l ls code. then (borrow-in (says x) l ls code) (then (value-at at_operand (says y) l ls code) done))
  says (category.a_try x y) = a_value_node rank.Operand _ (λ p. refl) refl refl (λ l ls code. then (keyword-in (says x) l ls code) (then (value-at at_operand (says y) l ls code) done))
  says (category.a_recover x y) = a_value_node rank.Operand _ (λ p. refl) refl refl (λ l ls code. then (keyword-in (says x) l ls code) (then (says y l ls code) done))
  says (category.a_recovered_block x) = (says x).operand true
  says (category.a_recovered_value x) = (says x).operand
  says (category.a_member_call x y z) = a_value_node rank.Base _ (λ p. refl) refl refl (λ l ls code. then (value-at at_base (says x) l ls code) (a_sign sign.Dot code refl (then (link-in (says y) l ls code) (a_sign sign.LeftParen code refl (then ((says z tt).items l ls code) (a_sign sign.RightParen code refl done))))))
  says (category.a_tuple_item x y) = a_value_node rank.Base _ (λ p. refl) refl refl (λ l ls code. then (value-at at_base (says x) l ls code) (a_sign sign.Dot code refl (then (word-in (says y) refl l ls code) done)))
  -- primaries
  says (category.an_atom x) = atom-value (says x)
  says (category.a_text {b = b} is written x) = a_value_node rank.Base _ (λ p. refl) refl refl (λ l ls code. quoted b (quote-text b is written (says x written)) l ls code)
  says (category.a_call x y) = a_value_node rank.Base _ (λ p. refl) refl refl (λ l ls code. then (word-in (says x) refl l ls code) (a_sign sign.LeftParen code refl (then ((says y tt).items l ls code) (a_sign sign.RightParen code refl done))))
  says (category.a_constructed x) = says x
  says (category.a_construction x y) = a_value_node rank.Base _ (λ p. refl) refl refl (λ l ls code. then (value-at at_expression (says x) l ls code) (a_sign sign.LeftParen code refl (then (says y l ls code) (a_sign sign.RightParen code refl done))))
  says (category.a_constant x) = word-value (says x) refl refl
  says (category.a_qualified x y) = a_value_node rank.Base _ (λ p. refl) refl refl (λ l ls code. then (word-in (says x) refl l ls code) (a_sign sign.Dot code refl (then (word-in (says y) refl l ls code) done)))
  says (category.unnamed_arguments x) = (says x tt).items
  says (category.named_arguments x) = (says x tt).items
  says (category.a_named x y) = λ l ls code. then (then (word-in (says x) refl l ls code) (a_sign sign.Colon code refl (then (value-at at_expression (says y) l ls code) done))) done
  says (category.a_pair x y z) = a_value_node rank.Base _ (λ p. refl) refl refl (λ l ls code. a_sign sign.LeftParen code refl (then (value-at at_expression (says y) l ls code) (a_sign sign.Comma code refl (then (value-at at_expression (says z) l ls code) (a_sign sign.RightParen code refl done)))))
  says (category.a_triple w x y z) = a_value_node rank.Base _ (λ p. refl) refl refl (λ l ls code. a_sign sign.LeftParen code refl (then (value-at at_expression (says x) l ls code) (a_sign sign.Comma code refl (then (value-at at_expression (says y) l ls code) (a_sign sign.Comma code refl (then (value-at at_expression (says z) l ls code) (a_sign sign.RightParen code refl done)))))))
  says (category.an_array x y) = a_value_node rank.Base _ (λ p. refl) refl refl (λ l ls code. a_sign sign.LeftBracket code refl (then ((says y tt).items l ls code) (a_sign sign.RightBracket code refl done)))
  says (category.a_conditional x) = (says x).0
  says (category.an_if w x y z) = conditional (says w) (says x) (says y) (says z)
  says (category.a_block_branch x) = (says x).otherwise
  says (category.a_conditional_branch x) = (says x).1
  says (category.a_while x y z) = a_value_node rank.Base _ (λ p. refl) refl refl (λ l ls code. then (keyword-in (says x) l ls code) (then ((says y).chain l ls code) (then ((says z).expression false l ls code) done)))
  says (category.a_loop x y) = a_value_node rank.Base _ (λ p. refl) refl refl (λ l ls code. then (keyword-in (says x) l ls code) (then ((says y).expression true l ls code) done))
  says (category.a_match x y z) = a_value_node rank.Base _ (λ p. refl) refl refl (λ l ls code. then (keyword-in (says x) l ls code) (then ((says y).chain l ls code) (body-braces (says z tt) l ls code)))
  says (category.an_arm w x y z) = λ l ls code. then (then (keyword-in (says w) l ls code) (then (says x l ls code) (then (optional context.Guard (says y) (λ c. c.guard) l ls code) (a_sign sign.Arrow code refl (then (says z l ls code) done))))) done
  says (category.an_arm_block x) = (says x).expression true
  says (category.an_arm_value x) = (says x).expression
  -- what stands in a text
  says category.no_text = λ written l ls code. done
  says (category.text_part x is part) = λ written l ls code. then (then (says x written l ls code) (then (part-in is written part) done)) done
  says (category.text_value x y) = λ written l ls code. then (then (says x written l ls code) (then (value-in_text (says y) written l ls code) done)) done
  says category.no_pattern_text = λ written l ls code. done
  says (category.pattern_text_part x is part) = λ written l ls code. then (then (says x written l ls code) (then (part-in is written part) done)) done
  -- patterns
  says (category.an_alternative x) = says x
  says (category.alternatives x y) = λ l ls code. then (then (says x l ls code) (a_sign sign.Or code refl (then (says y l ls code) done))) done
  says (category.a_pattern_atom x) = pattern-in (says x)
  says (category.a_pattern_text {b = b} is written x) = λ l ls code. then (quoted b (quote-text b is written (says x written)) l ls code) done
  says (category.a_mutable_name x y) = λ l ls code. then (then (keyword-in (says x) l ls code) (then (word-in (says y) refl l ls code) done)) done
  says (category.a_constant_pattern x) = word-in (says x) refl
  says (category.a_constructor_pattern x y) = λ l ls code. then (then (word-in (says x) refl l ls code) (a_sign sign.LeftParen code refl (then ((says y tt).items l ls code) (a_sign sign.RightParen code refl done)))) done
  says (category.a_pair_pattern x y z) = λ l ls code. then (a_sign sign.LeftParen code refl (then (says y l ls code) (a_sign sign.Comma code refl (then (says z l ls code) (a_sign sign.RightParen code refl done))))) done
  says (category.a_triple_pattern w x y z) = λ l ls code. then (a_sign sign.LeftParen code refl (then (says x l ls code) (a_sign sign.Comma code refl (then (says y l ls code) (a_sign sign.Comma code refl (then (says z l ls code) (a_sign sign.RightParen code refl done))))))) done
  says (category.field_patterns x y) = λ l ls code. then (braces sign.PatternOpening sign.PatternClosing code refl refl (λ m ms inner. (says y tt).items m ms inner)) done
  says (category.a_field_pattern x y) = λ l ls code. then (then (word-in (says x) refl l ls code) (a_sign sign.Equals code refl (then (says y l ls code) done))) done
