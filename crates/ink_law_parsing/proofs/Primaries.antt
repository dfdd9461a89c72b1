-- Atoms, texts, tuples and arrays.
use Rattle.std.proofs.Common.{◌≡◌, ℕ, Bool, true, false, List, [], ◌∷◌, ◌++◌, Some, refl, sym, subst}
use Rattle.std.proofs.lemmas.List.{append_assoc}
use Rattle.ink_grammar.specs.declared.token.Mark.TheVariants as mark
use Rattle.ink_grammar.specs.declared.token.Shape.TheVariants as shape
use Rattle.ink_grammar.specs.declared.token.Terminal.{Terminal}
use Rattle.ink_grammar.specs.declared.symbol.Wanted.TheVariants as wanted
use Rattle.ink_grammar.specs.declared.tree.TwoChildren.TheVariants as two_of
use Rattle.ink_grammar.specs.declared.tree.ThreeChildren.TheVariants as three_of
use Rattle.ink_grammar.specs.declared.tree.FourChildren.TheVariants as four_of
use Rattle.ink_grammar.specs.Shapes.{is}
use Rattle.ink_grammar.specs.Tree.{Tree, Two, Three, Four, Found, leaf, no_items, node_two, node_three, node_four}
use Rattle.ink_grammar.specs.Parts.{Expression, Primary, TextRest}
use Rattle.ink_grammar.specs.Productions.{Is, is_primary_1, is_primary_2, is_primary_3, is_primary_4, is_text_rest_1, is_text_rest_2, is_text_rest_3, is_parenthesis_rest_2, is_tuple_rest_1, is_tuple_rest_2}
use Rattle.ink_print.specs.declared.context.Context.TheVariants as context
use Rattle.ink_print.specs.declared.step.Piece.TheVariants as piece
use Rattle.ink_print.specs.declared.step.Sign.TheVariants as sign
use Rattle.ink_print.specs.declared.step.Step.TheVariants as step
use Rattle.ink_print.specs.Table.{first, second, third, fourth, first_as, second_as}
use Rattle.ink_print.specs.Printed.{fill, printed}
use Rattle.ink_law_categories.specs.Spells.{Spells, a_sign}
use Rattle.ink_law_categories.specs.Spells as spells
use Rattle.ink_law_categories.specs.Alike as alike
use Rattle.ink_law_parsing.proofs.Steps.{Split, both, split_at, Stepped, stop, put, last, next, two_children, three_children, four_children, step_two, step_three, step_four}
use Rattle.ink_law_parsing.proofs.Words.{has, has_sign, Kept, kept, TokenAt, token_at, word_read, rank_of_atom, bracket_alike, part_read}
use Rattle.ink_law_parsing.proofs.Lists.{Each, no_item, one_more, ReadAs, read_empty}
use Rattle.ink_law_parsing.proofs.Contexts.{At, at_widened, Linkable, linkable_primary, ReadsAt, in_text, Expressed, base_form}
use Rattle.ink_law_parsing.proofs.Chains.{leaf_form}
use Rattle.ink_law_parsing.proofs.Calls.{array_items}

-- what is a primary, needs no parentheses
pub primary_at : {source print : List ℕ} {a : Tree} {line end : Bool} {us : List Terminal} → At source print (Is Primary []) a line end us → At source print Linkable a line end us
primary_at r = at_widened linkable_primary r

-- one token
atom_of : {source print : List ℕ} {line end : Bool} {a : Tree} {us : List Terminal} → TokenAt source print (λ y. is wanted.Atom y ≡ true) line a us end → At source print (Is Primary []) a line end us
atom_of (token_at {u = u} n h e) = record { value = leaf u; kind = is_primary_1 u e; alike = alike.token h; headed = n; ended = refl }

pub atom_form : {source print : List ℕ} {a : Tree} → Kept (λ y. is wanted.Atom y ≡ true) a → Expressed source print a
atom_form (kept {t = t} q) = leaf_form (rank_of_atom t.shape q) (λ line end us h. primary_at (atom_of (word_read (kept q) h)))

-- a text: its items are parts and values
pub data TextTree (source print : List ℕ) : Tree → Type 0 where
  text_part : {a : Tree} → Kept (λ y. y ≡ shape.TextPart) a → TextTree source print a
  text_value : {a : Tree} → Expressed source print a → TextTree source print a

abbrev TextKind : List Terminal → Found → Type 0
TextKind us v = (w : List Terminal) (x : Found) → Is TextRest (v ∷ []) w x → Is TextRest (no_items ∷ []) (us ++ w) x

abbrev ItemKind : List Terminal → Found → Type 0
ItemKind us v = (a : Found) (w : List Terminal) (x : Found) → Is TextRest (node_two two_of.More a v ∷ []) w x → Is TextRest (a ∷ []) (us ++ w) x

part_of : {source print : List ℕ} {line end : Bool} {a : Tree} {us : List Terminal} → TokenAt source print (λ y. y ≡ shape.TextPart) line a us end → ReadAs source print ItemKind a us
part_of (token_at {u = u} n h e) = record { value = leaf u; kind = λ a w x m. is_text_rest_2 u w x (has e) m; alike = alike.token h }

value_of : {source print : List ℕ} {a : Tree} {end : Bool} {t : Terminal} {us : List Terminal} → Some shape.Opening ≡ Some t.shape → ReadsAt source print (Is Expression []) context.Expression a → Split source print false (printed a context.Expression) (piece.Sign sign.TextClosing ∷ []) us end
    → ReadAs source print ItemKind a (t ∷ us)
value_of {t = t} e f (both {us = us} h (a_sign {u = u} m o spells.nothing)) = let r = f _ _ _ h in
    record { value = r.value; kind = λ a w x k. subst (λ z. Is TextRest (a ∷ []) (t ∷ z) x) (sym (append_assoc us (u ∷ []) w)) (is_text_rest_3 t us r.value u w x (has_sign e) r.kind (has_sign o) k); alike = r.alike }

value_step : {source print : List ℕ} {line end : Bool} {a : Tree} {us : List Terminal} → ReadsAt source print (Is Expression []) context.Expression a → Spells source print line (in_text (printed a context.Expression)) us end → ReadAs source print ItemKind a us
value_step {a = a} f (a_sign n e h) = value_of e f (split_at (printed a context.Expression) (piece.Sign sign.TextClosing ∷ []) h)

text_item : {source print : List ℕ} {line end : Bool} {a : Tree} {us : List Terminal} → TextTree source print a → Spells source print line (printed a context.TextItem) us end → ReadAs source print ItemKind a us
text_item (text_part f) h = part_of (part_read f h)
text_item {source = source} {print = print} {line = line} {end = end} {us = us} (text_value g) h = value_step g.at_expression (subst (λ z. Spells source print line z us end) g.at_text h)

one_item : {source print : List ℕ} {line end : Bool} {s : ℕ} {a b : Tree} {us : List Terminal} → ((end : Bool) (us : List Terminal) → Spells source print line (printed a context.TextParts) us end → ReadAs source print TextKind a us) → TextTree source print b
    → Stepped source print (two_children a b) line (first_as context.TextParts ∷ second_as context.TextItem ∷ []) us end → ReadAs source print TextKind (Two two_of.More s a b) us
one_item f g (next {us = us} h (last {us = ws} m)) = let p = f _ _ h in let r = text_item g m in
    record { value = node_two two_of.More p.value r.value; kind = λ w x k. subst (λ z. Is TextRest (no_items ∷ []) z x) (sym (append_assoc us ws w)) (p.kind (ws ++ w) x (r.kind p.value w x k)); alike = alike.two p.alike r.alike }

text_items : {source print : List ℕ} {line end : Bool} {a : Tree} {us : List Terminal} → Each (TextTree source print) a → Spells source print line (printed a context.TextParts) us end → ReadAs source print TextKind a us
unfolding printed
text_items no_item h = read_empty (λ w x m. m) h
text_items (one_more {s = s} {a = a} {b = b} e g) h = one_item (λ end us m. text_items e m) g (step_two two_of.More s a b context.TextParts h)

text_of : {source print : List ℕ} {line mid last end : Bool} {s : ℕ} {a b : Tree} {us ws zs : List Terminal} → TokenAt source print (λ y. y ≡ shape.Quote) line a us mid → ReadAs source print TextKind b ws → TokenAt source print (λ y. y ≡ shape.Quote) last a zs end
    → At source print (Is Primary []) (Two two_of.Text s a b) line end (us ++ (ws ++ zs))
text_of (token_at {u = t} n h e) r (token_at {u = u} m i f) =
    record { value = node_two two_of.Text (leaf t) r.value; kind = is_primary_2 t _ _ (has e) (r.kind (u ∷ []) r.value (is_text_rest_1 u (has f))); alike = alike.two (alike.token h) r.alike; headed = n; ended = refl }

text : {source print : List ℕ} {line end : Bool} {s : ℕ} {a b : Tree} {us : List Terminal} → Kept (λ y. y ≡ shape.Quote) a → Each (TextTree source print) b → Stepped source print (two_children a b) line (first ∷ second_as context.TextParts ∷ first ∷ []) us end
    → At source print (Is Primary []) (Two two_of.Text s a b) line end us
text f g (next h (next m (last r))) = text_of (word_read f h) (text_items g m) (word_read f r)

pub text_form : {source print : List ℕ} {s : ℕ} {a b : Tree} → Kept (λ y. y ≡ shape.Quote) a → Each (TextTree source print) b → Expressed source print (Two two_of.Text s a b)
unfolding printed
text_form {s = s} {a = a} {b = b} f g = base_form (fill (two_children a b) (first ∷ second_as context.TextParts ∷ first ∷ [])) refl refl refl refl refl (λ line end us h. primary_at (text f g (step_two two_of.Text s a b context.Expression h)))

-- two expressions and three
pair : {source print : List ℕ} {line end : Bool} {s : ℕ} {a b c : Tree} {us : List Terminal} → Kept (λ y. y ≡ shape.Mark mark.LeftParen) a → Expressed source print b → Expressed source print c
    → Stepped source print (three_children a b c) line (step.Sign sign.LeftParen ∷ second ∷ step.Sign sign.Comma ∷ third ∷ step.Sign sign.RightParen ∷ []) us end → At source print (Is Primary []) (Three three_of.Pair s a b c) line end us
pair f g k (put {u = t0} n0 e0 (next h (put {u = t1} n1 e1 (next m (put {u = t2} n2 e2 stop))))) = let x = g.at_expression _ _ _ h in let y = k.at_expression _ _ _ m in
    record {
      value = node_three three_of.Pair (leaf t0) x.value y.value;
      alike = alike.three (bracket_alike f refl e0) x.alike y.alike;
      headed = n0;
      ended = refl;
      kind = is_primary_3 t0 _ _ _ _ (has_sign e0) x.kind (is_parenthesis_rest_2 t1 _ _ _ _ (has_sign e1) y.kind (is_tuple_rest_1 t2 (has_sign e2)));
    }

pub pair_form : {source print : List ℕ} {s : ℕ} {a b c : Tree} → Kept (λ y. y ≡ shape.Mark mark.LeftParen) a → Expressed source print b → Expressed source print c → Expressed source print (Three three_of.Pair s a b c)
unfolding printed
pair_form {s = s} {a = a} {b = b} {c = c} f g k = base_form (fill (three_children a b c) (step.Sign sign.LeftParen ∷ second ∷ step.Sign sign.Comma ∷ third ∷ step.Sign sign.RightParen ∷ [])) refl refl refl refl refl
    (λ line end us h. primary_at (pair f g k (step_three three_of.Pair s a b c context.Expression h)))

triple : {source print : List ℕ} {line end : Bool} {s : ℕ} {a b c d : Tree} {us : List Terminal} → Kept (λ y. y ≡ shape.Mark mark.LeftParen) a → Expressed source print b → Expressed source print c → Expressed source print d
    → Stepped source print (four_children a b c d) line (step.Sign sign.LeftParen ∷ second ∷ step.Sign sign.Comma ∷ third ∷ step.Sign sign.Comma ∷ fourth ∷ step.Sign sign.RightParen ∷ []) us end → At source print (Is Primary []) (Four four_of.Triple s a b c d) line end us
triple f g k l (put {u = t0} n0 e0 (next h (put {u = t1} n1 e1 (next m (put {u = t2} n2 e2 (next r (put {u = t3} n3 e3 stop))))))) = let x = g.at_expression _ _ _ h in let y = k.at_expression _ _ _ m in let z = l.at_expression _ _ _ r in
    record {
      value = node_four four_of.Triple (leaf t0) x.value y.value z.value;
      alike = alike.four (bracket_alike f refl e0) x.alike y.alike z.alike;
      headed = n0;
      ended = refl;
      kind = is_primary_3 t0 _ _ _ _ (has_sign e0) x.kind (is_parenthesis_rest_2 t1 _ _ _ _ (has_sign e1) y.kind (is_tuple_rest_2 t2 _ _ t3 (has_sign e2) z.kind (has_sign e3)));
    }

pub triple_form : {source print : List ℕ} {s : ℕ} {a b c d : Tree} → Kept (λ y. y ≡ shape.Mark mark.LeftParen) a → Expressed source print b → Expressed source print c → Expressed source print d → Expressed source print (Four four_of.Triple s a b c d)
unfolding printed
triple_form {s = s} {a = a} {b = b} {c = c} {d = d} f g k l = base_form (fill (four_children a b c d) (step.Sign sign.LeftParen ∷ second ∷ step.Sign sign.Comma ∷ third ∷ step.Sign sign.Comma ∷ fourth ∷ step.Sign sign.RightParen ∷ [])) refl refl refl refl refl
    (λ line end us h. primary_at (triple f g k l (step_four four_of.Triple s a b c d context.Expression h)))

-- an array
array : {source print : List ℕ} {line end : Bool} {s : ℕ} {a b : Tree} {us : List Terminal} → Kept (λ y. y ≡ shape.Mark mark.LeftBracket) a → Each (Expressed source print) b
    → Stepped source print (two_children a b) line (step.Sign sign.LeftBracket ∷ second_as context.Items ∷ step.Sign sign.RightBracket ∷ []) us end → At source print (Is Primary []) (Two two_of.Array s a b) line end us
array f g (put {u = t} n e (next h (put {u = u} m i stop))) = let r = array_items g h in
    record { value = node_two two_of.Array (leaf t) r.value; kind = is_primary_4 t _ _ (has_sign e) (r.kind u (has_sign i)); alike = alike.two (bracket_alike f refl e) r.alike; headed = n; ended = refl }

pub array_form : {source print : List ℕ} {s : ℕ} {a b : Tree} → Kept (λ y. y ≡ shape.Mark mark.LeftBracket) a → Each (Expressed source print) b → Expressed source print (Two two_of.Array s a b)
unfolding printed
array_form {s = s} {a = a} {b = b} f g = base_form (fill (two_children a b) (step.Sign sign.LeftBracket ∷ second_as context.Items ∷ step.Sign sign.RightBracket ∷ [])) refl refl refl refl refl (λ line end us h. primary_at (array f g (step_two two_of.Array s a b context.Expression h)))
