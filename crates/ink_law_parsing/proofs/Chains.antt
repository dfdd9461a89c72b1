-- Jumps, assignments, chains, places and operands with a word before them.
use Rattle.std.proofs.Common.{◌≡◌, ℕ, Bool, true, false, not, List, [], ◌∷◌, ◌++◌, Some, refl, sym, ap, subst, ◌∙◌}
use Rattle.std.proofs.lemmas.List.{append_assoc}
use Rattle.ink_grammar.specs.declared.token.Keyword.TheVariants as keyword
use Rattle.ink_grammar.specs.declared.token.Mark.TheVariants as mark
use Rattle.ink_grammar.specs.declared.token.Shape.TheVariants as shape
use Rattle.ink_grammar.specs.declared.token.Terminal.{Terminal}
use Rattle.ink_grammar.specs.declared.symbol.Line.TheVariants as line_of
use Rattle.ink_grammar.specs.declared.symbol.Wanted.{Wanted}
use Rattle.ink_grammar.specs.declared.symbol.Wanted.TheVariants as wanted
use Rattle.ink_grammar.specs.declared.tree.TwoChildren.TheVariants as two_of
use Rattle.ink_grammar.specs.declared.tree.ThreeChildren.TheVariants as three_of
use Rattle.ink_grammar.specs.Shapes.{is}
use Rattle.ink_grammar.specs.Tree.{Tree, Leaf, Two, Three, Found, leaf, nothing, node_two, node_three, is_place_word}
use Rattle.ink_grammar.specs.Parts.{Expression, ChainRest, Operand, RecoverRest}
use Rattle.ink_grammar.specs.Productions.{Is, IsOneOf, StandsOn, is_expression_1, is_expression_2, is_jump_1, is_jump_2, is_jump_3, is_return_rest_1, is_return_rest_2, is_after_operand_1, is_chain_rest_1, is_operand_1, is_operand_2, is_unnamed_operand_1, is_unnamed_operand_2, is_unnamed_operand_3, is_name_rest_2, is_links_1, is_link_1, is_link_rest_2, is_primary_1}
use Rattle.ink_print.specs.declared.context.Context.{Context}
use Rattle.ink_print.specs.declared.context.Context.TheVariants as context
use Rattle.ink_print.specs.declared.context.Rank.TheVariants as rank
use Rattle.ink_print.specs.declared.step.Piece.TheVariants as piece
use Rattle.ink_print.specs.declared.step.Sign.TheVariants as sign
use Rattle.ink_print.specs.declared.step.Step.TheVariants as step
use Rattle.ink_print.specs.Surround.{rank_of_shape}
use Rattle.ink_print.specs.Table.{first, second, third, first_as, second_as, third_as}
use Rattle.ink_print.specs.Printed.{fill, around, printed}
use Rattle.ink_law_categories.specs.Spells.{Spells}
use Rattle.ink_law_categories.specs.Spells as spells
use Rattle.ink_law_categories.specs.Alike as alike
use Rattle.ink_law_parsing.proofs.Steps.{Stepped, put, last, next, two_children, three_children, step_two, step_three}
use Rattle.ink_law_parsing.proofs.Words.{has, has_sign, Kept, kept, TokenAt, token_at, word_read, name_read, rank_of_jump}
use Rattle.ink_law_parsing.proofs.Lists.{Perhaps, left_out, there}
use Rattle.ink_law_parsing.proofs.Contexts.{headed_both, opens_same, At, at_widened, Opened, Chained, Linkable, linkable_primary, operand_linkable, ReadsAt, Expressed, moved, base_form, operand_form, chain_form, expression_form}

-- what links may follow, and what is a place
abbrev pub PlaceKind : List Terminal → Found → Type 0
PlaceKind us v = Linkable us v × (v.is_place ≡ true)

-- a tree that may be set
pub record Placed (source print : List ℕ) (a : Tree) : Type 0 where
  pub expressed : Expressed source print a
  pub place : ReadsAt source print PlaceKind context.Base a

-- `return`, with a value or with none
returned_of : {source print : List ℕ} {line mid end : Bool} {s : ℕ} {a b : Tree} {us ws : List Terminal} → TokenAt source print (λ y. y ≡ shape.Keyword keyword.Return) line a us mid → Perhaps (Expressed source print) b
    → Spells source print mid (printed b context.Expression) ws end → At source print (Is Expression []) (Two two_of.Return s a b) line end (us ++ ws)
unfolding printed
returned_of (token_at {u = u} n h e) left_out spells.nothing = record { value = node_two two_of.Return (leaf u) nothing; kind = is_expression_1 _ _ (is_jump_1 u _ _ (has e) is_return_rest_2); alike = alike.two (alike.token h) alike.missing; headed = n; ended = refl }
returned_of (token_at {u = u} n h e) (there g) m = let r = g.at_expression _ _ _ m in
    record { value = node_two two_of.Return (leaf u) r.value; kind = is_expression_1 _ _ (is_jump_1 u _ _ (has e) (is_return_rest_1 _ _ r.kind (opens_same _ r.headed))); alike = alike.two (alike.token h) r.alike; headed = n; ended = r.ended }

returned : {source print : List ℕ} {line end : Bool} {s : ℕ} {a b : Tree} {us : List Terminal} → Kept (λ y. y ≡ shape.Keyword keyword.Return) a → Perhaps (Expressed source print) b
    → Stepped source print (two_children a b) line (first ∷ second ∷ []) us end → At source print (Is Expression []) (Two two_of.Return s a b) line end us
returned f g (next h (last m)) = returned_of (word_read f h) g m

pub return_form : {source print : List ℕ} {s : ℕ} {a b : Tree} → Kept (λ y. y ≡ shape.Keyword keyword.Return) a → Perhaps (Expressed source print) b → Expressed source print (Two two_of.Return s a b)
unfolding printed
return_form {s = s} {a = a} {b = b} f g = expression_form (fill (two_children a b) (first ∷ second ∷ [])) refl refl refl refl refl (λ line end us h. returned f g (step_two two_of.Return s a b context.Expression h))

-- `throw`
thrown_of : {source print : List ℕ} {line mid end : Bool} {s : ℕ} {a b : Tree} {us ws : List Terminal} → TokenAt source print (λ y. y ≡ shape.Keyword keyword.Throw) line a us mid → At source print (Is Expression []) b mid end ws
    → At source print (Is Expression []) (Two two_of.Throw s a b) line end (us ++ ws)
thrown_of (token_at {u = u} n h e) r = record { value = node_two two_of.Throw (leaf u) r.value; kind = is_expression_1 _ _ (is_jump_2 u _ _ (has e) r.kind); alike = alike.two (alike.token h) r.alike; headed = n; ended = r.ended }

thrown : {source print : List ℕ} {line end : Bool} {s : ℕ} {a b : Tree} {us : List Terminal} → Kept (λ y. y ≡ shape.Keyword keyword.Throw) a → Expressed source print b
    → Stepped source print (two_children a b) line (first ∷ second ∷ []) us end → At source print (Is Expression []) (Two two_of.Throw s a b) line end us
thrown f g (next h (last m)) = thrown_of (word_read f h) (g.at_expression _ _ _ m)

pub throw_form : {source print : List ℕ} {s : ℕ} {a b : Tree} → Kept (λ y. y ≡ shape.Keyword keyword.Throw) a → Expressed source print b → Expressed source print (Two two_of.Throw s a b)
unfolding printed
throw_form {s = s} {a = a} {b = b} f g = expression_form (fill (two_children a b) (first ∷ second ∷ [])) refl refl refl refl refl (λ line end us h. thrown f g (step_two two_of.Throw s a b context.Expression h))

-- `break` and `next`
jumped : {source print : List ℕ} {line end : Bool} {a : Tree} {us : List Terminal} → TokenAt source print (λ y. is wanted.LoopJump y ≡ true) line a us end → At source print (Is Expression []) a line end us
jumped (token_at {u = u} n h e) = record { value = leaf u; kind = is_expression_1 _ _ (is_jump_3 u e); alike = alike.token h; headed = n; ended = refl }

pub jump_form : {source print : List ℕ} {a : Tree} → Kept (λ y. is wanted.LoopJump y ≡ true) a → Expressed source print a
unfolding printed
jump_form (kept {t = t} q) = let by : (p : Context) → around p (rank_of_shape t.shape) (piece.Token t ∷ []) ≡ around p rank.Expression (piece.Token t ∷ []) = λ p. ap (λ r. around p r (piece.Token t ∷ [])) (rank_of_jump t.shape q) in
    expression_form (piece.Token t ∷ []) refl (by context.TextItem) (by context.Chain) (by context.Operand) (by context.Base) (λ line end us h. jumped (word_read (kept q) h))

-- what is set
assigned_of : {source print : List ℕ} {line mid last end : Bool} {s : ℕ} {a b c : Tree} {us ws zs : List Terminal} → At source print PlaceKind a line mid us → TokenAt source print (λ y. is wanted.Setter y ≡ true) mid b ws last → At source print (Is Expression []) c last end zs
    → At source print (Is Expression []) (Three three_of.Assign s a b c) line end (us ++ (ws ++ zs))
assigned_of {us = us} p (token_at {u = u} n h e) r =
    record {
      value = node_three three_of.Assign p.value (leaf u) r.value;
      kind = is_expression_2 us _ _ _ (operand_linkable _ _ p.kind.0) (is_after_operand_1 u _ _ p.kind.1 (n ∙ p.ended) e r.kind);
      alike = alike.three p.alike (alike.token h) r.alike;
      headed = headed_both _ us _ p.headed;
      ended = r.ended;
    }

assigned : {source print : List ℕ} {line end : Bool} {s : ℕ} {a b c : Tree} {us : List Terminal} → Placed source print a → Kept (λ y. is wanted.Setter y ≡ true) b → Expressed source print c
    → Stepped source print (three_children a b c) line (first_as context.Base ∷ second ∷ third ∷ []) us end → At source print (Is Expression []) (Three three_of.Assign s a b c) line end us
assigned p f g (next h (next m (last r))) = assigned_of (p.place _ _ _ h) (word_read f m) (g.at_expression _ _ _ r)

pub assignment_form : {source print : List ℕ} {s : ℕ} {a b c : Tree} → Placed source print a → Kept (λ y. is wanted.Setter y ≡ true) b → Expressed source print c → Expressed source print (Three three_of.Assign s a b c)
unfolding printed
assignment_form {s = s} {a = a} {b = b} {c = c} p f g = expression_form (fill (three_children a b c) (first_as context.Base ∷ second ∷ third ∷ [])) refl refl refl refl refl (λ line end us h. assigned p f g (step_three three_of.Assign s a b c context.Expression h))

-- what stands behind a word of a chain, to its right
abbrev pub RightKind : Wanted → List Terminal → Found → Type 0
RightKind wanted us v = (t : Terminal) (a : Found) (w : List Terminal) (x : Found) → StandsOn line_of.Same t → IsOneOf wanted t → Is ChainRest (node_three three_of.Binary a (leaf t) v ∷ []) w x → Is ChainRest (a ∷ []) (t ∷ (us ++ w)) x

pub plain_right_form : {source print : List ℕ} {a : Tree} → Expressed source print a → ReadsAt source print (RightKind wanted.Operator) context.Operand a
plain_right_form g line end us h = at_widened (λ u v k t a w x stands is m. is_chain_rest_1 t u v w x stands is k m) (g.at_operand line end us h)

-- a chain and one more operand
chained_of : (wanted : Wanted) {source print : List ℕ} {line mid last end : Bool} {s : ℕ} {a b c : Tree} {us ws zs : List Terminal} → At source print Chained a line mid us → TokenAt source print (λ y. is wanted y ≡ true) mid b ws last → At source print (RightKind wanted) c last end zs
    → At source print Chained (Three three_of.Binary s a b c) line end (us ++ (ws ++ zs))
chained_of wanted {us = us} {zs = zs} p (token_at {u = u} n h e) r =
    record {
      value = node_three three_of.Binary p.value (leaf u) r.value;
      kind = λ w x m. subst (λ z. Opened z x) (sym (append_assoc us (u ∷ zs) w)) (p.kind (u ∷ (zs ++ w)) x (r.kind u p.value w x (ap not (n ∙ p.ended)) e m));
      alike = alike.three p.alike (alike.token h) r.alike;
      headed = headed_both _ us _ p.headed;
      ended = r.ended;
    }

chained : (wanted : Wanted) {source print : List ℕ} {line end : Bool} {s : ℕ} {a b c : Tree} {us : List Terminal} → Expressed source print a → Kept (λ y. is wanted y ≡ true) b → ReadsAt source print (RightKind wanted) context.Operand c
    → Stepped source print (three_children a b c) line (first_as context.Chain ∷ second ∷ third_as context.Operand ∷ []) us end → At source print Chained (Three three_of.Binary s a b c) line end us
chained wanted p f g (next h (next m (last r))) = chained_of wanted (p.at_chain _ _ _ h) (word_read f m) (g _ _ _ r)

pub binary_form : (wanted : Wanted) {source print : List ℕ} {s : ℕ} {a b c : Tree} → Expressed source print a → Kept (λ y. is wanted y ≡ true) b → ReadsAt source print (RightKind wanted) context.Operand c → Expressed source print (Three three_of.Binary s a b c)
unfolding printed
binary_form wanted {s = s} {a = a} {b = b} {c = c} p f g = chain_form (fill (three_children a b c) (first_as context.Chain ∷ second ∷ third_as context.Operand ∷ [])) refl refl refl refl refl (λ line end us h. chained wanted p f g (step_three three_of.Binary s a b c context.Expression h))

-- a token that needs no parentheses
pub leaf_form : {source print : List ℕ} {t : Terminal} → rank_of_shape t.shape ≡ rank.Base → ReadsAt source print Linkable context.Expression (Leaf t) → Expressed source print (Leaf t)
unfolding printed
leaf_form {t = t} e f = let by : (p : Context) → around p (rank_of_shape t.shape) (piece.Token t ∷ []) ≡ around p rank.Base (piece.Token t ∷ []) = λ p. ap (λ r. around p r (piece.Token t ∷ [])) e in base_form (piece.Token t ∷ []) refl (by context.TextItem) (by context.Chain) (by context.Operand) (by context.Base) f

pub place_leaf : {source print : List ℕ} {t : Terminal} → rank_of_shape t.shape ≡ rank.Base → ReadsAt source print PlaceKind context.Expression (Leaf t) → Placed source print (Leaf t)
unfolding printed
place_leaf {t = t} e f = record { expressed = leaf_form e (λ line end us h. at_widened (λ u v k. k.0) (f line end us h)); place = moved (ap (λ r. around context.Base r (piece.Token t ∷ [])) e) f }

-- a name and a field
name_of : {source print : List ℕ} {line end : Bool} {a : Tree} {us : List Terminal} → TokenAt source print (λ y. y ≡ shape.Name) line a us end → At source print PlaceKind a line end us
name_of (token_at {u = u} n h e) = record { value = leaf u; kind = (λ w x l. is_operand_1 u [] (leaf u) w x (has e) is_name_rest_2 l, ap is_place_word e); alike = alike.token h; headed = n; ended = refl }

pub name_form : {source print : List ℕ} {a : Tree} → Kept (λ y. y ≡ shape.Name) a → Placed source print a
name_form (kept q) = place_leaf (ap rank_of_shape q) (λ line end us h. name_of (word_read (kept q) h))

field_of : {source print : List ℕ} {line end : Bool} {a : Tree} {us : List Terminal} → TokenAt source print (λ y. y ≡ shape.Field) line a us end → At source print PlaceKind a line end us
field_of (token_at {u = u} n h e) = record { value = leaf u; kind = (linkable_primary _ _ (is_primary_1 u (subst (λ z. is wanted.Atom z ≡ true) (sym e) refl)), ap is_place_word e); alike = alike.token h; headed = n; ended = refl }

pub field_form : {source print : List ℕ} {a : Tree} → Kept (λ y. y ≡ shape.Field) a → Placed source print a
field_form (kept q) = place_leaf (ap rank_of_shape q) (λ line end us h. field_of (word_read (kept q) h))

-- a member
member_of : {source print : List ℕ} {line mid end : Bool} {s : ℕ} {a b : Tree} {us ws : List Terminal} (d : Terminal) → At source print Linkable a line mid us → Some (shape.Mark mark.Dot) ≡ Some d.shape → TokenAt source print (λ y. is wanted.LinkName y ≡ true) false b ws end
    → At source print PlaceKind (Two two_of.Member s a b) line end (us ++ (d ∷ ws))
member_of {us = us} d p q (token_at {u = u} n h e) =
    record {
      value = node_two two_of.Member p.value (leaf u);
      kind = (λ w x l. subst (λ z. Is Operand [] z x) (sym (append_assoc us (d ∷ u ∷ []) w)) (p.kind (d ∷ u ∷ w) x (is_links_1 d (u ∷ []) (node_two two_of.Member p.value (leaf u)) w x (has_sign q) (is_link_1 u [] _ e is_link_rest_2) l)), refl);
      alike = alike.two p.alike (alike.token h);
      headed = headed_both _ us _ p.headed;
      ended = refl;
    }

member : {source print : List ℕ} {line end : Bool} {s : ℕ} {a b : Tree} {us : List Terminal} → Expressed source print a → Kept (λ y. is wanted.LinkName y ≡ true) b
    → Stepped source print (two_children a b) line (first_as context.Base ∷ step.Sign sign.Dot ∷ second_as context.Name ∷ []) us end → At source print PlaceKind (Two two_of.Member s a b) line end us
member g f (next h (put n e (last m))) = member_of _ (g.at_base _ _ _ h) e (name_read f m)

pub member_form : {source print : List ℕ} {s : ℕ} {a b : Tree} → Expressed source print a → Kept (λ y. is wanted.LinkName y ≡ true) b → Placed source print (Two two_of.Member s a b)
unfolding printed
member_form {s = s} {a = a} {b = b} g f =
    record {
      expressed = base_form (fill (two_children a b) (first_as context.Base ∷ step.Sign sign.Dot ∷ second_as context.Name ∷ [])) refl refl refl refl refl (λ line end us h. at_widened (λ u v k. k.0) (member g f (step_two two_of.Member s a b context.Expression h)));
      place = λ line end us h. member g f (step_two two_of.Member s a b context.Base h);
    }

-- operands with a word before them
borrowed_of : {source print : List ℕ} {line mid end : Bool} {s : ℕ} {a b : Tree} {us ws : List Terminal} → TokenAt source print (λ y. is wanted.BorrowWord y ≡ true) line a us mid → At source print (Is Operand []) b mid end ws
    → At source print (Is Operand []) (Two two_of.Borrow s a b) line end (us ++ ws)
borrowed_of (token_at {u = u} n h e) r = record { value = node_two two_of.Borrow (leaf u) r.value; kind = is_operand_2 _ _ (is_unnamed_operand_1 u _ _ e r.kind); alike = alike.two (alike.token h) r.alike; headed = n; ended = r.ended }

borrowed : {source print : List ℕ} {line end : Bool} {s : ℕ} {a b : Tree} {us : List Terminal} → Kept (λ y. is wanted.BorrowWord y ≡ true) a → Expressed source print b
    → Stepped source print (two_children a b) line (first ∷ second_as context.Operand ∷ []) us end → At source print (Is Operand []) (Two two_of.Borrow s a b) line end us
borrowed f g (next h (last m)) = borrowed_of (word_read f h) (g.at_operand _ _ _ m)

pub borrow_form : {source print : List ℕ} {s : ℕ} {a b : Tree} → Kept (λ y. is wanted.BorrowWord y ≡ true) a → Expressed source print b → Expressed source print (Two two_of.Borrow s a b)
unfolding printed
borrow_form {s = s} {a = a} {b = b} f g = operand_form (fill (two_children a b) (first ∷ second_as context.Operand ∷ [])) refl refl refl refl refl (λ line end us h. borrowed f g (step_two two_of.Borrow s a b context.Expression h))

tried_of : {source print : List ℕ} {line mid end : Bool} {s : ℕ} {a b : Tree} {us ws : List Terminal} → TokenAt source print (λ y. y ≡ shape.Keyword keyword.Try) line a us mid → At source print (Is Operand []) b mid end ws
    → At source print (Is Operand []) (Two two_of.Try s a b) line end (us ++ ws)
tried_of (token_at {u = u} n h e) r = record { value = node_two two_of.Try (leaf u) r.value; kind = is_operand_2 _ _ (is_unnamed_operand_2 u _ _ (has e) r.kind); alike = alike.two (alike.token h) r.alike; headed = n; ended = r.ended }

tried : {source print : List ℕ} {line end : Bool} {s : ℕ} {a b : Tree} {us : List Terminal} → Kept (λ y. y ≡ shape.Keyword keyword.Try) a → Expressed source print b
    → Stepped source print (two_children a b) line (first ∷ second_as context.Operand ∷ []) us end → At source print (Is Operand []) (Two two_of.Try s a b) line end us
tried f g (next h (last m)) = tried_of (word_read f h) (g.at_operand _ _ _ m)

pub try_form : {source print : List ℕ} {s : ℕ} {a b : Tree} → Kept (λ y. y ≡ shape.Keyword keyword.Try) a → Expressed source print b → Expressed source print (Two two_of.Try s a b)
unfolding printed
try_form {s = s} {a = a} {b = b} f g = operand_form (fill (two_children a b) (first ∷ second_as context.Operand ∷ [])) refl refl refl refl refl (λ line end us h. tried f g (step_two two_of.Try s a b context.Expression h))

-- what `recover` takes: a block, or an operand
abbrev pub RecoverKind : List Terminal → Found → Type 0
RecoverKind us v = (x : Found) → Is RecoverRest (x ∷ []) us (node_two two_of.Recover x v)

recovered_of : {source print : List ℕ} {line mid end : Bool} {s : ℕ} {a b : Tree} {us ws : List Terminal} → TokenAt source print (λ y. y ≡ shape.Keyword keyword.Recover) line a us mid → At source print RecoverKind b mid end ws
    → At source print (Is Operand []) (Two two_of.Recover s a b) line end (us ++ ws)
recovered_of (token_at {u = u} n h e) r = record { value = node_two two_of.Recover (leaf u) r.value; kind = is_operand_2 _ _ (is_unnamed_operand_3 u _ _ (has e) (r.kind (leaf u))); alike = alike.two (alike.token h) r.alike; headed = n; ended = r.ended }

recovered : {source print : List ℕ} {line end : Bool} {s : ℕ} {a b : Tree} {us : List Terminal} → Kept (λ y. y ≡ shape.Keyword keyword.Recover) a → ReadsAt source print RecoverKind context.Operand b
    → Stepped source print (two_children a b) line (first ∷ second_as context.Operand ∷ []) us end → At source print (Is Operand []) (Two two_of.Recover s a b) line end us
recovered f g (next h (last m)) = recovered_of (word_read f h) (g _ _ _ m)

pub recover_form : {source print : List ℕ} {s : ℕ} {a b : Tree} → Kept (λ y. y ≡ shape.Keyword keyword.Recover) a → ReadsAt source print RecoverKind context.Operand b → Expressed source print (Two two_of.Recover s a b)
unfolding printed
recover_form {s = s} {a = a} {b = b} f g = operand_form (fill (two_children a b) (first ∷ second_as context.Operand ∷ [])) refl refl refl refl refl (λ line end us h. recovered f g (step_two two_of.Recover s a b context.Expression h))
