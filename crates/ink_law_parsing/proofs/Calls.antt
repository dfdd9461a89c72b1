-- Calls, constructions and links.
use Rattle.std.proofs.Common.{◌≡◌, ℕ, Bool, true, false, not, List, [], ◌∷◌, ◌++◌, Some, refl, sym, ap, subst, ◌∙◌}
use Rattle.std.proofs.lemmas.List.{append_assoc}
use Rattle.ink_grammar.specs.declared.token.Mark.TheVariants as mark
use Rattle.ink_grammar.specs.declared.token.Shape.{Shape}
use Rattle.ink_grammar.specs.declared.token.Shape.TheVariants as shape
use Rattle.ink_grammar.specs.declared.token.Terminal.{Terminal}
use Rattle.ink_grammar.specs.declared.symbol.Line.TheVariants as line_of
use Rattle.ink_grammar.specs.declared.symbol.Wanted.TheVariants as wanted
use Rattle.ink_grammar.specs.declared.symbol.Nonterminal.{Nonterminal}
use Rattle.ink_grammar.specs.declared.tree.TwoChildren.TheVariants as two_of
use Rattle.ink_grammar.specs.declared.tree.ThreeChildren.TheVariants as three_of
use Rattle.ink_grammar.specs.Shapes.{same, is, stands}
use Rattle.ink_grammar.specs.Tree.{Tree, Two, Three, Found, leaf, no_items, node_two, node_three}
use Rattle.ink_grammar.specs.Parts.{Expression, AfterOperand, Operand, Links, ConstantRest, ItemsRest, Arguments, ArgumentsRest, ConstructorArguments, NamedRest, NamedMore}
use Rattle.ink_grammar.specs.Productions.{Is, is_expression_1, is_expression_2, is_unnamed_expression_1, is_unnamed_expression_2, is_operand_1, is_operand_2, is_unnamed_operand_4, is_name_rest_1, is_links_1, is_links_2, is_link_1, is_link_2, is_link_rest_1, is_constant_rest_1, is_constant_rest_2, is_constant_rest_3, is_after_constant_1, is_after_constant_2, is_qualified_rest_1, is_qualified_rest_2, is_items_1, is_items_2, is_items_rest_1, is_items_rest_2, is_arguments_1, is_arguments_2, is_arguments_rest_1, is_arguments_rest_2, is_constructor_arguments_1, is_constructor_arguments_2, is_constructor_arguments_3, is_named_or_not_1, is_named_or_not_2, is_named_rest_1, is_named_rest_2, is_named_more_2}
use Rattle.ink_print.specs.declared.context.Context.TheVariants as context
use Rattle.ink_print.specs.declared.step.Sign.TheVariants as sign
use Rattle.ink_print.specs.declared.step.Step.TheVariants as step
use Rattle.ink_print.specs.Surround.{rank_of_shape}
use Rattle.ink_print.specs.Table.{first, second, first_as, second_as, third_as}
use Rattle.ink_print.specs.Printed.{fill, printed}
use Rattle.ink_law_categories.specs.Spells.{Spells}
use Rattle.ink_grammar.specs.Parts as parts
use Rattle.ink_law_categories.specs.Alike as alike
use Rattle.ink_law_parsing.proofs.Steps.{Stepped, stop, put, last, next, two_children, three_children, step_two, step_three}
use Rattle.ink_law_parsing.proofs.Words.{has, has_sign, Kept, kept, TokenAt, token_at, word_read, name_read}
use Rattle.ink_law_parsing.proofs.Lists.{Each, EachOfSome, ReadAs, Items, item, Again, widened, seen_some, seen_or_none}
use Rattle.ink_law_parsing.proofs.Contexts.{headed_both, At, at_widened, read_of, Linkable, ReadsAt, Expressed, base_form}
use Rattle.ink_law_parsing.proofs.Chains.{leaf_form}

-- items that are read up to the token that closes them
abbrev pub Closes : Nonterminal → Shape → List Terminal → Found → Type 0
Closes part y us v = (t : Terminal) → same y t.shape ≡ true → Is part (no_items ∷ []) (us ++ (t ∷ [])) v

abbrev pub ExpressionItem : Bool → List Terminal → Found → Type 0
ExpressionItem line us v = Is Expression [] us v

pub expression_read : {source print : List ℕ} (b : Tree) (line end : Bool) (us : List Terminal) → Expressed source print b → Spells source print line (printed b context.Expression) us end → ReadAs source print (Is Expression []) b us
expression_read b line end us g h = read_of (g.at_expression line end us h)

-- arguments of a call
abbrev ArgumentsBehind : Found → List Terminal → Found → Type 0
ArgumentsBehind a us v = Is ArgumentsRest (a ∷ []) us v

some_arguments : {line : Bool} {a x : Found} {w : List Terminal} → Items ExpressionItem ArgumentsBehind line a w x → Is Arguments (a ∷ []) w x
some_arguments (item p r) = is_arguments_2 _ _ _ _ p r

more_arguments : Again ExpressionItem ArgumentsBehind (shape.Mark mark.Comma)
more_arguments a t w y e i = is_arguments_rest_2 t _ _ e (some_arguments i)

pub arguments : {source print : List ℕ} {line end : Bool} {a : Tree} {us : List Terminal} → Each (Expressed source print) a → Spells source print line (printed a context.Items) us end → ReadAs source print (Closes Arguments (shape.Mark mark.RightParen)) a us
arguments g h = seen_or_none expression_read more_arguments (λ t e. is_arguments_1 t e) (λ line u v k t e. some_arguments (k (t ∷ []) v (is_arguments_rest_1 t e))) g h

-- items of an array
abbrev ItemsBehind : Found → List Terminal → Found → Type 0
ItemsBehind a us v = Is ItemsRest (a ∷ []) us v

some_items : {line : Bool} {a x : Found} {w : List Terminal} → Items ExpressionItem ItemsBehind line a w x → Is parts.Items (a ∷ []) w x
some_items (item p r) = is_items_2 _ _ _ _ p r

more_items : Again ExpressionItem ItemsBehind (shape.Mark mark.Comma)
more_items a t w y e i = is_items_rest_2 t _ _ e (some_items i)

pub array_items : {source print : List ℕ} {line end : Bool} {a : Tree} {us : List Terminal} → Each (Expressed source print) a → Spells source print line (printed a context.Items) us end → ReadAs source print (Closes parts.Items (shape.Mark mark.RightBracket)) a us
array_items g h = seen_or_none expression_read more_items (λ t e. is_items_1 t e) (λ line u v k t e. some_items (k (t ∷ []) v (is_items_rest_1 t e))) g h

-- arguments of a constructor: the first name may be that of a field
by_operand : {u0 u1 w : List Terminal} {v0 v1 x : Found} → Is Operand [] u0 v0 → Is AfterOperand (v0 ∷ []) u1 v1 → Is ArgumentsRest (node_two two_of.More no_items v1 ∷ []) w x → Is ConstructorArguments (no_items ∷ []) ((u0 ++ u1) ++ w) x
by_operand {u1 = u1} {w = w} {x = x} (is_operand_1 t n vn l vl e h k) a r =
    subst (λ z. Is ConstructorArguments (no_items ∷ []) (t ∷ z) x) (sym (append_assoc (n ++ l) u1 w ∙ append_assoc n l (u1 ++ w))) (is_constructor_arguments_2 t _ _ e (is_named_or_not_2 n vn l vl u1 _ w x h k a r))
by_operand (is_operand_2 u v h) a r = is_constructor_arguments_3 _ _ _ _ (is_unnamed_expression_2 _ _ _ _ h a) r

by_expression : {us w : List Terminal} {v x : Found} → Is Expression [] us v → Is ArgumentsRest (node_two two_of.More no_items v ∷ []) w x → Is ConstructorArguments (no_items ∷ []) (us ++ w) x
by_expression (is_expression_1 u v j) r = is_constructor_arguments_3 _ _ _ _ (is_unnamed_expression_1 _ _ j) r
by_expression (is_expression_2 u0 v0 u1 v1 o a) r = by_operand o a r

unnamed : {line : Bool} {x : Found} {w : List Terminal} → Items ExpressionItem ArgumentsBehind line no_items w x → Is ConstructorArguments (no_items ∷ []) w x
unnamed (item p r) = by_expression p r

-- how a constructor's arguments are read
abbrev pub ConstructorItems : List ℕ → List ℕ → Tree → Type 0
ConstructorItems source print a = (line end : Bool) (us : List Terminal) → Spells source print line (printed a context.Items) us end → ReadAs source print (Closes ConstructorArguments (shape.Mark mark.RightParen)) a us

pub unnamed_form : {source print : List ℕ} {a : Tree} → Each (Expressed source print) a → ConstructorItems source print a
unnamed_form g line end us h = seen_or_none expression_read more_arguments (λ t e. is_constructor_arguments_1 t e) (λ line u v k t e. unnamed (k (t ∷ []) v (is_arguments_rest_1 t e))) g h

pub data NamedItem (line : Bool) : List Terminal → Found → Type 0 where
  named_item : {u : List Terminal} {v : Found} (t c : Terminal) → same shape.Name t.shape ≡ true → same (shape.Mark mark.Colon) c.shape ≡ true → Is Expression [] u v → NamedItem line (t ∷ c ∷ u) (node_two two_of.Named (leaf t) v)

abbrev NamedBehind : Found → List Terminal → Found → Type 0
NamedBehind a us v = Is NamedRest (a ∷ []) us v

some_named : {line : Bool} {a x : Found} {w : List Terminal} → Items NamedItem NamedBehind line a w x → Is NamedMore (a ∷ []) w x
some_named (item (named_item t c e f h) r) = is_named_more_2 t c _ _ _ _ e f h r

more_named : Again NamedItem NamedBehind (shape.Mark mark.Comma)
more_named a t w y e i = is_named_rest_2 t _ _ e (some_named i)

first_named : {line : Bool} {x : Found} {w : List Terminal} → Items NamedItem NamedBehind line no_items w x → Is ConstructorArguments (no_items ∷ []) w x
first_named (item (named_item t c e f h) r) = is_constructor_arguments_2 t _ _ e (is_named_or_not_1 c _ _ _ _ f h r)

-- how one of them is read
abbrev pub NamedTree : List ℕ → List ℕ → Tree → Type 0
NamedTree source print a = (line end : Bool) (us : List Terminal) → Spells source print line (printed a context.Expression) us end → ReadAs source print (NamedItem line) a us

named_of : {source print : List ℕ} {line mid : Bool} {s : ℕ} {a b : Tree} {us ws : List Terminal} (c : Terminal) → TokenAt source print (λ y. y ≡ shape.Name) line a us mid → Some (shape.Mark mark.Colon) ≡ Some c.shape → ReadAs source print (Is Expression []) b ws
    → ReadAs source print (NamedItem line) (Two two_of.Named s a b) (us ++ (c ∷ ws))
named_of c (token_at {u = u} n h e) f r = record { value = node_two two_of.Named (leaf u) r.value; kind = named_item u c (has e) (has_sign f) r.kind; alike = alike.two (alike.token h) r.alike }

named : {source print : List ℕ} {line end : Bool} {s : ℕ} {a b : Tree} {us : List Terminal} → Kept (λ y. y ≡ shape.Name) a → Expressed source print b → Stepped source print (two_children a b) line (first ∷ step.Sign sign.Colon ∷ second ∷ []) us end
    → ReadAs source print (NamedItem line) (Two two_of.Named s a b) us
named f g (next h (put n e (last m))) = named_of _ (word_read f h) e (read_of (g.at_expression _ _ _ m))

pub named_form : {source print : List ℕ} {s : ℕ} {a b : Tree} → Kept (λ y. y ≡ shape.Name) a → Expressed source print b → NamedTree source print (Two two_of.Named s a b)
named_form {s = s} {a = a} {b = b} f g line end us h = named f g (step_two two_of.Named s a b context.Expression h)

named_read : {source print : List ℕ} (b : Tree) (line end : Bool) (us : List Terminal) → NamedTree source print b → Spells source print line (printed b context.Expression) us end → ReadAs source print (NamedItem line) b us
named_read b line end us g h = g line end us h

pub named_arguments_form : {source print : List ℕ} {a : Tree} → EachOfSome (NamedTree source print) a → ConstructorItems source print a
named_arguments_form g line end us h = widened (λ u v k t e. first_named (k (t ∷ []) v (is_named_rest_1 t e))) (seen_some named_read more_named g h)

-- a call of a name
called_of : {source print : List ℕ} {line mid : Bool} {s : ℕ} {a b : Tree} {us ws : List Terminal} (t u : Terminal) → TokenAt source print (λ y. y ≡ shape.Name) line a us mid → t.new_line ≡ mid → Some (shape.Mark mark.LeftParen) ≡ Some t.shape
    → ReadAs source print (Closes Arguments (shape.Mark mark.RightParen)) b ws → Some (shape.Mark mark.RightParen) ≡ Some u.shape → At source print Linkable (Two two_of.Call s a b) line false (us ++ (t ∷ (ws ++ (u ∷ []))))
called_of {ws = ws} t u (token_at {u = c} m h e) n f r g =
    record {
      value = node_two two_of.Call (leaf c) r.value;
      kind = λ w x l. is_operand_1 c (t ∷ (ws ++ (u ∷ []))) (node_two two_of.Call (leaf c) r.value) w x (has e) (is_name_rest_1 t _ _ (ap not n) (has_sign f) (r.kind u (has_sign g))) l;
      alike = alike.two (alike.token h) r.alike;
      headed = m;
      ended = refl;
    }

called : {source print : List ℕ} {line end : Bool} {s : ℕ} {a b : Tree} {us : List Terminal} → Kept (λ y. y ≡ shape.Name) a → Each (Expressed source print) b
    → Stepped source print (two_children a b) line (first ∷ step.Sign sign.LeftParen ∷ second_as context.Items ∷ step.Sign sign.RightParen ∷ []) us end → At source print Linkable (Two two_of.Call s a b) line end us
called f g (next h (put n e (next m (put o i stop)))) = called_of _ _ (word_read f h) n e (arguments g m) i

pub call_form : {source print : List ℕ} {s : ℕ} {a b : Tree} → Kept (λ y. y ≡ shape.Name) a → Each (Expressed source print) b → Expressed source print (Two two_of.Call s a b)
unfolding printed
call_form {s = s} {a = a} {b = b} f g = base_form (fill (two_children a b) (first ∷ step.Sign sign.LeftParen ∷ second_as context.Items ∷ step.Sign sign.RightParen ∷ [])) refl refl refl refl refl (λ line end us h. called f g (step_two two_of.Call s a b context.Expression h))

-- a call of a member
member_called_of : {source print : List ℕ} {line mid last : Bool} {s : ℕ} {a b c : Tree} {us ws zs : List Terminal} (d t u : Terminal) → At source print Linkable a line mid us → Some (shape.Mark mark.Dot) ≡ Some d.shape
    → TokenAt source print (λ y. is wanted.LinkName y ≡ true) false b ws last → t.new_line ≡ last → Some (shape.Mark mark.LeftParen) ≡ Some t.shape → ReadAs source print (Closes Arguments (shape.Mark mark.RightParen)) c zs → Some (shape.Mark mark.RightParen) ≡ Some u.shape
    → At source print Linkable (Three three_of.MemberCall s a b c) line false (us ++ (d ∷ (ws ++ (t ∷ (zs ++ (u ∷ []))))))
member_called_of {us = us} {zs = zs} d t u p q (token_at {u = c} m h e) n f r g = let v = node_three three_of.MemberCall p.value (leaf c) r.value in
    record {
      value = v;
      kind = λ w x l. subst (λ z. Is Operand [] z x) (sym (append_assoc us (d ∷ c ∷ t ∷ (zs ++ (u ∷ []))) w)) (p.kind (d ∷ ((c ∷ t ∷ (zs ++ (u ∷ []))) ++ w)) x
          (is_links_1 d (c ∷ t ∷ (zs ++ (u ∷ []))) v w x (has_sign q) (is_link_1 c _ _ e (is_link_rest_1 t _ _ (ap not n) (has_sign f) (r.kind u (has_sign g)))) l));
      alike = alike.three p.alike (alike.token h) r.alike;
      headed = headed_both _ us _ p.headed;
      ended = refl;
    }

member_called : {source print : List ℕ} {line end : Bool} {s : ℕ} {a b c : Tree} {us : List Terminal} → Expressed source print a → Kept (λ y. is wanted.LinkName y ≡ true) b → Each (Expressed source print) c
    → Stepped source print (three_children a b c) line (first_as context.Base ∷ step.Sign sign.Dot ∷ second_as context.Name ∷ step.Sign sign.LeftParen ∷ third_as context.Items ∷ step.Sign sign.RightParen ∷ []) us end
    → At source print Linkable (Three three_of.MemberCall s a b c) line end us
member_called p f g (next h (put n e (next m (put o i (next r (put q j stop)))))) = member_called_of _ _ _ (p.at_base _ _ _ h) e (name_read f m) o i (arguments g r) j

pub member_call_form : {source print : List ℕ} {s : ℕ} {a b c : Tree} → Expressed source print a → Kept (λ y. is wanted.LinkName y ≡ true) b → Each (Expressed source print) c → Expressed source print (Three three_of.MemberCall s a b c)
unfolding printed
member_call_form {s = s} {a = a} {b = b} {c = c} p f g = base_form (fill (three_children a b c) (first_as context.Base ∷ step.Sign sign.Dot ∷ second_as context.Name ∷ step.Sign sign.LeftParen ∷ third_as context.Items ∷ step.Sign sign.RightParen ∷ []))
    refl refl refl refl refl (λ line end us h. member_called p f g (step_three three_of.MemberCall s a b c context.Expression h))

-- an item of a tuple
tuple_item_of : {source print : List ℕ} {line mid end : Bool} {s : ℕ} {a b : Tree} {us ws : List Terminal} (d : Terminal) → At source print Linkable a line mid us → Some (shape.Mark mark.Dot) ≡ Some d.shape → TokenAt source print (λ y. y ≡ shape.Integer) false b ws end
    → At source print Linkable (Two two_of.TupleItem s a b) line end (us ++ (d ∷ ws))
tuple_item_of {us = us} d p q (token_at {u = u} n h e) =
    record {
      value = node_two two_of.TupleItem p.value (leaf u);
      kind = λ w x l. subst (λ z. Is Operand [] z x) (sym (append_assoc us (d ∷ u ∷ []) w)) (p.kind (d ∷ u ∷ w) x (is_links_1 d (u ∷ []) _ w x (has_sign q) (is_link_2 u (has e)) l));
      alike = alike.two p.alike (alike.token h);
      headed = headed_both _ us _ p.headed;
      ended = refl;
    }

tuple_item : {source print : List ℕ} {line end : Bool} {s : ℕ} {a b : Tree} {us : List Terminal} → Expressed source print a → Kept (λ y. y ≡ shape.Integer) b
    → Stepped source print (two_children a b) line (first_as context.Base ∷ step.Sign sign.Dot ∷ second ∷ []) us end → At source print Linkable (Two two_of.TupleItem s a b) line end us
tuple_item g f (next h (put n e (last m))) = tuple_item_of _ (g.at_base _ _ _ h) e (word_read f m)

pub tuple_item_form : {source print : List ℕ} {s : ℕ} {a b : Tree} → Expressed source print a → Kept (λ y. y ≡ shape.Integer) b → Expressed source print (Two two_of.TupleItem s a b)
unfolding printed
tuple_item_form {s = s} {a = a} {b = b} g f = base_form (fill (two_children a b) (first_as context.Base ∷ step.Sign sign.Dot ∷ second ∷ [])) refl refl refl refl refl (λ line end us h. tuple_item g f (step_two two_of.TupleItem s a b context.Expression h))

-- what links may follow, and arguments in parentheses
abbrev pub ConstructKind : List Terminal → Found → Type 0
ConstructKind us v = Linkable us v × ((t : Terminal) (u : List Terminal) (y : Found) (w : List Terminal) (x : Found) → stands line_of.Same t.new_line ≡ true → same (shape.Mark mark.LeftParen) t.shape ≡ true → Is ConstructorArguments (no_items ∷ []) u y
    → Is Links (node_two two_of.Construct v y ∷ []) w x → Is Operand [] (us ++ (t ∷ (u ++ w))) x)

pub record Constructible (source print : List ℕ) (a : Tree) : Type 0 where
  pub expressed : Expressed source print a
  pub construct : ReadsAt source print ConstructKind context.Expression a

constant_rest : {a x : Found} {w : List Terminal} → Is Links (a ∷ []) w x → Is ConstantRest (a ∷ []) w x
constant_rest (is_links_1 t u0 v0 u1 v1 e k l) = is_constant_rest_2 t _ _ e (is_after_constant_2 _ _ _ _ k l)
constant_rest is_links_2 = is_constant_rest_3

constant_of : {source print : List ℕ} {line end : Bool} {a : Tree} {us : List Terminal} → TokenAt source print (λ y. y ≡ shape.Constant) line a us end → At source print ConstructKind a line end us
constant_of (token_at {u = u} n h e) =
    record {
      value = leaf u;
      kind = (λ w x l. is_operand_2 _ _ (is_unnamed_operand_4 u w x (has e) (constant_rest l)), λ t z y w x m f c l. is_operand_2 _ _ (is_unnamed_operand_4 u (t ∷ (z ++ w)) x (has e) (is_constant_rest_1 t z y w x m f c l)));
      alike = alike.token h;
      headed = n;
      ended = refl;
    }

pub constant_form : {source print : List ℕ} {a : Tree} → Kept (λ y. y ≡ shape.Constant) a → Constructible source print a
constant_form (kept q) = record { expressed = leaf_form (ap rank_of_shape q) (λ line end us h. at_widened (λ u v k. k.0) (constant_of (word_read (kept q) h))); construct = λ line end us h. constant_of (word_read (kept q) h) }

-- a constant of a constant
qualified_of : {source print : List ℕ} {line mid end : Bool} {s : ℕ} {a b : Tree} {us ws : List Terminal} (d : Terminal) → TokenAt source print (λ y. y ≡ shape.Constant) line a us mid → Some (shape.Mark mark.Dot) ≡ Some d.shape → TokenAt source print (λ y. y ≡ shape.Constant) false b ws end
    → At source print ConstructKind (Two two_of.Qualified s a b) line end (us ++ (d ∷ ws))
qualified_of d (token_at {u = u} n h e) q (token_at {u = c} m i f) = let v = node_two two_of.Qualified (leaf u) (leaf c) in
    record {
      value = v;
      kind = (
        λ w x l. is_operand_2 _ _ (is_unnamed_operand_4 u (d ∷ c ∷ w) x (has e) (is_constant_rest_2 d (c ∷ w) x (has_sign q) (is_after_constant_1 c [] v w x (has f) is_qualified_rest_2 l))),
        λ t z y w x o p k l. is_operand_2 _ _ (is_unnamed_operand_4 u (d ∷ c ∷ t ∷ (z ++ w)) x (has e) (is_constant_rest_2 d (c ∷ t ∷ (z ++ w)) x (has_sign q) (is_after_constant_1 c (t ∷ z) _ w x (has f) (is_qualified_rest_1 t z y o p k) l))),
      );
      alike = alike.two (alike.token h) (alike.token i);
      headed = n;
      ended = refl;
    }

qualified : {source print : List ℕ} {line end : Bool} {s : ℕ} {a b : Tree} {us : List Terminal} → Kept (λ y. y ≡ shape.Constant) a → Kept (λ y. y ≡ shape.Constant) b
    → Stepped source print (two_children a b) line (first ∷ step.Sign sign.Dot ∷ second ∷ []) us end → At source print ConstructKind (Two two_of.Qualified s a b) line end us
qualified f g (next h (put n e (last m))) = qualified_of _ (word_read f h) e (word_read g m)

pub qualified_form : {source print : List ℕ} {s : ℕ} {a b : Tree} → Kept (λ y. y ≡ shape.Constant) a → Kept (λ y. y ≡ shape.Constant) b → Constructible source print (Two two_of.Qualified s a b)
unfolding printed
qualified_form {s = s} {a = a} {b = b} f g =
    record {
      expressed = base_form (fill (two_children a b) (first ∷ step.Sign sign.Dot ∷ second ∷ [])) refl refl refl refl refl (λ line end us h. at_widened (λ u v k. k.0) (qualified f g (step_two two_of.Qualified s a b context.Expression h)));
      construct = λ line end us h. qualified f g (step_two two_of.Qualified s a b context.Expression h);
    }

-- a construction
constructed_of : {source print : List ℕ} {line mid : Bool} {s : ℕ} {a b : Tree} {us ws : List Terminal} (t u : Terminal) → At source print ConstructKind a line mid us → t.new_line ≡ mid → Some (shape.Mark mark.LeftParen) ≡ Some t.shape
    → ReadAs source print (Closes ConstructorArguments (shape.Mark mark.RightParen)) b ws → Some (shape.Mark mark.RightParen) ≡ Some u.shape → At source print Linkable (Two two_of.Construct s a b) line false (us ++ (t ∷ (ws ++ (u ∷ []))))
constructed_of {us = us} {ws = ws} t u p n e r f =
    record {
      value = node_two two_of.Construct p.value r.value;
      kind = λ w x l. subst (λ z. Is Operand [] z x) (sym (append_assoc us (t ∷ (ws ++ (u ∷ []))) w)) (p.kind.1 t (ws ++ (u ∷ [])) r.value w x (ap not (n ∙ p.ended)) (has_sign e) (r.kind u (has_sign f)) l);
      alike = alike.two p.alike r.alike;
      headed = headed_both _ us _ p.headed;
      ended = refl;
    }

constructed : {source print : List ℕ} {line end : Bool} {s : ℕ} {a b : Tree} {us : List Terminal} → Constructible source print a → ConstructorItems source print b
    → Stepped source print (two_children a b) line (first ∷ step.Sign sign.LeftParen ∷ second_as context.Items ∷ step.Sign sign.RightParen ∷ []) us end → At source print Linkable (Two two_of.Construct s a b) line end us
constructed f g (next h (put n e (next m (put o i stop)))) = constructed_of _ _ (f.construct _ _ _ h) n e (g _ _ _ m) i

pub construction_form : {source print : List ℕ} {s : ℕ} {a b : Tree} → Constructible source print a → ConstructorItems source print b → Expressed source print (Two two_of.Construct s a b)
unfolding printed
construction_form {s = s} {a = a} {b = b} f g = base_form (fill (two_children a b) (first ∷ step.Sign sign.LeftParen ∷ second_as context.Items ∷ step.Sign sign.RightParen ∷ [])) refl refl refl refl refl (λ line end us h. constructed f g (step_two two_of.Construct s a b context.Expression h))
