-- Patterns are read as they were printed.
use Rattle.std.proofs.Common.{◌≡◌, ℕ, Bool, true, false, List, [], ◌∷◌, ◌++◌, Some, refl, sym, subst, append-nil}
use Rattle.std.proofs.lemmas.List.{append_assoc}
use Rattle.ink_grammar.specs.declared.token.Keyword.TheVariants as keyword
use Rattle.ink_grammar.specs.declared.token.Mark.TheVariants as mark
use Rattle.ink_grammar.specs.declared.token.Shape.TheVariants as shape
use Rattle.ink_grammar.specs.declared.token.Terminal.{Terminal}
use Rattle.ink_grammar.specs.declared.symbol.Wanted.TheVariants as wanted
use Rattle.ink_grammar.specs.declared.tree.TwoChildren.TheVariants as two_of
use Rattle.ink_grammar.specs.declared.tree.ThreeChildren.TheVariants as three_of
use Rattle.ink_grammar.specs.declared.tree.FourChildren.TheVariants as four_of
use Rattle.ink_grammar.specs.Shapes.{same, is}
use Rattle.ink_grammar.specs.Tree.{Tree, Two, Three, Four, Found, leaf, no_items, node_two, node_three, node_four}
use Rattle.ink_grammar.specs.Parts.{Pattern, Alternative, PatternRest, PatternTextRest, ConstructorPatternRest, PatternsRest, FieldPattern, FieldPatternsRest}
use Rattle.ink_grammar.specs.Productions.{Is, is_pattern, is_alternative_1, is_alternative_2, is_alternative_3, is_alternative_4, is_alternative_5, is_alternative_6, is_pattern_rest_1, is_pattern_rest_2, is_pattern_text_rest_1, is_pattern_text_rest_2, is_constructor_pattern_rest_1, is_constructor_pattern_rest_2, is_patterns_rest_1, is_patterns_rest_2, is_patterns_more_2, is_tuple_pattern_rest_1, is_tuple_pattern_rest_2, is_field_pattern, is_field_patterns_rest_1, is_field_patterns_rest_2, is_field_patterns_more_2}
use Rattle.ink_print.specs.declared.context.Context.TheVariants as context
use Rattle.ink_print.specs.declared.step.Sign.TheVariants as sign
use Rattle.ink_print.specs.declared.step.Step.TheVariants as step
use Rattle.ink_print.specs.Table.{first, second, third, fourth, first_as, second_as}
use Rattle.ink_print.specs.Printed.{printed}
use Rattle.ink_law_categories.specs.Spells.{Spells}
use Rattle.ink_law_categories.specs.Alike as alike
use Rattle.ink_law_parsing.proofs.Steps.{Stepped, stop, put, last, next, two_children, three_children, four_children, step_two, step_three, step_four}
use Rattle.ink_law_parsing.proofs.Words.{has, has_sign, Kept, TokenAt, token_at, word_read, bracket_alike, part_read}
use Rattle.ink_law_parsing.proofs.Lists.{Each, no_item, one_more, EachOfSome, ReadAs, Items, item, Again, widened, read_empty, seen_some, Reading}

-- what more alternatives may follow
abbrev pub PatternKind : List Terminal → Found → Type 0
PatternKind us v = (w : List Terminal) (x : Found) → Is PatternRest (v ∷ []) w x → Is Pattern [] (us ++ w) x

-- how a tree is read as a pattern, and as one alternative of it
abbrev pub PatternTree : List ℕ → List ℕ → Tree → Type 0
PatternTree source print = Reading source print PatternKind

abbrev pub AlternativeTree : List ℕ → List ℕ → Tree → Type 0
AlternativeTree source print = Reading source print (Is Alternative [])

pub alternative_form : {source print : List ℕ} {a : Tree} → AlternativeTree source print a → PatternTree source print a
alternative_form g line end us h = widened (λ u v k w x r. is_pattern u v w x k r) (g line end us h)

pattern_whole : (us : List Terminal) (v : Found) → PatternKind us v → Is Pattern [] us v
pattern_whole us v k = subst (λ z. Is Pattern [] z v) (append-nil us) (k [] v is_pattern_rest_2)

pub pattern_read : {source print : List ℕ} {a : Tree} {us : List Terminal} → ReadAs source print PatternKind a us → ReadAs source print (Is Pattern []) a us
pattern_read r = widened pattern_whole r

-- alternatives
either_of : {source print : List ℕ} {s : ℕ} {a b : Tree} {us ws : List Terminal} (t : Terminal) → ReadAs source print PatternKind a us → Some (shape.Keyword keyword.Or) ≡ Some t.shape → ReadAs source print (Is Alternative []) b ws → ReadAs source print PatternKind (Two two_of.Either s a b) (us ++ (t ∷ ws))
either_of {us = us} {ws = ws} t p e r = record {
  value = node_two two_of.Either p.value r.value;
  kind = λ w x m. subst (λ z. Is Pattern [] z x) (sym (append_assoc us (t ∷ ws) w)) (p.kind (t ∷ (ws ++ w)) x (is_pattern_rest_1 t ws _ w x (has_sign e) r.kind m));
  alike = alike.two p.alike r.alike;
}

either : {source print : List ℕ} {line end : Bool} {s : ℕ} {a b : Tree} {us : List Terminal} → PatternTree source print a → AlternativeTree source print b → Stepped source print (two_children a b) line (first ∷ step.Sign sign.Or ∷ second ∷ []) us end → ReadAs source print PatternKind (Two two_of.Either s a b) us
either f g (next h (put n e (last m))) = either_of _ (f _ _ _ h) e (g _ _ _ m)

pub either_form : {source print : List ℕ} {s : ℕ} {a b : Tree} → PatternTree source print a → AlternativeTree source print b → PatternTree source print (Two two_of.Either s a b)
either_form {s = s} {a = a} {b = b} f g line end us h = either f g (step_two two_of.Either s a b context.Expression h)

-- one token
atom_of : {source print : List ℕ} {line end : Bool} {a : Tree} {us : List Terminal} → TokenAt source print (λ y. is wanted.PatternAtom y ≡ true) line a us end → ReadAs source print (Is Alternative []) a us
atom_of (token_at {u = u} n h e) = record { value = leaf u; kind = is_alternative_1 u e; alike = alike.token h }

pub pattern_atom_form : {source print : List ℕ} {a : Tree} → Kept (λ y. is wanted.PatternAtom y ≡ true) a → AlternativeTree source print a
pattern_atom_form f line end us h = atom_of (word_read f h)

constant_of : {source print : List ℕ} {line end : Bool} {a : Tree} {us : List Terminal} → TokenAt source print (λ y. y ≡ shape.Constant) line a us end → ReadAs source print (Is Alternative []) a us
constant_of (token_at {u = u} n h e) = record { value = leaf u; kind = is_alternative_4 u _ _ (has e) is_constructor_pattern_rest_2; alike = alike.token h }

pub constant_pattern_form : {source print : List ℕ} {a : Tree} → Kept (λ y. y ≡ shape.Constant) a → AlternativeTree source print a
constant_pattern_form f line end us h = constant_of (word_read f h)

-- `mut` and a name
mutable_of : {source print : List ℕ} {line mid end : Bool} {s : ℕ} {a b : Tree} {us ws : List Terminal} → TokenAt source print (λ y. y ≡ shape.Keyword keyword.Mut) line a us mid → TokenAt source print (λ y. y ≡ shape.Name) mid b ws end → ReadAs source print (Is Alternative []) (Two two_of.MutableName s a b) (us ++ ws)
mutable_of (token_at {u = t} n h e) (token_at {u = u} m i f) = record { value = node_two two_of.MutableName (leaf t) (leaf u); kind = is_alternative_3 t u (has e) (has f); alike = alike.two (alike.token h) (alike.token i) }

mutable : {source print : List ℕ} {line end : Bool} {s : ℕ} {a b : Tree} {us : List Terminal} → Kept (λ y. y ≡ shape.Keyword keyword.Mut) a → Kept (λ y. y ≡ shape.Name) b → Stepped source print (two_children a b) line (first ∷ second ∷ []) us end → ReadAs source print (Is Alternative []) (Two two_of.MutableName s a b) us
mutable f g (next h (last m)) = mutable_of (word_read f h) (word_read g m)

pub mutable_name_form : {source print : List ℕ} {s : ℕ} {a b : Tree} → Kept (λ y. y ≡ shape.Keyword keyword.Mut) a → Kept (λ y. y ≡ shape.Name) b → AlternativeTree source print (Two two_of.MutableName s a b)
mutable_name_form {s = s} {a = a} {b = b} f g line end us h = mutable f g (step_two two_of.MutableName s a b context.Expression h)

-- patterns in parentheses behind a constant
abbrev PatternItem : Bool → List Terminal → Found → Type 0
PatternItem line us v = Is Pattern [] us v

item_read : {source print : List ℕ} (b : Tree) (line end : Bool) (us : List Terminal) → PatternTree source print b → Spells source print line (printed b context.Expression) us end → ReadAs source print (Is Pattern []) b us
item_read b line end us g h = pattern_read (g line end us h)

abbrev PatternsBehind : Found → List Terminal → Found → Type 0
PatternsBehind a us v = Is PatternsRest (a ∷ []) us v

more_patterns : Again PatternItem PatternsBehind (shape.Mark mark.Comma)
more_patterns a t w y e (item p r) = is_patterns_rest_2 t _ _ e (is_patterns_more_2 _ _ _ _ p r)

some_patterns : {line : Bool} {a x : Found} {w : List Terminal} (t : Terminal) → same (shape.Mark mark.LeftParen) t.shape ≡ true → Items PatternItem PatternsBehind line no_items w x → Is ConstructorPatternRest (a ∷ []) (t ∷ w) (node_two two_of.ConstructorPattern a x)
some_patterns t e (item p r) = is_constructor_pattern_rest_1 t _ _ _ _ e p r

abbrev PatternsKind : List Terminal → Found → Type 0
PatternsKind z v = (t : Terminal) → same (shape.Mark mark.RightParen) t.shape ≡ true → Items PatternItem PatternsBehind false no_items (z ++ (t ∷ [])) v

patterns : {source print : List ℕ} {end : Bool} {a : Tree} {us : List Terminal} → EachOfSome (PatternTree source print) a → Spells source print false (printed a context.Items) us end → ReadAs source print PatternsKind a us
patterns g h = widened (λ u v k t e. k (t ∷ []) v (is_patterns_rest_1 t e)) (seen_some item_read more_patterns g h)

constructor_of : {source print : List ℕ} {line mid : Bool} {s : ℕ} {a b : Tree} {us ws : List Terminal} (t u : Terminal) → TokenAt source print (λ y. y ≡ shape.Constant) line a us mid → Some (shape.Mark mark.LeftParen) ≡ Some t.shape → ReadAs source print PatternsKind b ws → Some (shape.Mark mark.RightParen) ≡ Some u.shape
    → ReadAs source print (Is Alternative []) (Two two_of.ConstructorPattern s a b) (us ++ (t ∷ (ws ++ (u ∷ []))))
constructor_of t u (token_at {u = c} n h e) f r g = record { value = node_two two_of.ConstructorPattern (leaf c) r.value; kind = is_alternative_4 c _ _ (has e) (some_patterns t (has_sign f) (r.kind u (has_sign g))); alike = alike.two (alike.token h) r.alike }

constructor : {source print : List ℕ} {line end : Bool} {s : ℕ} {a b : Tree} {us : List Terminal} → Kept (λ y. y ≡ shape.Constant) a → EachOfSome (PatternTree source print) b
    → Stepped source print (two_children a b) line (first ∷ step.Sign sign.LeftParen ∷ second_as context.Items ∷ step.Sign sign.RightParen ∷ []) us end → ReadAs source print (Is Alternative []) (Two two_of.ConstructorPattern s a b) us
constructor f g (next h (put n e (next m (put o i stop)))) = constructor_of _ _ (word_read f h) e (patterns g m) i

pub constructor_pattern_form : {source print : List ℕ} {s : ℕ} {a b : Tree} → Kept (λ y. y ≡ shape.Constant) a → EachOfSome (PatternTree source print) b → AlternativeTree source print (Two two_of.ConstructorPattern s a b)
constructor_pattern_form {s = s} {a = a} {b = b} f g line end us h = constructor f g (step_two two_of.ConstructorPattern s a b context.Expression h)

-- two patterns and three
pair : {source print : List ℕ} {line end : Bool} {s : ℕ} {a b c : Tree} {us : List Terminal} → Kept (λ y. y ≡ shape.Mark mark.LeftParen) a → PatternTree source print b → PatternTree source print c
    → Stepped source print (three_children a b c) line (step.Sign sign.LeftParen ∷ second ∷ step.Sign sign.Comma ∷ third ∷ step.Sign sign.RightParen ∷ []) us end → ReadAs source print (Is Alternative []) (Three three_of.PairPattern s a b c) us
pair f g k (put {u = t0} n0 e0 (next h (put {u = t1} n1 e1 (next m (put {u = t2} n2 e2 stop))))) = let x = pattern_read (g _ _ _ h) in let y = pattern_read (k _ _ _ m) in
    record {
      value = node_three three_of.PairPattern (leaf t0) x.value y.value;
      alike = alike.three (bracket_alike f refl e0) x.alike y.alike;
      kind = is_alternative_5 t0 _ _ t1 _ _ _ _ (has_sign e0) x.kind (has_sign e1) y.kind (is_tuple_pattern_rest_1 t2 (has_sign e2));
    }

pub pair_pattern_form : {source print : List ℕ} {s : ℕ} {a b c : Tree} → Kept (λ y. y ≡ shape.Mark mark.LeftParen) a → PatternTree source print b → PatternTree source print c → AlternativeTree source print (Three three_of.PairPattern s a b c)
pair_pattern_form {s = s} {a = a} {b = b} {c = c} f g k line end us h = pair f g k (step_three three_of.PairPattern s a b c context.Expression h)

triple : {source print : List ℕ} {line end : Bool} {s : ℕ} {a b c d : Tree} {us : List Terminal} → Kept (λ y. y ≡ shape.Mark mark.LeftParen) a → PatternTree source print b → PatternTree source print c → PatternTree source print d
    → Stepped source print (four_children a b c d) line (step.Sign sign.LeftParen ∷ second ∷ step.Sign sign.Comma ∷ third ∷ step.Sign sign.Comma ∷ fourth ∷ step.Sign sign.RightParen ∷ []) us end → ReadAs source print (Is Alternative []) (Four four_of.TriplePattern s a b c d) us
triple f g k l (put {u = t0} n0 e0 (next h (put {u = t1} n1 e1 (next m (put {u = t2} n2 e2 (next r (put {u = t3} n3 e3 stop))))))) = let x = pattern_read (g _ _ _ h) in let y = pattern_read (k _ _ _ m) in let z = pattern_read (l _ _ _ r) in
    record {
      value = node_four four_of.TriplePattern (leaf t0) x.value y.value z.value;
      alike = alike.four (bracket_alike f refl e0) x.alike y.alike z.alike;
      kind = is_alternative_5 t0 _ _ t1 _ _ _ _ (has_sign e0) x.kind (has_sign e1) y.kind (is_tuple_pattern_rest_2 t2 _ _ t3 (has_sign e2) z.kind (has_sign e3));
    }

pub triple_pattern_form : {source print : List ℕ} {s : ℕ} {a b c d : Tree} → Kept (λ y. y ≡ shape.Mark mark.LeftParen) a → PatternTree source print b → PatternTree source print c → PatternTree source print d → AlternativeTree source print (Four four_of.TriplePattern s a b c d)
triple_pattern_form {s = s} {a = a} {b = b} {c = c} {d = d} f g k l line end us h = triple f g k l (step_four four_of.TriplePattern s a b c d context.Expression h)

-- fields in braces
field_of : {source print : List ℕ} {line mid : Bool} {s : ℕ} {a b : Tree} {us ws : List Terminal} (t : Terminal) → TokenAt source print (λ y. y ≡ shape.Field) line a us mid → Some (shape.Mark mark.Equals) ≡ Some t.shape → ReadAs source print (Is Pattern []) b ws → ReadAs source print (Is FieldPattern []) (Two two_of.FieldPattern s a b) (us ++ (t ∷ ws))
field_of t (token_at {u = u} n h e) f r = record { value = node_two two_of.FieldPattern (leaf u) r.value; kind = is_field_pattern u t _ _ (has e) (has_sign f) r.kind; alike = alike.two (alike.token h) r.alike }

field : {source print : List ℕ} {line end : Bool} {s : ℕ} {a b : Tree} {us : List Terminal} → Kept (λ y. y ≡ shape.Field) a → PatternTree source print b → Stepped source print (two_children a b) line (first ∷ step.Sign sign.Equals ∷ second ∷ []) us end → ReadAs source print (Is FieldPattern []) (Two two_of.FieldPattern s a b) us
field f g (next h (put n e (last m))) = field_of _ (word_read f h) e (pattern_read (g _ _ _ m))

pub field_pattern_form : {source print : List ℕ} {s : ℕ} {a b : Tree} → Kept (λ y. y ≡ shape.Field) a → PatternTree source print b → Reading source print (Is FieldPattern []) (Two two_of.FieldPattern s a b)
field_pattern_form {s = s} {a = a} {b = b} f g line end us h = field f g (step_two two_of.FieldPattern s a b context.Expression h)

abbrev FieldItem : Bool → List Terminal → Found → Type 0
FieldItem line us v = Is FieldPattern [] us v

field_read : {source print : List ℕ} (b : Tree) (line end : Bool) (us : List Terminal) → Reading source print (Is FieldPattern []) b → Spells source print line (printed b context.Expression) us end → ReadAs source print (Is FieldPattern []) b us
field_read b line end us g h = g line end us h

abbrev FieldsBehind : Found → List Terminal → Found → Type 0
FieldsBehind a us v = Is FieldPatternsRest (a ∷ []) us v

more_fields : Again FieldItem FieldsBehind (shape.Mark mark.Comma)
more_fields a t w y e (item p r) = is_field_patterns_rest_2 t _ _ e (is_field_patterns_more_2 _ _ _ _ p r)

some_fields : {line : Bool} {x : Found} {w : List Terminal} (t : Terminal) → same (shape.Mark mark.LeftBrace) t.shape ≡ true → Items FieldItem FieldsBehind line no_items w x → Is Alternative [] (t ∷ w) (node_two two_of.FieldPatterns (leaf t) x)
some_fields t e (item p r) = is_alternative_6 t _ _ _ _ e p r

abbrev FieldsKind : List Terminal → Found → Type 0
FieldsKind z v = (t : Terminal) → same (shape.Mark mark.RightBrace) t.shape ≡ true → Items FieldItem FieldsBehind false no_items (z ++ (t ∷ [])) v

all_fields : {source print : List ℕ} {end : Bool} {a : Tree} {us : List Terminal} → EachOfSome (Reading source print (Is FieldPattern [])) a → Spells source print false (printed a context.Items) us end → ReadAs source print FieldsKind a us
all_fields g h = widened (λ u v k t e. k (t ∷ []) v (is_field_patterns_rest_1 t e)) (seen_some field_read more_fields g h)

fields : {source print : List ℕ} {line end : Bool} {s : ℕ} {a b : Tree} {us : List Terminal} → Kept (λ y. y ≡ shape.Mark mark.LeftBrace) a → EachOfSome (Reading source print (Is FieldPattern [])) b
    → Stepped source print (two_children a b) line (step.Sign sign.PatternOpening ∷ second_as context.Items ∷ step.Sign sign.PatternClosing ∷ []) us end → ReadAs source print (Is Alternative []) (Two two_of.FieldPatterns s a b) us
fields f g (put {u = t} n e (next h (put {u = u} m i stop))) = let r = all_fields g h in record { value = node_two two_of.FieldPatterns (leaf t) r.value; kind = some_fields t (has_sign e) (r.kind u (has_sign i)); alike = alike.two (bracket_alike f refl e) r.alike }

pub field_patterns_form : {source print : List ℕ} {s : ℕ} {a b : Tree} → Kept (λ y. y ≡ shape.Mark mark.LeftBrace) a → EachOfSome (Reading source print (Is FieldPattern [])) b → AlternativeTree source print (Two two_of.FieldPatterns s a b)
field_patterns_form {s = s} {a = a} {b = b} f g line end us h = fields f g (step_two two_of.FieldPatterns s a b context.Expression h)

-- a text without values
abbrev TextKind : List Terminal → Found → Type 0
TextKind us v = (w : List Terminal) (x : Found) → Is PatternTextRest (v ∷ []) w x → Is PatternTextRest (no_items ∷ []) (us ++ w) x

part_of_text : {source print : List ℕ} {line mid : Bool} {s : ℕ} {a b : Tree} {us ws : List Terminal} → ReadAs source print TextKind a us → TokenAt source print (λ y. y ≡ shape.TextPart) line b ws mid → ReadAs source print TextKind (Two two_of.More s a b) (us ++ ws)
part_of_text {us = us} p (token_at {u = u} n h e) = record {
  value = node_two two_of.More p.value (leaf u);
  kind = λ w x m. subst (λ z. Is PatternTextRest (no_items ∷ []) z x) (sym (append_assoc us (u ∷ []) w)) (p.kind (u ∷ w) x (is_pattern_text_rest_2 u w x (has e) m));
  alike = alike.two p.alike (alike.token h);
}

part_step : {source print : List ℕ} {line end : Bool} {s : ℕ} {a b : Tree} {us : List Terminal} → ((end : Bool) (us : List Terminal) → Spells source print line (printed a context.TextParts) us end → ReadAs source print TextKind a us) → Kept (λ y. y ≡ shape.TextPart) b
    → Stepped source print (two_children a b) line (first_as context.TextParts ∷ second_as context.TextItem ∷ []) us end → ReadAs source print TextKind (Two two_of.More s a b) us
part_step f g (next h (last m)) = part_of_text (f _ _ h) (part_read g m)

parts : {source print : List ℕ} {line end : Bool} {a : Tree} {us : List Terminal} → Each (Kept (λ y. y ≡ shape.TextPart)) a → Spells source print line (printed a context.TextParts) us end → ReadAs source print TextKind a us
unfolding printed
parts no_item h = read_empty (λ w x m. m) h
parts (one_more {s = s} {a = a} {b = b} e g) h = part_step (λ end us m. parts e m) g (step_two two_of.More s a b context.TextParts h)

text_of : {source print : List ℕ} {line mid last end : Bool} {s : ℕ} {a b : Tree} {us ws zs : List Terminal} → TokenAt source print (λ y. y ≡ shape.Quote) line a us mid → ReadAs source print TextKind b ws → TokenAt source print (λ y. y ≡ shape.Quote) last a zs end
    → ReadAs source print (Is Alternative []) (Two two_of.Text s a b) (us ++ (ws ++ zs))
text_of (token_at {u = t} n h e) r (token_at {u = u} m i f) = record { value = node_two two_of.Text (leaf t) r.value; kind = is_alternative_2 t _ _ (has e) (r.kind (u ∷ []) r.value (is_pattern_text_rest_1 u (has f))); alike = alike.two (alike.token h) r.alike }

text : {source print : List ℕ} {line end : Bool} {s : ℕ} {a b : Tree} {us : List Terminal} → Kept (λ y. y ≡ shape.Quote) a → Each (Kept (λ y. y ≡ shape.TextPart)) b → Stepped source print (two_children a b) line (first ∷ second_as context.TextParts ∷ first ∷ []) us end
    → ReadAs source print (Is Alternative []) (Two two_of.Text s a b) us
text f g (next h (next m (last r))) = text_of (word_read f h) (parts g m) (word_read f r)

pub pattern_text_form : {source print : List ℕ} {s : ℕ} {a b : Tree} → Kept (λ y. y ≡ shape.Quote) a → Each (Kept (λ y. y ≡ shape.TextPart)) b → AlternativeTree source print (Two two_of.Text s a b)
pattern_text_form {s = s} {a = a} {b = b} f g line end us h = text f g (step_two two_of.Text s a b context.Expression h)
