-- Types are read as they were printed.
use Rattle.std.proofs.Common.{◌≡◌, ℕ, Bool, true, false, List, [], ◌∷◌, ◌++◌, refl}
use Rattle.ink_grammar.specs.declared.token.Mark.TheVariants as mark
use Rattle.ink_grammar.specs.declared.token.Shape.TheVariants as shape
use Rattle.ink_grammar.specs.declared.token.Terminal.{Terminal}
use Rattle.ink_grammar.specs.declared.symbol.Wanted.TheVariants as wanted
use Rattle.ink_grammar.specs.declared.tree.TwoChildren.TheVariants as two_of
use Rattle.ink_grammar.specs.declared.tree.ThreeChildren.TheVariants as three_of
use Rattle.ink_grammar.specs.declared.tree.FourChildren.TheVariants as four_of
use Rattle.ink_grammar.specs.Shapes.{same, is}
use Rattle.ink_grammar.specs.Tree.{Tree, Two, Three, Four, Found, leaf, no_items, node_two, node_three, node_four}
use Rattle.ink_grammar.specs.Parts.{FullType, BareType, TypeArguments, TypeArgumentsRest}
use Rattle.ink_grammar.specs.Productions.{Is, is_full_type_1, is_full_type_2, is_bare_type_1, is_bare_type_2, is_tuple_type_rest_1, is_tuple_type_rest_2, is_type_arguments_1, is_type_arguments_2, is_type_arguments_rest_1, is_type_arguments_rest_2, is_type_arguments_more_2}
use Rattle.ink_print.specs.declared.context.Context.TheVariants as context
use Rattle.ink_print.specs.declared.step.Piece.TheVariants as piece
use Rattle.ink_print.specs.declared.step.Sign.TheVariants as sign
use Rattle.ink_print.specs.declared.step.Step.TheVariants as step
use Rattle.ink_print.specs.Table.{first, second, third, fourth, second_as}
use Rattle.ink_print.specs.Printed.{printed}
use Rattle.ink_law_categories.specs.Spells.{Spells}
use Rattle.ink_law_categories.specs.Alike as alike
use Rattle.ink_law_parsing.proofs.Steps.{Stepped, stop, put, last, next, two_children, three_children, four_children, step_two, step_three, step_four}
use Rattle.ink_law_parsing.proofs.Words.{has, has_sign, Kept, TokenAt, token_at, word_read, bracket_alike}
use Rattle.ink_law_parsing.proofs.Lists.{EachOfSome, Perhaps, ReadAs, Items, item, Behind, behind, Again, widened, bracketed, enclosed_or_none}

-- a tree that is read as a type of this kind, behind a colon and behind an arrow too
pub record TypeOf (source print : List ℕ) (K : List Terminal → Found → Type 0) (a : Tree) : Type 0 where
  pub plain : (line end : Bool) (us : List Terminal) → Spells source print line (printed a context.Expression) us end → ReadAs source print K a us
  pub annotated : printed a context.Annotated ≡ piece.Sign sign.Colon ∷ printed a context.Expression
  pub returned : printed a context.Returned ≡ piece.Sign sign.Arrow ∷ printed a context.Expression

abbrev pub Typed : List ℕ → List ℕ → Tree → Type 0
Typed source print = TypeOf source print (Is FullType [])

abbrev pub BareTyped : List ℕ → List ℕ → Tree → Type 0
BareTyped source print = TypeOf source print (Is BareType [])

abbrev pub TypeItem : Bool → List Terminal → Found → Type 0
TypeItem line us v = Is FullType [] us v

pub type_read : {source print : List ℕ} (b : Tree) (line end : Bool) (us : List Terminal) → Typed source print b → Spells source print line (printed b context.Expression) us end → ReadAs source print (Is FullType []) b us
type_read b line end us g h = g.plain line end us h

-- arguments in brackets
abbrev ArgumentsBehind : Found → List Terminal → Found → Type 0
ArgumentsBehind a us v = Is TypeArgumentsRest (a ∷ []) us v

more_arguments : Again TypeItem ArgumentsBehind (shape.Mark mark.Comma)
more_arguments a t w y e (item p r) = is_type_arguments_rest_2 t _ _ e (is_type_arguments_more_2 _ _ _ _ p r)

some_arguments : (t : Terminal) → same (shape.Mark mark.LeftBracket) t.shape ≡ true → {w : List Terminal} {v : Found} → Items TypeItem ArgumentsBehind false no_items w v → Is TypeArguments [] (t ∷ w) v
some_arguments t e (item p r) = is_type_arguments_1 t _ _ _ _ e p r

arguments : (u : List Terminal) (v : Found) → Behind (shape.Mark mark.LeftBracket) TypeItem ArgumentsBehind u v → Is TypeArguments [] u v
arguments u v (behind t e i) = some_arguments t e i

type_arguments : {source print : List ℕ} {line end : Bool} {a : Tree} {us : List Terminal} → Perhaps (EachOfSome (Typed source print)) a → Spells source print line (printed a context.Bracketed) us end → ReadAs source print (Is TypeArguments []) a us
type_arguments {source = source} {print = print} g h = enclosed_or_none type_read (bracketed source print) more_arguments (λ v t e. is_type_arguments_rest_1 t e) is_type_arguments_2 arguments g h

-- a type with a name
named_of : {source print : List ℕ} {line mid : Bool} {s : ℕ} {a b : Tree} {us ws : List Terminal} → TokenAt source print (λ y. y ≡ shape.Constant) line a us mid → ReadAs source print (Is TypeArguments []) b ws → ReadAs source print (Is BareType []) (Two two_of.NamedType s a b) (us ++ ws)
named_of (token_at {u = u} n h e) r = record { value = node_two two_of.NamedType (leaf u) r.value; kind = is_bare_type_1 u _ _ (has e) r.kind; alike = alike.two (alike.token h) r.alike }

named : {source print : List ℕ} {line end : Bool} {s : ℕ} {a b : Tree} {us : List Terminal} → Kept (λ y. y ≡ shape.Constant) a → Perhaps (EachOfSome (Typed source print)) b → Stepped source print (two_children a b) line (first ∷ second_as context.Bracketed ∷ []) us end → ReadAs source print (Is BareType []) (Two two_of.NamedType s a b) us
named f g (next h (last m)) = named_of (word_read f h) (type_arguments g m)

pub named_type : {source print : List ℕ} {s : ℕ} {a b : Tree} → Kept (λ y. y ≡ shape.Constant) a → Perhaps (EachOfSome (Typed source print)) b → BareTyped source print (Two two_of.NamedType s a b)
unfolding printed
named_type {s = s} {a = a} {b = b} f g = record { plain = λ line end us h. named f g (step_two two_of.NamedType s a b context.Expression h); annotated = refl; returned = refl }

-- a word and a type
prefixed_of : {source print : List ℕ} {line mid : Bool} {s : ℕ} {a b : Tree} {us ws : List Terminal} → TokenAt source print (λ y. is wanted.TypePrefix y ≡ true) line a us mid → ReadAs source print (Is BareType []) b ws → ReadAs source print (Is FullType []) (Two two_of.PrefixedType s a b) (us ++ ws)
prefixed_of (token_at {u = u} n h e) r = record { value = node_two two_of.PrefixedType (leaf u) r.value; kind = is_full_type_1 u _ _ e r.kind; alike = alike.two (alike.token h) r.alike }

prefixed : {source print : List ℕ} {line end : Bool} {s : ℕ} {a b : Tree} {us : List Terminal} → Kept (λ y. is wanted.TypePrefix y ≡ true) a → BareTyped source print b → Stepped source print (two_children a b) line (first ∷ second ∷ []) us end → ReadAs source print (Is FullType []) (Two two_of.PrefixedType s a b) us
prefixed f g (next h (last m)) = prefixed_of (word_read f h) (g.plain _ _ _ m)

pub prefixed_type : {source print : List ℕ} {s : ℕ} {a b : Tree} → Kept (λ y. is wanted.TypePrefix y ≡ true) a → BareTyped source print b → Typed source print (Two two_of.PrefixedType s a b)
unfolding printed
prefixed_type {s = s} {a = a} {b = b} f g = record { plain = λ line end us h. prefixed f g (step_two two_of.PrefixedType s a b context.Expression h); annotated = refl; returned = refl }

pub plain_type : {source print : List ℕ} {a : Tree} → BareTyped source print a → Typed source print a
plain_type g = record { plain = λ line end us h. widened (λ u v k. is_full_type_2 u v k) (g.plain line end us h); annotated = g.annotated; returned = g.returned }

-- two types and three
pair : {source print : List ℕ} {line end : Bool} {s : ℕ} {a b c : Tree} {us : List Terminal} → Kept (λ y. y ≡ shape.Mark mark.LeftParen) a → Typed source print b → Typed source print c
    → Stepped source print (three_children a b c) line (step.Sign sign.LeftParen ∷ second ∷ step.Sign sign.Comma ∷ third ∷ step.Sign sign.RightParen ∷ []) us end → ReadAs source print (Is BareType []) (Three three_of.PairType s a b c) us
pair f g k (put {u = t0} n0 e0 (next h (put {u = t1} n1 e1 (next m (put {u = t2} n2 e2 stop))))) = let x = g.plain _ _ _ h in let y = k.plain _ _ _ m in
    record {
      value = node_three three_of.PairType (leaf t0) x.value y.value;
      alike = alike.three (bracket_alike f refl e0) x.alike y.alike;
      kind = is_bare_type_2 t0 _ _ t1 _ _ _ _ (has_sign e0) x.kind (has_sign e1) y.kind (is_tuple_type_rest_1 t2 (has_sign e2));
    }

pub pair_type : {source print : List ℕ} {s : ℕ} {a b c : Tree} → Kept (λ y. y ≡ shape.Mark mark.LeftParen) a → Typed source print b → Typed source print c → BareTyped source print (Three three_of.PairType s a b c)
unfolding printed
pair_type {s = s} {a = a} {b = b} {c = c} f g k = record { plain = λ line end us h. pair f g k (step_three three_of.PairType s a b c context.Expression h); annotated = refl; returned = refl }

triple : {source print : List ℕ} {line end : Bool} {s : ℕ} {a b c d : Tree} {us : List Terminal} → Kept (λ y. y ≡ shape.Mark mark.LeftParen) a → Typed source print b → Typed source print c → Typed source print d
    → Stepped source print (four_children a b c d) line (step.Sign sign.LeftParen ∷ second ∷ step.Sign sign.Comma ∷ third ∷ step.Sign sign.Comma ∷ fourth ∷ step.Sign sign.RightParen ∷ []) us end → ReadAs source print (Is BareType []) (Four four_of.TripleType s a b c d) us
triple f g k l (put {u = t0} n0 e0 (next h (put {u = t1} n1 e1 (next m (put {u = t2} n2 e2 (next r (put {u = t3} n3 e3 stop))))))) = let x = g.plain _ _ _ h in let y = k.plain _ _ _ m in let z = l.plain _ _ _ r in
    record {
      value = node_four four_of.TripleType (leaf t0) x.value y.value z.value;
      alike = alike.four (bracket_alike f refl e0) x.alike y.alike z.alike;
      kind = is_bare_type_2 t0 _ _ t1 _ _ _ _ (has_sign e0) x.kind (has_sign e1) y.kind (is_tuple_type_rest_2 t2 _ _ t3 (has_sign e2) z.kind (has_sign e3));
    }

pub triple_type : {source print : List ℕ} {s : ℕ} {a b c d : Tree} → Kept (λ y. y ≡ shape.Mark mark.LeftParen) a → Typed source print b → Typed source print c → Typed source print d → BareTyped source print (Four four_of.TripleType s a b c d)
unfolding printed
triple_type {s = s} {a = a} {b = b} {c = c} {d = d} f g k l = record { plain = λ line end us h. triple f g k l (step_four four_of.TripleType s a b c d context.Expression h); annotated = refl; returned = refl }
