-- The words behind `let`, `type` and `fn`, and methods.
use Rattle.std.proofs.Common.{◌≡◌, ◌⊎◌, ℕ, Bool, true, false, List, [], ◌∷◌, ◌++◌, Some, inl, inr, refl, sym, ap, subst, ◌∙◌, append-nil}
use Rattle.std.proofs.lemmas.List.{append_assoc}
use Rattle.ink_grammar.specs.declared.token.Keyword.TheVariants as keyword
use Rattle.ink_grammar.specs.declared.token.Mark.TheVariants as mark
use Rattle.ink_grammar.specs.declared.token.Shape.{Shape}
use Rattle.ink_grammar.specs.declared.token.Shape.TheVariants as shape
use Rattle.ink_grammar.specs.declared.token.Terminal.{Terminal}
use Rattle.ink_grammar.specs.declared.symbol.Nonterminal.{Nonterminal}
use Rattle.ink_grammar.specs.declared.tree.TwoChildren.TheVariants as two_of
use Rattle.ink_grammar.specs.declared.tree.FourChildren.TheVariants as four_of
use Rattle.ink_grammar.specs.declared.tree.FiveChildren.TheVariants as five_of
use Rattle.ink_grammar.specs.Shapes.{same}
use Rattle.ink_grammar.specs.Tree.{Tree, Empty, Two, Four, Five, Found, leaf, no_items, node_two, node_four, node_five}
use Rattle.ink_grammar.specs.Parts.{TraitMethod, OptionalPub, OptionalAsync, OptionalMut, MethodKind, TraitMethodKind, Method, Parameters, ParametersMore, ParametersRest, Parameter, MethodResult, FullType, TypeParameters, TypeParametersRest, TypeParameter, Bounds, BoundsRest, Block}
use Rattle.ink_grammar.specs.Productions.{Is, is_trait_method, is_optional_pub_1, is_optional_pub_2, is_optional_async_1, is_optional_async_2, is_optional_mut_1, is_optional_mut_2, is_method_kind_1, is_method_kind_2, is_method_kind_3, is_method_kind_4, is_trait_method_kind_1, is_trait_method_kind_2, is_trait_method_kind_3, is_method, is_parameters_1, is_parameters_2, is_parameters_more_1, is_parameters_more_2, is_parameters_rest_1, is_parameters_rest_2, is_parameter, is_method_result_1, is_method_result_2, is_type_parameters_1, is_type_parameters_2, is_type_parameters_rest_1, is_type_parameters_rest_2, is_type_parameters_more_2, is_type_parameter, is_bounds_1, is_bounds_2, is_bounds_rest_1, is_bounds_rest_2}
use Rattle.ink_print.specs.declared.context.Context.TheVariants as context
use Rattle.ink_print.specs.declared.step.Piece.TheVariants as piece
use Rattle.ink_print.specs.declared.step.Sign.TheVariants as sign
use Rattle.ink_print.specs.declared.step.Step.TheVariants as step
use Rattle.ink_print.specs.Table.{first, second, third, fourth, first_as, second_as, third_as, fourth_as, fifth_as}
use Rattle.ink_print.specs.Printed.{printed}
use Rattle.ink_law_categories.specs.Spells.{Spells, a_sign}
use Rattle.ink_law_categories.specs.Spells as spells
use Rattle.ink_law_categories.specs.Alike as alike
use Rattle.ink_law_parsing.proofs.Steps.{Stepped, put, last, next, two_children, four_children, five_children, step_two, step_four, step_five}
use Rattle.ink_law_parsing.proofs.Words.{has, has_sign, Kept, TokenAt, token_at, word_read}
use Rattle.ink_law_parsing.proofs.Lists.{Each, no_item, one_more, EachOfSome, with_item, Perhaps, left_out, there, ReadAs, Items, item, Again, Behind, behind, sequence, listed, pluses, widened, read_empty, read_missing, bracketed, parenthesised, enclosed_some, enclosed_or_none, Reading}
use Rattle.ink_law_parsing.proofs.Types.{Typed}
use Rattle.ink_law_parsing.proofs.Contexts.{read_of}
use Rattle.ink_law_parsing.proofs.Statements.{Blocked}

-- how a list of words is read
abbrev pub WordsTree : List ℕ → List ℕ → (List Terminal → Found → Type 0) → Tree → Type 0
WordsTree source print K a = (line end : Bool) (us : List Terminal) → Spells source print line (printed a context.Words) us end → ReadAs source print K a us

no_words : {source print : List ℕ} {K : List Terminal → Found → Type 0} → K [] no_items → WordsTree source print K Empty
unfolding printed
no_words k line end us h = read_empty k h

word_of : {source print : List ℕ} {K L : List Terminal → Found → Type 0} {Q : Shape → Type 0} {line end : Bool} {s : ℕ} {a b : Tree} {us ws : List Terminal} → ((us : List Terminal) (v : Found) (u : Terminal) → K us v → Q u.shape → L (us ++ (u ∷ [])) (node_two two_of.More v (leaf u)))
    → ReadAs source print K a us → TokenAt source print Q line b ws end → ReadAs source print L (Two two_of.More s a b) (us ++ ws)
word_of f r (token_at {u = u} n h e) = record { value = node_two two_of.More r.value (leaf u); kind = f _ _ u r.kind e; alike = alike.two r.alike (alike.token h) }

one_word : {source print : List ℕ} {K L : List Terminal → Found → Type 0} {Q : Shape → Type 0} {line end : Bool} {s : ℕ} {a b : Tree} {us : List Terminal} → ((us : List Terminal) (v : Found) (u : Terminal) → K us v → Q u.shape → L (us ++ (u ∷ [])) (node_two two_of.More v (leaf u)))
    → WordsTree source print K a → Kept Q b → Stepped source print (two_children a b) line (first_as context.Words ∷ second ∷ []) us end → ReadAs source print L (Two two_of.More s a b) us
one_word f g q (next h (last m)) = word_of f (g _ _ _ h) (word_read q m)

more_words : {source print : List ℕ} {K L : List Terminal → Found → Type 0} {Q : Shape → Type 0} {s : ℕ} {a b : Tree} → ((us : List Terminal) (v : Found) (u : Terminal) → K us v → Q u.shape → L (us ++ (u ∷ [])) (node_two two_of.More v (leaf u)))
    → WordsTree source print K a → Kept Q b → WordsTree source print L (Two two_of.More s a b)
more_words {s = s} {a = a} {b = b} f g q line end us h = one_word f g q (step_two two_of.More s a b context.Words h)

-- `pub`
abbrev pub PubKind : List Terminal → Found → Type 0
PubKind us v = Is OptionalPub (no_items ∷ []) us v

pub no_pub_form : {source print : List ℕ} → WordsTree source print PubKind Empty
no_pub_form = no_words is_optional_pub_2

abbrev NoneKind : List Terminal → Found → Type 0
NoneKind us v = (us ≡ []) × (v ≡ no_items)

pub pub_form : {source print : List ℕ} {s : ℕ} {b : Tree} → Kept (λ y. y ≡ shape.Keyword keyword.Pub) b → WordsTree source print PubKind (Two two_of.More s Empty b)
pub_form f = more_words (λ us v u k e. subst (λ z. Is OptionalPub (no_items ∷ []) (z ++ (u ∷ [])) (node_two two_of.More v (leaf u))) (sym k.0) (subst (λ z. Is OptionalPub (no_items ∷ []) (u ∷ []) (node_two two_of.More z (leaf u))) (sym k.1) (is_optional_pub_1 u (has e))))
    (no_words {K = NoneKind} (refl, refl)) f

-- with `mut` behind it, or not
pub data MutKind : List Terminal → Found → Type 0 where
  mut_kind : {us ws : List Terminal} {v x : Found} → Is OptionalPub (no_items ∷ []) us v → Is OptionalMut (v ∷ []) ws x → MutKind (us ++ ws) x

pub no_mut_form : {source print : List ℕ} {a : Tree} → WordsTree source print PubKind a → WordsTree source print MutKind a
no_mut_form g line end us h = widened (λ u v k. subst (λ z. MutKind z v) (append-nil u) (mut_kind k is_optional_mut_2)) (g line end us h)

pub mut_form : {source print : List ℕ} {s : ℕ} {a b : Tree} → WordsTree source print PubKind a → Kept (λ y. y ≡ shape.Keyword keyword.Mut) b → WordsTree source print MutKind (Two two_of.More s a b)
mut_form g f = more_words (λ us v u k e. mut_kind k (is_optional_mut_1 u (has e))) g f

-- with `async` behind it, or not
pub data AsyncKind : List Terminal → Found → Type 0 where
  async_kind : {us ws : List Terminal} {v x : Found} → Is OptionalPub (no_items ∷ []) us v → Is OptionalAsync (v ∷ []) ws x → AsyncKind (us ++ ws) x

pub no_async_form : {source print : List ℕ} {a : Tree} → WordsTree source print PubKind a → WordsTree source print AsyncKind a
no_async_form g line end us h = widened (λ u v k. subst (λ z. AsyncKind z v) (append-nil u) (async_kind k is_optional_async_2)) (g line end us h)

pub async_form : {source print : List ℕ} {s : ℕ} {a b : Tree} → WordsTree source print PubKind a → Kept (λ y. y ≡ shape.Keyword keyword.Async) b → WordsTree source print AsyncKind (Two two_of.More s a b)
async_form g f = more_words (λ us v u k e. async_kind k (is_optional_async_1 u (has e))) g f

-- how `self` is taken
pub data SelfKind : List Terminal → Found → Type 0 where
  self_kind : {us ws : List Terminal} {v x : Found} → AsyncKind us v → Is MethodKind (v ∷ []) ws x → SelfKind (us ++ ws) x

abbrev pub SelfWord : Shape → Type 0
SelfWord y = (y ≡ shape.Keyword keyword.Mut) ⊎ ((y ≡ shape.Keyword keyword.Move) ⊎ (y ≡ shape.Keyword keyword.Static))

self_word : {v : Found} (u : Terminal) → SelfWord u.shape → Is MethodKind (v ∷ []) (u ∷ []) (node_two two_of.More v (leaf u))
self_word u (inl e) = is_method_kind_1 u (has e)
self_word u (inr (inl e)) = is_method_kind_2 u (has e)
self_word u (inr (inr e)) = is_method_kind_3 u (has e)

pub no_self_form : {source print : List ℕ} {a : Tree} → WordsTree source print AsyncKind a → WordsTree source print SelfKind a
no_self_form g line end us h = widened (λ u v k. subst (λ z. SelfKind z v) (append-nil u) (self_kind k is_method_kind_4)) (g line end us h)

pub self_form : {source print : List ℕ} {s : ℕ} {a b : Tree} → WordsTree source print AsyncKind a → Kept SelfWord b → WordsTree source print SelfKind (Two two_of.More s a b)
self_form g f = more_words (λ us v u k e. self_kind k (self_word u e)) g f

-- the same in a trait
pub data TraitKind : List Terminal → Found → Type 0 where
  trait_kind : {us ws : List Terminal} {v x : Found} → Is OptionalPub (no_items ∷ []) us v → Is TraitMethodKind (v ∷ []) ws x → TraitKind (us ++ ws) x

abbrev pub TraitWord : Shape → Type 0
TraitWord y = (y ≡ shape.Keyword keyword.Mut) ⊎ (y ≡ shape.Keyword keyword.Move)

trait_word : {v : Found} (u : Terminal) → TraitWord u.shape → Is TraitMethodKind (v ∷ []) (u ∷ []) (node_two two_of.More v (leaf u))
trait_word u (inl e) = is_trait_method_kind_1 u (has e)
trait_word u (inr e) = is_trait_method_kind_2 u (has e)

pub no_trait_self_form : {source print : List ℕ} {a : Tree} → WordsTree source print PubKind a → WordsTree source print TraitKind a
no_trait_self_form g line end us h = widened (λ u v k. subst (λ z. TraitKind z v) (append-nil u) (trait_kind k is_trait_method_kind_3)) (g line end us h)

pub trait_self_form : {source print : List ℕ} {s : ℕ} {a b : Tree} → WordsTree source print PubKind a → Kept TraitWord b → WordsTree source print TraitKind (Two two_of.More s a b)
trait_self_form g f = more_words (λ us v u k e. trait_kind k (trait_word u e)) g f

-- bounds
pub data WordItem (Q : Shape → Type 0) (line : Bool) : List Terminal → Found → Type 0 where
  word_item : (t : Terminal) → Q t.shape → WordItem Q line (t ∷ []) (leaf t)

word_item_of : {source print : List ℕ} {Q : Shape → Type 0} {line end : Bool} {a : Tree} {us : List Terminal} → TokenAt source print Q line a us end → ReadAs source print (WordItem Q line) a us
word_item_of (token_at {u = u} n h e) = record { value = leaf u; kind = word_item u e; alike = alike.token h }

pub word_item_read : {source print : List ℕ} {Q : Shape → Type 0} (b : Tree) (line end : Bool) (us : List Terminal) → Kept Q b → Spells source print line (printed b context.Expression) us end → ReadAs source print (WordItem Q line) b us
word_item_read b line end us g h = word_item_of (word_read g h)

abbrev IsConstant : Shape → Type 0
IsConstant y = y ≡ shape.Constant

abbrev BoundsBehind : Found → List Terminal → Found → Type 0
BoundsBehind a us v = Is BoundsRest (a ∷ []) us v

more_bounds : Again (WordItem IsConstant) BoundsBehind (shape.Mark mark.Plus)
more_bounds a t w y e (item (word_item u f) r) = is_bounds_rest_1 t u _ _ e (has f) r

some_bounds : {line : Bool} {x : Found} {w : List Terminal} (t : Terminal) → same (shape.Mark mark.Colon) t.shape ≡ true → Items (WordItem IsConstant) BoundsBehind line no_items w x → Is Bounds [] (t ∷ w) x
some_bounds t e (item (word_item u f) r) = is_bounds_1 t u _ _ e (has f) r

bounded : {source print : List ℕ} {line end : Bool} {s : ℕ} {a b : Tree} {us : List Terminal} → Each (Kept IsConstant) a → Kept IsConstant b → Stepped source print (two_children a b) line (step.Sign sign.Colon ∷ first_as context.BeforePlus ∷ second ∷ []) us end
    → ReadAs source print (Is Bounds []) (Two two_of.More s a b) us
bounded {source = source} {print = print} e g (put {u = t} n f (next h (last m))) = let r = sequence word_item_read (listed word_item_read (pluses source print) more_bounds e h) g m in
    record { value = r.value; kind = some_bounds t (has_sign f) (subst (λ z. Items (WordItem IsConstant) BoundsBehind false no_items z r.value) (append-nil _) (r.kind [] r.value is_bounds_rest_2)); alike = r.alike }

bounds : {source print : List ℕ} {line end : Bool} {a : Tree} {us : List Terminal} → Perhaps (EachOfSome (Kept IsConstant)) a → Spells source print line (printed a context.Bounded) us end → ReadAs source print (Is Bounds []) a us
unfolding printed
bounds left_out h = read_missing is_bounds_2 h
bounds (there (with_item {s = s} {a = a} {b = b} e g)) h = bounded e g (step_two two_of.More s a b context.Bounded h)

-- type parameters
type_parameter_of : {source print : List ℕ} {line mid : Bool} {s : ℕ} {a b : Tree} {us ws : List Terminal} → TokenAt source print IsConstant line a us mid → ReadAs source print (Is Bounds []) b ws → ReadAs source print (Is TypeParameter []) (Two two_of.TypeParameter s a b) (us ++ ws)
type_parameter_of (token_at {u = u} n h e) r = record { value = node_two two_of.TypeParameter (leaf u) r.value; kind = is_type_parameter u _ _ (has e) r.kind; alike = alike.two (alike.token h) r.alike }

type_parameter : {source print : List ℕ} {line end : Bool} {s : ℕ} {a b : Tree} {us : List Terminal} → Kept IsConstant a → Perhaps (EachOfSome (Kept IsConstant)) b → Stepped source print (two_children a b) line (first ∷ second_as context.Bounded ∷ []) us end → ReadAs source print (Is TypeParameter []) (Two two_of.TypeParameter s a b) us
type_parameter f g (next h (last m)) = type_parameter_of (word_read f h) (bounds g m)

pub type_parameter_form : {source print : List ℕ} {s : ℕ} {a b : Tree} → Kept (λ y. y ≡ shape.Constant) a → Perhaps (EachOfSome (Kept (λ y. y ≡ shape.Constant))) b → Reading source print (Is TypeParameter []) (Two two_of.TypeParameter s a b)
type_parameter_form {s = s} {a = a} {b = b} f g line end us h = type_parameter f g (step_two two_of.TypeParameter s a b context.Expression h)

abbrev ParameterItem : Nonterminal → Bool → List Terminal → Found → Type 0
ParameterItem n line us v = Is n [] us v

item_read : {source print : List ℕ} {n : Nonterminal} (b : Tree) (line end : Bool) (us : List Terminal) → Reading source print (Is n []) b → Spells source print line (printed b context.Expression) us end → ReadAs source print (Is n []) b us
item_read b line end us g h = g line end us h

abbrev TypeParametersBehind : Found → List Terminal → Found → Type 0
TypeParametersBehind a us v = Is TypeParametersRest (a ∷ []) us v

more_type_parameters : Again (ParameterItem TypeParameter) TypeParametersBehind (shape.Mark mark.Comma)
more_type_parameters a t w y e (item p r) = is_type_parameters_rest_2 t _ _ e (is_type_parameters_more_2 _ _ _ _ p r)

some_type_parameters : {x : Found} {w : List Terminal} (t : Terminal) → same (shape.Mark mark.LeftBracket) t.shape ≡ true → Items (ParameterItem TypeParameter) TypeParametersBehind false no_items w x → Is TypeParameters [] (t ∷ w) x
some_type_parameters t e (item p r) = is_type_parameters_1 t _ _ _ _ e p r

all_type_parameters : (u : List Terminal) (v : Found) → Behind (shape.Mark mark.LeftBracket) (ParameterItem TypeParameter) TypeParametersBehind u v → Is TypeParameters [] u v
all_type_parameters u v (behind t e i) = some_type_parameters t e i

pub type_parameters : {source print : List ℕ} {line end : Bool} {a : Tree} {us : List Terminal} → Perhaps (EachOfSome (Reading source print (Is TypeParameter []))) a → Spells source print line (printed a context.Bracketed) us end → ReadAs source print (Is TypeParameters []) a us
type_parameters {source = source} {print = print} g h = enclosed_or_none (item_read {n = TypeParameter}) (bracketed source print) more_type_parameters (λ v t e. is_type_parameters_rest_1 t e) is_type_parameters_2 all_type_parameters g h

-- parameters
parameter_of : {source print : List ℕ} {line mid : Bool} {s : ℕ} {a b : Tree} {us ws : List Terminal} (t : Terminal) → TokenAt source print (λ y. y ≡ shape.Name) line a us mid → Some (shape.Mark mark.Colon) ≡ Some t.shape → ReadAs source print (Is FullType []) b ws → ReadAs source print (Is Parameter []) (Two two_of.Parameter s a b) (us ++ (t ∷ ws))
parameter_of t (token_at {u = u} n h e) f r = record { value = node_two two_of.Parameter (leaf u) r.value; kind = is_parameter u t _ _ (has e) (has_sign f) r.kind; alike = alike.two (alike.token h) r.alike }

parameter : {source print : List ℕ} {line end : Bool} {s : ℕ} {a b : Tree} {us : List Terminal} → Kept (λ y. y ≡ shape.Name) a → Typed source print b → Stepped source print (two_children a b) line (first ∷ step.Sign sign.Colon ∷ second ∷ []) us end → ReadAs source print (Is Parameter []) (Two two_of.Parameter s a b) us
parameter f g (next h (put n e (last m))) = parameter_of _ (word_read f h) e (g.plain _ _ _ m)

pub parameter_form : {source print : List ℕ} {s : ℕ} {a b : Tree} → Kept (λ y. y ≡ shape.Name) a → Typed source print b → Reading source print (Is Parameter []) (Two two_of.Parameter s a b)
parameter_form {s = s} {a = a} {b = b} f g line end us h = parameter f g (step_two two_of.Parameter s a b context.Expression h)

abbrev ParametersBehind : Found → List Terminal → Found → Type 0
ParametersBehind a us v = Is ParametersRest (a ∷ []) us v

some_parameters : {line : Bool} {a x : Found} {w : List Terminal} → Items (ParameterItem Parameter) ParametersBehind line a w x → Is ParametersMore (a ∷ []) w x
some_parameters (item p r) = is_parameters_more_2 _ _ _ _ p r

more_parameters : Again (ParameterItem Parameter) ParametersBehind (shape.Mark mark.Comma)
more_parameters a t w y e i = is_parameters_rest_2 t _ _ e (some_parameters i)

all_parameters : (u : List Terminal) (v : Found) → Behind (shape.Mark mark.LeftParen) (ParameterItem Parameter) ParametersBehind u v → Is Parameters [] u v
all_parameters u v (behind t e i) = is_parameters_1 t _ _ e (some_parameters i)

-- parentheses without parameters
no_parameters : {source print : List ℕ} {line end : Bool} {us : List Terminal} → Spells source print line (piece.Sign sign.LeftParen ∷ piece.Sign sign.RightParen ∷ []) us end → ReadAs source print (Is Parameters []) Empty us
no_parameters (a_sign {u = t} n e (a_sign {u = u} m f spells.nothing)) = record { value = no_items; kind = is_parameters_1 t _ _ (has_sign e) (is_parameters_more_1 u (has_sign f)); alike = alike.empty }

listed_parameters : {source print : List ℕ} {line end : Bool} {a : Tree} {us : List Terminal} → Each (Reading source print (Is Parameter [])) a → Spells source print line (printed a context.Parenthesised) us end → ReadAs source print (Is Parameters []) a us
unfolding printed
listed_parameters no_item h = no_parameters h
listed_parameters {source = source} {print = print} (one_more e g) h = widened all_parameters (enclosed_some (item_read {n = Parameter}) (parenthesised source print) more_parameters (λ v t e. is_parameters_rest_1 t e) (with_item e g) h)

parameters : {source print : List ℕ} {line end : Bool} {a : Tree} {us : List Terminal} → Perhaps (Each (Reading source print (Is Parameter []))) a → Spells source print line (printed a context.Parenthesised) us end → ReadAs source print (Is Parameters []) a us
unfolding printed
parameters left_out h = read_missing is_parameters_2 h
parameters (there e) h = listed_parameters e h

-- a result
returned : {source print : List ℕ} {line end : Bool} {a : Tree} {us : List Terminal} → Typed source print a → Spells source print line (piece.Sign sign.Arrow ∷ printed a context.Expression) us end → ReadAs source print (Is MethodResult []) a us
returned g (a_sign {u = t} n e h) = let r = g.plain _ _ _ h in record { value = r.value; kind = is_method_result_1 t _ _ (has_sign e) r.kind; alike = r.alike }

method_result : {source print : List ℕ} {line end : Bool} {a : Tree} {us : List Terminal} → Perhaps (Typed source print) a → Spells source print line (printed a context.Returned) us end → ReadAs source print (Is MethodResult []) a us
unfolding printed
method_result left_out h = read_missing is_method_result_2 h
method_result {source = source} {print = print} {line = line} {end = end} {us = us} (there g) h = returned g (subst (λ z. Spells source print line z us end) g.returned h)

-- a signature
pub data SignatureKind : List Terminal → Found → Type 0 where
  signature_kind : {u0 u1 u2 : List Terminal} {v0 v1 v2 : Found} (t : Terminal) → same shape.Name t.shape ≡ true → Is TypeParameters [] u0 v0 → Is Parameters [] u1 v1 → Is MethodResult [] u2 v2 → SignatureKind (t ∷ (u0 ++ (u1 ++ u2))) (node_four four_of.Signature (leaf t) v0 v1 v2)

signature_of : {source print : List ℕ} {line mid : Bool} {s : ℕ} {a b c d : Tree} {us ws zs qs : List Terminal} → TokenAt source print (λ y. y ≡ shape.Name) line a us mid → ReadAs source print (Is TypeParameters []) b ws → ReadAs source print (Is Parameters []) c zs → ReadAs source print (Is MethodResult []) d qs
    → ReadAs source print SignatureKind (Four four_of.Signature s a b c d) (us ++ (ws ++ (zs ++ qs)))
signature_of (token_at {u = u} n h e) p q r = record { value = node_four four_of.Signature (leaf u) p.value q.value r.value; kind = signature_kind u (has e) p.kind q.kind r.kind; alike = alike.four (alike.token h) p.alike q.alike r.alike }

signature : {source print : List ℕ} {line end : Bool} {s : ℕ} {a b c d : Tree} {us : List Terminal} → Kept (λ y. y ≡ shape.Name) a → Perhaps (EachOfSome (Reading source print (Is TypeParameter []))) b → Perhaps (Each (Reading source print (Is Parameter []))) c → Perhaps (Typed source print) d
    → Stepped source print (four_children a b c d) line (first ∷ second_as context.Bracketed ∷ third_as context.Parenthesised ∷ fourth_as context.Returned ∷ []) us end → ReadAs source print SignatureKind (Four four_of.Signature s a b c d) us
signature f g k l (next h (next m (next o (last q)))) = signature_of (word_read f h) (type_parameters g m) (parameters k o) (method_result l q)

pub signature_form : {source print : List ℕ} {s : ℕ} {a b c d : Tree} → Kept (λ y. y ≡ shape.Name) a → Perhaps (EachOfSome (Reading source print (Is TypeParameter []))) b → Perhaps (Each (Reading source print (Is Parameter []))) c → Perhaps (Typed source print) d
    → Reading source print SignatureKind (Four four_of.Signature s a b c d)
signature_form {s = s} {a = a} {b = b} {c = c} {d = d} f g k l line end us h = signature f g k l (step_four four_of.Signature s a b c d context.Expression h)

-- a method
method_tail : (t : Terminal) (u3 u4 u5 w : List Terminal) → (t ∷ (u3 ++ (u4 ++ u5))) ++ w ≡ t ∷ (u3 ++ (u4 ++ (u5 ++ w)))
method_tail t u3 u4 u5 w = ap (λ z. t ∷ z) (append_assoc u3 (u4 ++ u5) w ∙ ap (λ z. u3 ++ z) (append_assoc u4 u5 w))

method_behind : {t : Terminal} {u0 u1 u2 zs qs : List Terminal} {v0 v1 v2 v x : Found} → same (shape.Keyword keyword.Fn) t.shape ≡ true → Is OptionalPub (no_items ∷ []) u0 v0 → Is OptionalAsync (v0 ∷ []) u1 v1 → Is MethodKind (v1 ∷ []) u2 v2 → SignatureKind zs v → Is Block [] qs x
    → Is Method [] (t ∷ (((u0 ++ u1) ++ u2) ++ (zs ++ qs))) (node_four four_of.Method (leaf t) v2 v x)
method_behind {t = t} {u0 = u0} {u1 = u1} {u2 = u2} {qs = qs} {v2 = v2} {x = x} e a b c (signature_kind {u0 = u3} {u1 = u4} {u2 = u5} {v0 = v3} {v1 = v4} {v2 = v5} u f g h i) k =
    subst (λ z. Is Method [] (t ∷ z) (node_four four_of.Method (leaf t) v2 (node_four four_of.Signature (leaf u) v3 v4 v5) x))
    (sym (append_assoc (u0 ++ u1) u2 _ ∙ append_assoc u0 u1 _ ∙ ap (λ z. u0 ++ (u1 ++ (u2 ++ z))) (method_tail u u3 u4 u5 qs)))
    (is_method t u0 _ u1 _ u2 v2 u u3 v3 u4 v4 u5 v5 qs x e a b c f g h i k)

method_self : {t : Terminal} {ws us zs qs : List Terminal} {v y x z : Found} → same (shape.Keyword keyword.Fn) t.shape ≡ true → AsyncKind us y → Is MethodKind (y ∷ []) ws v → SignatureKind zs x → Is Block [] qs z
    → Is Method [] (t ∷ ((us ++ ws) ++ (zs ++ qs))) (node_four four_of.Method (leaf t) v x z)
method_self e (async_kind a b) c s k = method_behind e a b c s k

method_kind : {t : Terminal} {us zs qs : List Terminal} {v x z : Found} → same (shape.Keyword keyword.Fn) t.shape ≡ true → SelfKind us v → SignatureKind zs x → Is Block [] qs z → Is Method [] (t ∷ (us ++ (zs ++ qs))) (node_four four_of.Method (leaf t) v x z)
method_kind e (self_kind a c) s k = method_self e a c s k

method_of : {source print : List ℕ} {line mid : Bool} {s : ℕ} {a b c d : Tree} {us ws zs qs : List Terminal} → TokenAt source print (λ y. y ≡ shape.Keyword keyword.Fn) line a us mid → ReadAs source print SelfKind b ws → ReadAs source print SignatureKind c zs → ReadAs source print (Is Block []) d qs
    → ReadAs source print (Is Method []) (Four four_of.Method s a b c d) (us ++ (ws ++ (zs ++ qs)))
method_of (token_at {u = u} n h e) p q r = record { value = node_four four_of.Method (leaf u) p.value q.value r.value; kind = method_kind (has e) p.kind q.kind r.kind; alike = alike.four (alike.token h) p.alike q.alike r.alike }

method : {source print : List ℕ} {line end : Bool} {s : ℕ} {a b c d : Tree} {us : List Terminal} → Kept (λ y. y ≡ shape.Keyword keyword.Fn) a → WordsTree source print SelfKind b → Reading source print SignatureKind c → Blocked source print d
    → Stepped source print (four_children a b c d) line (first ∷ second_as context.Words ∷ third ∷ fourth ∷ []) us end → ReadAs source print (Is Method []) (Four four_of.Method s a b c d) us
method f g k l (next h (next m (next o (last q)))) = method_of (word_read f h) (g _ _ _ m) (k _ _ _ o) (read_of (l.plain _ _ _ q))

pub method_form : {source print : List ℕ} {s : ℕ} {a b c d : Tree} → Kept (λ y. y ≡ shape.Keyword keyword.Fn) a → WordsTree source print SelfKind b → Reading source print SignatureKind c → Blocked source print d → Reading source print (Is Method []) (Four four_of.Method s a b c d)
method_form {s = s} {a = a} {b = b} {c = c} {d = d} f g k l line end us h = method f g k l (step_four four_of.Method s a b c d context.Expression h)

-- a method of a trait
trait_method_kind : {t u : Terminal} {us zs qs : List Terminal} {v x z : Found} → same (shape.Keyword keyword.Fn) t.shape ≡ true → TraitKind us v → same shape.Name u.shape ≡ true → Is Parameters [] zs x → Is MethodResult [] qs z
    → Is TraitMethod [] (t ∷ (us ++ (u ∷ (zs ++ qs)))) (node_five five_of.TraitMethod (leaf t) v (leaf u) x z)
trait_method_kind {t = t} {u = u} {zs = zs} {qs = qs} {v = v} {x = x} {z = y} e (trait_kind {us = us} {ws = ws} a b) f g h =
    subst (λ z. Is TraitMethod [] (t ∷ z) (node_five five_of.TraitMethod (leaf t) v (leaf u) x y)) (sym (append_assoc us ws (u ∷ (zs ++ qs)))) (is_trait_method t us _ ws v u zs x qs y e a b f g h)

trait_method_of : {source print : List ℕ} {line mid last next : Bool} {s : ℕ} {a b c d e : Tree} {us ws zs qs ps : List Terminal} → TokenAt source print (λ y. y ≡ shape.Keyword keyword.Fn) line a us mid → ReadAs source print TraitKind b ws → TokenAt source print (λ y. y ≡ shape.Name) last c zs next
    → ReadAs source print (Is Parameters []) d qs → ReadAs source print (Is MethodResult []) e ps → ReadAs source print (Is TraitMethod []) (Five five_of.TraitMethod s a b c d e) (us ++ (ws ++ (zs ++ (qs ++ ps))))
trait_method_of (token_at {u = t} n h e) p (token_at {u = u} m i f) q r =
    record { value = node_five five_of.TraitMethod (leaf t) p.value (leaf u) q.value r.value; kind = trait_method_kind (has e) p.kind (has f) q.kind r.kind; alike = alike.five (alike.token h) p.alike (alike.token i) q.alike r.alike }

trait_method : {source print : List ℕ} {line end : Bool} {s : ℕ} {a b c d e : Tree} {us : List Terminal} → Kept (λ y. y ≡ shape.Keyword keyword.Fn) a → WordsTree source print TraitKind b → Kept (λ y. y ≡ shape.Name) c → Perhaps (Each (Reading source print (Is Parameter []))) d → Perhaps (Typed source print) e
    → Stepped source print (five_children a b c d e) line (first ∷ second_as context.Words ∷ third ∷ fourth_as context.Parenthesised ∷ fifth_as context.Returned ∷ []) us end → ReadAs source print (Is TraitMethod []) (Five five_of.TraitMethod s a b c d e) us
trait_method f g k l i (next h (next m (next o (next p (last q))))) = trait_method_of (word_read f h) (g _ _ _ m) (word_read k o) (parameters l p) (method_result i q)

pub trait_method_form : {source print : List ℕ} {s : ℕ} {a b c d e : Tree} → Kept (λ y. y ≡ shape.Keyword keyword.Fn) a → WordsTree source print TraitKind b → Kept (λ y. y ≡ shape.Name) c → Perhaps (Each (Reading source print (Is Parameter []))) d → Perhaps (Typed source print) e
    → Reading source print (Is TraitMethod []) (Five five_of.TraitMethod s a b c d e)
trait_method_form {s = s} {a = a} {b = b} {c = c} {d = d} {e = e} f g k l i line end us h = trait_method f g k l i (step_five five_of.TraitMethod s a b c d e context.Expression h)
