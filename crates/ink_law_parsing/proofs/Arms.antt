-- Bindings, and the arms of a match.
use Rattle.std.proofs.Common.{◌≡◌, ◌⊎◌, ℕ, Bool, true, false, List, [], ◌∷◌, ◌++◌, Some, inl, inr, refl, sym, subst}
use Rattle.std.proofs.lemmas.List.{append_assoc}
use Rattle.ink_grammar.specs.declared.token.Keyword.TheVariants as keyword
use Rattle.ink_grammar.specs.declared.token.Mark.TheVariants as mark
use Rattle.ink_grammar.specs.declared.token.Shape.{Shape}
use Rattle.ink_grammar.specs.declared.token.Shape.TheVariants as shape
use Rattle.ink_grammar.specs.declared.token.Terminal.{Terminal}
use Rattle.ink_grammar.specs.declared.tree.OneChild.TheVariants as one_of
use Rattle.ink_grammar.specs.declared.tree.ThreeChildren.TheVariants as three_of
use Rattle.ink_grammar.specs.declared.tree.FourChildren.TheVariants as four_of
use Rattle.ink_grammar.specs.declared.tree.FiveChildren.TheVariants as five_of
use Rattle.ink_grammar.specs.Shapes.{same}
use Rattle.ink_grammar.specs.Tree.{Tree, One, Three, Four, Five, Found, leaf, no_items, node_one, node_three, node_four, node_five}
use Rattle.ink_grammar.specs.Parts.{Mutable, LetType, Expression, Arms, Arm, Guard, ArmValue, Primary, Pattern}
use Rattle.ink_grammar.specs.Productions.{Is, is_statement_1, is_mutable_1, is_mutable_2, is_let_name_1, is_let_name_2, is_let_type_1, is_let_type_2, is_arms_1, is_arms_2, is_arm, is_guard_1, is_guard_2, is_arm_value_1, is_arm_value_2, is_primary_8}
use Rattle.ink_print.specs.declared.context.Context.TheVariants as context
use Rattle.ink_print.specs.declared.step.Piece.TheVariants as piece
use Rattle.ink_print.specs.declared.step.Sign.TheVariants as sign
use Rattle.ink_print.specs.declared.step.Step.TheVariants as step
use Rattle.ink_print.specs.Table.{first, second, third, fourth, fifth, first_as, second_as, third_as, fourth_as}
use Rattle.ink_print.specs.Printed.{fill, printed}
use Rattle.ink_law_categories.specs.Spells.{Spells, a_sign}
use Rattle.ink_grammar.specs.Parts as parts
use Rattle.ink_law_categories.specs.Alike as alike
use Rattle.ink_law_parsing.proofs.Steps.{Stepped, stop, put, last, next, one_child, three_children, four_children, five_children, step_one, step_three, step_four, step_five}
use Rattle.ink_law_parsing.proofs.Words.{has, has_sign, Kept, TokenAt, token_at, word_read}
use Rattle.ink_law_parsing.proofs.Lists.{EachOfSome, Perhaps, left_out, there, ReadAs, Items, item, widened, read_missing, body_of_some, Reading}
use Rattle.ink_law_parsing.proofs.Types.{Typed}
use Rattle.ink_law_parsing.proofs.Contexts.{At, at_widened, read_of, linkable_primary, chain_chained, Expressed, base_form}
use Rattle.ink_law_parsing.proofs.Statements.{StatementAt, StatementTree, Blocked, Counts, ConditionKind, condition, counts, condition_of}
use Rattle.ink_law_parsing.proofs.Patterns.{PatternKind, pattern_read}

-- what may be bound
abbrev pub LetName : Shape → Type 0
LetName y = (y ≡ shape.Name) ⊎ (y ≡ shape.Underscore)

let_name : {u : Terminal} → LetName u.shape → Is parts.LetName [] (u ∷ []) (leaf u)
let_name {u = u} (inl e) = is_let_name_1 u (has e)
let_name {u = u} (inr e) = is_let_name_2 u (has e)

let_named : {source print : List ℕ} {line end : Bool} {a : Tree} {us : List Terminal} → TokenAt source print LetName line a us end → ReadAs source print (Is parts.LetName []) a us
let_named (token_at {u = u} n h e) = record { value = leaf u; kind = let_name e; alike = alike.token h }

mutable_of : {source print : List ℕ} {line end : Bool} {a : Tree} {us : List Terminal} → TokenAt source print (λ y. y ≡ shape.Keyword keyword.Mut) line a us end → ReadAs source print (Is Mutable []) a us
mutable_of (token_at {u = u} n h e) = record { value = leaf u; kind = is_mutable_1 u (has e); alike = alike.token h }

mutable : {source print : List ℕ} {line end : Bool} {a : Tree} {us : List Terminal} → Perhaps (Kept (λ y. y ≡ shape.Keyword keyword.Mut)) a → Spells source print line (printed a context.Expression) us end → ReadAs source print (Is Mutable []) a us
unfolding printed
mutable left_out h = read_missing is_mutable_2 h
mutable (there f) h = mutable_of (word_read f h)

annotated : {source print : List ℕ} {line end : Bool} {a : Tree} {us : List Terminal} → Typed source print a → Spells source print line (piece.Sign sign.Colon ∷ printed a context.Expression) us end → ReadAs source print (Is LetType []) a us
annotated g (a_sign {u = t} n e h) = let r = g.plain _ _ _ h in record { value = r.value; kind = is_let_type_1 t _ _ (has_sign e) r.kind; alike = r.alike }

let_type : {source print : List ℕ} {line end : Bool} {a : Tree} {us : List Terminal} → Perhaps (Typed source print) a → Spells source print line (printed a context.Annotated) us end → ReadAs source print (Is LetType []) a us
unfolding printed
let_type left_out h = read_missing is_let_type_2 h
let_type {source = source} {print = print} {line = line} {end = end} {us = us} (there g) h = annotated g (subst (λ z. Spells source print line z us end) g.annotated h)

-- a binding
bound_of : {source print : List ℕ} {line mid : Bool} {s : ℕ} {a b c d e : Tree} {us ws zs qs ps : List Terminal} (t : Terminal) → TokenAt source print (λ y. y ≡ shape.Keyword keyword.Let) line a us mid → ReadAs source print (Is Mutable []) b ws → ReadAs source print (Is parts.LetName []) c zs → ReadAs source print (Is LetType []) d qs
    → Some (shape.Mark mark.Equals) ≡ Some t.shape → ReadAs source print (Is Expression []) e ps → ReadAs source print (StatementAt line) (Five five_of.Let s a b c d e) (us ++ (ws ++ (zs ++ (qs ++ (t ∷ ps)))))
bound_of t (token_at {u = u} n h e) p q r f m = record { value = node_five five_of.Let (leaf u) p.value q.value r.value m.value; kind = (is_statement_1 u _ _ _ _ _ _ t _ _ (has e) p.kind q.kind r.kind (has_sign f) m.kind, n); alike = alike.five (alike.token h) p.alike q.alike r.alike m.alike }

bound : {source print : List ℕ} {line end : Bool} {s : ℕ} {a b c d e : Tree} {us : List Terminal} → Kept (λ y. y ≡ shape.Keyword keyword.Let) a → Perhaps (Kept (λ y. y ≡ shape.Keyword keyword.Mut)) b → Kept LetName c → Perhaps (Typed source print) d → Expressed source print e
    → Stepped source print (five_children a b c d e) line (first ∷ second ∷ third ∷ fourth_as context.Annotated ∷ step.Sign sign.Equals ∷ fifth ∷ []) us end → ReadAs source print (StatementAt line) (Five five_of.Let s a b c d e) us
bound f g k l m (next h (next o (next p (next q (put n e (last r)))))) = bound_of _ (word_read f h) (mutable g o) (let_named (word_read k p)) (let_type l q) e (read_of (m.at_expression _ _ _ r))

pub let_form : {source print : List ℕ} {s : ℕ} {a b c d e : Tree} → Kept (λ y. y ≡ shape.Keyword keyword.Let) a → Perhaps (Kept (λ y. y ≡ shape.Keyword keyword.Mut)) b → Kept LetName c → Perhaps (Typed source print) d → Expressed source print e
    → StatementTree source print (Five five_of.Let s a b c d e)
let_form {s = s} {a = a} {b = b} {c = c} {d = d} {e = e} f g k l m line end us h = bound f g k l m (step_five five_of.Let s a b c d e context.Expression h)

-- the value of an arm
pub arm_block_form : {source print : List ℕ} {a : Tree} → Blocked source print a → Reading source print (Is ArmValue []) a
arm_block_form g line end us h = widened (λ u v k. is_arm_value_1 u v k) (read_of (g.plain line end us h))

arm_value : {source print : List ℕ} {line end : Bool} {s : ℕ} {a : Tree} {us : List Terminal} → Expressed source print a → Stepped source print (one_child a) line (first ∷ []) us end → ReadAs source print (Is ArmValue []) (One one_of.Statement s a) us
arm_value g (last h) = let r = g.at_expression _ _ _ h in record { value = node_one one_of.Statement r.value; kind = is_arm_value_2 _ _ r.kind; alike = alike.one r.alike }

pub arm_value_form : {source print : List ℕ} {a : Tree} → Counts source print a → Reading source print (Is ArmValue []) a
arm_value_form (counts {s = s} {a = a} g) line end us h = arm_value g (step_one one_of.Statement s a context.Expression h)

-- the condition of an arm
guarded : {source print : List ℕ} {line end : Bool} {s : ℕ} {a : Tree} {us : List Terminal} → Expressed source print a → Stepped source print (one_child a) line (step.Sign sign.If ∷ first_as context.Chain ∷ []) us end → ReadAs source print (Is Guard []) (One one_of.Statement s a) us
guarded g (put {u = t} n e (last h)) = let r = g.at_chain _ _ _ h in record { value = node_one one_of.Statement r.value; kind = is_guard_1 t _ _ (has_sign e) (chain_chained _ _ r.kind); alike = alike.one r.alike }

guard : {source print : List ℕ} {line end : Bool} {a : Tree} {us : List Terminal} → Perhaps (Counts source print) a → Spells source print line (printed a context.Guard) us end → ReadAs source print (Is Guard []) a us
unfolding printed
guard left_out h = read_missing is_guard_2 h
guard (there (counts {s = s} {a = a} g)) h = guarded g (step_one one_of.Statement s a context.Guard h)

-- an arm
arm_of : {source print : List ℕ} {line mid : Bool} {s : ℕ} {a b c d : Tree} {us ws zs qs : List Terminal} (t : Terminal) → TokenAt source print (λ y. y ≡ shape.Keyword keyword.Case) line a us mid → ReadAs source print (Is Pattern []) b ws → ReadAs source print (Is Guard []) c zs
    → Some (shape.Mark mark.Arrow) ≡ Some t.shape → ReadAs source print (Is ArmValue []) d qs → ReadAs source print (Is Arm []) (Four four_of.Arm s a b c d) (us ++ (ws ++ (zs ++ (t ∷ qs))))
arm_of t (token_at {u = u} n h e) p q f r = record { value = node_four four_of.Arm (leaf u) p.value q.value r.value; kind = is_arm u _ _ _ _ t _ _ (has e) p.kind q.kind (has_sign f) r.kind; alike = alike.four (alike.token h) p.alike q.alike r.alike }

arm : {source print : List ℕ} {line end : Bool} {s : ℕ} {a b c d : Tree} {us : List Terminal} → Kept (λ y. y ≡ shape.Keyword keyword.Case) a → Reading source print PatternKind b → Perhaps (Counts source print) c → Reading source print (Is ArmValue []) d
    → Stepped source print (four_children a b c d) line (first ∷ second ∷ third_as context.Guard ∷ step.Sign sign.Arrow ∷ fourth ∷ []) us end → ReadAs source print (Is Arm []) (Four four_of.Arm s a b c d) us
arm f g k l (next h (next m (next o (put n e (last q))))) = arm_of _ (word_read f h) (pattern_read (g _ _ _ m)) (guard k o) e (l _ _ _ q)

pub arm_form : {source print : List ℕ} {s : ℕ} {a b c d : Tree} → Kept (λ y. y ≡ shape.Keyword keyword.Case) a → Reading source print PatternKind b → Perhaps (Counts source print) c → Reading source print (Is ArmValue []) d → Reading source print (Is Arm []) (Four four_of.Arm s a b c d)
arm_form {s = s} {a = a} {b = b} {c = c} {d = d} f g k l line end us h = arm f g k l (step_four four_of.Arm s a b c d context.Expression h)

-- a match
abbrev ArmItem : Bool → List Terminal → Found → Type 0
ArmItem line us v = Is Arm [] us v

arm_read : {source print : List ℕ} (b : Tree) (line end : Bool) (us : List Terminal) → Reading source print (Is Arm []) b → Spells source print line (printed b context.Expression) us end → ReadAs source print (Is Arm []) b us
arm_read b line end us g h = g line end us h

abbrev ArmsBehind : Found → List Terminal → Found → Type 0
ArmsBehind a us v = Is Arms (a ∷ []) us v

more_arms : (a : Found) (w : List Terminal) (y : Found) → Items ArmItem ArmsBehind true a w y → Is Arms (a ∷ []) w y
more_arms a w y (item p r) = is_arms_1 _ _ _ _ p r

arms : {source print : List ℕ} {line end : Bool} {a : Tree} {us : List Terminal} → EachOfSome (Reading source print (Is Arm [])) a → Spells source print line (printed a context.Body) us end → ReadAs source print (Items ArmItem ArmsBehind true no_items) a us
arms g h = body_of_some arm_read more_arms (λ v. is_arms_2) g h

match_kind : {t : Terminal} {us zs : List Terminal} {v x : Found} (u c : Terminal) → same (shape.Keyword keyword.Match) t.shape ≡ true → ConditionKind us v → same (shape.Mark mark.LeftBrace) u.shape ≡ true → Items ArmItem ArmsBehind true no_items zs x → same (shape.Mark mark.RightBrace) c.shape ≡ true
    → Is Primary [] (t ∷ (us ++ (u ∷ (zs ++ (c ∷ []))))) (node_three three_of.Match (leaf t) v x)
match_kind {t = t} {us = us} {x = x} u c e (condition_of {v = v} k) f (item {u = w} {w = z} p r) g =
    subst (λ y. Is Primary [] (t ∷ (us ++ (u ∷ y))) (node_three three_of.Match (leaf t) (node_one one_of.Statement v) x)) (sym (append_assoc w z (c ∷ []))) (is_primary_8 t us v u w _ z x c e k f p r g)

matched_of : {source print : List ℕ} {line mid : Bool} {s : ℕ} {a b c : Tree} {us ws zs : List Terminal} (t u : Terminal) → TokenAt source print (λ y. y ≡ shape.Keyword keyword.Match) line a us mid → ReadAs source print ConditionKind b ws → Some (shape.Mark mark.LeftBrace) ≡ Some t.shape
    → ReadAs source print (Items ArmItem ArmsBehind true no_items) c zs → Some (shape.Mark mark.RightBrace) ≡ Some u.shape → At source print (Is Primary []) (Three three_of.Match s a b c) line false (us ++ (ws ++ (t ∷ (zs ++ (u ∷ [])))))
matched_of t u (token_at {u = m} n h e) p f r g =
    record { value = node_three three_of.Match (leaf m) p.value r.value; kind = match_kind t u (has e) p.kind (has_sign f) r.kind (has_sign g); alike = alike.three (alike.token h) p.alike r.alike; headed = n; ended = refl }

matched : {source print : List ℕ} {line end : Bool} {s : ℕ} {a b c : Tree} {us : List Terminal} → Kept (λ y. y ≡ shape.Keyword keyword.Match) a → Counts source print b → EachOfSome (Reading source print (Is Arm [])) c
    → Stepped source print (three_children a b c) line (first ∷ second_as context.Chain ∷ step.Sign sign.BlockOpening ∷ third_as context.Body ∷ step.Sign sign.BlockClosing ∷ []) us end → At source print (Is Primary []) (Three three_of.Match s a b c) line end us
matched f g k (next h (next m (put n e (next o (put q i stop))))) = matched_of _ _ (word_read f h) (condition g m) e (arms k o) i

pub match_form : {source print : List ℕ} {s : ℕ} {a b c : Tree} → Kept (λ y. y ≡ shape.Keyword keyword.Match) a → Counts source print b → EachOfSome (Reading source print (Is Arm [])) c → Expressed source print (Three three_of.Match s a b c)
unfolding printed
match_form {s = s} {a = a} {b = b} {c = c} f g k = base_form (fill (three_children a b c) (first ∷ second_as context.Chain ∷ step.Sign sign.BlockOpening ∷ third_as context.Body ∷ step.Sign sign.BlockClosing ∷ [])) refl refl refl refl refl
    (λ line end us h. at_widened linkable_primary (matched f g k (step_three three_of.Match s a b c context.Expression h)))
