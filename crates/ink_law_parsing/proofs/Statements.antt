-- Blocks, statements, conditions, loops and matches.
use Rattle.std.proofs.Common.{◌≡◌, ℕ, Bool, true, false, List, [], ◌∷◌, ◌++◌, refl, subst}
use Rattle.ink_grammar.specs.declared.token.Keyword.TheVariants as keyword
use Rattle.ink_grammar.specs.declared.token.Mark.TheVariants as mark
use Rattle.ink_grammar.specs.declared.token.Shape.TheVariants as shape
use Rattle.ink_grammar.specs.declared.token.Terminal.{Terminal}
use Rattle.ink_grammar.specs.declared.symbol.Wanted.TheVariants as wanted
use Rattle.ink_grammar.specs.declared.tree.OneChild.TheVariants as one_of
use Rattle.ink_grammar.specs.declared.tree.TwoChildren.TheVariants as two_of
use Rattle.ink_grammar.specs.declared.tree.ThreeChildren.TheVariants as three_of
use Rattle.ink_grammar.specs.declared.tree.FourChildren.TheVariants as four_of
use Rattle.ink_grammar.specs.Shapes.{same}
use Rattle.ink_grammar.specs.Tree.{Tree, Missing, One, Two, Three, Four, Found, leaf, no_items, nothing, node_one, node_two, node_three, node_four}
use Rattle.ink_grammar.specs.Parts.{Block, Statements, MoreStatements, Statement, Chain, Conditional, ElseRest, ElseBranch, Primary}
use Rattle.ink_grammar.specs.Productions.{Is, is_block, is_statements_1, is_statements_2, is_more_statements_1, is_more_statements_2, is_statement_2, is_chain_rest_2, is_conditional, is_else_rest_1, is_else_rest_2, is_else_branch_1, is_else_branch_2, is_recover_rest_1, is_recover_rest_2, is_primary_5, is_primary_6, is_primary_7}
use Rattle.ink_print.specs.declared.context.Context.TheVariants as context
use Rattle.ink_print.specs.declared.step.Piece.TheVariants as piece
use Rattle.ink_print.specs.declared.step.Sign.TheVariants as sign
use Rattle.ink_print.specs.declared.step.Step.TheVariants as step
use Rattle.ink_print.specs.Table.{first, second, third, first_as, second_as, fourth_as}
use Rattle.ink_print.specs.Printed.{fill, printed}
use Rattle.ink_law_categories.specs.Spells.{Spells, a_sign}
use Rattle.ink_law_categories.specs.Spells as spells
use Rattle.ink_law_categories.specs.Alike as alike
use Rattle.ink_law_parsing.proofs.Steps.{Stepped, stop, put, last, next, one_child, two_children, three_children, four_children, step_one, step_two, step_three, step_four}
use Rattle.ink_law_parsing.proofs.Words.{has, has_sign, Kept, TokenAt, token_at, word_read, bracket_alike}
use Rattle.ink_law_parsing.proofs.Lists.{Each, Perhaps, left_out, there, ReadAs, Items, item, body_of_each}
use Rattle.ink_law_parsing.proofs.Contexts.{Headed, opens_fresh, At, at_widened, linkable_primary, chain_chained, ReadsAt, Expressed, base_form}
use Rattle.ink_law_parsing.proofs.Chains.{RecoverKind, RightKind}

-- a statement on a line of its own, or not
abbrev pub StatementAt : Bool → List Terminal → Found → Type 0
StatementAt line us v = Is Statement [] us v × Headed line us

abbrev pub StatementTree : List ℕ → List ℕ → Tree → Type 0
StatementTree source print a = (line end : Bool) (us : List Terminal) → Spells source print line (printed a context.Expression) us end → ReadAs source print (StatementAt line) a us

statement_read : {source print : List ℕ} (b : Tree) (line end : Bool) (us : List Terminal) → StatementTree source print b → Spells source print line (printed b context.Expression) us end → ReadAs source print (StatementAt line) b us
statement_read b line end us g h = g line end us h

abbrev StatementsBehind : Found → List Terminal → Found → Type 0
StatementsBehind a us v = Is MoreStatements (a ∷ []) us v

more_statements : (a : Found) (w : List Terminal) (y : Found) → Items StatementAt StatementsBehind true a w y → Is MoreStatements (a ∷ []) w y
more_statements a w y (item p r) = is_more_statements_1 _ _ _ _ p.0 (opens_fresh _ p.1) r

some_statements : (w : List Terminal) (y : Found) → Items StatementAt StatementsBehind true no_items w y → Is Statements (no_items ∷ []) w y
some_statements w y (item p r) = is_statements_1 _ _ _ _ p.0 r

statements : {source print : List ℕ} {line end : Bool} {a : Tree} {us : List Terminal} → Each (StatementTree source print) a → Spells source print line (printed a context.Body) us end → ReadAs source print (Is Statements (no_items ∷ [])) a us
statements g h = body_of_each statement_read more_statements (λ v. is_more_statements_2) is_statements_2 some_statements g h

-- a block, alone, behind `else` and behind `recover`
pub record Blocked (source print : List ℕ) (a : Tree) : Type 0 where
  pub plain : ReadsAt source print (Is Block []) context.Expression a
  pub otherwise : printed a context.Otherwise ≡ piece.Sign sign.Else ∷ printed a context.Expression
  pub operand : printed a context.Operand ≡ printed a context.Expression

block : {source print : List ℕ} {line end : Bool} {s : ℕ} {a b c : Tree} {us : List Terminal} → Kept (λ y. y ≡ shape.Mark mark.LeftBrace) a → Each (StatementTree source print) b → Kept (λ y. y ≡ shape.Mark mark.RightBrace) c
    → Stepped source print (three_children a b c) line (step.Sign sign.BlockOpening ∷ second_as context.Body ∷ step.Sign sign.BlockClosing ∷ []) us end → At source print (Is Block []) (Three three_of.Block s a b c) line end us
block f g k (put {u = t} n e (next h (put {u = u} m i stop))) = let r = statements g h in
    record { value = node_three three_of.Block (leaf t) r.value (leaf u); kind = is_block t _ _ u (has_sign e) r.kind (has_sign i); alike = alike.three (bracket_alike f refl e) r.alike (bracket_alike k refl i); headed = n; ended = refl }

pub block_form : {source print : List ℕ} {s : ℕ} {a b c : Tree} → Kept (λ y. y ≡ shape.Mark mark.LeftBrace) a → Each (StatementTree source print) b → Kept (λ y. y ≡ shape.Mark mark.RightBrace) c → Blocked source print (Three three_of.Block s a b c)
unfolding printed
block_form {s = s} {a = a} {b = b} {c = c} f g k = record { plain = λ line end us h. block f g k (step_three three_of.Block s a b c context.Expression h); otherwise = refl; operand = refl }

-- an expression that counts as a statement
pub data Counts (source print : List ℕ) : Tree → Type 0 where
  counts : {s : ℕ} {a : Tree} → Expressed source print a → Counts source print (One one_of.Statement s a)

value_of : {source print : List ℕ} {line end : Bool} {s : ℕ} {a : Tree} {us : List Terminal} → Expressed source print a → Stepped source print (one_child a) line (first ∷ []) us end → ReadAs source print (StatementAt line) (One one_of.Statement s a) us
value_of g (last h) = let r = g.at_expression _ _ _ h in record { value = node_one one_of.Statement r.value; kind = (is_statement_2 _ _ r.kind, r.headed); alike = alike.one r.alike }

pub value_statement_form : {source print : List ℕ} {s : ℕ} {a : Tree} → Expressed source print a → StatementTree source print (One one_of.Statement s a)
value_statement_form {s = s} {a = a} g line end us h = value_of g (step_one one_of.Statement s a context.Expression h)

-- what `recover` takes
pub recovered_block_form : {source print : List ℕ} {a : Tree} → Blocked source print a → ReadsAt source print RecoverKind context.Operand a
recovered_block_form {source = source} {print = print} g line end us h = at_widened (λ u v k x. is_recover_rest_1 u v k) (g.plain line end us (subst (λ z. Spells source print line z us end) g.operand h))

recovered : {source print : List ℕ} {line end : Bool} {s : ℕ} {a : Tree} {us : List Terminal} → Expressed source print a → Stepped source print (one_child a) line (first_as context.Operand ∷ []) us end → At source print RecoverKind (One one_of.Statement s a) line end us
recovered g (last h) = let r = g.at_operand _ _ _ h in record { value = node_one one_of.Statement r.value; kind = λ x. is_recover_rest_2 _ _ r.kind; alike = alike.one r.alike; headed = r.headed; ended = r.ended }

pub recovered_value_form : {source print : List ℕ} {a : Tree} → Counts source print a → ReadsAt source print RecoverKind context.Operand a
recovered_value_form (counts {s = s} {a = a} g) line end us h = recovered g (step_one one_of.Statement s a context.Operand h)

-- the right operand of `and` or `or`
logical_right : {source print : List ℕ} {line end : Bool} {s : ℕ} {a : Tree} {us : List Terminal} → Expressed source print a → Stepped source print (one_child a) line (first_as context.Operand ∷ []) us end → At source print (RightKind wanted.Logical) (One one_of.Statement s a) line end us
logical_right g (last h) = let r = g.at_operand _ _ _ h in record { value = node_one one_of.Statement r.value; kind = λ t a w x stands is m. is_chain_rest_2 t _ _ w x stands is r.kind m; alike = alike.one r.alike; headed = r.headed; ended = r.ended }

pub logical_right_form : {source print : List ℕ} {a : Tree} → Counts source print a → ReadsAt source print (RightKind wanted.Logical) context.Operand a
logical_right_form (counts {s = s} {a = a} g) line end us h = logical_right g (step_one one_of.Statement s a context.Operand h)

-- a condition
pub data ConditionKind : List Terminal → Found → Type 0 where
  condition_of : {us : List Terminal} {v : Found} → Is Chain [] us v → ConditionKind us (node_one one_of.Statement v)

chain_of : {source print : List ℕ} {line end : Bool} {s : ℕ} {a : Tree} {us : List Terminal} → Expressed source print a → Stepped source print (one_child a) line (first_as context.Chain ∷ []) us end → ReadAs source print ConditionKind (One one_of.Statement s a) us
chain_of g (last h) = let r = g.at_chain _ _ _ h in record { value = node_one one_of.Statement r.value; kind = condition_of (chain_chained _ _ r.kind); alike = alike.one r.alike }

pub condition : {source print : List ℕ} {line end : Bool} {a : Tree} {us : List Terminal} → Counts source print a → Spells source print line (printed a context.Chain) us end → ReadAs source print ConditionKind a us
condition (counts {s = s} {a = a} g) h = chain_of g (step_one one_of.Statement s a context.Chain h)

-- what stands behind `else`
pub record Branched (source print : List ℕ) (a : Tree) : Type 0 where
  pub plain : ReadsAt source print (Is ElseBranch []) context.Expression a
  pub otherwise : printed a context.Otherwise ≡ piece.Sign sign.Else ∷ printed a context.Expression

pub block_branch_form : {source print : List ℕ} {a : Tree} → Blocked source print a → Branched source print a
block_branch_form g = record { plain = λ line end us h. at_widened (λ u v k. is_else_branch_1 u v k) (g.plain line end us h); otherwise = g.otherwise }

abbrev ElseKind : List Terminal → Found → Type 0
ElseKind us v = (x y z : Found) → Is ElseRest (z ∷ y ∷ x ∷ []) us (node_four four_of.If x y z v)

else_branch : {source print : List ℕ} {line end : Bool} {a : Tree} {us : List Terminal} → ReadsAt source print (Is ElseBranch []) context.Expression a → Spells source print line (piece.Sign sign.Else ∷ printed a context.Expression) us end → ReadAs source print ElseKind a us × (end ≡ false)
else_branch f (a_sign {u = t} n e h) = let r = f _ _ _ h in (record { value = r.value; kind = λ x y z. is_else_rest_1 t _ _ (has_sign e) r.kind; alike = r.alike }, r.ended)

else_none : {source print : List ℕ} {line end : Bool} {us : List Terminal} → line ≡ false → Spells source print line [] us end → ReadAs source print ElseKind Missing us × (end ≡ false)
else_none e spells.nothing = (record { value = nothing; kind = λ x y z. is_else_rest_2; alike = alike.missing }, e)

else_read : {source print : List ℕ} {line end : Bool} {a : Tree} {us : List Terminal} → line ≡ false → Perhaps (Branched source print) a → Spells source print line (printed a context.Otherwise) us end → ReadAs source print ElseKind a us × (end ≡ false)
unfolding printed
else_read e left_out h = else_none e h
else_read {source = source} {print = print} {line = line} {end = end} {us = us} e (there g) h = else_branch g.plain (subst (λ z. Spells source print line z us end) g.otherwise h)

-- a conditional
pub record ConditionalTree (source print : List ℕ) (a : Tree) : Type 0 where
  pub expressed : Expressed source print a
  pub branched : Branched source print a

conditional_kind : {t : Terminal} {u0 u1 u2 : List Terminal} {v0 v1 : Found} (v2 : Found) → same (shape.Keyword keyword.If) t.shape ≡ true → ConditionKind u0 v0 → Is Block [] u1 v1 → ElseKind u2 v2 → Is Conditional [] (t ∷ (u0 ++ (u1 ++ u2))) (node_four four_of.If (leaf t) v0 v1 v2)
conditional_kind {t = t} v2 e (condition_of k) b f = is_conditional t _ _ _ _ _ _ e k b (f (leaf t) _ _)

conditional_of : {source print : List ℕ} {line mid last end : Bool} {s : ℕ} {a b c d : Tree} {us ws zs qs : List Terminal} → TokenAt source print (λ y. y ≡ shape.Keyword keyword.If) line a us mid → ReadAs source print ConditionKind b ws → At source print (Is Block []) c last end zs
    → {fin : Bool} → ReadAs source print ElseKind d qs × (fin ≡ false) → At source print (Is Conditional []) (Four four_of.If s a b c d) line fin (us ++ (ws ++ (zs ++ qs)))
conditional_of (token_at {u = t} n h e) p q r =
    record { value = node_four four_of.If (leaf t) p.value q.value r.0.value; kind = conditional_kind r.0.value (has e) p.kind q.kind r.0.kind; alike = alike.four (alike.token h) p.alike q.alike r.0.alike; headed = n; ended = r.1 }

conditional : {source print : List ℕ} {line end : Bool} {s : ℕ} {a b c d : Tree} {us : List Terminal} → Kept (λ y. y ≡ shape.Keyword keyword.If) a → Counts source print b → Blocked source print c → Perhaps (Branched source print) d
    → Stepped source print (four_children a b c d) line (first ∷ second_as context.Chain ∷ third ∷ fourth_as context.Otherwise ∷ []) us end → At source print (Is Conditional []) (Four four_of.If s a b c d) line end us
conditional f g k l (next h (next m (next o (last q)))) = let b = k.plain _ _ _ o in conditional_of (word_read f h) (condition g m) b (else_read b.ended l q)

pub if_form : {source print : List ℕ} {s : ℕ} {a b c d : Tree} → Kept (λ y. y ≡ shape.Keyword keyword.If) a → Counts source print b → Blocked source print c → Perhaps (Branched source print) d → ConditionalTree source print (Four four_of.If s a b c d)
unfolding printed
if_form {s = s} {a = a} {b = b} {c = c} {d = d} f g k l = record {
  expressed = base_form (fill (four_children a b c d) (first ∷ second_as context.Chain ∷ third ∷ fourth_as context.Otherwise ∷ [])) refl refl refl refl refl
      (λ line end us h. at_widened linkable_primary (at_widened (λ u v k. is_primary_5 u v k) (conditional f g k l (step_four four_of.If s a b c d context.Expression h))));
  branched = record { plain = λ line end us h. at_widened (λ u v k. is_else_branch_2 u v k) (conditional f g k l (step_four four_of.If s a b c d context.Expression h)); otherwise = refl };
}

-- loops
while_kind : {t : Terminal} {u0 u1 : List Terminal} {v0 v1 : Found} → same (shape.Keyword keyword.While) t.shape ≡ true → ConditionKind u0 v0 → Is Block [] u1 v1 → Is Primary [] (t ∷ (u0 ++ u1)) (node_three three_of.While (leaf t) v0 v1)
while_kind {t = t} e (condition_of k) b = is_primary_6 t _ _ _ _ e k b

while_of : {source print : List ℕ} {line mid last end : Bool} {s : ℕ} {a b c : Tree} {us ws zs : List Terminal} → TokenAt source print (λ y. y ≡ shape.Keyword keyword.While) line a us mid → ReadAs source print ConditionKind b ws → At source print (Is Block []) c last end zs
    → At source print (Is Primary []) (Three three_of.While s a b c) line end (us ++ (ws ++ zs))
while_of (token_at {u = t} n h e) p q = record { value = node_three three_of.While (leaf t) p.value q.value; kind = while_kind (has e) p.kind q.kind; alike = alike.three (alike.token h) p.alike q.alike; headed = n; ended = q.ended }

while : {source print : List ℕ} {line end : Bool} {s : ℕ} {a b c : Tree} {us : List Terminal} → Kept (λ y. y ≡ shape.Keyword keyword.While) a → Counts source print b → Blocked source print c
    → Stepped source print (three_children a b c) line (first ∷ second_as context.Chain ∷ third ∷ []) us end → At source print (Is Primary []) (Three three_of.While s a b c) line end us
while f g k (next h (next m (last o))) = while_of (word_read f h) (condition g m) (k.plain _ _ _ o)

pub while_form : {source print : List ℕ} {s : ℕ} {a b c : Tree} → Kept (λ y. y ≡ shape.Keyword keyword.While) a → Counts source print b → Blocked source print c → Expressed source print (Three three_of.While s a b c)
unfolding printed
while_form {s = s} {a = a} {b = b} {c = c} f g k = base_form (fill (three_children a b c) (first ∷ second_as context.Chain ∷ third ∷ [])) refl refl refl refl refl (λ line end us h. at_widened linkable_primary (while f g k (step_three three_of.While s a b c context.Expression h)))

loop_of : {source print : List ℕ} {line mid end : Bool} {s : ℕ} {a b : Tree} {us ws : List Terminal} → TokenAt source print (λ y. y ≡ shape.Keyword keyword.Loop) line a us mid → At source print (Is Block []) b mid end ws → At source print (Is Primary []) (Two two_of.Loop s a b) line end (us ++ ws)
loop_of (token_at {u = t} n h e) q = record { value = node_two two_of.Loop (leaf t) q.value; kind = is_primary_7 t _ _ (has e) q.kind; alike = alike.two (alike.token h) q.alike; headed = n; ended = q.ended }

loop : {source print : List ℕ} {line end : Bool} {s : ℕ} {a b : Tree} {us : List Terminal} → Kept (λ y. y ≡ shape.Keyword keyword.Loop) a → Blocked source print b → Stepped source print (two_children a b) line (first ∷ second ∷ []) us end → At source print (Is Primary []) (Two two_of.Loop s a b) line end us
loop f g (next h (last m)) = loop_of (word_read f h) (g.plain _ _ _ m)

pub loop_form : {source print : List ℕ} {s : ℕ} {a b : Tree} → Kept (λ y. y ≡ shape.Keyword keyword.Loop) a → Blocked source print b → Expressed source print (Two two_of.Loop s a b)
unfolding printed
loop_form {s = s} {a = a} {b = b} f g = base_form (fill (two_children a b) (first ∷ second ∷ [])) refl refl refl refl refl (λ line end us h. at_widened linkable_primary (loop f g (step_two two_of.Loop s a b context.Expression h)))
