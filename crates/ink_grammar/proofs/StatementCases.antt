-- What the productions of blocks, statements and expressions find is found by cases.
use Rattle.std.proofs.Common.{◌≡◌, List, [], ◌∷◌, ◌++◌, inl, inr, sym, ap, subst, ◌∙◌, append-nil}
use Rattle.ink_grammar.specs.declared.token.Terminal.{Terminal}
use Rattle.ink_grammar.specs.declared.symbol.Nonterminal.TheVariants as part_of
use Rattle.ink_grammar.specs.declared.symbol.StatementPart.TheVariants as statement_of
use Rattle.ink_grammar.specs.declared.tree.OneChild.TheVariants as one_of
use Rattle.ink_grammar.specs.declared.tree.TwoChildren.TheVariants as two_of
use Rattle.ink_grammar.specs.declared.tree.ThreeChildren.TheVariants as three_of
use Rattle.ink_grammar.specs.declared.tree.FourChildren.TheVariants as four_of
use Rattle.ink_grammar.specs.declared.tree.FiveChildren.TheVariants as five_of
use Rattle.ink_grammar.specs.declared.symbol.StatementPart.{StatementPart}
use Rattle.ink_grammar.specs.declared.symbol.Symbol.{Symbol}
use Rattle.ink_grammar.specs.Grammar.{statement_rules}
use Rattle.ink_grammar.specs.Tree.{Found, leaf, nothing, node_one, node_two, node_three, node_four, node_five}
use Rattle.ink_grammar.specs.Reads.{Among}
use Rattle.ink_grammar.specs.Productions.{Is, is_block, is_statements_1, is_statements_2, is_more_statements_1, is_more_statements_2, is_statement_1, is_statement_2, is_mutable_1, is_mutable_2, is_let_name_1, is_let_name_2, is_let_type_1, is_let_type_2, is_expression_1, is_expression_2, is_jump_1, is_jump_2, is_jump_3, is_return_rest_1, is_return_rest_2, is_after_operand_1, is_after_operand_2, is_chain, is_chain_rest_1, is_chain_rest_2, is_chain_rest_3, is_unnamed_expression_1, is_unnamed_expression_2, is_conditional, is_else_rest_1, is_else_rest_2, is_else_branch_1, is_else_branch_2, is_arms_1, is_arms_2, is_arm, is_guard_1, is_guard_2, is_arm_value_1, is_arm_value_2}
use Rattle.ink_grammar.proofs.Samples.{nth}
use Rattle.ink_grammar.proofs.Meaning.{After, Means}

rule_is_block : (vs : List Found) (ts : List Terminal) (fin : List Found) → Means (nth 0 (statement_rules statement_of.Block)) (vs) ts fin → After (part_of.Statement statement_of.Block) (vs) ts (λ z. fin ≡ z)
rule_is_block vs ts fin m =
    let t0 = m.0 in
    let u0 = m.5.0 in
    let v0 = m.5.4.0 in
    let t1 = m.5.4.2.0 in
    let e : ts ≡ t0 ∷ (u0 ++ (t1 ∷ [])) = m.2 ∙ ap (λ z. t0 ∷ z) (m.5.2 ∙ ap (λ z. u0 ++ z) (m.5.4.2.2 ∙ ap (λ z. t1 ∷ z) (m.5.4.2.5.0))) in
    (node_three three_of.Block (leaf t0) v0 (leaf t1), subst (λ z. Is (part_of.Statement statement_of.Block) [] z (node_three three_of.Block (leaf t0) v0 (leaf t1))) (sym e) (is_block t0 u0 v0 t1 m.4 m.5.4.1 m.5.4.2.4), m.5.4.2.5.1)

rule_is_statements_1 : (a : Found) (vs : List Found) (ts : List Terminal) (fin : List Found) → Means (nth 0 (statement_rules statement_of.Statements)) (a ∷ vs) ts fin → After (part_of.Statement statement_of.Statements) (a ∷ vs) ts (λ z. fin ≡ z)
rule_is_statements_1 a vs ts fin m =
    let u0 = m.0 in
    let v0 = m.4.0 in
    let u1 = m.4.2.0 in
    let v1 = m.4.2.4.0 in
    let e : ts ≡ u0 ++ u1 = m.2 ∙ ap (λ z. u0 ++ z) (m.4.2.2 ∙ ap (λ z. u1 ++ z) m.4.2.4.2.0 ∙ append-nil u1) in
    (v1, subst (λ z. Is (part_of.Statement statement_of.Statements) (a ∷ []) z v1) (sym e) (is_statements_1 u0 v0 u1 v1 m.4.1 m.4.2.4.1), m.4.2.4.2.1)

rule_is_statements_2 : (a : Found) (vs : List Found) (ts : List Terminal) (fin : List Found) → Means (nth 1 (statement_rules statement_of.Statements)) (a ∷ vs) ts fin → After (part_of.Statement statement_of.Statements) (a ∷ vs) ts (λ z. fin ≡ z)
rule_is_statements_2 a vs ts fin m =
    let e : ts ≡ [] = m.0 in
    (a, subst (λ z. Is (part_of.Statement statement_of.Statements) (a ∷ []) z a) (sym e) is_statements_2, m.1)

rule_is_more_statements_1 : (a : Found) (vs : List Found) (ts : List Terminal) (fin : List Found) → Means (nth 0 (statement_rules statement_of.MoreStatements)) (a ∷ vs) ts fin → After (part_of.Statement statement_of.MoreStatements) (a ∷ vs) ts (λ z. fin ≡ z)
rule_is_more_statements_1 a vs ts fin m =
    let u0 = m.0 in
    let v0 = m.4.0 in
    let u1 = m.4.2.0 in
    let v1 = m.4.2.4.0 in
    let e : ts ≡ u0 ++ u1 = m.2 ∙ ap (λ z. u0 ++ z) (m.4.2.2 ∙ ap (λ z. u1 ++ z) m.4.2.4.2.0 ∙ append-nil u1) in
    (v1, subst (λ z. Is (part_of.Statement statement_of.MoreStatements) (a ∷ []) z v1) (sym e) (is_more_statements_1 u0 v0 u1 v1 m.4.1 m.3 m.4.2.4.1), m.4.2.4.2.1)

rule_is_more_statements_2 : (a : Found) (vs : List Found) (ts : List Terminal) (fin : List Found) → Means (nth 1 (statement_rules statement_of.MoreStatements)) (a ∷ vs) ts fin → After (part_of.Statement statement_of.MoreStatements) (a ∷ vs) ts (λ z. fin ≡ z)
rule_is_more_statements_2 a vs ts fin m =
    let e : ts ≡ [] = m.0 in
    (a, subst (λ z. Is (part_of.Statement statement_of.MoreStatements) (a ∷ []) z a) (sym e) is_more_statements_2, m.1)

rule_is_statement_1 : (vs : List Found) (ts : List Terminal) (fin : List Found) → Means (nth 0 (statement_rules statement_of.Statement)) (vs) ts fin → After (part_of.Statement statement_of.Statement) (vs) ts (λ z. fin ≡ z)
rule_is_statement_1 vs ts fin m =
    let t0 = m.0 in
    let u0 = m.5.0 in
    let v0 = m.5.4.0 in
    let u1 = m.5.4.2.0 in
    let v1 = m.5.4.2.4.0 in
    let u2 = m.5.4.2.4.2.0 in
    let v2 = m.5.4.2.4.2.4.0 in
    let t1 = m.5.4.2.4.2.4.2.0 in
    let u3 = m.5.4.2.4.2.4.2.5.0 in
    let v3 = m.5.4.2.4.2.4.2.5.4.0 in
    let e : ts ≡ t0 ∷ (u0 ++ (u1 ++ (u2 ++ (t1 ∷ u3)))) = m.2 ∙ ap (λ z. t0 ∷ z) (m.5.2 ∙ ap (λ z. u0 ++ z) (m.5.4.2.2 ∙ ap (λ z. u1 ++ z) (m.5.4.2.4.2.2 ∙ ap (λ z. u2 ++ z) (m.5.4.2.4.2.4.2.2 ∙ ap (λ z. t1 ∷ z) (m.5.4.2.4.2.4.2.5.2 ∙ ap (λ z. u3 ++ z) m.5.4.2.4.2.4.2.5.4.2.0 ∙ append-nil u3))))) in
    (node_five five_of.Let (leaf t0) v0 v1 v2 v3, subst (λ z. Is (part_of.Statement statement_of.Statement) [] z (node_five five_of.Let (leaf t0) v0 v1 v2 v3)) (sym e) (is_statement_1 t0 u0 v0 u1 v1 u2 v2 t1 u3 v3 m.4 m.5.4.1 m.5.4.2.4.1 m.5.4.2.4.2.4.1 m.5.4.2.4.2.4.2.4 m.5.4.2.4.2.4.2.5.4.1), m.5.4.2.4.2.4.2.5.4.2.1)

rule_is_statement_2 : (vs : List Found) (ts : List Terminal) (fin : List Found) → Means (nth 1 (statement_rules statement_of.Statement)) (vs) ts fin → After (part_of.Statement statement_of.Statement) (vs) ts (λ z. fin ≡ z)
rule_is_statement_2 vs ts fin m =
    let u0 = m.0 in
    let v0 = m.4.0 in
    let e : ts ≡ u0 = m.2 ∙ ap (λ z. u0 ++ z) m.4.2.0 ∙ append-nil u0 in
    (node_one one_of.Statement v0, subst (λ z. Is (part_of.Statement statement_of.Statement) [] z (node_one one_of.Statement v0)) (sym e) (is_statement_2 u0 v0 m.4.1), m.4.2.1)

rule_is_mutable_1 : (vs : List Found) (ts : List Terminal) (fin : List Found) → Means (nth 0 (statement_rules statement_of.Mutable)) (vs) ts fin → After (part_of.Statement statement_of.Mutable) (vs) ts (λ z. fin ≡ z)
rule_is_mutable_1 vs ts fin m =
    let t0 = m.0 in
    let e : ts ≡ t0 ∷ [] = m.2 ∙ ap (λ z. t0 ∷ z) (m.5.0) in
    (leaf t0, subst (λ z. Is (part_of.Statement statement_of.Mutable) [] z (leaf t0)) (sym e) (is_mutable_1 t0 m.4), m.5.1)

rule_is_mutable_2 : (vs : List Found) (ts : List Terminal) (fin : List Found) → Means (nth 1 (statement_rules statement_of.Mutable)) (vs) ts fin → After (part_of.Statement statement_of.Mutable) (vs) ts (λ z. fin ≡ z)
rule_is_mutable_2 vs ts fin m =
    let e : ts ≡ [] = m.0 in
    (nothing, subst (λ z. Is (part_of.Statement statement_of.Mutable) [] z nothing) (sym e) is_mutable_2, m.1)

rule_is_let_name_1 : (vs : List Found) (ts : List Terminal) (fin : List Found) → Means (nth 0 (statement_rules statement_of.LetName)) (vs) ts fin → After (part_of.Statement statement_of.LetName) (vs) ts (λ z. fin ≡ z)
rule_is_let_name_1 vs ts fin m =
    let t0 = m.0 in
    let e : ts ≡ t0 ∷ [] = m.2 ∙ ap (λ z. t0 ∷ z) (m.5.0) in
    (leaf t0, subst (λ z. Is (part_of.Statement statement_of.LetName) [] z (leaf t0)) (sym e) (is_let_name_1 t0 m.4), m.5.1)

rule_is_let_name_2 : (vs : List Found) (ts : List Terminal) (fin : List Found) → Means (nth 1 (statement_rules statement_of.LetName)) (vs) ts fin → After (part_of.Statement statement_of.LetName) (vs) ts (λ z. fin ≡ z)
rule_is_let_name_2 vs ts fin m =
    let t0 = m.0 in
    let e : ts ≡ t0 ∷ [] = m.2 ∙ ap (λ z. t0 ∷ z) (m.5.0) in
    (leaf t0, subst (λ z. Is (part_of.Statement statement_of.LetName) [] z (leaf t0)) (sym e) (is_let_name_2 t0 m.4), m.5.1)

rule_is_let_type_1 : (vs : List Found) (ts : List Terminal) (fin : List Found) → Means (nth 0 (statement_rules statement_of.LetType)) (vs) ts fin → After (part_of.Statement statement_of.LetType) (vs) ts (λ z. fin ≡ z)
rule_is_let_type_1 vs ts fin m =
    let t0 = m.0 in
    let u0 = m.5.0 in
    let v0 = m.5.4.0 in
    let e : ts ≡ t0 ∷ u0 = m.2 ∙ ap (λ z. t0 ∷ z) (m.5.2 ∙ ap (λ z. u0 ++ z) m.5.4.2.0 ∙ append-nil u0) in
    (v0, subst (λ z. Is (part_of.Statement statement_of.LetType) [] z v0) (sym e) (is_let_type_1 t0 u0 v0 m.4 m.5.4.1), m.5.4.2.1)

rule_is_let_type_2 : (vs : List Found) (ts : List Terminal) (fin : List Found) → Means (nth 1 (statement_rules statement_of.LetType)) (vs) ts fin → After (part_of.Statement statement_of.LetType) (vs) ts (λ z. fin ≡ z)
rule_is_let_type_2 vs ts fin m =
    let e : ts ≡ [] = m.0 in
    (nothing, subst (λ z. Is (part_of.Statement statement_of.LetType) [] z nothing) (sym e) is_let_type_2, m.1)

rule_is_expression_1 : (vs : List Found) (ts : List Terminal) (fin : List Found) → Means (nth 0 (statement_rules statement_of.Expression)) (vs) ts fin → After (part_of.Statement statement_of.Expression) (vs) ts (λ z. fin ≡ z)
rule_is_expression_1 vs ts fin m =
    let u0 = m.0 in
    let v0 = m.4.0 in
    let e : ts ≡ u0 = m.2 ∙ ap (λ z. u0 ++ z) m.4.2.0 ∙ append-nil u0 in
    (v0, subst (λ z. Is (part_of.Statement statement_of.Expression) [] z v0) (sym e) (is_expression_1 u0 v0 m.4.1), m.4.2.1)

rule_is_expression_2 : (vs : List Found) (ts : List Terminal) (fin : List Found) → Means (nth 1 (statement_rules statement_of.Expression)) (vs) ts fin → After (part_of.Statement statement_of.Expression) (vs) ts (λ z. fin ≡ z)
rule_is_expression_2 vs ts fin m =
    let u0 = m.0 in
    let v0 = m.4.0 in
    let u1 = m.4.2.0 in
    let v1 = m.4.2.4.0 in
    let e : ts ≡ u0 ++ u1 = m.2 ∙ ap (λ z. u0 ++ z) (m.4.2.2 ∙ ap (λ z. u1 ++ z) m.4.2.4.2.0 ∙ append-nil u1) in
    (v1, subst (λ z. Is (part_of.Statement statement_of.Expression) [] z v1) (sym e) (is_expression_2 u0 v0 u1 v1 m.4.1 m.4.2.4.1), m.4.2.4.2.1)

rule_is_jump_1 : (vs : List Found) (ts : List Terminal) (fin : List Found) → Means (nth 0 (statement_rules statement_of.Jump)) (vs) ts fin → After (part_of.Statement statement_of.Jump) (vs) ts (λ z. fin ≡ z)
rule_is_jump_1 vs ts fin m =
    let t0 = m.0 in
    let u0 = m.5.0 in
    let v0 = m.5.4.0 in
    let e : ts ≡ t0 ∷ u0 = m.2 ∙ ap (λ z. t0 ∷ z) (m.5.2 ∙ ap (λ z. u0 ++ z) m.5.4.2.0 ∙ append-nil u0) in
    (v0, subst (λ z. Is (part_of.Statement statement_of.Jump) [] z v0) (sym e) (is_jump_1 t0 u0 v0 m.4 m.5.4.1), m.5.4.2.1)

rule_is_jump_2 : (vs : List Found) (ts : List Terminal) (fin : List Found) → Means (nth 1 (statement_rules statement_of.Jump)) (vs) ts fin → After (part_of.Statement statement_of.Jump) (vs) ts (λ z. fin ≡ z)
rule_is_jump_2 vs ts fin m =
    let t0 = m.0 in
    let u0 = m.5.0 in
    let v0 = m.5.4.0 in
    let e : ts ≡ t0 ∷ u0 = m.2 ∙ ap (λ z. t0 ∷ z) (m.5.2 ∙ ap (λ z. u0 ++ z) m.5.4.2.0 ∙ append-nil u0) in
    (node_two two_of.Throw (leaf t0) v0, subst (λ z. Is (part_of.Statement statement_of.Jump) [] z (node_two two_of.Throw (leaf t0) v0)) (sym e) (is_jump_2 t0 u0 v0 m.4 m.5.4.1), m.5.4.2.1)

rule_is_jump_3 : (vs : List Found) (ts : List Terminal) (fin : List Found) → Means (nth 2 (statement_rules statement_of.Jump)) (vs) ts fin → After (part_of.Statement statement_of.Jump) (vs) ts (λ z. fin ≡ z)
rule_is_jump_3 vs ts fin m =
    let t0 = m.0 in
    let e : ts ≡ t0 ∷ [] = m.2 ∙ ap (λ z. t0 ∷ z) (m.5.0) in
    (leaf t0, subst (λ z. Is (part_of.Statement statement_of.Jump) [] z (leaf t0)) (sym e) (is_jump_3 t0 m.4), m.5.1)

rule_is_return_rest_1 : (a : Found) (vs : List Found) (ts : List Terminal) (fin : List Found) → Means (nth 0 (statement_rules statement_of.ReturnRest)) (a ∷ vs) ts fin → After (part_of.Statement statement_of.ReturnRest) (a ∷ vs) ts (λ z. fin ≡ z)
rule_is_return_rest_1 a vs ts fin m =
    let u0 = m.0 in
    let v0 = m.4.0 in
    let e : ts ≡ u0 = m.2 ∙ ap (λ z. u0 ++ z) m.4.2.0 ∙ append-nil u0 in
    (node_two two_of.Return a v0, subst (λ z. Is (part_of.Statement statement_of.ReturnRest) (a ∷ []) z (node_two two_of.Return a v0)) (sym e) (is_return_rest_1 u0 v0 m.4.1 m.3), m.4.2.1)

rule_is_return_rest_2 : (a : Found) (vs : List Found) (ts : List Terminal) (fin : List Found) → Means (nth 1 (statement_rules statement_of.ReturnRest)) (a ∷ vs) ts fin → After (part_of.Statement statement_of.ReturnRest) (a ∷ vs) ts (λ z. fin ≡ z)
rule_is_return_rest_2 a vs ts fin m =
    let e : ts ≡ [] = m.0 in
    (node_two two_of.Return a nothing, subst (λ z. Is (part_of.Statement statement_of.ReturnRest) (a ∷ []) z (node_two two_of.Return a nothing)) (sym e) is_return_rest_2, m.1)

rule_is_after_operand_1 : (a : Found) (vs : List Found) (ts : List Terminal) (fin : List Found) → Means (nth 0 (statement_rules statement_of.AfterOperand)) (a ∷ vs) ts fin → After (part_of.Statement statement_of.AfterOperand) (a ∷ vs) ts (λ z. fin ≡ z)
rule_is_after_operand_1 a vs ts fin m =
    let t0 = m.0 in
    let u0 = m.6.0 in
    let v0 = m.6.4.0 in
    let e : ts ≡ t0 ∷ u0 = m.2 ∙ ap (λ z. t0 ∷ z) (m.6.2 ∙ ap (λ z. u0 ++ z) m.6.4.2.0 ∙ append-nil u0) in
    (node_three three_of.Assign a (leaf t0) v0, subst (λ z. Is (part_of.Statement statement_of.AfterOperand) (a ∷ []) z (node_three three_of.Assign a (leaf t0) v0)) (sym e) (is_after_operand_1 t0 u0 v0 m.3 m.4 m.5 m.6.4.1), m.6.4.2.1)

rule_is_after_operand_2 : (a : Found) (vs : List Found) (ts : List Terminal) (fin : List Found) → Means (nth 1 (statement_rules statement_of.AfterOperand)) (a ∷ vs) ts fin → After (part_of.Statement statement_of.AfterOperand) (a ∷ vs) ts (λ z. fin ≡ z)
rule_is_after_operand_2 a vs ts fin m =
    let u0 = m.0 in
    let v0 = m.4.0 in
    let e : ts ≡ u0 = m.2 ∙ ap (λ z. u0 ++ z) m.4.2.0 ∙ append-nil u0 in
    (v0, subst (λ z. Is (part_of.Statement statement_of.AfterOperand) (a ∷ []) z v0) (sym e) (is_after_operand_2 u0 v0 m.4.1), m.4.2.1)

rule_is_chain : (vs : List Found) (ts : List Terminal) (fin : List Found) → Means (nth 0 (statement_rules statement_of.Chain)) (vs) ts fin → After (part_of.Statement statement_of.Chain) (vs) ts (λ z. fin ≡ z)
rule_is_chain vs ts fin m =
    let u0 = m.0 in
    let v0 = m.4.0 in
    let u1 = m.4.2.0 in
    let v1 = m.4.2.4.0 in
    let e : ts ≡ u0 ++ u1 = m.2 ∙ ap (λ z. u0 ++ z) (m.4.2.2 ∙ ap (λ z. u1 ++ z) m.4.2.4.2.0 ∙ append-nil u1) in
    (v1, subst (λ z. Is (part_of.Statement statement_of.Chain) [] z v1) (sym e) (is_chain u0 v0 u1 v1 m.4.1 m.4.2.4.1), m.4.2.4.2.1)

rule_is_chain_rest_1 : (a : Found) (vs : List Found) (ts : List Terminal) (fin : List Found) → Means (nth 0 (statement_rules statement_of.ChainRest)) (a ∷ vs) ts fin → After (part_of.Statement statement_of.ChainRest) (a ∷ vs) ts (λ z. fin ≡ z)
rule_is_chain_rest_1 a vs ts fin m =
    let t0 = m.0 in
    let u0 = m.5.0 in
    let v0 = m.5.4.0 in
    let u1 = m.5.4.2.0 in
    let v1 = m.5.4.2.4.0 in
    let e : ts ≡ t0 ∷ (u0 ++ u1) = m.2 ∙ ap (λ z. t0 ∷ z) (m.5.2 ∙ ap (λ z. u0 ++ z) (m.5.4.2.2 ∙ ap (λ z. u1 ++ z) m.5.4.2.4.2.0 ∙ append-nil u1)) in
    (v1, subst (λ z. Is (part_of.Statement statement_of.ChainRest) (a ∷ []) z v1) (sym e) (is_chain_rest_1 t0 u0 v0 u1 v1 m.3 m.4 m.5.4.1 m.5.4.2.4.1), m.5.4.2.4.2.1)

rule_is_chain_rest_2 : (a : Found) (vs : List Found) (ts : List Terminal) (fin : List Found) → Means (nth 1 (statement_rules statement_of.ChainRest)) (a ∷ vs) ts fin → After (part_of.Statement statement_of.ChainRest) (a ∷ vs) ts (λ z. fin ≡ z)
rule_is_chain_rest_2 a vs ts fin m =
    let t0 = m.0 in
    let u0 = m.5.0 in
    let v0 = m.5.4.0 in
    let u1 = m.5.4.2.0 in
    let v1 = m.5.4.2.4.0 in
    let e : ts ≡ t0 ∷ (u0 ++ u1) = m.2 ∙ ap (λ z. t0 ∷ z) (m.5.2 ∙ ap (λ z. u0 ++ z) (m.5.4.2.2 ∙ ap (λ z. u1 ++ z) m.5.4.2.4.2.0 ∙ append-nil u1)) in
    (v1, subst (λ z. Is (part_of.Statement statement_of.ChainRest) (a ∷ []) z v1) (sym e) (is_chain_rest_2 t0 u0 v0 u1 v1 m.3 m.4 m.5.4.1 m.5.4.2.4.1), m.5.4.2.4.2.1)

rule_is_chain_rest_3 : (a : Found) (vs : List Found) (ts : List Terminal) (fin : List Found) → Means (nth 2 (statement_rules statement_of.ChainRest)) (a ∷ vs) ts fin → After (part_of.Statement statement_of.ChainRest) (a ∷ vs) ts (λ z. fin ≡ z)
rule_is_chain_rest_3 a vs ts fin m =
    let e : ts ≡ [] = m.0 in
    (a, subst (λ z. Is (part_of.Statement statement_of.ChainRest) (a ∷ []) z a) (sym e) is_chain_rest_3, m.1)

rule_is_unnamed_expression_1 : (vs : List Found) (ts : List Terminal) (fin : List Found) → Means (nth 0 (statement_rules statement_of.UnnamedExpression)) (vs) ts fin → After (part_of.Statement statement_of.UnnamedExpression) (vs) ts (λ z. fin ≡ z)
rule_is_unnamed_expression_1 vs ts fin m =
    let u0 = m.0 in
    let v0 = m.4.0 in
    let e : ts ≡ u0 = m.2 ∙ ap (λ z. u0 ++ z) m.4.2.0 ∙ append-nil u0 in
    (v0, subst (λ z. Is (part_of.Statement statement_of.UnnamedExpression) [] z v0) (sym e) (is_unnamed_expression_1 u0 v0 m.4.1), m.4.2.1)

rule_is_unnamed_expression_2 : (vs : List Found) (ts : List Terminal) (fin : List Found) → Means (nth 1 (statement_rules statement_of.UnnamedExpression)) (vs) ts fin → After (part_of.Statement statement_of.UnnamedExpression) (vs) ts (λ z. fin ≡ z)
rule_is_unnamed_expression_2 vs ts fin m =
    let u0 = m.0 in
    let v0 = m.4.0 in
    let u1 = m.4.2.0 in
    let v1 = m.4.2.4.0 in
    let e : ts ≡ u0 ++ u1 = m.2 ∙ ap (λ z. u0 ++ z) (m.4.2.2 ∙ ap (λ z. u1 ++ z) m.4.2.4.2.0 ∙ append-nil u1) in
    (v1, subst (λ z. Is (part_of.Statement statement_of.UnnamedExpression) [] z v1) (sym e) (is_unnamed_expression_2 u0 v0 u1 v1 m.4.1 m.4.2.4.1), m.4.2.4.2.1)

rule_is_conditional : (vs : List Found) (ts : List Terminal) (fin : List Found) → Means (nth 0 (statement_rules statement_of.Conditional)) (vs) ts fin → After (part_of.Statement statement_of.Conditional) (vs) ts (λ z. fin ≡ z)
rule_is_conditional vs ts fin m =
    let t0 = m.0 in
    let u0 = m.5.0 in
    let v0 = m.5.4.0 in
    let u1 = m.5.4.2.0 in
    let v1 = m.5.4.2.4.0 in
    let u2 = m.5.4.2.4.2.0 in
    let v2 = m.5.4.2.4.2.4.0 in
    let e : ts ≡ t0 ∷ (u0 ++ (u1 ++ u2)) = m.2 ∙ ap (λ z. t0 ∷ z) (m.5.2 ∙ ap (λ z. u0 ++ z) (m.5.4.2.2 ∙ ap (λ z. u1 ++ z) (m.5.4.2.4.2.2 ∙ ap (λ z. u2 ++ z) m.5.4.2.4.2.4.2.0 ∙ append-nil u2))) in
    (v2, subst (λ z. Is (part_of.Statement statement_of.Conditional) [] z v2) (sym e) (is_conditional t0 u0 v0 u1 v1 u2 v2 m.4 m.5.4.1 m.5.4.2.4.1 m.5.4.2.4.2.4.1), m.5.4.2.4.2.4.2.1)

rule_is_else_rest_1 : (a : Found) (b : Found) (c : Found) (vs : List Found) (ts : List Terminal) (fin : List Found) → Means (nth 0 (statement_rules statement_of.ElseRest)) (c ∷ b ∷ a ∷ vs) ts fin → After (part_of.Statement statement_of.ElseRest) (c ∷ b ∷ a ∷ vs) ts (λ z. fin ≡ z)
rule_is_else_rest_1 a b c vs ts fin m =
    let t0 = m.0 in
    let u0 = m.5.0 in
    let v0 = m.5.4.0 in
    let e : ts ≡ t0 ∷ u0 = m.2 ∙ ap (λ z. t0 ∷ z) (m.5.2 ∙ ap (λ z. u0 ++ z) m.5.4.2.0 ∙ append-nil u0) in
    (node_four four_of.If a b c v0, subst (λ z. Is (part_of.Statement statement_of.ElseRest) (c ∷ b ∷ a ∷ []) z (node_four four_of.If a b c v0)) (sym e) (is_else_rest_1 t0 u0 v0 m.4 m.5.4.1), m.5.4.2.1)

rule_is_else_rest_2 : (a : Found) (b : Found) (c : Found) (vs : List Found) (ts : List Terminal) (fin : List Found) → Means (nth 1 (statement_rules statement_of.ElseRest)) (c ∷ b ∷ a ∷ vs) ts fin → After (part_of.Statement statement_of.ElseRest) (c ∷ b ∷ a ∷ vs) ts (λ z. fin ≡ z)
rule_is_else_rest_2 a b c vs ts fin m =
    let e : ts ≡ [] = m.0 in
    (node_four four_of.If a b c nothing, subst (λ z. Is (part_of.Statement statement_of.ElseRest) (c ∷ b ∷ a ∷ []) z (node_four four_of.If a b c nothing)) (sym e) is_else_rest_2, m.1)

rule_is_else_branch_1 : (vs : List Found) (ts : List Terminal) (fin : List Found) → Means (nth 0 (statement_rules statement_of.ElseBranch)) (vs) ts fin → After (part_of.Statement statement_of.ElseBranch) (vs) ts (λ z. fin ≡ z)
rule_is_else_branch_1 vs ts fin m =
    let u0 = m.0 in
    let v0 = m.4.0 in
    let e : ts ≡ u0 = m.2 ∙ ap (λ z. u0 ++ z) m.4.2.0 ∙ append-nil u0 in
    (v0, subst (λ z. Is (part_of.Statement statement_of.ElseBranch) [] z v0) (sym e) (is_else_branch_1 u0 v0 m.4.1), m.4.2.1)

rule_is_else_branch_2 : (vs : List Found) (ts : List Terminal) (fin : List Found) → Means (nth 1 (statement_rules statement_of.ElseBranch)) (vs) ts fin → After (part_of.Statement statement_of.ElseBranch) (vs) ts (λ z. fin ≡ z)
rule_is_else_branch_2 vs ts fin m =
    let u0 = m.0 in
    let v0 = m.4.0 in
    let e : ts ≡ u0 = m.2 ∙ ap (λ z. u0 ++ z) m.4.2.0 ∙ append-nil u0 in
    (v0, subst (λ z. Is (part_of.Statement statement_of.ElseBranch) [] z v0) (sym e) (is_else_branch_2 u0 v0 m.4.1), m.4.2.1)

rule_is_arms_1 : (a : Found) (vs : List Found) (ts : List Terminal) (fin : List Found) → Means (nth 0 (statement_rules statement_of.Arms)) (a ∷ vs) ts fin → After (part_of.Statement statement_of.Arms) (a ∷ vs) ts (λ z. fin ≡ z)
rule_is_arms_1 a vs ts fin m =
    let u0 = m.0 in
    let v0 = m.4.0 in
    let u1 = m.4.2.0 in
    let v1 = m.4.2.4.0 in
    let e : ts ≡ u0 ++ u1 = m.2 ∙ ap (λ z. u0 ++ z) (m.4.2.2 ∙ ap (λ z. u1 ++ z) m.4.2.4.2.0 ∙ append-nil u1) in
    (v1, subst (λ z. Is (part_of.Statement statement_of.Arms) (a ∷ []) z v1) (sym e) (is_arms_1 u0 v0 u1 v1 m.4.1 m.4.2.4.1), m.4.2.4.2.1)

rule_is_arms_2 : (a : Found) (vs : List Found) (ts : List Terminal) (fin : List Found) → Means (nth 1 (statement_rules statement_of.Arms)) (a ∷ vs) ts fin → After (part_of.Statement statement_of.Arms) (a ∷ vs) ts (λ z. fin ≡ z)
rule_is_arms_2 a vs ts fin m =
    let e : ts ≡ [] = m.0 in
    (a, subst (λ z. Is (part_of.Statement statement_of.Arms) (a ∷ []) z a) (sym e) is_arms_2, m.1)

rule_is_arm : (vs : List Found) (ts : List Terminal) (fin : List Found) → Means (nth 0 (statement_rules statement_of.Arm)) (vs) ts fin → After (part_of.Statement statement_of.Arm) (vs) ts (λ z. fin ≡ z)
rule_is_arm vs ts fin m =
    let t0 = m.0 in
    let u0 = m.5.0 in
    let v0 = m.5.4.0 in
    let u1 = m.5.4.2.0 in
    let v1 = m.5.4.2.4.0 in
    let t1 = m.5.4.2.4.2.0 in
    let u2 = m.5.4.2.4.2.5.0 in
    let v2 = m.5.4.2.4.2.5.4.0 in
    let e : ts ≡ t0 ∷ (u0 ++ (u1 ++ (t1 ∷ u2))) = m.2 ∙ ap (λ z. t0 ∷ z) (m.5.2 ∙ ap (λ z. u0 ++ z) (m.5.4.2.2 ∙ ap (λ z. u1 ++ z) (m.5.4.2.4.2.2 ∙ ap (λ z. t1 ∷ z) (m.5.4.2.4.2.5.2 ∙ ap (λ z. u2 ++ z) m.5.4.2.4.2.5.4.2.0 ∙ append-nil u2)))) in
    (node_four four_of.Arm (leaf t0) v0 v1 v2, subst (λ z. Is (part_of.Statement statement_of.Arm) [] z (node_four four_of.Arm (leaf t0) v0 v1 v2)) (sym e) (is_arm t0 u0 v0 u1 v1 t1 u2 v2 m.4 m.5.4.1 m.5.4.2.4.1 m.5.4.2.4.2.4 m.5.4.2.4.2.5.4.1), m.5.4.2.4.2.5.4.2.1)

rule_is_guard_1 : (vs : List Found) (ts : List Terminal) (fin : List Found) → Means (nth 0 (statement_rules statement_of.Guard)) (vs) ts fin → After (part_of.Statement statement_of.Guard) (vs) ts (λ z. fin ≡ z)
rule_is_guard_1 vs ts fin m =
    let t0 = m.0 in
    let u0 = m.5.0 in
    let v0 = m.5.4.0 in
    let e : ts ≡ t0 ∷ u0 = m.2 ∙ ap (λ z. t0 ∷ z) (m.5.2 ∙ ap (λ z. u0 ++ z) m.5.4.2.0 ∙ append-nil u0) in
    (node_one one_of.Statement v0, subst (λ z. Is (part_of.Statement statement_of.Guard) [] z (node_one one_of.Statement v0)) (sym e) (is_guard_1 t0 u0 v0 m.4 m.5.4.1), m.5.4.2.1)

rule_is_guard_2 : (vs : List Found) (ts : List Terminal) (fin : List Found) → Means (nth 1 (statement_rules statement_of.Guard)) (vs) ts fin → After (part_of.Statement statement_of.Guard) (vs) ts (λ z. fin ≡ z)
rule_is_guard_2 vs ts fin m =
    let e : ts ≡ [] = m.0 in
    (nothing, subst (λ z. Is (part_of.Statement statement_of.Guard) [] z nothing) (sym e) is_guard_2, m.1)

rule_is_arm_value_1 : (vs : List Found) (ts : List Terminal) (fin : List Found) → Means (nth 0 (statement_rules statement_of.ArmValue)) (vs) ts fin → After (part_of.Statement statement_of.ArmValue) (vs) ts (λ z. fin ≡ z)
rule_is_arm_value_1 vs ts fin m =
    let u0 = m.0 in
    let v0 = m.4.0 in
    let e : ts ≡ u0 = m.2 ∙ ap (λ z. u0 ++ z) m.4.2.0 ∙ append-nil u0 in
    (v0, subst (λ z. Is (part_of.Statement statement_of.ArmValue) [] z v0) (sym e) (is_arm_value_1 u0 v0 m.4.1), m.4.2.1)

rule_is_arm_value_2 : (vs : List Found) (ts : List Terminal) (fin : List Found) → Means (nth 1 (statement_rules statement_of.ArmValue)) (vs) ts fin → After (part_of.Statement statement_of.ArmValue) (vs) ts (λ z. fin ≡ z)
rule_is_arm_value_2 vs ts fin m =
    let u0 = m.0 in
    let v0 = m.4.0 in
    let e : ts ≡ u0 = m.2 ∙ ap (λ z. u0 ++ z) m.4.2.0 ∙ append-nil u0 in
    (node_one one_of.Statement v0, subst (λ z. Is (part_of.Statement statement_of.ArmValue) [] z (node_one one_of.Statement v0)) (sym e) (is_arm_value_2 u0 v0 m.4.1), m.4.2.1)

pub statement_rule : (n : StatementPart) (r : List Symbol) (vs : List Found) (ts : List Terminal) (fin : List Found) → Among r (statement_rules n) → Means r vs ts fin → After (part_of.Statement n) vs ts (λ z. fin ≡ z)
statement_rule statement_of.Block r vs ts fin (inl e) m = rule_is_block vs ts fin (subst (λ z. Means z vs ts fin) e m)
statement_rule statement_of.Block r vs ts fin (inr e) m = elim e [ ]
statement_rule statement_of.Statements r (a ∷ vs) ts fin (inl e) m = rule_is_statements_1 a vs ts fin (subst (λ z. Means z (a ∷ vs) ts fin) e m)
statement_rule statement_of.Statements r (a ∷ vs) ts fin (inr (inl e)) m = rule_is_statements_2 a vs ts fin (subst (λ z. Means z (a ∷ vs) ts fin) e m)
statement_rule statement_of.Statements r (a ∷ vs) ts fin (inr (inr e)) m = elim e [ ]
statement_rule statement_of.Statements r [] ts fin h m = tt
statement_rule statement_of.MoreStatements r (a ∷ vs) ts fin (inl e) m = rule_is_more_statements_1 a vs ts fin (subst (λ z. Means z (a ∷ vs) ts fin) e m)
statement_rule statement_of.MoreStatements r (a ∷ vs) ts fin (inr (inl e)) m = rule_is_more_statements_2 a vs ts fin (subst (λ z. Means z (a ∷ vs) ts fin) e m)
statement_rule statement_of.MoreStatements r (a ∷ vs) ts fin (inr (inr e)) m = elim e [ ]
statement_rule statement_of.MoreStatements r [] ts fin h m = tt
statement_rule statement_of.Statement r vs ts fin (inl e) m = rule_is_statement_1 vs ts fin (subst (λ z. Means z vs ts fin) e m)
statement_rule statement_of.Statement r vs ts fin (inr (inl e)) m = rule_is_statement_2 vs ts fin (subst (λ z. Means z vs ts fin) e m)
statement_rule statement_of.Statement r vs ts fin (inr (inr e)) m = elim e [ ]
statement_rule statement_of.Mutable r vs ts fin (inl e) m = rule_is_mutable_1 vs ts fin (subst (λ z. Means z vs ts fin) e m)
statement_rule statement_of.Mutable r vs ts fin (inr (inl e)) m = rule_is_mutable_2 vs ts fin (subst (λ z. Means z vs ts fin) e m)
statement_rule statement_of.Mutable r vs ts fin (inr (inr e)) m = elim e [ ]
statement_rule statement_of.LetName r vs ts fin (inl e) m = rule_is_let_name_1 vs ts fin (subst (λ z. Means z vs ts fin) e m)
statement_rule statement_of.LetName r vs ts fin (inr (inl e)) m = rule_is_let_name_2 vs ts fin (subst (λ z. Means z vs ts fin) e m)
statement_rule statement_of.LetName r vs ts fin (inr (inr e)) m = elim e [ ]
statement_rule statement_of.LetType r vs ts fin (inl e) m = rule_is_let_type_1 vs ts fin (subst (λ z. Means z vs ts fin) e m)
statement_rule statement_of.LetType r vs ts fin (inr (inl e)) m = rule_is_let_type_2 vs ts fin (subst (λ z. Means z vs ts fin) e m)
statement_rule statement_of.LetType r vs ts fin (inr (inr e)) m = elim e [ ]
statement_rule statement_of.Expression r vs ts fin (inl e) m = rule_is_expression_1 vs ts fin (subst (λ z. Means z vs ts fin) e m)
statement_rule statement_of.Expression r vs ts fin (inr (inl e)) m = rule_is_expression_2 vs ts fin (subst (λ z. Means z vs ts fin) e m)
statement_rule statement_of.Expression r vs ts fin (inr (inr e)) m = elim e [ ]
statement_rule statement_of.Jump r vs ts fin (inl e) m = rule_is_jump_1 vs ts fin (subst (λ z. Means z vs ts fin) e m)
statement_rule statement_of.Jump r vs ts fin (inr (inl e)) m = rule_is_jump_2 vs ts fin (subst (λ z. Means z vs ts fin) e m)
statement_rule statement_of.Jump r vs ts fin (inr (inr (inl e))) m = rule_is_jump_3 vs ts fin (subst (λ z. Means z vs ts fin) e m)
statement_rule statement_of.Jump r vs ts fin (inr (inr (inr e))) m = elim e [ ]
statement_rule statement_of.ReturnRest r (a ∷ vs) ts fin (inl e) m = rule_is_return_rest_1 a vs ts fin (subst (λ z. Means z (a ∷ vs) ts fin) e m)
statement_rule statement_of.ReturnRest r (a ∷ vs) ts fin (inr (inl e)) m = rule_is_return_rest_2 a vs ts fin (subst (λ z. Means z (a ∷ vs) ts fin) e m)
statement_rule statement_of.ReturnRest r (a ∷ vs) ts fin (inr (inr e)) m = elim e [ ]
statement_rule statement_of.ReturnRest r [] ts fin h m = tt
statement_rule statement_of.AfterOperand r (a ∷ vs) ts fin (inl e) m = rule_is_after_operand_1 a vs ts fin (subst (λ z. Means z (a ∷ vs) ts fin) e m)
statement_rule statement_of.AfterOperand r (a ∷ vs) ts fin (inr (inl e)) m = rule_is_after_operand_2 a vs ts fin (subst (λ z. Means z (a ∷ vs) ts fin) e m)
statement_rule statement_of.AfterOperand r (a ∷ vs) ts fin (inr (inr e)) m = elim e [ ]
statement_rule statement_of.AfterOperand r [] ts fin h m = tt
statement_rule statement_of.Chain r vs ts fin (inl e) m = rule_is_chain vs ts fin (subst (λ z. Means z vs ts fin) e m)
statement_rule statement_of.Chain r vs ts fin (inr e) m = elim e [ ]
statement_rule statement_of.ChainRest r (a ∷ vs) ts fin (inl e) m = rule_is_chain_rest_1 a vs ts fin (subst (λ z. Means z (a ∷ vs) ts fin) e m)
statement_rule statement_of.ChainRest r (a ∷ vs) ts fin (inr (inl e)) m = rule_is_chain_rest_2 a vs ts fin (subst (λ z. Means z (a ∷ vs) ts fin) e m)
statement_rule statement_of.ChainRest r (a ∷ vs) ts fin (inr (inr (inl e))) m = rule_is_chain_rest_3 a vs ts fin (subst (λ z. Means z (a ∷ vs) ts fin) e m)
statement_rule statement_of.ChainRest r (a ∷ vs) ts fin (inr (inr (inr e))) m = elim e [ ]
statement_rule statement_of.ChainRest r [] ts fin h m = tt
statement_rule statement_of.UnnamedExpression r vs ts fin (inl e) m = rule_is_unnamed_expression_1 vs ts fin (subst (λ z. Means z vs ts fin) e m)
statement_rule statement_of.UnnamedExpression r vs ts fin (inr (inl e)) m = rule_is_unnamed_expression_2 vs ts fin (subst (λ z. Means z vs ts fin) e m)
statement_rule statement_of.UnnamedExpression r vs ts fin (inr (inr e)) m = elim e [ ]
statement_rule statement_of.Conditional r vs ts fin (inl e) m = rule_is_conditional vs ts fin (subst (λ z. Means z vs ts fin) e m)
statement_rule statement_of.Conditional r vs ts fin (inr e) m = elim e [ ]
statement_rule statement_of.ElseRest r (c ∷ b ∷ a ∷ vs) ts fin (inl e) m = rule_is_else_rest_1 a b c vs ts fin (subst (λ z. Means z (c ∷ b ∷ a ∷ vs) ts fin) e m)
statement_rule statement_of.ElseRest r (c ∷ b ∷ a ∷ vs) ts fin (inr (inl e)) m = rule_is_else_rest_2 a b c vs ts fin (subst (λ z. Means z (c ∷ b ∷ a ∷ vs) ts fin) e m)
statement_rule statement_of.ElseRest r (c ∷ b ∷ a ∷ vs) ts fin (inr (inr e)) m = elim e [ ]
statement_rule statement_of.ElseRest r [] ts fin h m = tt
statement_rule statement_of.ElseRest r (c ∷ []) ts fin h m = tt
statement_rule statement_of.ElseRest r (c ∷ b ∷ []) ts fin h m = tt
statement_rule statement_of.ElseBranch r vs ts fin (inl e) m = rule_is_else_branch_1 vs ts fin (subst (λ z. Means z vs ts fin) e m)
statement_rule statement_of.ElseBranch r vs ts fin (inr (inl e)) m = rule_is_else_branch_2 vs ts fin (subst (λ z. Means z vs ts fin) e m)
statement_rule statement_of.ElseBranch r vs ts fin (inr (inr e)) m = elim e [ ]
statement_rule statement_of.Arms r (a ∷ vs) ts fin (inl e) m = rule_is_arms_1 a vs ts fin (subst (λ z. Means z (a ∷ vs) ts fin) e m)
statement_rule statement_of.Arms r (a ∷ vs) ts fin (inr (inl e)) m = rule_is_arms_2 a vs ts fin (subst (λ z. Means z (a ∷ vs) ts fin) e m)
statement_rule statement_of.Arms r (a ∷ vs) ts fin (inr (inr e)) m = elim e [ ]
statement_rule statement_of.Arms r [] ts fin h m = tt
statement_rule statement_of.Arm r vs ts fin (inl e) m = rule_is_arm vs ts fin (subst (λ z. Means z vs ts fin) e m)
statement_rule statement_of.Arm r vs ts fin (inr e) m = elim e [ ]
statement_rule statement_of.Guard r vs ts fin (inl e) m = rule_is_guard_1 vs ts fin (subst (λ z. Means z vs ts fin) e m)
statement_rule statement_of.Guard r vs ts fin (inr (inl e)) m = rule_is_guard_2 vs ts fin (subst (λ z. Means z vs ts fin) e m)
statement_rule statement_of.Guard r vs ts fin (inr (inr e)) m = elim e [ ]
statement_rule statement_of.ArmValue r vs ts fin (inl e) m = rule_is_arm_value_1 vs ts fin (subst (λ z. Means z vs ts fin) e m)
statement_rule statement_of.ArmValue r vs ts fin (inr (inl e)) m = rule_is_arm_value_2 vs ts fin (subst (λ z. Means z vs ts fin) e m)
statement_rule statement_of.ArmValue r vs ts fin (inr (inr e)) m = elim e [ ]
