-- What the productions of operands find is found by cases.
use Rattle.std.proofs.Common.{◌≡◌, List, [], ◌∷◌, ◌++◌, inl, inr, sym, ap, subst, ◌∙◌, append-nil}
use Rattle.ink_grammar.specs.declared.token.Terminal.{Terminal}
use Rattle.ink_grammar.specs.declared.symbol.Nonterminal.TheVariants as part_of
use Rattle.ink_grammar.specs.declared.symbol.OperandPart.TheVariants as operand_of
use Rattle.ink_grammar.specs.declared.tree.OneChild.TheVariants as one_of
use Rattle.ink_grammar.specs.declared.tree.TwoChildren.TheVariants as two_of
use Rattle.ink_grammar.specs.declared.tree.ThreeChildren.TheVariants as three_of
use Rattle.ink_grammar.specs.declared.tree.FourChildren.TheVariants as four_of
use Rattle.ink_grammar.specs.declared.symbol.OperandPart.{OperandPart}
use Rattle.ink_grammar.specs.declared.symbol.Symbol.{Symbol}
use Rattle.ink_grammar.specs.Grammar.{operand_rules}
use Rattle.ink_grammar.specs.Tree.{Found, leaf, in_parentheses, node_one, node_two, node_three, node_four}
use Rattle.ink_grammar.specs.Reads.{Among}
use Rattle.ink_grammar.specs.Productions.{Is, is_operand_1, is_operand_2, is_unnamed_operand_1, is_unnamed_operand_2, is_unnamed_operand_3, is_unnamed_operand_4, is_unnamed_operand_5, is_recover_rest_1, is_recover_rest_2, is_name_rest_1, is_name_rest_2, is_links_1, is_links_2, is_link_1, is_link_2, is_link_rest_1, is_link_rest_2, is_constant_rest_1, is_constant_rest_2, is_constant_rest_3, is_after_constant_1, is_after_constant_2, is_qualified_rest_1, is_qualified_rest_2, is_primary_1, is_primary_2, is_primary_3, is_primary_4, is_primary_5, is_primary_6, is_primary_7, is_primary_8, is_text_rest_1, is_text_rest_2, is_text_rest_3, is_parenthesis_rest_1, is_parenthesis_rest_2, is_tuple_rest_1, is_tuple_rest_2, is_items_1, is_items_2, is_items_rest_1, is_items_rest_2, is_arguments_1, is_arguments_2, is_arguments_rest_1, is_arguments_rest_2, is_constructor_arguments_1, is_constructor_arguments_2, is_constructor_arguments_3, is_named_or_not_1, is_named_or_not_2, is_named_rest_1, is_named_rest_2, is_named_more_1, is_named_more_2}
use Rattle.ink_grammar.proofs.Samples.{nth}
use Rattle.ink_grammar.proofs.Meaning.{After, Means}

rule_is_operand_1 : (vs : List Found) (ts : List Terminal) (fin : List Found) → Means (nth 0 (operand_rules operand_of.Operand)) (vs) ts fin → After (part_of.Operand operand_of.Operand) (vs) ts (λ z. fin ≡ z)
rule_is_operand_1 vs ts fin m =
    let t0 = m.0 in
    let u0 = m.5.0 in
    let v0 = m.5.4.0 in
    let u1 = m.5.4.2.0 in
    let v1 = m.5.4.2.4.0 in
    let e : ts ≡ t0 ∷ (u0 ++ u1) = m.2 ∙ ap (λ z. t0 ∷ z) (m.5.2 ∙ ap (λ z. u0 ++ z) (m.5.4.2.2 ∙ ap (λ z. u1 ++ z) m.5.4.2.4.2.0 ∙ append-nil u1)) in
    (v1, subst (λ z. Is (part_of.Operand operand_of.Operand) [] z v1) (sym e) (is_operand_1 t0 u0 v0 u1 v1 m.4 m.5.4.1 m.5.4.2.4.1), m.5.4.2.4.2.1)

rule_is_operand_2 : (vs : List Found) (ts : List Terminal) (fin : List Found) → Means (nth 1 (operand_rules operand_of.Operand)) (vs) ts fin → After (part_of.Operand operand_of.Operand) (vs) ts (λ z. fin ≡ z)
rule_is_operand_2 vs ts fin m =
    let u0 = m.0 in
    let v0 = m.4.0 in
    let e : ts ≡ u0 = m.2 ∙ ap (λ z. u0 ++ z) m.4.2.0 ∙ append-nil u0 in
    (v0, subst (λ z. Is (part_of.Operand operand_of.Operand) [] z v0) (sym e) (is_operand_2 u0 v0 m.4.1), m.4.2.1)

rule_is_unnamed_operand_1 : (vs : List Found) (ts : List Terminal) (fin : List Found) → Means (nth 0 (operand_rules operand_of.UnnamedOperand)) (vs) ts fin → After (part_of.Operand operand_of.UnnamedOperand) (vs) ts (λ z. fin ≡ z)
rule_is_unnamed_operand_1 vs ts fin m =
    let t0 = m.0 in
    let u0 = m.5.0 in
    let v0 = m.5.4.0 in
    let e : ts ≡ t0 ∷ u0 = m.2 ∙ ap (λ z. t0 ∷ z) (m.5.2 ∙ ap (λ z. u0 ++ z) m.5.4.2.0 ∙ append-nil u0) in
    (node_two two_of.Borrow (leaf t0) v0, subst (λ z. Is (part_of.Operand operand_of.UnnamedOperand) [] z (node_two two_of.Borrow (leaf t0) v0)) (sym e) (is_unnamed_operand_1 t0 u0 v0 m.4 m.5.4.1), m.5.4.2.1)

rule_is_unnamed_operand_2 : (vs : List Found) (ts : List Terminal) (fin : List Found) → Means (nth 1 (operand_rules operand_of.UnnamedOperand)) (vs) ts fin → After (part_of.Operand operand_of.UnnamedOperand) (vs) ts (λ z. fin ≡ z)
rule_is_unnamed_operand_2 vs ts fin m =
    let t0 = m.0 in
    let u0 = m.5.0 in
    let v0 = m.5.4.0 in
    let e : ts ≡ t0 ∷ u0 = m.2 ∙ ap (λ z. t0 ∷ z) (m.5.2 ∙ ap (λ z. u0 ++ z) m.5.4.2.0 ∙ append-nil u0) in
    (node_two two_of.Try (leaf t0) v0, subst (λ z. Is (part_of.Operand operand_of.UnnamedOperand) [] z (node_two two_of.Try (leaf t0) v0)) (sym e) (is_unnamed_operand_2 t0 u0 v0 m.4 m.5.4.1), m.5.4.2.1)

rule_is_unnamed_operand_3 : (vs : List Found) (ts : List Terminal) (fin : List Found) → Means (nth 2 (operand_rules operand_of.UnnamedOperand)) (vs) ts fin → After (part_of.Operand operand_of.UnnamedOperand) (vs) ts (λ z. fin ≡ z)
rule_is_unnamed_operand_3 vs ts fin m =
    let t0 = m.0 in
    let u0 = m.5.0 in
    let v0 = m.5.4.0 in
    let e : ts ≡ t0 ∷ u0 = m.2 ∙ ap (λ z. t0 ∷ z) (m.5.2 ∙ ap (λ z. u0 ++ z) m.5.4.2.0 ∙ append-nil u0) in
    (v0, subst (λ z. Is (part_of.Operand operand_of.UnnamedOperand) [] z v0) (sym e) (is_unnamed_operand_3 t0 u0 v0 m.4 m.5.4.1), m.5.4.2.1)

rule_is_unnamed_operand_4 : (vs : List Found) (ts : List Terminal) (fin : List Found) → Means (nth 3 (operand_rules operand_of.UnnamedOperand)) (vs) ts fin → After (part_of.Operand operand_of.UnnamedOperand) (vs) ts (λ z. fin ≡ z)
rule_is_unnamed_operand_4 vs ts fin m =
    let t0 = m.0 in
    let u0 = m.5.0 in
    let v0 = m.5.4.0 in
    let e : ts ≡ t0 ∷ u0 = m.2 ∙ ap (λ z. t0 ∷ z) (m.5.2 ∙ ap (λ z. u0 ++ z) m.5.4.2.0 ∙ append-nil u0) in
    (v0, subst (λ z. Is (part_of.Operand operand_of.UnnamedOperand) [] z v0) (sym e) (is_unnamed_operand_4 t0 u0 v0 m.4 m.5.4.1), m.5.4.2.1)

rule_is_unnamed_operand_5 : (vs : List Found) (ts : List Terminal) (fin : List Found) → Means (nth 4 (operand_rules operand_of.UnnamedOperand)) (vs) ts fin → After (part_of.Operand operand_of.UnnamedOperand) (vs) ts (λ z. fin ≡ z)
rule_is_unnamed_operand_5 vs ts fin m =
    let u0 = m.0 in
    let v0 = m.4.0 in
    let u1 = m.4.2.0 in
    let v1 = m.4.2.4.0 in
    let e : ts ≡ u0 ++ u1 = m.2 ∙ ap (λ z. u0 ++ z) (m.4.2.2 ∙ ap (λ z. u1 ++ z) m.4.2.4.2.0 ∙ append-nil u1) in
    (v1, subst (λ z. Is (part_of.Operand operand_of.UnnamedOperand) [] z v1) (sym e) (is_unnamed_operand_5 u0 v0 u1 v1 m.4.1 m.4.2.4.1), m.4.2.4.2.1)

rule_is_recover_rest_1 : (a : Found) (vs : List Found) (ts : List Terminal) (fin : List Found) → Means (nth 0 (operand_rules operand_of.RecoverRest)) (a ∷ vs) ts fin → After (part_of.Operand operand_of.RecoverRest) (a ∷ vs) ts (λ z. fin ≡ z)
rule_is_recover_rest_1 a vs ts fin m =
    let u0 = m.0 in
    let v0 = m.4.0 in
    let e : ts ≡ u0 = m.2 ∙ ap (λ z. u0 ++ z) m.4.2.0 ∙ append-nil u0 in
    (node_two two_of.Recover a v0, subst (λ z. Is (part_of.Operand operand_of.RecoverRest) (a ∷ []) z (node_two two_of.Recover a v0)) (sym e) (is_recover_rest_1 u0 v0 m.4.1), m.4.2.1)

rule_is_recover_rest_2 : (a : Found) (vs : List Found) (ts : List Terminal) (fin : List Found) → Means (nth 1 (operand_rules operand_of.RecoverRest)) (a ∷ vs) ts fin → After (part_of.Operand operand_of.RecoverRest) (a ∷ vs) ts (λ z. fin ≡ z)
rule_is_recover_rest_2 a vs ts fin m =
    let u0 = m.0 in
    let v0 = m.4.0 in
    let e : ts ≡ u0 = m.2 ∙ ap (λ z. u0 ++ z) m.4.2.0 ∙ append-nil u0 in
    (node_two two_of.Recover a (node_one one_of.Statement v0), subst (λ z. Is (part_of.Operand operand_of.RecoverRest) (a ∷ []) z (node_two two_of.Recover a (node_one one_of.Statement v0))) (sym e) (is_recover_rest_2 u0 v0 m.4.1), m.4.2.1)

rule_is_name_rest_1 : (a : Found) (vs : List Found) (ts : List Terminal) (fin : List Found) → Means (nth 0 (operand_rules operand_of.NameRest)) (a ∷ vs) ts fin → After (part_of.Operand operand_of.NameRest) (a ∷ vs) ts (λ z. fin ≡ z)
rule_is_name_rest_1 a vs ts fin m =
    let t0 = m.0 in
    let u0 = m.5.0 in
    let v0 = m.5.4.0 in
    let e : ts ≡ t0 ∷ u0 = m.2 ∙ ap (λ z. t0 ∷ z) (m.5.2 ∙ ap (λ z. u0 ++ z) m.5.4.2.0 ∙ append-nil u0) in
    (node_two two_of.Call a v0, subst (λ z. Is (part_of.Operand operand_of.NameRest) (a ∷ []) z (node_two two_of.Call a v0)) (sym e) (is_name_rest_1 t0 u0 v0 m.3 m.4 m.5.4.1), m.5.4.2.1)

rule_is_name_rest_2 : (a : Found) (vs : List Found) (ts : List Terminal) (fin : List Found) → Means (nth 1 (operand_rules operand_of.NameRest)) (a ∷ vs) ts fin → After (part_of.Operand operand_of.NameRest) (a ∷ vs) ts (λ z. fin ≡ z)
rule_is_name_rest_2 a vs ts fin m =
    let e : ts ≡ [] = m.0 in
    (a, subst (λ z. Is (part_of.Operand operand_of.NameRest) (a ∷ []) z a) (sym e) is_name_rest_2, m.1)

rule_is_links_1 : (a : Found) (vs : List Found) (ts : List Terminal) (fin : List Found) → Means (nth 0 (operand_rules operand_of.Links)) (a ∷ vs) ts fin → After (part_of.Operand operand_of.Links) (a ∷ vs) ts (λ z. fin ≡ z)
rule_is_links_1 a vs ts fin m =
    let t0 = m.0 in
    let u0 = m.5.0 in
    let v0 = m.5.4.0 in
    let u1 = m.5.4.2.0 in
    let v1 = m.5.4.2.4.0 in
    let e : ts ≡ t0 ∷ (u0 ++ u1) = m.2 ∙ ap (λ z. t0 ∷ z) (m.5.2 ∙ ap (λ z. u0 ++ z) (m.5.4.2.2 ∙ ap (λ z. u1 ++ z) m.5.4.2.4.2.0 ∙ append-nil u1)) in
    (v1, subst (λ z. Is (part_of.Operand operand_of.Links) (a ∷ []) z v1) (sym e) (is_links_1 t0 u0 v0 u1 v1 m.4 m.5.4.1 m.5.4.2.4.1), m.5.4.2.4.2.1)

rule_is_links_2 : (a : Found) (vs : List Found) (ts : List Terminal) (fin : List Found) → Means (nth 1 (operand_rules operand_of.Links)) (a ∷ vs) ts fin → After (part_of.Operand operand_of.Links) (a ∷ vs) ts (λ z. fin ≡ z)
rule_is_links_2 a vs ts fin m =
    let e : ts ≡ [] = m.0 in
    (a, subst (λ z. Is (part_of.Operand operand_of.Links) (a ∷ []) z a) (sym e) is_links_2, m.1)

rule_is_link_1 : (a : Found) (vs : List Found) (ts : List Terminal) (fin : List Found) → Means (nth 0 (operand_rules operand_of.Link)) (a ∷ vs) ts fin → After (part_of.Operand operand_of.Link) (a ∷ vs) ts (λ z. fin ≡ z)
rule_is_link_1 a vs ts fin m =
    let t0 = m.0 in
    let u0 = m.5.0 in
    let v0 = m.5.4.0 in
    let e : ts ≡ t0 ∷ u0 = m.2 ∙ ap (λ z. t0 ∷ z) (m.5.2 ∙ ap (λ z. u0 ++ z) m.5.4.2.0 ∙ append-nil u0) in
    (v0, subst (λ z. Is (part_of.Operand operand_of.Link) (a ∷ []) z v0) (sym e) (is_link_1 t0 u0 v0 m.4 m.5.4.1), m.5.4.2.1)

rule_is_link_2 : (a : Found) (vs : List Found) (ts : List Terminal) (fin : List Found) → Means (nth 1 (operand_rules operand_of.Link)) (a ∷ vs) ts fin → After (part_of.Operand operand_of.Link) (a ∷ vs) ts (λ z. fin ≡ z)
rule_is_link_2 a vs ts fin m =
    let t0 = m.0 in
    let e : ts ≡ t0 ∷ [] = m.2 ∙ ap (λ z. t0 ∷ z) (m.5.0) in
    (node_two two_of.TupleItem a (leaf t0), subst (λ z. Is (part_of.Operand operand_of.Link) (a ∷ []) z (node_two two_of.TupleItem a (leaf t0))) (sym e) (is_link_2 t0 m.4), m.5.1)

rule_is_link_rest_1 : (a : Found) (b : Found) (vs : List Found) (ts : List Terminal) (fin : List Found) → Means (nth 0 (operand_rules operand_of.LinkRest)) (b ∷ a ∷ vs) ts fin → After (part_of.Operand operand_of.LinkRest) (b ∷ a ∷ vs) ts (λ z. fin ≡ z)
rule_is_link_rest_1 a b vs ts fin m =
    let t0 = m.0 in
    let u0 = m.5.0 in
    let v0 = m.5.4.0 in
    let e : ts ≡ t0 ∷ u0 = m.2 ∙ ap (λ z. t0 ∷ z) (m.5.2 ∙ ap (λ z. u0 ++ z) m.5.4.2.0 ∙ append-nil u0) in
    (node_three three_of.MemberCall a b v0, subst (λ z. Is (part_of.Operand operand_of.LinkRest) (b ∷ a ∷ []) z (node_three three_of.MemberCall a b v0)) (sym e) (is_link_rest_1 t0 u0 v0 m.3 m.4 m.5.4.1), m.5.4.2.1)

rule_is_link_rest_2 : (a : Found) (b : Found) (vs : List Found) (ts : List Terminal) (fin : List Found) → Means (nth 1 (operand_rules operand_of.LinkRest)) (b ∷ a ∷ vs) ts fin → After (part_of.Operand operand_of.LinkRest) (b ∷ a ∷ vs) ts (λ z. fin ≡ z)
rule_is_link_rest_2 a b vs ts fin m =
    let e : ts ≡ [] = m.0 in
    (node_two two_of.Member a b, subst (λ z. Is (part_of.Operand operand_of.LinkRest) (b ∷ a ∷ []) z (node_two two_of.Member a b)) (sym e) is_link_rest_2, m.1)

rule_is_constant_rest_1 : (a : Found) (vs : List Found) (ts : List Terminal) (fin : List Found) → Means (nth 0 (operand_rules operand_of.ConstantRest)) (a ∷ vs) ts fin → After (part_of.Operand operand_of.ConstantRest) (a ∷ vs) ts (λ z. fin ≡ z)
rule_is_constant_rest_1 a vs ts fin m =
    let t0 = m.0 in
    let u0 = m.5.0 in
    let v0 = m.5.4.0 in
    let u1 = m.5.4.2.0 in
    let v1 = m.5.4.2.4.0 in
    let e : ts ≡ t0 ∷ (u0 ++ u1) = m.2 ∙ ap (λ z. t0 ∷ z) (m.5.2 ∙ ap (λ z. u0 ++ z) (m.5.4.2.2 ∙ ap (λ z. u1 ++ z) m.5.4.2.4.2.0 ∙ append-nil u1)) in
    (v1, subst (λ z. Is (part_of.Operand operand_of.ConstantRest) (a ∷ []) z v1) (sym e) (is_constant_rest_1 t0 u0 v0 u1 v1 m.3 m.4 m.5.4.1 m.5.4.2.4.1), m.5.4.2.4.2.1)

rule_is_constant_rest_2 : (a : Found) (vs : List Found) (ts : List Terminal) (fin : List Found) → Means (nth 1 (operand_rules operand_of.ConstantRest)) (a ∷ vs) ts fin → After (part_of.Operand operand_of.ConstantRest) (a ∷ vs) ts (λ z. fin ≡ z)
rule_is_constant_rest_2 a vs ts fin m =
    let t0 = m.0 in
    let u0 = m.5.0 in
    let v0 = m.5.4.0 in
    let e : ts ≡ t0 ∷ u0 = m.2 ∙ ap (λ z. t0 ∷ z) (m.5.2 ∙ ap (λ z. u0 ++ z) m.5.4.2.0 ∙ append-nil u0) in
    (v0, subst (λ z. Is (part_of.Operand operand_of.ConstantRest) (a ∷ []) z v0) (sym e) (is_constant_rest_2 t0 u0 v0 m.4 m.5.4.1), m.5.4.2.1)

rule_is_constant_rest_3 : (a : Found) (vs : List Found) (ts : List Terminal) (fin : List Found) → Means (nth 2 (operand_rules operand_of.ConstantRest)) (a ∷ vs) ts fin → After (part_of.Operand operand_of.ConstantRest) (a ∷ vs) ts (λ z. fin ≡ z)
rule_is_constant_rest_3 a vs ts fin m =
    let e : ts ≡ [] = m.0 in
    (a, subst (λ z. Is (part_of.Operand operand_of.ConstantRest) (a ∷ []) z a) (sym e) is_constant_rest_3, m.1)

rule_is_after_constant_1 : (a : Found) (vs : List Found) (ts : List Terminal) (fin : List Found) → Means (nth 0 (operand_rules operand_of.AfterConstant)) (a ∷ vs) ts fin → After (part_of.Operand operand_of.AfterConstant) (a ∷ vs) ts (λ z. fin ≡ z)
rule_is_after_constant_1 a vs ts fin m =
    let t0 = m.0 in
    let u0 = m.5.0 in
    let v0 = m.5.4.0 in
    let u1 = m.5.4.2.0 in
    let v1 = m.5.4.2.4.0 in
    let e : ts ≡ t0 ∷ (u0 ++ u1) = m.2 ∙ ap (λ z. t0 ∷ z) (m.5.2 ∙ ap (λ z. u0 ++ z) (m.5.4.2.2 ∙ ap (λ z. u1 ++ z) m.5.4.2.4.2.0 ∙ append-nil u1)) in
    (v1, subst (λ z. Is (part_of.Operand operand_of.AfterConstant) (a ∷ []) z v1) (sym e) (is_after_constant_1 t0 u0 v0 u1 v1 m.4 m.5.4.1 m.5.4.2.4.1), m.5.4.2.4.2.1)

rule_is_after_constant_2 : (a : Found) (vs : List Found) (ts : List Terminal) (fin : List Found) → Means (nth 1 (operand_rules operand_of.AfterConstant)) (a ∷ vs) ts fin → After (part_of.Operand operand_of.AfterConstant) (a ∷ vs) ts (λ z. fin ≡ z)
rule_is_after_constant_2 a vs ts fin m =
    let u0 = m.0 in
    let v0 = m.4.0 in
    let u1 = m.4.2.0 in
    let v1 = m.4.2.4.0 in
    let e : ts ≡ u0 ++ u1 = m.2 ∙ ap (λ z. u0 ++ z) (m.4.2.2 ∙ ap (λ z. u1 ++ z) m.4.2.4.2.0 ∙ append-nil u1) in
    (v1, subst (λ z. Is (part_of.Operand operand_of.AfterConstant) (a ∷ []) z v1) (sym e) (is_after_constant_2 u0 v0 u1 v1 m.4.1 m.4.2.4.1), m.4.2.4.2.1)

rule_is_qualified_rest_1 : (a : Found) (vs : List Found) (ts : List Terminal) (fin : List Found) → Means (nth 0 (operand_rules operand_of.QualifiedRest)) (a ∷ vs) ts fin → After (part_of.Operand operand_of.QualifiedRest) (a ∷ vs) ts (λ z. fin ≡ z)
rule_is_qualified_rest_1 a vs ts fin m =
    let t0 = m.0 in
    let u0 = m.5.0 in
    let v0 = m.5.4.0 in
    let e : ts ≡ t0 ∷ u0 = m.2 ∙ ap (λ z. t0 ∷ z) (m.5.2 ∙ ap (λ z. u0 ++ z) m.5.4.2.0 ∙ append-nil u0) in
    (node_two two_of.Construct a v0, subst (λ z. Is (part_of.Operand operand_of.QualifiedRest) (a ∷ []) z (node_two two_of.Construct a v0)) (sym e) (is_qualified_rest_1 t0 u0 v0 m.3 m.4 m.5.4.1), m.5.4.2.1)

rule_is_qualified_rest_2 : (a : Found) (vs : List Found) (ts : List Terminal) (fin : List Found) → Means (nth 1 (operand_rules operand_of.QualifiedRest)) (a ∷ vs) ts fin → After (part_of.Operand operand_of.QualifiedRest) (a ∷ vs) ts (λ z. fin ≡ z)
rule_is_qualified_rest_2 a vs ts fin m =
    let e : ts ≡ [] = m.0 in
    (a, subst (λ z. Is (part_of.Operand operand_of.QualifiedRest) (a ∷ []) z a) (sym e) is_qualified_rest_2, m.1)

rule_is_primary_1 : (vs : List Found) (ts : List Terminal) (fin : List Found) → Means (nth 0 (operand_rules operand_of.Primary)) (vs) ts fin → After (part_of.Operand operand_of.Primary) (vs) ts (λ z. fin ≡ z)
rule_is_primary_1 vs ts fin m =
    let t0 = m.0 in
    let e : ts ≡ t0 ∷ [] = m.2 ∙ ap (λ z. t0 ∷ z) (m.5.0) in
    (leaf t0, subst (λ z. Is (part_of.Operand operand_of.Primary) [] z (leaf t0)) (sym e) (is_primary_1 t0 m.4), m.5.1)

rule_is_primary_2 : (vs : List Found) (ts : List Terminal) (fin : List Found) → Means (nth 1 (operand_rules operand_of.Primary)) (vs) ts fin → After (part_of.Operand operand_of.Primary) (vs) ts (λ z. fin ≡ z)
rule_is_primary_2 vs ts fin m =
    let t0 = m.0 in
    let u0 = m.5.0 in
    let v0 = m.5.4.0 in
    let e : ts ≡ t0 ∷ u0 = m.2 ∙ ap (λ z. t0 ∷ z) (m.5.2 ∙ ap (λ z. u0 ++ z) m.5.4.2.0 ∙ append-nil u0) in
    (node_two two_of.Text (leaf t0) v0, subst (λ z. Is (part_of.Operand operand_of.Primary) [] z (node_two two_of.Text (leaf t0) v0)) (sym e) (is_primary_2 t0 u0 v0 m.4 m.5.4.1), m.5.4.2.1)

rule_is_primary_3 : (vs : List Found) (ts : List Terminal) (fin : List Found) → Means (nth 2 (operand_rules operand_of.Primary)) (vs) ts fin → After (part_of.Operand operand_of.Primary) (vs) ts (λ z. fin ≡ z)
rule_is_primary_3 vs ts fin m =
    let t0 = m.0 in
    let u0 = m.5.0 in
    let v0 = m.5.4.0 in
    let u1 = m.5.4.2.0 in
    let v1 = m.5.4.2.4.0 in
    let e : ts ≡ t0 ∷ (u0 ++ u1) = m.2 ∙ ap (λ z. t0 ∷ z) (m.5.2 ∙ ap (λ z. u0 ++ z) (m.5.4.2.2 ∙ ap (λ z. u1 ++ z) m.5.4.2.4.2.0 ∙ append-nil u1)) in
    (v1, subst (λ z. Is (part_of.Operand operand_of.Primary) [] z v1) (sym e) (is_primary_3 t0 u0 v0 u1 v1 m.4 m.5.4.1 m.5.4.2.4.1), m.5.4.2.4.2.1)

rule_is_primary_4 : (vs : List Found) (ts : List Terminal) (fin : List Found) → Means (nth 3 (operand_rules operand_of.Primary)) (vs) ts fin → After (part_of.Operand operand_of.Primary) (vs) ts (λ z. fin ≡ z)
rule_is_primary_4 vs ts fin m =
    let t0 = m.0 in
    let u0 = m.5.0 in
    let v0 = m.5.4.0 in
    let e : ts ≡ t0 ∷ u0 = m.2 ∙ ap (λ z. t0 ∷ z) (m.5.2 ∙ ap (λ z. u0 ++ z) m.5.4.2.0 ∙ append-nil u0) in
    (node_two two_of.Array (leaf t0) v0, subst (λ z. Is (part_of.Operand operand_of.Primary) [] z (node_two two_of.Array (leaf t0) v0)) (sym e) (is_primary_4 t0 u0 v0 m.4 m.5.4.1), m.5.4.2.1)

rule_is_primary_5 : (vs : List Found) (ts : List Terminal) (fin : List Found) → Means (nth 4 (operand_rules operand_of.Primary)) (vs) ts fin → After (part_of.Operand operand_of.Primary) (vs) ts (λ z. fin ≡ z)
rule_is_primary_5 vs ts fin m =
    let u0 = m.0 in
    let v0 = m.4.0 in
    let e : ts ≡ u0 = m.2 ∙ ap (λ z. u0 ++ z) m.4.2.0 ∙ append-nil u0 in
    (v0, subst (λ z. Is (part_of.Operand operand_of.Primary) [] z v0) (sym e) (is_primary_5 u0 v0 m.4.1), m.4.2.1)

rule_is_primary_6 : (vs : List Found) (ts : List Terminal) (fin : List Found) → Means (nth 5 (operand_rules operand_of.Primary)) (vs) ts fin → After (part_of.Operand operand_of.Primary) (vs) ts (λ z. fin ≡ z)
rule_is_primary_6 vs ts fin m =
    let t0 = m.0 in
    let u0 = m.5.0 in
    let v0 = m.5.4.0 in
    let u1 = m.5.4.2.0 in
    let v1 = m.5.4.2.4.0 in
    let e : ts ≡ t0 ∷ (u0 ++ u1) = m.2 ∙ ap (λ z. t0 ∷ z) (m.5.2 ∙ ap (λ z. u0 ++ z) (m.5.4.2.2 ∙ ap (λ z. u1 ++ z) m.5.4.2.4.2.0 ∙ append-nil u1)) in
    (node_three three_of.While (leaf t0) (node_one one_of.Statement v0) v1, subst (λ z. Is (part_of.Operand operand_of.Primary) [] z (node_three three_of.While (leaf t0) (node_one one_of.Statement v0) v1)) (sym e) (is_primary_6 t0 u0 v0 u1 v1 m.4 m.5.4.1 m.5.4.2.4.1), m.5.4.2.4.2.1)

rule_is_primary_7 : (vs : List Found) (ts : List Terminal) (fin : List Found) → Means (nth 6 (operand_rules operand_of.Primary)) (vs) ts fin → After (part_of.Operand operand_of.Primary) (vs) ts (λ z. fin ≡ z)
rule_is_primary_7 vs ts fin m =
    let t0 = m.0 in
    let u0 = m.5.0 in
    let v0 = m.5.4.0 in
    let e : ts ≡ t0 ∷ u0 = m.2 ∙ ap (λ z. t0 ∷ z) (m.5.2 ∙ ap (λ z. u0 ++ z) m.5.4.2.0 ∙ append-nil u0) in
    (node_two two_of.Loop (leaf t0) v0, subst (λ z. Is (part_of.Operand operand_of.Primary) [] z (node_two two_of.Loop (leaf t0) v0)) (sym e) (is_primary_7 t0 u0 v0 m.4 m.5.4.1), m.5.4.2.1)

rule_is_primary_8 : (vs : List Found) (ts : List Terminal) (fin : List Found) → Means (nth 7 (operand_rules operand_of.Primary)) (vs) ts fin → After (part_of.Operand operand_of.Primary) (vs) ts (λ z. fin ≡ z)
rule_is_primary_8 vs ts fin m =
    let t0 = m.0 in
    let u0 = m.5.0 in
    let v0 = m.5.4.0 in
    let t1 = m.5.4.2.0 in
    let u1 = m.5.4.2.5.0 in
    let v1 = m.5.4.2.5.4.0 in
    let u2 = m.5.4.2.5.4.2.0 in
    let v2 = m.5.4.2.5.4.2.4.0 in
    let t2 = m.5.4.2.5.4.2.4.2.0 in
    let e : ts ≡ t0 ∷ (u0 ++ (t1 ∷ (u1 ++ (u2 ++ (t2 ∷ []))))) = m.2 ∙ ap (λ z. t0 ∷ z) (m.5.2 ∙ ap (λ z. u0 ++ z) (m.5.4.2.2 ∙ ap (λ z. t1 ∷ z) (m.5.4.2.5.2 ∙ ap (λ z. u1 ++ z) (m.5.4.2.5.4.2.2 ∙ ap (λ z. u2 ++ z) (m.5.4.2.5.4.2.4.2.2 ∙ ap (λ z. t2 ∷ z) (m.5.4.2.5.4.2.4.2.5.0)))))) in
    (node_three three_of.Match (leaf t0) (node_one one_of.Statement v0) v2, subst (λ z. Is (part_of.Operand operand_of.Primary) [] z (node_three three_of.Match (leaf t0) (node_one one_of.Statement v0) v2)) (sym e) (is_primary_8 t0 u0 v0 t1 u1 v1 u2 v2 t2 m.4 m.5.4.1 m.5.4.2.4 m.5.4.2.5.4.1 m.5.4.2.5.4.2.4.1 m.5.4.2.5.4.2.4.2.4), m.5.4.2.5.4.2.4.2.5.1)

rule_is_text_rest_1 : (a : Found) (vs : List Found) (ts : List Terminal) (fin : List Found) → Means (nth 0 (operand_rules operand_of.TextRest)) (a ∷ vs) ts fin → After (part_of.Operand operand_of.TextRest) (a ∷ vs) ts (λ z. fin ≡ z)
rule_is_text_rest_1 a vs ts fin m =
    let t0 = m.0 in
    let e : ts ≡ t0 ∷ [] = m.2 ∙ ap (λ z. t0 ∷ z) (m.5.0) in
    (a, subst (λ z. Is (part_of.Operand operand_of.TextRest) (a ∷ []) z a) (sym e) (is_text_rest_1 t0 m.4), m.5.1)

rule_is_text_rest_2 : (a : Found) (vs : List Found) (ts : List Terminal) (fin : List Found) → Means (nth 1 (operand_rules operand_of.TextRest)) (a ∷ vs) ts fin → After (part_of.Operand operand_of.TextRest) (a ∷ vs) ts (λ z. fin ≡ z)
rule_is_text_rest_2 a vs ts fin m =
    let t0 = m.0 in
    let u0 = m.5.0 in
    let v0 = m.5.4.0 in
    let e : ts ≡ t0 ∷ u0 = m.2 ∙ ap (λ z. t0 ∷ z) (m.5.2 ∙ ap (λ z. u0 ++ z) m.5.4.2.0 ∙ append-nil u0) in
    (v0, subst (λ z. Is (part_of.Operand operand_of.TextRest) (a ∷ []) z v0) (sym e) (is_text_rest_2 t0 u0 v0 m.4 m.5.4.1), m.5.4.2.1)

rule_is_text_rest_3 : (a : Found) (vs : List Found) (ts : List Terminal) (fin : List Found) → Means (nth 2 (operand_rules operand_of.TextRest)) (a ∷ vs) ts fin → After (part_of.Operand operand_of.TextRest) (a ∷ vs) ts (λ z. fin ≡ z)
rule_is_text_rest_3 a vs ts fin m =
    let t0 = m.0 in
    let u0 = m.5.0 in
    let v0 = m.5.4.0 in
    let t1 = m.5.4.2.0 in
    let u1 = m.5.4.2.5.0 in
    let v1 = m.5.4.2.5.4.0 in
    let e : ts ≡ t0 ∷ (u0 ++ (t1 ∷ u1)) = m.2 ∙ ap (λ z. t0 ∷ z) (m.5.2 ∙ ap (λ z. u0 ++ z) (m.5.4.2.2 ∙ ap (λ z. t1 ∷ z) (m.5.4.2.5.2 ∙ ap (λ z. u1 ++ z) m.5.4.2.5.4.2.0 ∙ append-nil u1))) in
    (v1, subst (λ z. Is (part_of.Operand operand_of.TextRest) (a ∷ []) z v1) (sym e) (is_text_rest_3 t0 u0 v0 t1 u1 v1 m.4 m.5.4.1 m.5.4.2.4 m.5.4.2.5.4.1), m.5.4.2.5.4.2.1)

rule_is_parenthesis_rest_1 : (a : Found) (b : Found) (vs : List Found) (ts : List Terminal) (fin : List Found) → Means (nth 0 (operand_rules operand_of.ParenthesisRest)) (b ∷ a ∷ vs) ts fin → After (part_of.Operand operand_of.ParenthesisRest) (b ∷ a ∷ vs) ts (λ z. fin ≡ z)
rule_is_parenthesis_rest_1 a b vs ts fin m =
    let t0 = m.0 in
    let e : ts ≡ t0 ∷ [] = m.2 ∙ ap (λ z. t0 ∷ z) (m.5.0) in
    (in_parentheses a b, subst (λ z. Is (part_of.Operand operand_of.ParenthesisRest) (b ∷ a ∷ []) z (in_parentheses a b)) (sym e) (is_parenthesis_rest_1 t0 m.4), m.5.1)

rule_is_parenthesis_rest_2 : (a : Found) (b : Found) (vs : List Found) (ts : List Terminal) (fin : List Found) → Means (nth 1 (operand_rules operand_of.ParenthesisRest)) (b ∷ a ∷ vs) ts fin → After (part_of.Operand operand_of.ParenthesisRest) (b ∷ a ∷ vs) ts (λ z. fin ≡ z)
rule_is_parenthesis_rest_2 a b vs ts fin m =
    let t0 = m.0 in
    let u0 = m.5.0 in
    let v0 = m.5.4.0 in
    let u1 = m.5.4.2.0 in
    let v1 = m.5.4.2.4.0 in
    let e : ts ≡ t0 ∷ (u0 ++ u1) = m.2 ∙ ap (λ z. t0 ∷ z) (m.5.2 ∙ ap (λ z. u0 ++ z) (m.5.4.2.2 ∙ ap (λ z. u1 ++ z) m.5.4.2.4.2.0 ∙ append-nil u1)) in
    (v1, subst (λ z. Is (part_of.Operand operand_of.ParenthesisRest) (b ∷ a ∷ []) z v1) (sym e) (is_parenthesis_rest_2 t0 u0 v0 u1 v1 m.4 m.5.4.1 m.5.4.2.4.1), m.5.4.2.4.2.1)

rule_is_tuple_rest_1 : (a : Found) (b : Found) (c : Found) (vs : List Found) (ts : List Terminal) (fin : List Found) → Means (nth 0 (operand_rules operand_of.TupleRest)) (c ∷ b ∷ a ∷ vs) ts fin → After (part_of.Operand operand_of.TupleRest) (c ∷ b ∷ a ∷ vs) ts (λ z. fin ≡ z)
rule_is_tuple_rest_1 a b c vs ts fin m =
    let t0 = m.0 in
    let e : ts ≡ t0 ∷ [] = m.2 ∙ ap (λ z. t0 ∷ z) (m.5.0) in
    (node_three three_of.Pair a b c, subst (λ z. Is (part_of.Operand operand_of.TupleRest) (c ∷ b ∷ a ∷ []) z (node_three three_of.Pair a b c)) (sym e) (is_tuple_rest_1 t0 m.4), m.5.1)

rule_is_tuple_rest_2 : (a : Found) (b : Found) (c : Found) (vs : List Found) (ts : List Terminal) (fin : List Found) → Means (nth 1 (operand_rules operand_of.TupleRest)) (c ∷ b ∷ a ∷ vs) ts fin → After (part_of.Operand operand_of.TupleRest) (c ∷ b ∷ a ∷ vs) ts (λ z. fin ≡ z)
rule_is_tuple_rest_2 a b c vs ts fin m =
    let t0 = m.0 in
    let u0 = m.5.0 in
    let v0 = m.5.4.0 in
    let t1 = m.5.4.2.0 in
    let e : ts ≡ t0 ∷ (u0 ++ (t1 ∷ [])) = m.2 ∙ ap (λ z. t0 ∷ z) (m.5.2 ∙ ap (λ z. u0 ++ z) (m.5.4.2.2 ∙ ap (λ z. t1 ∷ z) (m.5.4.2.5.0))) in
    (node_four four_of.Triple a b c v0, subst (λ z. Is (part_of.Operand operand_of.TupleRest) (c ∷ b ∷ a ∷ []) z (node_four four_of.Triple a b c v0)) (sym e) (is_tuple_rest_2 t0 u0 v0 t1 m.4 m.5.4.1 m.5.4.2.4), m.5.4.2.5.1)

rule_is_items_1 : (a : Found) (vs : List Found) (ts : List Terminal) (fin : List Found) → Means (nth 0 (operand_rules operand_of.Items)) (a ∷ vs) ts fin → After (part_of.Operand operand_of.Items) (a ∷ vs) ts (λ z. fin ≡ z)
rule_is_items_1 a vs ts fin m =
    let t0 = m.0 in
    let e : ts ≡ t0 ∷ [] = m.2 ∙ ap (λ z. t0 ∷ z) (m.5.0) in
    (a, subst (λ z. Is (part_of.Operand operand_of.Items) (a ∷ []) z a) (sym e) (is_items_1 t0 m.4), m.5.1)

rule_is_items_2 : (a : Found) (vs : List Found) (ts : List Terminal) (fin : List Found) → Means (nth 1 (operand_rules operand_of.Items)) (a ∷ vs) ts fin → After (part_of.Operand operand_of.Items) (a ∷ vs) ts (λ z. fin ≡ z)
rule_is_items_2 a vs ts fin m =
    let u0 = m.0 in
    let v0 = m.4.0 in
    let u1 = m.4.2.0 in
    let v1 = m.4.2.4.0 in
    let e : ts ≡ u0 ++ u1 = m.2 ∙ ap (λ z. u0 ++ z) (m.4.2.2 ∙ ap (λ z. u1 ++ z) m.4.2.4.2.0 ∙ append-nil u1) in
    (v1, subst (λ z. Is (part_of.Operand operand_of.Items) (a ∷ []) z v1) (sym e) (is_items_2 u0 v0 u1 v1 m.4.1 m.4.2.4.1), m.4.2.4.2.1)

rule_is_items_rest_1 : (a : Found) (vs : List Found) (ts : List Terminal) (fin : List Found) → Means (nth 0 (operand_rules operand_of.ItemsRest)) (a ∷ vs) ts fin → After (part_of.Operand operand_of.ItemsRest) (a ∷ vs) ts (λ z. fin ≡ z)
rule_is_items_rest_1 a vs ts fin m =
    let t0 = m.0 in
    let e : ts ≡ t0 ∷ [] = m.2 ∙ ap (λ z. t0 ∷ z) (m.5.0) in
    (a, subst (λ z. Is (part_of.Operand operand_of.ItemsRest) (a ∷ []) z a) (sym e) (is_items_rest_1 t0 m.4), m.5.1)

rule_is_items_rest_2 : (a : Found) (vs : List Found) (ts : List Terminal) (fin : List Found) → Means (nth 1 (operand_rules operand_of.ItemsRest)) (a ∷ vs) ts fin → After (part_of.Operand operand_of.ItemsRest) (a ∷ vs) ts (λ z. fin ≡ z)
rule_is_items_rest_2 a vs ts fin m =
    let t0 = m.0 in
    let u0 = m.5.0 in
    let v0 = m.5.4.0 in
    let e : ts ≡ t0 ∷ u0 = m.2 ∙ ap (λ z. t0 ∷ z) (m.5.2 ∙ ap (λ z. u0 ++ z) m.5.4.2.0 ∙ append-nil u0) in
    (v0, subst (λ z. Is (part_of.Operand operand_of.ItemsRest) (a ∷ []) z v0) (sym e) (is_items_rest_2 t0 u0 v0 m.4 m.5.4.1), m.5.4.2.1)

rule_is_arguments_1 : (a : Found) (vs : List Found) (ts : List Terminal) (fin : List Found) → Means (nth 0 (operand_rules operand_of.Arguments)) (a ∷ vs) ts fin → After (part_of.Operand operand_of.Arguments) (a ∷ vs) ts (λ z. fin ≡ z)
rule_is_arguments_1 a vs ts fin m =
    let t0 = m.0 in
    let e : ts ≡ t0 ∷ [] = m.2 ∙ ap (λ z. t0 ∷ z) (m.5.0) in
    (a, subst (λ z. Is (part_of.Operand operand_of.Arguments) (a ∷ []) z a) (sym e) (is_arguments_1 t0 m.4), m.5.1)

rule_is_arguments_2 : (a : Found) (vs : List Found) (ts : List Terminal) (fin : List Found) → Means (nth 1 (operand_rules operand_of.Arguments)) (a ∷ vs) ts fin → After (part_of.Operand operand_of.Arguments) (a ∷ vs) ts (λ z. fin ≡ z)
rule_is_arguments_2 a vs ts fin m =
    let u0 = m.0 in
    let v0 = m.4.0 in
    let u1 = m.4.2.0 in
    let v1 = m.4.2.4.0 in
    let e : ts ≡ u0 ++ u1 = m.2 ∙ ap (λ z. u0 ++ z) (m.4.2.2 ∙ ap (λ z. u1 ++ z) m.4.2.4.2.0 ∙ append-nil u1) in
    (v1, subst (λ z. Is (part_of.Operand operand_of.Arguments) (a ∷ []) z v1) (sym e) (is_arguments_2 u0 v0 u1 v1 m.4.1 m.4.2.4.1), m.4.2.4.2.1)

rule_is_arguments_rest_1 : (a : Found) (vs : List Found) (ts : List Terminal) (fin : List Found) → Means (nth 0 (operand_rules operand_of.ArgumentsRest)) (a ∷ vs) ts fin → After (part_of.Operand operand_of.ArgumentsRest) (a ∷ vs) ts (λ z. fin ≡ z)
rule_is_arguments_rest_1 a vs ts fin m =
    let t0 = m.0 in
    let e : ts ≡ t0 ∷ [] = m.2 ∙ ap (λ z. t0 ∷ z) (m.5.0) in
    (a, subst (λ z. Is (part_of.Operand operand_of.ArgumentsRest) (a ∷ []) z a) (sym e) (is_arguments_rest_1 t0 m.4), m.5.1)

rule_is_arguments_rest_2 : (a : Found) (vs : List Found) (ts : List Terminal) (fin : List Found) → Means (nth 1 (operand_rules operand_of.ArgumentsRest)) (a ∷ vs) ts fin → After (part_of.Operand operand_of.ArgumentsRest) (a ∷ vs) ts (λ z. fin ≡ z)
rule_is_arguments_rest_2 a vs ts fin m =
    let t0 = m.0 in
    let u0 = m.5.0 in
    let v0 = m.5.4.0 in
    let e : ts ≡ t0 ∷ u0 = m.2 ∙ ap (λ z. t0 ∷ z) (m.5.2 ∙ ap (λ z. u0 ++ z) m.5.4.2.0 ∙ append-nil u0) in
    (v0, subst (λ z. Is (part_of.Operand operand_of.ArgumentsRest) (a ∷ []) z v0) (sym e) (is_arguments_rest_2 t0 u0 v0 m.4 m.5.4.1), m.5.4.2.1)

rule_is_constructor_arguments_1 : (a : Found) (vs : List Found) (ts : List Terminal) (fin : List Found) → Means (nth 0 (operand_rules operand_of.ConstructorArguments)) (a ∷ vs) ts fin → After (part_of.Operand operand_of.ConstructorArguments) (a ∷ vs) ts (λ z. fin ≡ z)
rule_is_constructor_arguments_1 a vs ts fin m =
    let t0 = m.0 in
    let e : ts ≡ t0 ∷ [] = m.2 ∙ ap (λ z. t0 ∷ z) (m.5.0) in
    (a, subst (λ z. Is (part_of.Operand operand_of.ConstructorArguments) (a ∷ []) z a) (sym e) (is_constructor_arguments_1 t0 m.4), m.5.1)

rule_is_constructor_arguments_2 : (a : Found) (vs : List Found) (ts : List Terminal) (fin : List Found) → Means (nth 1 (operand_rules operand_of.ConstructorArguments)) (a ∷ vs) ts fin → After (part_of.Operand operand_of.ConstructorArguments) (a ∷ vs) ts (λ z. fin ≡ z)
rule_is_constructor_arguments_2 a vs ts fin m =
    let t0 = m.0 in
    let u0 = m.5.0 in
    let v0 = m.5.4.0 in
    let e : ts ≡ t0 ∷ u0 = m.2 ∙ ap (λ z. t0 ∷ z) (m.5.2 ∙ ap (λ z. u0 ++ z) m.5.4.2.0 ∙ append-nil u0) in
    (v0, subst (λ z. Is (part_of.Operand operand_of.ConstructorArguments) (a ∷ []) z v0) (sym e) (is_constructor_arguments_2 t0 u0 v0 m.4 m.5.4.1), m.5.4.2.1)

rule_is_constructor_arguments_3 : (a : Found) (vs : List Found) (ts : List Terminal) (fin : List Found) → Means (nth 2 (operand_rules operand_of.ConstructorArguments)) (a ∷ vs) ts fin → After (part_of.Operand operand_of.ConstructorArguments) (a ∷ vs) ts (λ z. fin ≡ z)
rule_is_constructor_arguments_3 a vs ts fin m =
    let u0 = m.0 in
    let v0 = m.4.0 in
    let u1 = m.4.2.0 in
    let v1 = m.4.2.4.0 in
    let e : ts ≡ u0 ++ u1 = m.2 ∙ ap (λ z. u0 ++ z) (m.4.2.2 ∙ ap (λ z. u1 ++ z) m.4.2.4.2.0 ∙ append-nil u1) in
    (v1, subst (λ z. Is (part_of.Operand operand_of.ConstructorArguments) (a ∷ []) z v1) (sym e) (is_constructor_arguments_3 u0 v0 u1 v1 m.4.1 m.4.2.4.1), m.4.2.4.2.1)

rule_is_named_or_not_1 : (a : Found) (b : Found) (vs : List Found) (ts : List Terminal) (fin : List Found) → Means (nth 0 (operand_rules operand_of.NamedOrNot)) (b ∷ a ∷ vs) ts fin → After (part_of.Operand operand_of.NamedOrNot) (b ∷ a ∷ vs) ts (λ z. fin ≡ z)
rule_is_named_or_not_1 a b vs ts fin m =
    let t0 = m.0 in
    let u0 = m.5.0 in
    let v0 = m.5.4.0 in
    let u1 = m.5.4.2.0 in
    let v1 = m.5.4.2.4.0 in
    let e : ts ≡ t0 ∷ (u0 ++ u1) = m.2 ∙ ap (λ z. t0 ∷ z) (m.5.2 ∙ ap (λ z. u0 ++ z) (m.5.4.2.2 ∙ ap (λ z. u1 ++ z) m.5.4.2.4.2.0 ∙ append-nil u1)) in
    (v1, subst (λ z. Is (part_of.Operand operand_of.NamedOrNot) (b ∷ a ∷ []) z v1) (sym e) (is_named_or_not_1 t0 u0 v0 u1 v1 m.4 m.5.4.1 m.5.4.2.4.1), m.5.4.2.4.2.1)

rule_is_named_or_not_2 : (a : Found) (b : Found) (vs : List Found) (ts : List Terminal) (fin : List Found) → Means (nth 1 (operand_rules operand_of.NamedOrNot)) (b ∷ a ∷ vs) ts fin → After (part_of.Operand operand_of.NamedOrNot) (b ∷ a ∷ vs) ts (λ z. fin ≡ z)
rule_is_named_or_not_2 a b vs ts fin m =
    let u0 = m.0 in
    let v0 = m.4.0 in
    let u1 = m.4.2.0 in
    let v1 = m.4.2.4.0 in
    let u2 = m.4.2.4.2.0 in
    let v2 = m.4.2.4.2.4.0 in
    let u3 = m.4.2.4.2.4.2.0 in
    let v3 = m.4.2.4.2.4.2.4.0 in
    let e : ts ≡ u0 ++ (u1 ++ (u2 ++ u3)) = m.2 ∙ ap (λ z. u0 ++ z) (m.4.2.2 ∙ ap (λ z. u1 ++ z) (m.4.2.4.2.2 ∙ ap (λ z. u2 ++ z) (m.4.2.4.2.4.2.2 ∙ ap (λ z. u3 ++ z) m.4.2.4.2.4.2.4.2.0 ∙ append-nil u3))) in
    (v3, subst (λ z. Is (part_of.Operand operand_of.NamedOrNot) (b ∷ a ∷ []) z v3) (sym e) (is_named_or_not_2 u0 v0 u1 v1 u2 v2 u3 v3 m.4.1 m.4.2.4.1 m.4.2.4.2.4.1 m.4.2.4.2.4.2.4.1), m.4.2.4.2.4.2.4.2.1)

rule_is_named_rest_1 : (a : Found) (vs : List Found) (ts : List Terminal) (fin : List Found) → Means (nth 0 (operand_rules operand_of.NamedRest)) (a ∷ vs) ts fin → After (part_of.Operand operand_of.NamedRest) (a ∷ vs) ts (λ z. fin ≡ z)
rule_is_named_rest_1 a vs ts fin m =
    let t0 = m.0 in
    let e : ts ≡ t0 ∷ [] = m.2 ∙ ap (λ z. t0 ∷ z) (m.5.0) in
    (a, subst (λ z. Is (part_of.Operand operand_of.NamedRest) (a ∷ []) z a) (sym e) (is_named_rest_1 t0 m.4), m.5.1)

rule_is_named_rest_2 : (a : Found) (vs : List Found) (ts : List Terminal) (fin : List Found) → Means (nth 1 (operand_rules operand_of.NamedRest)) (a ∷ vs) ts fin → After (part_of.Operand operand_of.NamedRest) (a ∷ vs) ts (λ z. fin ≡ z)
rule_is_named_rest_2 a vs ts fin m =
    let t0 = m.0 in
    let u0 = m.5.0 in
    let v0 = m.5.4.0 in
    let e : ts ≡ t0 ∷ u0 = m.2 ∙ ap (λ z. t0 ∷ z) (m.5.2 ∙ ap (λ z. u0 ++ z) m.5.4.2.0 ∙ append-nil u0) in
    (v0, subst (λ z. Is (part_of.Operand operand_of.NamedRest) (a ∷ []) z v0) (sym e) (is_named_rest_2 t0 u0 v0 m.4 m.5.4.1), m.5.4.2.1)

rule_is_named_more_1 : (a : Found) (vs : List Found) (ts : List Terminal) (fin : List Found) → Means (nth 0 (operand_rules operand_of.NamedMore)) (a ∷ vs) ts fin → After (part_of.Operand operand_of.NamedMore) (a ∷ vs) ts (λ z. fin ≡ z)
rule_is_named_more_1 a vs ts fin m =
    let t0 = m.0 in
    let e : ts ≡ t0 ∷ [] = m.2 ∙ ap (λ z. t0 ∷ z) (m.5.0) in
    (a, subst (λ z. Is (part_of.Operand operand_of.NamedMore) (a ∷ []) z a) (sym e) (is_named_more_1 t0 m.4), m.5.1)

rule_is_named_more_2 : (a : Found) (vs : List Found) (ts : List Terminal) (fin : List Found) → Means (nth 1 (operand_rules operand_of.NamedMore)) (a ∷ vs) ts fin → After (part_of.Operand operand_of.NamedMore) (a ∷ vs) ts (λ z. fin ≡ z)
rule_is_named_more_2 a vs ts fin m =
    let t0 = m.0 in
    let t1 = m.5.0 in
    let u0 = m.5.5.0 in
    let v0 = m.5.5.4.0 in
    let u1 = m.5.5.4.2.0 in
    let v1 = m.5.5.4.2.4.0 in
    let e : ts ≡ t0 ∷ (t1 ∷ (u0 ++ u1)) = m.2 ∙ ap (λ z. t0 ∷ z) (m.5.2 ∙ ap (λ z. t1 ∷ z) (m.5.5.2 ∙ ap (λ z. u0 ++ z) (m.5.5.4.2.2 ∙ ap (λ z. u1 ++ z) m.5.5.4.2.4.2.0 ∙ append-nil u1))) in
    (v1, subst (λ z. Is (part_of.Operand operand_of.NamedMore) (a ∷ []) z v1) (sym e) (is_named_more_2 t0 t1 u0 v0 u1 v1 m.4 m.5.4 m.5.5.4.1 m.5.5.4.2.4.1), m.5.5.4.2.4.2.1)

pub operand_rule : (n : OperandPart) (r : List Symbol) (vs : List Found) (ts : List Terminal) (fin : List Found) → Among r (operand_rules n) → Means r vs ts fin → After (part_of.Operand n) vs ts (λ z. fin ≡ z)
operand_rule operand_of.Operand r vs ts fin (inl e) m = rule_is_operand_1 vs ts fin (subst (λ z. Means z vs ts fin) e m)
operand_rule operand_of.Operand r vs ts fin (inr (inl e)) m = rule_is_operand_2 vs ts fin (subst (λ z. Means z vs ts fin) e m)
operand_rule operand_of.Operand r vs ts fin (inr (inr e)) m = elim e [ ]
operand_rule operand_of.UnnamedOperand r vs ts fin (inl e) m = rule_is_unnamed_operand_1 vs ts fin (subst (λ z. Means z vs ts fin) e m)
operand_rule operand_of.UnnamedOperand r vs ts fin (inr (inl e)) m = rule_is_unnamed_operand_2 vs ts fin (subst (λ z. Means z vs ts fin) e m)
operand_rule operand_of.UnnamedOperand r vs ts fin (inr (inr (inl e))) m = rule_is_unnamed_operand_3 vs ts fin (subst (λ z. Means z vs ts fin) e m)
operand_rule operand_of.UnnamedOperand r vs ts fin (inr (inr (inr (inl e)))) m = rule_is_unnamed_operand_4 vs ts fin (subst (λ z. Means z vs ts fin) e m)
operand_rule operand_of.UnnamedOperand r vs ts fin (inr (inr (inr (inr (inl e))))) m = rule_is_unnamed_operand_5 vs ts fin (subst (λ z. Means z vs ts fin) e m)
operand_rule operand_of.UnnamedOperand r vs ts fin (inr (inr (inr (inr (inr e))))) m = elim e [ ]
operand_rule operand_of.RecoverRest r (a ∷ vs) ts fin (inl e) m = rule_is_recover_rest_1 a vs ts fin (subst (λ z. Means z (a ∷ vs) ts fin) e m)
operand_rule operand_of.RecoverRest r (a ∷ vs) ts fin (inr (inl e)) m = rule_is_recover_rest_2 a vs ts fin (subst (λ z. Means z (a ∷ vs) ts fin) e m)
operand_rule operand_of.RecoverRest r (a ∷ vs) ts fin (inr (inr e)) m = elim e [ ]
operand_rule operand_of.RecoverRest r [] ts fin h m = tt
operand_rule operand_of.NameRest r (a ∷ vs) ts fin (inl e) m = rule_is_name_rest_1 a vs ts fin (subst (λ z. Means z (a ∷ vs) ts fin) e m)
operand_rule operand_of.NameRest r (a ∷ vs) ts fin (inr (inl e)) m = rule_is_name_rest_2 a vs ts fin (subst (λ z. Means z (a ∷ vs) ts fin) e m)
operand_rule operand_of.NameRest r (a ∷ vs) ts fin (inr (inr e)) m = elim e [ ]
operand_rule operand_of.NameRest r [] ts fin h m = tt
operand_rule operand_of.Links r (a ∷ vs) ts fin (inl e) m = rule_is_links_1 a vs ts fin (subst (λ z. Means z (a ∷ vs) ts fin) e m)
operand_rule operand_of.Links r (a ∷ vs) ts fin (inr (inl e)) m = rule_is_links_2 a vs ts fin (subst (λ z. Means z (a ∷ vs) ts fin) e m)
operand_rule operand_of.Links r (a ∷ vs) ts fin (inr (inr e)) m = elim e [ ]
operand_rule operand_of.Links r [] ts fin h m = tt
operand_rule operand_of.Link r (a ∷ vs) ts fin (inl e) m = rule_is_link_1 a vs ts fin (subst (λ z. Means z (a ∷ vs) ts fin) e m)
operand_rule operand_of.Link r (a ∷ vs) ts fin (inr (inl e)) m = rule_is_link_2 a vs ts fin (subst (λ z. Means z (a ∷ vs) ts fin) e m)
operand_rule operand_of.Link r (a ∷ vs) ts fin (inr (inr e)) m = elim e [ ]
operand_rule operand_of.Link r [] ts fin h m = tt
operand_rule operand_of.LinkRest r (b ∷ a ∷ vs) ts fin (inl e) m = rule_is_link_rest_1 a b vs ts fin (subst (λ z. Means z (b ∷ a ∷ vs) ts fin) e m)
operand_rule operand_of.LinkRest r (b ∷ a ∷ vs) ts fin (inr (inl e)) m = rule_is_link_rest_2 a b vs ts fin (subst (λ z. Means z (b ∷ a ∷ vs) ts fin) e m)
operand_rule operand_of.LinkRest r (b ∷ a ∷ vs) ts fin (inr (inr e)) m = elim e [ ]
operand_rule operand_of.LinkRest r [] ts fin h m = tt
operand_rule operand_of.LinkRest r (b ∷ []) ts fin h m = tt
operand_rule operand_of.ConstantRest r (a ∷ vs) ts fin (inl e) m = rule_is_constant_rest_1 a vs ts fin (subst (λ z. Means z (a ∷ vs) ts fin) e m)
operand_rule operand_of.ConstantRest r (a ∷ vs) ts fin (inr (inl e)) m = rule_is_constant_rest_2 a vs ts fin (subst (λ z. Means z (a ∷ vs) ts fin) e m)
operand_rule operand_of.ConstantRest r (a ∷ vs) ts fin (inr (inr (inl e))) m = rule_is_constant_rest_3 a vs ts fin (subst (λ z. Means z (a ∷ vs) ts fin) e m)
operand_rule operand_of.ConstantRest r (a ∷ vs) ts fin (inr (inr (inr e))) m = elim e [ ]
operand_rule operand_of.ConstantRest r [] ts fin h m = tt
operand_rule operand_of.AfterConstant r (a ∷ vs) ts fin (inl e) m = rule_is_after_constant_1 a vs ts fin (subst (λ z. Means z (a ∷ vs) ts fin) e m)
operand_rule operand_of.AfterConstant r (a ∷ vs) ts fin (inr (inl e)) m = rule_is_after_constant_2 a vs ts fin (subst (λ z. Means z (a ∷ vs) ts fin) e m)
operand_rule operand_of.AfterConstant r (a ∷ vs) ts fin (inr (inr e)) m = elim e [ ]
operand_rule operand_of.AfterConstant r [] ts fin h m = tt
operand_rule operand_of.QualifiedRest r (a ∷ vs) ts fin (inl e) m = rule_is_qualified_rest_1 a vs ts fin (subst (λ z. Means z (a ∷ vs) ts fin) e m)
operand_rule operand_of.QualifiedRest r (a ∷ vs) ts fin (inr (inl e)) m = rule_is_qualified_rest_2 a vs ts fin (subst (λ z. Means z (a ∷ vs) ts fin) e m)
operand_rule operand_of.QualifiedRest r (a ∷ vs) ts fin (inr (inr e)) m = elim e [ ]
operand_rule operand_of.QualifiedRest r [] ts fin h m = tt
operand_rule operand_of.Primary r vs ts fin (inl e) m = rule_is_primary_1 vs ts fin (subst (λ z. Means z vs ts fin) e m)
operand_rule operand_of.Primary r vs ts fin (inr (inl e)) m = rule_is_primary_2 vs ts fin (subst (λ z. Means z vs ts fin) e m)
operand_rule operand_of.Primary r vs ts fin (inr (inr (inl e))) m = rule_is_primary_3 vs ts fin (subst (λ z. Means z vs ts fin) e m)
operand_rule operand_of.Primary r vs ts fin (inr (inr (inr (inl e)))) m = rule_is_primary_4 vs ts fin (subst (λ z. Means z vs ts fin) e m)
operand_rule operand_of.Primary r vs ts fin (inr (inr (inr (inr (inl e))))) m = rule_is_primary_5 vs ts fin (subst (λ z. Means z vs ts fin) e m)
operand_rule operand_of.Primary r vs ts fin (inr (inr (inr (inr (inr (inl e)))))) m = rule_is_primary_6 vs ts fin (subst (λ z. Means z vs ts fin) e m)
operand_rule operand_of.Primary r vs ts fin (inr (inr (inr (inr (inr (inr (inl e))))))) m = rule_is_primary_7 vs ts fin (subst (λ z. Means z vs ts fin) e m)
operand_rule operand_of.Primary r vs ts fin (inr (inr (inr (inr (inr (inr (inr (inl e)))))))) m = rule_is_primary_8 vs ts fin (subst (λ z. Means z vs ts fin) e m)
operand_rule operand_of.Primary r vs ts fin (inr (inr (inr (inr (inr (inr (inr (inr e)))))))) m = elim e [ ]
operand_rule operand_of.TextRest r (a ∷ vs) ts fin (inl e) m = rule_is_text_rest_1 a vs ts fin (subst (λ z. Means z (a ∷ vs) ts fin) e m)
operand_rule operand_of.TextRest r (a ∷ vs) ts fin (inr (inl e)) m = rule_is_text_rest_2 a vs ts fin (subst (λ z. Means z (a ∷ vs) ts fin) e m)
operand_rule operand_of.TextRest r (a ∷ vs) ts fin (inr (inr (inl e))) m = rule_is_text_rest_3 a vs ts fin (subst (λ z. Means z (a ∷ vs) ts fin) e m)
operand_rule operand_of.TextRest r (a ∷ vs) ts fin (inr (inr (inr e))) m = elim e [ ]
operand_rule operand_of.TextRest r [] ts fin h m = tt
operand_rule operand_of.ParenthesisRest r (b ∷ a ∷ vs) ts fin (inl e) m = rule_is_parenthesis_rest_1 a b vs ts fin (subst (λ z. Means z (b ∷ a ∷ vs) ts fin) e m)
operand_rule operand_of.ParenthesisRest r (b ∷ a ∷ vs) ts fin (inr (inl e)) m = rule_is_parenthesis_rest_2 a b vs ts fin (subst (λ z. Means z (b ∷ a ∷ vs) ts fin) e m)
operand_rule operand_of.ParenthesisRest r (b ∷ a ∷ vs) ts fin (inr (inr e)) m = elim e [ ]
operand_rule operand_of.ParenthesisRest r [] ts fin h m = tt
operand_rule operand_of.ParenthesisRest r (b ∷ []) ts fin h m = tt
operand_rule operand_of.TupleRest r (c ∷ b ∷ a ∷ vs) ts fin (inl e) m = rule_is_tuple_rest_1 a b c vs ts fin (subst (λ z. Means z (c ∷ b ∷ a ∷ vs) ts fin) e m)
operand_rule operand_of.TupleRest r (c ∷ b ∷ a ∷ vs) ts fin (inr (inl e)) m = rule_is_tuple_rest_2 a b c vs ts fin (subst (λ z. Means z (c ∷ b ∷ a ∷ vs) ts fin) e m)
operand_rule operand_of.TupleRest r (c ∷ b ∷ a ∷ vs) ts fin (inr (inr e)) m = elim e [ ]
operand_rule operand_of.TupleRest r [] ts fin h m = tt
operand_rule operand_of.TupleRest r (c ∷ []) ts fin h m = tt
operand_rule operand_of.TupleRest r (c ∷ b ∷ []) ts fin h m = tt
operand_rule operand_of.Items r (a ∷ vs) ts fin (inl e) m = rule_is_items_1 a vs ts fin (subst (λ z. Means z (a ∷ vs) ts fin) e m)
operand_rule operand_of.Items r (a ∷ vs) ts fin (inr (inl e)) m = rule_is_items_2 a vs ts fin (subst (λ z. Means z (a ∷ vs) ts fin) e m)
operand_rule operand_of.Items r (a ∷ vs) ts fin (inr (inr e)) m = elim e [ ]
operand_rule operand_of.Items r [] ts fin h m = tt
operand_rule operand_of.ItemsRest r (a ∷ vs) ts fin (inl e) m = rule_is_items_rest_1 a vs ts fin (subst (λ z. Means z (a ∷ vs) ts fin) e m)
operand_rule operand_of.ItemsRest r (a ∷ vs) ts fin (inr (inl e)) m = rule_is_items_rest_2 a vs ts fin (subst (λ z. Means z (a ∷ vs) ts fin) e m)
operand_rule operand_of.ItemsRest r (a ∷ vs) ts fin (inr (inr e)) m = elim e [ ]
operand_rule operand_of.ItemsRest r [] ts fin h m = tt
operand_rule operand_of.Arguments r (a ∷ vs) ts fin (inl e) m = rule_is_arguments_1 a vs ts fin (subst (λ z. Means z (a ∷ vs) ts fin) e m)
operand_rule operand_of.Arguments r (a ∷ vs) ts fin (inr (inl e)) m = rule_is_arguments_2 a vs ts fin (subst (λ z. Means z (a ∷ vs) ts fin) e m)
operand_rule operand_of.Arguments r (a ∷ vs) ts fin (inr (inr e)) m = elim e [ ]
operand_rule operand_of.Arguments r [] ts fin h m = tt
operand_rule operand_of.ArgumentsRest r (a ∷ vs) ts fin (inl e) m = rule_is_arguments_rest_1 a vs ts fin (subst (λ z. Means z (a ∷ vs) ts fin) e m)
operand_rule operand_of.ArgumentsRest r (a ∷ vs) ts fin (inr (inl e)) m = rule_is_arguments_rest_2 a vs ts fin (subst (λ z. Means z (a ∷ vs) ts fin) e m)
operand_rule operand_of.ArgumentsRest r (a ∷ vs) ts fin (inr (inr e)) m = elim e [ ]
operand_rule operand_of.ArgumentsRest r [] ts fin h m = tt
operand_rule operand_of.ConstructorArguments r (a ∷ vs) ts fin (inl e) m = rule_is_constructor_arguments_1 a vs ts fin (subst (λ z. Means z (a ∷ vs) ts fin) e m)
operand_rule operand_of.ConstructorArguments r (a ∷ vs) ts fin (inr (inl e)) m = rule_is_constructor_arguments_2 a vs ts fin (subst (λ z. Means z (a ∷ vs) ts fin) e m)
operand_rule operand_of.ConstructorArguments r (a ∷ vs) ts fin (inr (inr (inl e))) m = rule_is_constructor_arguments_3 a vs ts fin (subst (λ z. Means z (a ∷ vs) ts fin) e m)
operand_rule operand_of.ConstructorArguments r (a ∷ vs) ts fin (inr (inr (inr e))) m = elim e [ ]
operand_rule operand_of.ConstructorArguments r [] ts fin h m = tt
operand_rule operand_of.NamedOrNot r (b ∷ a ∷ vs) ts fin (inl e) m = rule_is_named_or_not_1 a b vs ts fin (subst (λ z. Means z (b ∷ a ∷ vs) ts fin) e m)
operand_rule operand_of.NamedOrNot r (b ∷ a ∷ vs) ts fin (inr (inl e)) m = rule_is_named_or_not_2 a b vs ts fin (subst (λ z. Means z (b ∷ a ∷ vs) ts fin) e m)
operand_rule operand_of.NamedOrNot r (b ∷ a ∷ vs) ts fin (inr (inr e)) m = elim e [ ]
operand_rule operand_of.NamedOrNot r [] ts fin h m = tt
operand_rule operand_of.NamedOrNot r (b ∷ []) ts fin h m = tt
operand_rule operand_of.NamedRest r (a ∷ vs) ts fin (inl e) m = rule_is_named_rest_1 a vs ts fin (subst (λ z. Means z (a ∷ vs) ts fin) e m)
operand_rule operand_of.NamedRest r (a ∷ vs) ts fin (inr (inl e)) m = rule_is_named_rest_2 a vs ts fin (subst (λ z. Means z (a ∷ vs) ts fin) e m)
operand_rule operand_of.NamedRest r (a ∷ vs) ts fin (inr (inr e)) m = elim e [ ]
operand_rule operand_of.NamedRest r [] ts fin h m = tt
operand_rule operand_of.NamedMore r (a ∷ vs) ts fin (inl e) m = rule_is_named_more_1 a vs ts fin (subst (λ z. Means z (a ∷ vs) ts fin) e m)
operand_rule operand_of.NamedMore r (a ∷ vs) ts fin (inr (inl e)) m = rule_is_named_more_2 a vs ts fin (subst (λ z. Means z (a ∷ vs) ts fin) e m)
operand_rule operand_of.NamedMore r (a ∷ vs) ts fin (inr (inr e)) m = elim e [ ]
operand_rule operand_of.NamedMore r [] ts fin h m = tt
