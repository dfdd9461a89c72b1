-- What the productions of methods find is found by cases.
use Rattle.std.proofs.Common.{◌≡◌, List, [], ◌∷◌, ◌++◌, inl, inr, sym, ap, subst, ◌∙◌, append-nil}
use Rattle.ink_grammar.specs.declared.token.Terminal.{Terminal}
use Rattle.ink_grammar.specs.declared.symbol.Nonterminal.TheVariants as part_of
use Rattle.ink_grammar.specs.declared.symbol.MethodPart.TheVariants as method_of
use Rattle.ink_grammar.specs.declared.tree.TwoChildren.TheVariants as two_of
use Rattle.ink_grammar.specs.declared.tree.FourChildren.TheVariants as four_of
use Rattle.ink_grammar.specs.declared.symbol.MethodPart.{MethodPart}
use Rattle.ink_grammar.specs.declared.symbol.Symbol.{Symbol}
use Rattle.ink_grammar.specs.Grammar.{method_rules}
use Rattle.ink_grammar.specs.Tree.{Found, leaf, nothing, node_two, node_four}
use Rattle.ink_grammar.specs.Reads.{Among}
use Rattle.ink_grammar.specs.Productions.{Is, is_optional_pub_1, is_optional_pub_2, is_optional_async_1, is_optional_async_2, is_optional_mut_1, is_optional_mut_2, is_method_kind_1, is_method_kind_2, is_method_kind_3, is_method_kind_4, is_trait_method_kind_1, is_trait_method_kind_2, is_trait_method_kind_3, is_methods_1, is_methods_2, is_method, is_parameters_1, is_parameters_2, is_parameters_more_1, is_parameters_more_2, is_parameters_rest_1, is_parameters_rest_2, is_parameter, is_method_result_1, is_method_result_2}
use Rattle.ink_grammar.proofs.Samples.{nth}
use Rattle.ink_grammar.proofs.Meaning.{After, Means}

rule_is_optional_pub_1 : (a : Found) (vs : List Found) (ts : List Terminal) (fin : List Found) → Means (nth 0 (method_rules method_of.OptionalPub)) (a ∷ vs) ts fin → After (part_of.Method method_of.OptionalPub) (a ∷ vs) ts (λ z. fin ≡ z)
rule_is_optional_pub_1 a vs ts fin m =
    let t0 = m.0 in
    let e : ts ≡ t0 ∷ [] = m.2 ∙ ap (λ z. t0 ∷ z) (m.5.0) in
    (node_two two_of.More a (leaf t0), subst (λ z. Is (part_of.Method method_of.OptionalPub) (a ∷ []) z (node_two two_of.More a (leaf t0))) (sym e) (is_optional_pub_1 t0 m.4), m.5.1)

rule_is_optional_pub_2 : (a : Found) (vs : List Found) (ts : List Terminal) (fin : List Found) → Means (nth 1 (method_rules method_of.OptionalPub)) (a ∷ vs) ts fin → After (part_of.Method method_of.OptionalPub) (a ∷ vs) ts (λ z. fin ≡ z)
rule_is_optional_pub_2 a vs ts fin m =
    let e : ts ≡ [] = m.0 in
    (a, subst (λ z. Is (part_of.Method method_of.OptionalPub) (a ∷ []) z a) (sym e) is_optional_pub_2, m.1)

rule_is_optional_async_1 : (a : Found) (vs : List Found) (ts : List Terminal) (fin : List Found) → Means (nth 0 (method_rules method_of.OptionalAsync)) (a ∷ vs) ts fin → After (part_of.Method method_of.OptionalAsync) (a ∷ vs) ts (λ z. fin ≡ z)
rule_is_optional_async_1 a vs ts fin m =
    let t0 = m.0 in
    let e : ts ≡ t0 ∷ [] = m.2 ∙ ap (λ z. t0 ∷ z) (m.5.0) in
    (node_two two_of.More a (leaf t0), subst (λ z. Is (part_of.Method method_of.OptionalAsync) (a ∷ []) z (node_two two_of.More a (leaf t0))) (sym e) (is_optional_async_1 t0 m.4), m.5.1)

rule_is_optional_async_2 : (a : Found) (vs : List Found) (ts : List Terminal) (fin : List Found) → Means (nth 1 (method_rules method_of.OptionalAsync)) (a ∷ vs) ts fin → After (part_of.Method method_of.OptionalAsync) (a ∷ vs) ts (λ z. fin ≡ z)
rule_is_optional_async_2 a vs ts fin m =
    let e : ts ≡ [] = m.0 in
    (a, subst (λ z. Is (part_of.Method method_of.OptionalAsync) (a ∷ []) z a) (sym e) is_optional_async_2, m.1)

rule_is_optional_mut_1 : (a : Found) (vs : List Found) (ts : List Terminal) (fin : List Found) → Means (nth 0 (method_rules method_of.OptionalMut)) (a ∷ vs) ts fin → After (part_of.Method method_of.OptionalMut) (a ∷ vs) ts (λ z. fin ≡ z)
rule_is_optional_mut_1 a vs ts fin m =
    let t0 = m.0 in
    let e : ts ≡ t0 ∷ [] = m.2 ∙ ap (λ z. t0 ∷ z) (m.5.0) in
    (node_two two_of.More a (leaf t0), subst (λ z. Is (part_of.Method method_of.OptionalMut) (a ∷ []) z (node_two two_of.More a (leaf t0))) (sym e) (is_optional_mut_1 t0 m.4), m.5.1)

rule_is_optional_mut_2 : (a : Found) (vs : List Found) (ts : List Terminal) (fin : List Found) → Means (nth 1 (method_rules method_of.OptionalMut)) (a ∷ vs) ts fin → After (part_of.Method method_of.OptionalMut) (a ∷ vs) ts (λ z. fin ≡ z)
rule_is_optional_mut_2 a vs ts fin m =
    let e : ts ≡ [] = m.0 in
    (a, subst (λ z. Is (part_of.Method method_of.OptionalMut) (a ∷ []) z a) (sym e) is_optional_mut_2, m.1)

rule_is_method_kind_1 : (a : Found) (vs : List Found) (ts : List Terminal) (fin : List Found) → Means (nth 0 (method_rules method_of.MethodKind)) (a ∷ vs) ts fin → After (part_of.Method method_of.MethodKind) (a ∷ vs) ts (λ z. fin ≡ z)
rule_is_method_kind_1 a vs ts fin m =
    let t0 = m.0 in
    let e : ts ≡ t0 ∷ [] = m.2 ∙ ap (λ z. t0 ∷ z) (m.5.0) in
    (node_two two_of.More a (leaf t0), subst (λ z. Is (part_of.Method method_of.MethodKind) (a ∷ []) z (node_two two_of.More a (leaf t0))) (sym e) (is_method_kind_1 t0 m.4), m.5.1)

rule_is_method_kind_2 : (a : Found) (vs : List Found) (ts : List Terminal) (fin : List Found) → Means (nth 1 (method_rules method_of.MethodKind)) (a ∷ vs) ts fin → After (part_of.Method method_of.MethodKind) (a ∷ vs) ts (λ z. fin ≡ z)
rule_is_method_kind_2 a vs ts fin m =
    let t0 = m.0 in
    let e : ts ≡ t0 ∷ [] = m.2 ∙ ap (λ z. t0 ∷ z) (m.5.0) in
    (node_two two_of.More a (leaf t0), subst (λ z. Is (part_of.Method method_of.MethodKind) (a ∷ []) z (node_two two_of.More a (leaf t0))) (sym e) (is_method_kind_2 t0 m.4), m.5.1)

rule_is_method_kind_3 : (a : Found) (vs : List Found) (ts : List Terminal) (fin : List Found) → Means (nth 2 (method_rules method_of.MethodKind)) (a ∷ vs) ts fin → After (part_of.Method method_of.MethodKind) (a ∷ vs) ts (λ z. fin ≡ z)
rule_is_method_kind_3 a vs ts fin m =
    let t0 = m.0 in
    let e : ts ≡ t0 ∷ [] = m.2 ∙ ap (λ z. t0 ∷ z) (m.5.0) in
    (node_two two_of.More a (leaf t0), subst (λ z. Is (part_of.Method method_of.MethodKind) (a ∷ []) z (node_two two_of.More a (leaf t0))) (sym e) (is_method_kind_3 t0 m.4), m.5.1)

rule_is_method_kind_4 : (a : Found) (vs : List Found) (ts : List Terminal) (fin : List Found) → Means (nth 3 (method_rules method_of.MethodKind)) (a ∷ vs) ts fin → After (part_of.Method method_of.MethodKind) (a ∷ vs) ts (λ z. fin ≡ z)
rule_is_method_kind_4 a vs ts fin m =
    let e : ts ≡ [] = m.0 in
    (a, subst (λ z. Is (part_of.Method method_of.MethodKind) (a ∷ []) z a) (sym e) is_method_kind_4, m.1)

rule_is_trait_method_kind_1 : (a : Found) (vs : List Found) (ts : List Terminal) (fin : List Found) → Means (nth 0 (method_rules method_of.TraitMethodKind)) (a ∷ vs) ts fin → After (part_of.Method method_of.TraitMethodKind) (a ∷ vs) ts (λ z. fin ≡ z)
rule_is_trait_method_kind_1 a vs ts fin m =
    let t0 = m.0 in
    let e : ts ≡ t0 ∷ [] = m.2 ∙ ap (λ z. t0 ∷ z) (m.5.0) in
    (node_two two_of.More a (leaf t0), subst (λ z. Is (part_of.Method method_of.TraitMethodKind) (a ∷ []) z (node_two two_of.More a (leaf t0))) (sym e) (is_trait_method_kind_1 t0 m.4), m.5.1)

rule_is_trait_method_kind_2 : (a : Found) (vs : List Found) (ts : List Terminal) (fin : List Found) → Means (nth 1 (method_rules method_of.TraitMethodKind)) (a ∷ vs) ts fin → After (part_of.Method method_of.TraitMethodKind) (a ∷ vs) ts (λ z. fin ≡ z)
rule_is_trait_method_kind_2 a vs ts fin m =
    let t0 = m.0 in
    let e : ts ≡ t0 ∷ [] = m.2 ∙ ap (λ z. t0 ∷ z) (m.5.0) in
    (node_two two_of.More a (leaf t0), subst (λ z. Is (part_of.Method method_of.TraitMethodKind) (a ∷ []) z (node_two two_of.More a (leaf t0))) (sym e) (is_trait_method_kind_2 t0 m.4), m.5.1)

rule_is_trait_method_kind_3 : (a : Found) (vs : List Found) (ts : List Terminal) (fin : List Found) → Means (nth 2 (method_rules method_of.TraitMethodKind)) (a ∷ vs) ts fin → After (part_of.Method method_of.TraitMethodKind) (a ∷ vs) ts (λ z. fin ≡ z)
rule_is_trait_method_kind_3 a vs ts fin m =
    let e : ts ≡ [] = m.0 in
    (a, subst (λ z. Is (part_of.Method method_of.TraitMethodKind) (a ∷ []) z a) (sym e) is_trait_method_kind_3, m.1)

rule_is_methods_1 : (a : Found) (vs : List Found) (ts : List Terminal) (fin : List Found) → Means (nth 0 (method_rules method_of.Methods)) (a ∷ vs) ts fin → After (part_of.Method method_of.Methods) (a ∷ vs) ts (λ z. fin ≡ z)
rule_is_methods_1 a vs ts fin m =
    let u0 = m.0 in
    let v0 = m.4.0 in
    let u1 = m.4.2.0 in
    let v1 = m.4.2.4.0 in
    let e : ts ≡ u0 ++ u1 = m.2 ∙ ap (λ z. u0 ++ z) (m.4.2.2 ∙ ap (λ z. u1 ++ z) m.4.2.4.2.0 ∙ append-nil u1) in
    (v1, subst (λ z. Is (part_of.Method method_of.Methods) (a ∷ []) z v1) (sym e) (is_methods_1 u0 v0 u1 v1 m.4.1 m.4.2.4.1), m.4.2.4.2.1)

rule_is_methods_2 : (a : Found) (vs : List Found) (ts : List Terminal) (fin : List Found) → Means (nth 1 (method_rules method_of.Methods)) (a ∷ vs) ts fin → After (part_of.Method method_of.Methods) (a ∷ vs) ts (λ z. fin ≡ z)
rule_is_methods_2 a vs ts fin m =
    let e : ts ≡ [] = m.0 in
    (a, subst (λ z. Is (part_of.Method method_of.Methods) (a ∷ []) z a) (sym e) is_methods_2, m.1)

rule_is_method : (vs : List Found) (ts : List Terminal) (fin : List Found) → Means (nth 0 (method_rules method_of.Method)) (vs) ts fin → After (part_of.Method method_of.Method) (vs) ts (λ z. fin ≡ z)
rule_is_method vs ts fin m =
    let t0 = m.0 in
    let u0 = m.5.0 in
    let v0 = m.5.4.0 in
    let u1 = m.5.4.2.0 in
    let v1 = m.5.4.2.4.0 in
    let u2 = m.5.4.2.4.2.0 in
    let v2 = m.5.4.2.4.2.4.0 in
    let t1 = m.5.4.2.4.2.4.2.0 in
    let u3 = m.5.4.2.4.2.4.2.5.0 in
    let v3 = m.5.4.2.4.2.4.2.5.4.0 in
    let u4 = m.5.4.2.4.2.4.2.5.4.2.0 in
    let v4 = m.5.4.2.4.2.4.2.5.4.2.4.0 in
    let u5 = m.5.4.2.4.2.4.2.5.4.2.4.2.0 in
    let v5 = m.5.4.2.4.2.4.2.5.4.2.4.2.4.0 in
    let u6 = m.5.4.2.4.2.4.2.5.4.2.4.2.4.2.0 in
    let v6 = m.5.4.2.4.2.4.2.5.4.2.4.2.4.2.4.0 in
    let e : ts ≡ t0 ∷ (u0 ++ (u1 ++ (u2 ++ (t1 ∷ (u3 ++ (u4 ++ (u5 ++ u6))))))) = m.2 ∙ ap (λ z. t0 ∷ z) (m.5.2 ∙ ap (λ z. u0 ++ z) (m.5.4.2.2 ∙ ap (λ z. u1 ++ z) (m.5.4.2.4.2.2 ∙ ap (λ z. u2 ++ z) (m.5.4.2.4.2.4.2.2 ∙ ap (λ z. t1 ∷ z) (m.5.4.2.4.2.4.2.5.2 ∙ ap (λ z. u3 ++ z) (m.5.4.2.4.2.4.2.5.4.2.2 ∙ ap (λ z. u4 ++ z) (m.5.4.2.4.2.4.2.5.4.2.4.2.2 ∙ ap (λ z. u5 ++ z) (m.5.4.2.4.2.4.2.5.4.2.4.2.4.2.2 ∙ ap (λ z. u6 ++ z) m.5.4.2.4.2.4.2.5.4.2.4.2.4.2.4.2.0 ∙ append-nil u6)))))))) in
    (node_four four_of.Method (leaf t0) v2 (node_four four_of.Signature (leaf t1) v3 v4 v5) v6, subst (λ z. Is (part_of.Method method_of.Method) [] z (node_four four_of.Method (leaf t0) v2 (node_four four_of.Signature (leaf t1) v3 v4 v5) v6)) (sym e) (is_method t0 u0 v0 u1 v1 u2 v2 t1 u3 v3 u4 v4 u5 v5 u6 v6 m.4 m.5.4.1 m.5.4.2.4.1 m.5.4.2.4.2.4.1 m.5.4.2.4.2.4.2.4 m.5.4.2.4.2.4.2.5.4.1 m.5.4.2.4.2.4.2.5.4.2.4.1 m.5.4.2.4.2.4.2.5.4.2.4.2.4.1 m.5.4.2.4.2.4.2.5.4.2.4.2.4.2.4.1), m.5.4.2.4.2.4.2.5.4.2.4.2.4.2.4.2.1)

rule_is_parameters_1 : (vs : List Found) (ts : List Terminal) (fin : List Found) → Means (nth 0 (method_rules method_of.Parameters)) (vs) ts fin → After (part_of.Method method_of.Parameters) (vs) ts (λ z. fin ≡ z)
rule_is_parameters_1 vs ts fin m =
    let t0 = m.0 in
    let u0 = m.5.0 in
    let v0 = m.5.4.0 in
    let e : ts ≡ t0 ∷ u0 = m.2 ∙ ap (λ z. t0 ∷ z) (m.5.2 ∙ ap (λ z. u0 ++ z) m.5.4.2.0 ∙ append-nil u0) in
    (v0, subst (λ z. Is (part_of.Method method_of.Parameters) [] z v0) (sym e) (is_parameters_1 t0 u0 v0 m.4 m.5.4.1), m.5.4.2.1)

rule_is_parameters_2 : (vs : List Found) (ts : List Terminal) (fin : List Found) → Means (nth 1 (method_rules method_of.Parameters)) (vs) ts fin → After (part_of.Method method_of.Parameters) (vs) ts (λ z. fin ≡ z)
rule_is_parameters_2 vs ts fin m =
    let e : ts ≡ [] = m.0 in
    (nothing, subst (λ z. Is (part_of.Method method_of.Parameters) [] z nothing) (sym e) is_parameters_2, m.1)

rule_is_parameters_more_1 : (a : Found) (vs : List Found) (ts : List Terminal) (fin : List Found) → Means (nth 0 (method_rules method_of.ParametersMore)) (a ∷ vs) ts fin → After (part_of.Method method_of.ParametersMore) (a ∷ vs) ts (λ z. fin ≡ z)
rule_is_parameters_more_1 a vs ts fin m =
    let t0 = m.0 in
    let e : ts ≡ t0 ∷ [] = m.2 ∙ ap (λ z. t0 ∷ z) (m.5.0) in
    (a, subst (λ z. Is (part_of.Method method_of.ParametersMore) (a ∷ []) z a) (sym e) (is_parameters_more_1 t0 m.4), m.5.1)

rule_is_parameters_more_2 : (a : Found) (vs : List Found) (ts : List Terminal) (fin : List Found) → Means (nth 1 (method_rules method_of.ParametersMore)) (a ∷ vs) ts fin → After (part_of.Method method_of.ParametersMore) (a ∷ vs) ts (λ z. fin ≡ z)
rule_is_parameters_more_2 a vs ts fin m =
    let u0 = m.0 in
    let v0 = m.4.0 in
    let u1 = m.4.2.0 in
    let v1 = m.4.2.4.0 in
    let e : ts ≡ u0 ++ u1 = m.2 ∙ ap (λ z. u0 ++ z) (m.4.2.2 ∙ ap (λ z. u1 ++ z) m.4.2.4.2.0 ∙ append-nil u1) in
    (v1, subst (λ z. Is (part_of.Method method_of.ParametersMore) (a ∷ []) z v1) (sym e) (is_parameters_more_2 u0 v0 u1 v1 m.4.1 m.4.2.4.1), m.4.2.4.2.1)

rule_is_parameters_rest_1 : (a : Found) (vs : List Found) (ts : List Terminal) (fin : List Found) → Means (nth 0 (method_rules method_of.ParametersRest)) (a ∷ vs) ts fin → After (part_of.Method method_of.ParametersRest) (a ∷ vs) ts (λ z. fin ≡ z)
rule_is_parameters_rest_1 a vs ts fin m =
    let t0 = m.0 in
    let e : ts ≡ t0 ∷ [] = m.2 ∙ ap (λ z. t0 ∷ z) (m.5.0) in
    (a, subst (λ z. Is (part_of.Method method_of.ParametersRest) (a ∷ []) z a) (sym e) (is_parameters_rest_1 t0 m.4), m.5.1)

rule_is_parameters_rest_2 : (a : Found) (vs : List Found) (ts : List Terminal) (fin : List Found) → Means (nth 1 (method_rules method_of.ParametersRest)) (a ∷ vs) ts fin → After (part_of.Method method_of.ParametersRest) (a ∷ vs) ts (λ z. fin ≡ z)
rule_is_parameters_rest_2 a vs ts fin m =
    let t0 = m.0 in
    let u0 = m.5.0 in
    let v0 = m.5.4.0 in
    let e : ts ≡ t0 ∷ u0 = m.2 ∙ ap (λ z. t0 ∷ z) (m.5.2 ∙ ap (λ z. u0 ++ z) m.5.4.2.0 ∙ append-nil u0) in
    (v0, subst (λ z. Is (part_of.Method method_of.ParametersRest) (a ∷ []) z v0) (sym e) (is_parameters_rest_2 t0 u0 v0 m.4 m.5.4.1), m.5.4.2.1)

rule_is_parameter : (vs : List Found) (ts : List Terminal) (fin : List Found) → Means (nth 0 (method_rules method_of.Parameter)) (vs) ts fin → After (part_of.Method method_of.Parameter) (vs) ts (λ z. fin ≡ z)
rule_is_parameter vs ts fin m =
    let t0 = m.0 in
    let t1 = m.5.0 in
    let u0 = m.5.5.0 in
    let v0 = m.5.5.4.0 in
    let e : ts ≡ t0 ∷ (t1 ∷ u0) = m.2 ∙ ap (λ z. t0 ∷ z) (m.5.2 ∙ ap (λ z. t1 ∷ z) (m.5.5.2 ∙ ap (λ z. u0 ++ z) m.5.5.4.2.0 ∙ append-nil u0)) in
    (node_two two_of.Parameter (leaf t0) v0, subst (λ z. Is (part_of.Method method_of.Parameter) [] z (node_two two_of.Parameter (leaf t0) v0)) (sym e) (is_parameter t0 t1 u0 v0 m.4 m.5.4 m.5.5.4.1), m.5.5.4.2.1)

rule_is_method_result_1 : (vs : List Found) (ts : List Terminal) (fin : List Found) → Means (nth 0 (method_rules method_of.MethodResult)) (vs) ts fin → After (part_of.Method method_of.MethodResult) (vs) ts (λ z. fin ≡ z)
rule_is_method_result_1 vs ts fin m =
    let t0 = m.0 in
    let u0 = m.5.0 in
    let v0 = m.5.4.0 in
    let e : ts ≡ t0 ∷ u0 = m.2 ∙ ap (λ z. t0 ∷ z) (m.5.2 ∙ ap (λ z. u0 ++ z) m.5.4.2.0 ∙ append-nil u0) in
    (v0, subst (λ z. Is (part_of.Method method_of.MethodResult) [] z v0) (sym e) (is_method_result_1 t0 u0 v0 m.4 m.5.4.1), m.5.4.2.1)

rule_is_method_result_2 : (vs : List Found) (ts : List Terminal) (fin : List Found) → Means (nth 1 (method_rules method_of.MethodResult)) (vs) ts fin → After (part_of.Method method_of.MethodResult) (vs) ts (λ z. fin ≡ z)
rule_is_method_result_2 vs ts fin m =
    let e : ts ≡ [] = m.0 in
    (nothing, subst (λ z. Is (part_of.Method method_of.MethodResult) [] z nothing) (sym e) is_method_result_2, m.1)

pub method_rule : (n : MethodPart) (r : List Symbol) (vs : List Found) (ts : List Terminal) (fin : List Found) → Among r (method_rules n) → Means r vs ts fin → After (part_of.Method n) vs ts (λ z. fin ≡ z)
method_rule method_of.OptionalPub r (a ∷ vs) ts fin (inl e) m = rule_is_optional_pub_1 a vs ts fin (subst (λ z. Means z (a ∷ vs) ts fin) e m)
method_rule method_of.OptionalPub r (a ∷ vs) ts fin (inr (inl e)) m = rule_is_optional_pub_2 a vs ts fin (subst (λ z. Means z (a ∷ vs) ts fin) e m)
method_rule method_of.OptionalPub r (a ∷ vs) ts fin (inr (inr e)) m = elim e [ ]
method_rule method_of.OptionalPub r [] ts fin h m = tt
method_rule method_of.OptionalAsync r (a ∷ vs) ts fin (inl e) m = rule_is_optional_async_1 a vs ts fin (subst (λ z. Means z (a ∷ vs) ts fin) e m)
method_rule method_of.OptionalAsync r (a ∷ vs) ts fin (inr (inl e)) m = rule_is_optional_async_2 a vs ts fin (subst (λ z. Means z (a ∷ vs) ts fin) e m)
method_rule method_of.OptionalAsync r (a ∷ vs) ts fin (inr (inr e)) m = elim e [ ]
method_rule method_of.OptionalAsync r [] ts fin h m = tt
method_rule method_of.OptionalMut r (a ∷ vs) ts fin (inl e) m = rule_is_optional_mut_1 a vs ts fin (subst (λ z. Means z (a ∷ vs) ts fin) e m)
method_rule method_of.OptionalMut r (a ∷ vs) ts fin (inr (inl e)) m = rule_is_optional_mut_2 a vs ts fin (subst (λ z. Means z (a ∷ vs) ts fin) e m)
method_rule method_of.OptionalMut r (a ∷ vs) ts fin (inr (inr e)) m = elim e [ ]
method_rule method_of.OptionalMut r [] ts fin h m = tt
method_rule method_of.MethodKind r (a ∷ vs) ts fin (inl e) m = rule_is_method_kind_1 a vs ts fin (subst (λ z. Means z (a ∷ vs) ts fin) e m)
method_rule method_of.MethodKind r (a ∷ vs) ts fin (inr (inl e)) m = rule_is_method_kind_2 a vs ts fin (subst (λ z. Means z (a ∷ vs) ts fin) e m)
method_rule method_of.MethodKind r (a ∷ vs) ts fin (inr (inr (inl e))) m = rule_is_method_kind_3 a vs ts fin (subst (λ z. Means z (a ∷ vs) ts fin) e m)
method_rule method_of.MethodKind r (a ∷ vs) ts fin (inr (inr (inr (inl e)))) m = rule_is_method_kind_4 a vs ts fin (subst (λ z. Means z (a ∷ vs) ts fin) e m)
method_rule method_of.MethodKind r (a ∷ vs) ts fin (inr (inr (inr (inr e)))) m = elim e [ ]
method_rule method_of.MethodKind r [] ts fin h m = tt
method_rule method_of.TraitMethodKind r (a ∷ vs) ts fin (inl e) m = rule_is_trait_method_kind_1 a vs ts fin (subst (λ z. Means z (a ∷ vs) ts fin) e m)
method_rule method_of.TraitMethodKind r (a ∷ vs) ts fin (inr (inl e)) m = rule_is_trait_method_kind_2 a vs ts fin (subst (λ z. Means z (a ∷ vs) ts fin) e m)
method_rule method_of.TraitMethodKind r (a ∷ vs) ts fin (inr (inr (inl e))) m = rule_is_trait_method_kind_3 a vs ts fin (subst (λ z. Means z (a ∷ vs) ts fin) e m)
method_rule method_of.TraitMethodKind r (a ∷ vs) ts fin (inr (inr (inr e))) m = elim e [ ]
method_rule method_of.TraitMethodKind r [] ts fin h m = tt
method_rule method_of.Methods r (a ∷ vs) ts fin (inl e) m = rule_is_methods_1 a vs ts fin (subst (λ z. Means z (a ∷ vs) ts fin) e m)
method_rule method_of.Methods r (a ∷ vs) ts fin (inr (inl e)) m = rule_is_methods_2 a vs ts fin (subst (λ z. Means z (a ∷ vs) ts fin) e m)
method_rule method_of.Methods r (a ∷ vs) ts fin (inr (inr e)) m = elim e [ ]
method_rule method_of.Methods r [] ts fin h m = tt
method_rule method_of.Method r vs ts fin (inl e) m = rule_is_method vs ts fin (subst (λ z. Means z vs ts fin) e m)
method_rule method_of.Method r vs ts fin (inr e) m = elim e [ ]
method_rule method_of.Parameters r vs ts fin (inl e) m = rule_is_parameters_1 vs ts fin (subst (λ z. Means z vs ts fin) e m)
method_rule method_of.Parameters r vs ts fin (inr (inl e)) m = rule_is_parameters_2 vs ts fin (subst (λ z. Means z vs ts fin) e m)
method_rule method_of.Parameters r vs ts fin (inr (inr e)) m = elim e [ ]
method_rule method_of.ParametersMore r (a ∷ vs) ts fin (inl e) m = rule_is_parameters_more_1 a vs ts fin (subst (λ z. Means z (a ∷ vs) ts fin) e m)
method_rule method_of.ParametersMore r (a ∷ vs) ts fin (inr (inl e)) m = rule_is_parameters_more_2 a vs ts fin (subst (λ z. Means z (a ∷ vs) ts fin) e m)
method_rule method_of.ParametersMore r (a ∷ vs) ts fin (inr (inr e)) m = elim e [ ]
method_rule method_of.ParametersMore r [] ts fin h m = tt
method_rule method_of.ParametersRest r (a ∷ vs) ts fin (inl e) m = rule_is_parameters_rest_1 a vs ts fin (subst (λ z. Means z (a ∷ vs) ts fin) e m)
method_rule method_of.ParametersRest r (a ∷ vs) ts fin (inr (inl e)) m = rule_is_parameters_rest_2 a vs ts fin (subst (λ z. Means z (a ∷ vs) ts fin) e m)
method_rule method_of.ParametersRest r (a ∷ vs) ts fin (inr (inr e)) m = elim e [ ]
method_rule method_of.ParametersRest r [] ts fin h m = tt
method_rule method_of.Parameter r vs ts fin (inl e) m = rule_is_parameter vs ts fin (subst (λ z. Means z vs ts fin) e m)
method_rule method_of.Parameter r vs ts fin (inr e) m = elim e [ ]
method_rule method_of.MethodResult r vs ts fin (inl e) m = rule_is_method_result_1 vs ts fin (subst (λ z. Means z vs ts fin) e m)
method_rule method_of.MethodResult r vs ts fin (inr (inl e)) m = rule_is_method_result_2 vs ts fin (subst (λ z. Means z vs ts fin) e m)
method_rule method_of.MethodResult r vs ts fin (inr (inr e)) m = elim e [ ]
