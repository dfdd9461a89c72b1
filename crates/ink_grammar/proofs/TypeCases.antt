-- What the productions of types find is found by cases.
use Rattle.std.proofs.Common.{◌≡◌, List, [], ◌∷◌, ◌++◌, inl, inr, sym, ap, subst, ◌∙◌, append-nil}
use Rattle.ink_grammar.specs.declared.token.Terminal.{Terminal}
use Rattle.ink_grammar.specs.declared.symbol.Nonterminal.TheVariants as part_of
use Rattle.ink_grammar.specs.declared.symbol.TypePart.TheVariants as type_of
use Rattle.ink_grammar.specs.declared.tree.TwoChildren.TheVariants as two_of
use Rattle.ink_grammar.specs.declared.tree.ThreeChildren.TheVariants as three_of
use Rattle.ink_grammar.specs.declared.tree.FourChildren.TheVariants as four_of
use Rattle.ink_grammar.specs.declared.symbol.TypePart.{TypePart}
use Rattle.ink_grammar.specs.declared.symbol.Symbol.{Symbol}
use Rattle.ink_grammar.specs.Grammar.{type_rules}
use Rattle.ink_grammar.specs.Tree.{Found, leaf, nothing, node_two, node_three, node_four}
use Rattle.ink_grammar.specs.Reads.{Among}
use Rattle.ink_grammar.specs.Productions.{Is, is_full_type_1, is_full_type_2, is_bare_type_1, is_bare_type_2, is_tuple_type_rest_1, is_tuple_type_rest_2, is_type_arguments_1, is_type_arguments_2, is_type_arguments_rest_1, is_type_arguments_rest_2, is_type_arguments_more_1, is_type_arguments_more_2, is_type_parameters_1, is_type_parameters_2, is_type_parameters_rest_1, is_type_parameters_rest_2, is_type_parameters_more_1, is_type_parameters_more_2, is_type_parameter, is_bounds_1, is_bounds_2, is_bounds_rest_1, is_bounds_rest_2, is_constructor_types_1, is_constructor_types_2, is_constructor_types_rest_1, is_constructor_types_rest_2, is_constructor_types_more_1, is_constructor_types_more_2}
use Rattle.ink_grammar.proofs.Samples.{nth}
use Rattle.ink_grammar.proofs.Meaning.{After, Means}

rule_is_full_type_1 : (vs : List Found) (ts : List Terminal) (fin : List Found) → Means (nth 0 (type_rules type_of.FullType)) (vs) ts fin → After (part_of.Type type_of.FullType) (vs) ts (λ z. fin ≡ z)
rule_is_full_type_1 vs ts fin m =
    let t0 = m.0 in
    let u0 = m.5.0 in
    let v0 = m.5.4.0 in
    let e : ts ≡ t0 ∷ u0 = m.2 ∙ ap (λ z. t0 ∷ z) (m.5.2 ∙ ap (λ z. u0 ++ z) m.5.4.2.0 ∙ append-nil u0) in
    (node_two two_of.PrefixedType (leaf t0) v0, subst (λ z. Is (part_of.Type type_of.FullType) [] z (node_two two_of.PrefixedType (leaf t0) v0)) (sym e) (is_full_type_1 t0 u0 v0 m.4 m.5.4.1), m.5.4.2.1)

rule_is_full_type_2 : (vs : List Found) (ts : List Terminal) (fin : List Found) → Means (nth 1 (type_rules type_of.FullType)) (vs) ts fin → After (part_of.Type type_of.FullType) (vs) ts (λ z. fin ≡ z)
rule_is_full_type_2 vs ts fin m =
    let u0 = m.0 in
    let v0 = m.4.0 in
    let e : ts ≡ u0 = m.2 ∙ ap (λ z. u0 ++ z) m.4.2.0 ∙ append-nil u0 in
    (v0, subst (λ z. Is (part_of.Type type_of.FullType) [] z v0) (sym e) (is_full_type_2 u0 v0 m.4.1), m.4.2.1)

rule_is_bare_type_1 : (vs : List Found) (ts : List Terminal) (fin : List Found) → Means (nth 0 (type_rules type_of.BareType)) (vs) ts fin → After (part_of.Type type_of.BareType) (vs) ts (λ z. fin ≡ z)
rule_is_bare_type_1 vs ts fin m =
    let t0 = m.0 in
    let u0 = m.5.0 in
    let v0 = m.5.4.0 in
    let e : ts ≡ t0 ∷ u0 = m.2 ∙ ap (λ z. t0 ∷ z) (m.5.2 ∙ ap (λ z. u0 ++ z) m.5.4.2.0 ∙ append-nil u0) in
    (node_two two_of.NamedType (leaf t0) v0, subst (λ z. Is (part_of.Type type_of.BareType) [] z (node_two two_of.NamedType (leaf t0) v0)) (sym e) (is_bare_type_1 t0 u0 v0 m.4 m.5.4.1), m.5.4.2.1)

rule_is_bare_type_2 : (vs : List Found) (ts : List Terminal) (fin : List Found) → Means (nth 1 (type_rules type_of.BareType)) (vs) ts fin → After (part_of.Type type_of.BareType) (vs) ts (λ z. fin ≡ z)
rule_is_bare_type_2 vs ts fin m =
    let t0 = m.0 in
    let u0 = m.5.0 in
    let v0 = m.5.4.0 in
    let t1 = m.5.4.2.0 in
    let u1 = m.5.4.2.5.0 in
    let v1 = m.5.4.2.5.4.0 in
    let u2 = m.5.4.2.5.4.2.0 in
    let v2 = m.5.4.2.5.4.2.4.0 in
    let e : ts ≡ t0 ∷ (u0 ++ (t1 ∷ (u1 ++ u2))) = m.2 ∙ ap (λ z. t0 ∷ z) (m.5.2 ∙ ap (λ z. u0 ++ z) (m.5.4.2.2 ∙ ap (λ z. t1 ∷ z) (m.5.4.2.5.2 ∙ ap (λ z. u1 ++ z) (m.5.4.2.5.4.2.2 ∙ ap (λ z. u2 ++ z) m.5.4.2.5.4.2.4.2.0 ∙ append-nil u2)))) in
    (v2, subst (λ z. Is (part_of.Type type_of.BareType) [] z v2) (sym e) (is_bare_type_2 t0 u0 v0 t1 u1 v1 u2 v2 m.4 m.5.4.1 m.5.4.2.4 m.5.4.2.5.4.1 m.5.4.2.5.4.2.4.1), m.5.4.2.5.4.2.4.2.1)

rule_is_tuple_type_rest_1 : (a : Found) (b : Found) (c : Found) (vs : List Found) (ts : List Terminal) (fin : List Found) → Means (nth 0 (type_rules type_of.TupleTypeRest)) (c ∷ b ∷ a ∷ vs) ts fin → After (part_of.Type type_of.TupleTypeRest) (c ∷ b ∷ a ∷ vs) ts (λ z. fin ≡ z)
rule_is_tuple_type_rest_1 a b c vs ts fin m =
    let t0 = m.0 in
    let e : ts ≡ t0 ∷ [] = m.2 ∙ ap (λ z. t0 ∷ z) (m.5.0) in
    (node_three three_of.PairType a b c, subst (λ z. Is (part_of.Type type_of.TupleTypeRest) (c ∷ b ∷ a ∷ []) z (node_three three_of.PairType a b c)) (sym e) (is_tuple_type_rest_1 t0 m.4), m.5.1)

rule_is_tuple_type_rest_2 : (a : Found) (b : Found) (c : Found) (vs : List Found) (ts : List Terminal) (fin : List Found) → Means (nth 1 (type_rules type_of.TupleTypeRest)) (c ∷ b ∷ a ∷ vs) ts fin → After (part_of.Type type_of.TupleTypeRest) (c ∷ b ∷ a ∷ vs) ts (λ z. fin ≡ z)
rule_is_tuple_type_rest_2 a b c vs ts fin m =
    let t0 = m.0 in
    let u0 = m.5.0 in
    let v0 = m.5.4.0 in
    let t1 = m.5.4.2.0 in
    let e : ts ≡ t0 ∷ (u0 ++ (t1 ∷ [])) = m.2 ∙ ap (λ z. t0 ∷ z) (m.5.2 ∙ ap (λ z. u0 ++ z) (m.5.4.2.2 ∙ ap (λ z. t1 ∷ z) (m.5.4.2.5.0))) in
    (node_four four_of.TripleType a b c v0, subst (λ z. Is (part_of.Type type_of.TupleTypeRest) (c ∷ b ∷ a ∷ []) z (node_four four_of.TripleType a b c v0)) (sym e) (is_tuple_type_rest_2 t0 u0 v0 t1 m.4 m.5.4.1 m.5.4.2.4), m.5.4.2.5.1)

rule_is_type_arguments_1 : (vs : List Found) (ts : List Terminal) (fin : List Found) → Means (nth 0 (type_rules type_of.TypeArguments)) (vs) ts fin → After (part_of.Type type_of.TypeArguments) (vs) ts (λ z. fin ≡ z)
rule_is_type_arguments_1 vs ts fin m =
    let t0 = m.0 in
    let u0 = m.5.0 in
    let v0 = m.5.4.0 in
    let u1 = m.5.4.2.0 in
    let v1 = m.5.4.2.4.0 in
    let e : ts ≡ t0 ∷ (u0 ++ u1) = m.2 ∙ ap (λ z. t0 ∷ z) (m.5.2 ∙ ap (λ z. u0 ++ z) (m.5.4.2.2 ∙ ap (λ z. u1 ++ z) m.5.4.2.4.2.0 ∙ append-nil u1)) in
    (v1, subst (λ z. Is (part_of.Type type_of.TypeArguments) [] z v1) (sym e) (is_type_arguments_1 t0 u0 v0 u1 v1 m.4 m.5.4.1 m.5.4.2.4.1), m.5.4.2.4.2.1)

rule_is_type_arguments_2 : (vs : List Found) (ts : List Terminal) (fin : List Found) → Means (nth 1 (type_rules type_of.TypeArguments)) (vs) ts fin → After (part_of.Type type_of.TypeArguments) (vs) ts (λ z. fin ≡ z)
rule_is_type_arguments_2 vs ts fin m =
    let e : ts ≡ [] = m.0 in
    (nothing, subst (λ z. Is (part_of.Type type_of.TypeArguments) [] z nothing) (sym e) is_type_arguments_2, m.1)

rule_is_type_arguments_rest_1 : (a : Found) (vs : List Found) (ts : List Terminal) (fin : List Found) → Means (nth 0 (type_rules type_of.TypeArgumentsRest)) (a ∷ vs) ts fin → After (part_of.Type type_of.TypeArgumentsRest) (a ∷ vs) ts (λ z. fin ≡ z)
rule_is_type_arguments_rest_1 a vs ts fin m =
    let t0 = m.0 in
    let e : ts ≡ t0 ∷ [] = m.2 ∙ ap (λ z. t0 ∷ z) (m.5.0) in
    (a, subst (λ z. Is (part_of.Type type_of.TypeArgumentsRest) (a ∷ []) z a) (sym e) (is_type_arguments_rest_1 t0 m.4), m.5.1)

rule_is_type_arguments_rest_2 : (a : Found) (vs : List Found) (ts : List Terminal) (fin : List Found) → Means (nth 1 (type_rules type_of.TypeArgumentsRest)) (a ∷ vs) ts fin → After (part_of.Type type_of.TypeArgumentsRest) (a ∷ vs) ts (λ z. fin ≡ z)
rule_is_type_arguments_rest_2 a vs ts fin m =
    let t0 = m.0 in
    let u0 = m.5.0 in
    let v0 = m.5.4.0 in
    let e : ts ≡ t0 ∷ u0 = m.2 ∙ ap (λ z. t0 ∷ z) (m.5.2 ∙ ap (λ z. u0 ++ z) m.5.4.2.0 ∙ append-nil u0) in
    (v0, subst (λ z. Is (part_of.Type type_of.TypeArgumentsRest) (a ∷ []) z v0) (sym e) (is_type_arguments_rest_2 t0 u0 v0 m.4 m.5.4.1), m.5.4.2.1)

rule_is_type_arguments_more_1 : (a : Found) (vs : List Found) (ts : List Terminal) (fin : List Found) → Means (nth 0 (type_rules type_of.TypeArgumentsMore)) (a ∷ vs) ts fin → After (part_of.Type type_of.TypeArgumentsMore) (a ∷ vs) ts (λ z. fin ≡ z)
rule_is_type_arguments_more_1 a vs ts fin m =
    let t0 = m.0 in
    let e : ts ≡ t0 ∷ [] = m.2 ∙ ap (λ z. t0 ∷ z) (m.5.0) in
    (a, subst (λ z. Is (part_of.Type type_of.TypeArgumentsMore) (a ∷ []) z a) (sym e) (is_type_arguments_more_1 t0 m.4), m.5.1)

rule_is_type_arguments_more_2 : (a : Found) (vs : List Found) (ts : List Terminal) (fin : List Found) → Means (nth 1 (type_rules type_of.TypeArgumentsMore)) (a ∷ vs) ts fin → After (part_of.Type type_of.TypeArgumentsMore) (a ∷ vs) ts (λ z. fin ≡ z)
rule_is_type_arguments_more_2 a vs ts fin m =
    let u0 = m.0 in
    let v0 = m.4.0 in
    let u1 = m.4.2.0 in
    let v1 = m.4.2.4.0 in
    let e : ts ≡ u0 ++ u1 = m.2 ∙ ap (λ z. u0 ++ z) (m.4.2.2 ∙ ap (λ z. u1 ++ z) m.4.2.4.2.0 ∙ append-nil u1) in
    (v1, subst (λ z. Is (part_of.Type type_of.TypeArgumentsMore) (a ∷ []) z v1) (sym e) (is_type_arguments_more_2 u0 v0 u1 v1 m.4.1 m.4.2.4.1), m.4.2.4.2.1)

rule_is_type_parameters_1 : (vs : List Found) (ts : List Terminal) (fin : List Found) → Means (nth 0 (type_rules type_of.TypeParameters)) (vs) ts fin → After (part_of.Type type_of.TypeParameters) (vs) ts (λ z. fin ≡ z)
rule_is_type_parameters_1 vs ts fin m =
    let t0 = m.0 in
    let u0 = m.5.0 in
    let v0 = m.5.4.0 in
    let u1 = m.5.4.2.0 in
    let v1 = m.5.4.2.4.0 in
    let e : ts ≡ t0 ∷ (u0 ++ u1) = m.2 ∙ ap (λ z. t0 ∷ z) (m.5.2 ∙ ap (λ z. u0 ++ z) (m.5.4.2.2 ∙ ap (λ z. u1 ++ z) m.5.4.2.4.2.0 ∙ append-nil u1)) in
    (v1, subst (λ z. Is (part_of.Type type_of.TypeParameters) [] z v1) (sym e) (is_type_parameters_1 t0 u0 v0 u1 v1 m.4 m.5.4.1 m.5.4.2.4.1), m.5.4.2.4.2.1)

rule_is_type_parameters_2 : (vs : List Found) (ts : List Terminal) (fin : List Found) → Means (nth 1 (type_rules type_of.TypeParameters)) (vs) ts fin → After (part_of.Type type_of.TypeParameters) (vs) ts (λ z. fin ≡ z)
rule_is_type_parameters_2 vs ts fin m =
    let e : ts ≡ [] = m.0 in
    (nothing, subst (λ z. Is (part_of.Type type_of.TypeParameters) [] z nothing) (sym e) is_type_parameters_2, m.1)

rule_is_type_parameters_rest_1 : (a : Found) (vs : List Found) (ts : List Terminal) (fin : List Found) → Means (nth 0 (type_rules type_of.TypeParametersRest)) (a ∷ vs) ts fin → After (part_of.Type type_of.TypeParametersRest) (a ∷ vs) ts (λ z. fin ≡ z)
rule_is_type_parameters_rest_1 a vs ts fin m =
    let t0 = m.0 in
    let e : ts ≡ t0 ∷ [] = m.2 ∙ ap (λ z. t0 ∷ z) (m.5.0) in
    (a, subst (λ z. Is (part_of.Type type_of.TypeParametersRest) (a ∷ []) z a) (sym e) (is_type_parameters_rest_1 t0 m.4), m.5.1)

rule_is_type_parameters_rest_2 : (a : Found) (vs : List Found) (ts : List Terminal) (fin : List Found) → Means (nth 1 (type_rules type_of.TypeParametersRest)) (a ∷ vs) ts fin → After (part_of.Type type_of.TypeParametersRest) (a ∷ vs) ts (λ z. fin ≡ z)
rule_is_type_parameters_rest_2 a vs ts fin m =
    let t0 = m.0 in
    let u0 = m.5.0 in
    let v0 = m.5.4.0 in
    let e : ts ≡ t0 ∷ u0 = m.2 ∙ ap (λ z. t0 ∷ z) (m.5.2 ∙ ap (λ z. u0 ++ z) m.5.4.2.0 ∙ append-nil u0) in
    (v0, subst (λ z. Is (part_of.Type type_of.TypeParametersRest) (a ∷ []) z v0) (sym e) (is_type_parameters_rest_2 t0 u0 v0 m.4 m.5.4.1), m.5.4.2.1)

rule_is_type_parameters_more_1 : (a : Found) (vs : List Found) (ts : List Terminal) (fin : List Found) → Means (nth 0 (type_rules type_of.TypeParametersMore)) (a ∷ vs) ts fin → After (part_of.Type type_of.TypeParametersMore) (a ∷ vs) ts (λ z. fin ≡ z)
rule_is_type_parameters_more_1 a vs ts fin m =
    let t0 = m.0 in
    let e : ts ≡ t0 ∷ [] = m.2 ∙ ap (λ z. t0 ∷ z) (m.5.0) in
    (a, subst (λ z. Is (part_of.Type type_of.TypeParametersMore) (a ∷ []) z a) (sym e) (is_type_parameters_more_1 t0 m.4), m.5.1)

rule_is_type_parameters_more_2 : (a : Found) (vs : List Found) (ts : List Terminal) (fin : List Found) → Means (nth 1 (type_rules type_of.TypeParametersMore)) (a ∷ vs) ts fin → After (part_of.Type type_of.TypeParametersMore) (a ∷ vs) ts (λ z. fin ≡ z)
rule_is_type_parameters_more_2 a vs ts fin m =
    let u0 = m.0 in
    let v0 = m.4.0 in
    let u1 = m.4.2.0 in
    let v1 = m.4.2.4.0 in
    let e : ts ≡ u0 ++ u1 = m.2 ∙ ap (λ z. u0 ++ z) (m.4.2.2 ∙ ap (λ z. u1 ++ z) m.4.2.4.2.0 ∙ append-nil u1) in
    (v1, subst (λ z. Is (part_of.Type type_of.TypeParametersMore) (a ∷ []) z v1) (sym e) (is_type_parameters_more_2 u0 v0 u1 v1 m.4.1 m.4.2.4.1), m.4.2.4.2.1)

rule_is_type_parameter : (vs : List Found) (ts : List Terminal) (fin : List Found) → Means (nth 0 (type_rules type_of.TypeParameter)) (vs) ts fin → After (part_of.Type type_of.TypeParameter) (vs) ts (λ z. fin ≡ z)
rule_is_type_parameter vs ts fin m =
    let t0 = m.0 in
    let u0 = m.5.0 in
    let v0 = m.5.4.0 in
    let e : ts ≡ t0 ∷ u0 = m.2 ∙ ap (λ z. t0 ∷ z) (m.5.2 ∙ ap (λ z. u0 ++ z) m.5.4.2.0 ∙ append-nil u0) in
    (node_two two_of.TypeParameter (leaf t0) v0, subst (λ z. Is (part_of.Type type_of.TypeParameter) [] z (node_two two_of.TypeParameter (leaf t0) v0)) (sym e) (is_type_parameter t0 u0 v0 m.4 m.5.4.1), m.5.4.2.1)

rule_is_bounds_1 : (vs : List Found) (ts : List Terminal) (fin : List Found) → Means (nth 0 (type_rules type_of.Bounds)) (vs) ts fin → After (part_of.Type type_of.Bounds) (vs) ts (λ z. fin ≡ z)
rule_is_bounds_1 vs ts fin m =
    let t0 = m.0 in
    let t1 = m.5.0 in
    let u0 = m.5.5.0 in
    let v0 = m.5.5.4.0 in
    let e : ts ≡ t0 ∷ (t1 ∷ u0) = m.2 ∙ ap (λ z. t0 ∷ z) (m.5.2 ∙ ap (λ z. t1 ∷ z) (m.5.5.2 ∙ ap (λ z. u0 ++ z) m.5.5.4.2.0 ∙ append-nil u0)) in
    (v0, subst (λ z. Is (part_of.Type type_of.Bounds) [] z v0) (sym e) (is_bounds_1 t0 t1 u0 v0 m.4 m.5.4 m.5.5.4.1), m.5.5.4.2.1)

rule_is_bounds_2 : (vs : List Found) (ts : List Terminal) (fin : List Found) → Means (nth 1 (type_rules type_of.Bounds)) (vs) ts fin → After (part_of.Type type_of.Bounds) (vs) ts (λ z. fin ≡ z)
rule_is_bounds_2 vs ts fin m =
    let e : ts ≡ [] = m.0 in
    (nothing, subst (λ z. Is (part_of.Type type_of.Bounds) [] z nothing) (sym e) is_bounds_2, m.1)

rule_is_bounds_rest_1 : (a : Found) (vs : List Found) (ts : List Terminal) (fin : List Found) → Means (nth 0 (type_rules type_of.BoundsRest)) (a ∷ vs) ts fin → After (part_of.Type type_of.BoundsRest) (a ∷ vs) ts (λ z. fin ≡ z)
rule_is_bounds_rest_1 a vs ts fin m =
    let t0 = m.0 in
    let t1 = m.5.0 in
    let u0 = m.5.5.0 in
    let v0 = m.5.5.4.0 in
    let e : ts ≡ t0 ∷ (t1 ∷ u0) = m.2 ∙ ap (λ z. t0 ∷ z) (m.5.2 ∙ ap (λ z. t1 ∷ z) (m.5.5.2 ∙ ap (λ z. u0 ++ z) m.5.5.4.2.0 ∙ append-nil u0)) in
    (v0, subst (λ z. Is (part_of.Type type_of.BoundsRest) (a ∷ []) z v0) (sym e) (is_bounds_rest_1 t0 t1 u0 v0 m.4 m.5.4 m.5.5.4.1), m.5.5.4.2.1)

rule_is_bounds_rest_2 : (a : Found) (vs : List Found) (ts : List Terminal) (fin : List Found) → Means (nth 1 (type_rules type_of.BoundsRest)) (a ∷ vs) ts fin → After (part_of.Type type_of.BoundsRest) (a ∷ vs) ts (λ z. fin ≡ z)
rule_is_bounds_rest_2 a vs ts fin m =
    let e : ts ≡ [] = m.0 in
    (a, subst (λ z. Is (part_of.Type type_of.BoundsRest) (a ∷ []) z a) (sym e) is_bounds_rest_2, m.1)

rule_is_constructor_types_1 : (vs : List Found) (ts : List Terminal) (fin : List Found) → Means (nth 0 (type_rules type_of.ConstructorTypes)) (vs) ts fin → After (part_of.Type type_of.ConstructorTypes) (vs) ts (λ z. fin ≡ z)
rule_is_constructor_types_1 vs ts fin m =
    let t0 = m.0 in
    let u0 = m.5.0 in
    let v0 = m.5.4.0 in
    let u1 = m.5.4.2.0 in
    let v1 = m.5.4.2.4.0 in
    let e : ts ≡ t0 ∷ (u0 ++ u1) = m.2 ∙ ap (λ z. t0 ∷ z) (m.5.2 ∙ ap (λ z. u0 ++ z) (m.5.4.2.2 ∙ ap (λ z. u1 ++ z) m.5.4.2.4.2.0 ∙ append-nil u1)) in
    (v1, subst (λ z. Is (part_of.Type type_of.ConstructorTypes) [] z v1) (sym e) (is_constructor_types_1 t0 u0 v0 u1 v1 m.4 m.5.4.1 m.5.4.2.4.1), m.5.4.2.4.2.1)

rule_is_constructor_types_2 : (vs : List Found) (ts : List Terminal) (fin : List Found) → Means (nth 1 (type_rules type_of.ConstructorTypes)) (vs) ts fin → After (part_of.Type type_of.ConstructorTypes) (vs) ts (λ z. fin ≡ z)
rule_is_constructor_types_2 vs ts fin m =
    let e : ts ≡ [] = m.0 in
    (nothing, subst (λ z. Is (part_of.Type type_of.ConstructorTypes) [] z nothing) (sym e) is_constructor_types_2, m.1)

rule_is_constructor_types_rest_1 : (a : Found) (vs : List Found) (ts : List Terminal) (fin : List Found) → Means (nth 0 (type_rules type_of.ConstructorTypesRest)) (a ∷ vs) ts fin → After (part_of.Type type_of.ConstructorTypesRest) (a ∷ vs) ts (λ z. fin ≡ z)
rule_is_constructor_types_rest_1 a vs ts fin m =
    let t0 = m.0 in
    let e : ts ≡ t0 ∷ [] = m.2 ∙ ap (λ z. t0 ∷ z) (m.5.0) in
    (a, subst (λ z. Is (part_of.Type type_of.ConstructorTypesRest) (a ∷ []) z a) (sym e) (is_constructor_types_rest_1 t0 m.4), m.5.1)

rule_is_constructor_types_rest_2 : (a : Found) (vs : List Found) (ts : List Terminal) (fin : List Found) → Means (nth 1 (type_rules type_of.ConstructorTypesRest)) (a ∷ vs) ts fin → After (part_of.Type type_of.ConstructorTypesRest) (a ∷ vs) ts (λ z. fin ≡ z)
rule_is_constructor_types_rest_2 a vs ts fin m =
    let t0 = m.0 in
    let u0 = m.5.0 in
    let v0 = m.5.4.0 in
    let e : ts ≡ t0 ∷ u0 = m.2 ∙ ap (λ z. t0 ∷ z) (m.5.2 ∙ ap (λ z. u0 ++ z) m.5.4.2.0 ∙ append-nil u0) in
    (v0, subst (λ z. Is (part_of.Type type_of.ConstructorTypesRest) (a ∷ []) z v0) (sym e) (is_constructor_types_rest_2 t0 u0 v0 m.4 m.5.4.1), m.5.4.2.1)

rule_is_constructor_types_more_1 : (a : Found) (vs : List Found) (ts : List Terminal) (fin : List Found) → Means (nth 0 (type_rules type_of.ConstructorTypesMore)) (a ∷ vs) ts fin → After (part_of.Type type_of.ConstructorTypesMore) (a ∷ vs) ts (λ z. fin ≡ z)
rule_is_constructor_types_more_1 a vs ts fin m =
    let t0 = m.0 in
    let e : ts ≡ t0 ∷ [] = m.2 ∙ ap (λ z. t0 ∷ z) (m.5.0) in
    (a, subst (λ z. Is (part_of.Type type_of.ConstructorTypesMore) (a ∷ []) z a) (sym e) (is_constructor_types_more_1 t0 m.4), m.5.1)

rule_is_constructor_types_more_2 : (a : Found) (vs : List Found) (ts : List Terminal) (fin : List Found) → Means (nth 1 (type_rules type_of.ConstructorTypesMore)) (a ∷ vs) ts fin → After (part_of.Type type_of.ConstructorTypesMore) (a ∷ vs) ts (λ z. fin ≡ z)
rule_is_constructor_types_more_2 a vs ts fin m =
    let u0 = m.0 in
    let v0 = m.4.0 in
    let u1 = m.4.2.0 in
    let v1 = m.4.2.4.0 in
    let e : ts ≡ u0 ++ u1 = m.2 ∙ ap (λ z. u0 ++ z) (m.4.2.2 ∙ ap (λ z. u1 ++ z) m.4.2.4.2.0 ∙ append-nil u1) in
    (v1, subst (λ z. Is (part_of.Type type_of.ConstructorTypesMore) (a ∷ []) z v1) (sym e) (is_constructor_types_more_2 u0 v0 u1 v1 m.4.1 m.4.2.4.1), m.4.2.4.2.1)

pub type_rule : (n : TypePart) (r : List Symbol) (vs : List Found) (ts : List Terminal) (fin : List Found) → Among r (type_rules n) → Means r vs ts fin → After (part_of.Type n) vs ts (λ z. fin ≡ z)
type_rule type_of.FullType r vs ts fin (inl e) m = rule_is_full_type_1 vs ts fin (subst (λ z. Means z vs ts fin) e m)
type_rule type_of.FullType r vs ts fin (inr (inl e)) m = rule_is_full_type_2 vs ts fin (subst (λ z. Means z vs ts fin) e m)
type_rule type_of.FullType r vs ts fin (inr (inr e)) m = elim e [ ]
type_rule type_of.BareType r vs ts fin (inl e) m = rule_is_bare_type_1 vs ts fin (subst (λ z. Means z vs ts fin) e m)
type_rule type_of.BareType r vs ts fin (inr (inl e)) m = rule_is_bare_type_2 vs ts fin (subst (λ z. Means z vs ts fin) e m)
type_rule type_of.BareType r vs ts fin (inr (inr e)) m = elim e [ ]
type_rule type_of.TupleTypeRest r (c ∷ b ∷ a ∷ vs) ts fin (inl e) m = rule_is_tuple_type_rest_1 a b c vs ts fin (subst (λ z. Means z (c ∷ b ∷ a ∷ vs) ts fin) e m)
type_rule type_of.TupleTypeRest r (c ∷ b ∷ a ∷ vs) ts fin (inr (inl e)) m = rule_is_tuple_type_rest_2 a b c vs ts fin (subst (λ z. Means z (c ∷ b ∷ a ∷ vs) ts fin) e m)
type_rule type_of.TupleTypeRest r (c ∷ b ∷ a ∷ vs) ts fin (inr (inr e)) m = elim e [ ]
type_rule type_of.TupleTypeRest r [] ts fin h m = tt
type_rule type_of.TupleTypeRest r (c ∷ []) ts fin h m = tt
type_rule type_of.TupleTypeRest r (c ∷ b ∷ []) ts fin h m = tt
type_rule type_of.TypeArguments r vs ts fin (inl e) m = rule_is_type_arguments_1 vs ts fin (subst (λ z. Means z vs ts fin) e m)
type_rule type_of.TypeArguments r vs ts fin (inr (inl e)) m = rule_is_type_arguments_2 vs ts fin (subst (λ z. Means z vs ts fin) e m)
type_rule type_of.TypeArguments r vs ts fin (inr (inr e)) m = elim e [ ]
type_rule type_of.TypeArgumentsRest r (a ∷ vs) ts fin (inl e) m = rule_is_type_arguments_rest_1 a vs ts fin (subst (λ z. Means z (a ∷ vs) ts fin) e m)
type_rule type_of.TypeArgumentsRest r (a ∷ vs) ts fin (inr (inl e)) m = rule_is_type_arguments_rest_2 a vs ts fin (subst (λ z. Means z (a ∷ vs) ts fin) e m)
type_rule type_of.TypeArgumentsRest r (a ∷ vs) ts fin (inr (inr e)) m = elim e [ ]
type_rule type_of.TypeArgumentsRest r [] ts fin h m = tt
type_rule type_of.TypeArgumentsMore r (a ∷ vs) ts fin (inl e) m = rule_is_type_arguments_more_1 a vs ts fin (subst (λ z. Means z (a ∷ vs) ts fin) e m)
type_rule type_of.TypeArgumentsMore r (a ∷ vs) ts fin (inr (inl e)) m = rule_is_type_arguments_more_2 a vs ts fin (subst (λ z. Means z (a ∷ vs) ts fin) e m)
type_rule type_of.TypeArgumentsMore r (a ∷ vs) ts fin (inr (inr e)) m = elim e [ ]
type_rule type_of.TypeArgumentsMore r [] ts fin h m = tt
type_rule type_of.TypeParameters r vs ts fin (inl e) m = rule_is_type_parameters_1 vs ts fin (subst (λ z. Means z vs ts fin) e m)
type_rule type_of.TypeParameters r vs ts fin (inr (inl e)) m = rule_is_type_parameters_2 vs ts fin (subst (λ z. Means z vs ts fin) e m)
type_rule type_of.TypeParameters r vs ts fin (inr (inr e)) m = elim e [ ]
type_rule type_of.TypeParametersRest r (a ∷ vs) ts fin (inl e) m = rule_is_type_parameters_rest_1 a vs ts fin (subst (λ z. Means z (a ∷ vs) ts fin) e m)
type_rule type_of.TypeParametersRest r (a ∷ vs) ts fin (inr (inl e)) m = rule_is_type_parameters_rest_2 a vs ts fin (subst (λ z. Means z (a ∷ vs) ts fin) e m)
type_rule type_of.TypeParametersRest r (a ∷ vs) ts fin (inr (inr e)) m = elim e [ ]
type_rule type_of.TypeParametersRest r [] ts fin h m = tt
type_rule type_of.TypeParametersMore r (a ∷ vs) ts fin (inl e) m = rule_is_type_parameters_more_1 a vs ts fin (subst (λ z. Means z (a ∷ vs) ts fin) e m)
type_rule type_of.TypeParametersMore r (a ∷ vs) ts fin (inr (inl e)) m = rule_is_type_parameters_more_2 a vs ts fin (subst (λ z. Means z (a ∷ vs) ts fin) e m)
type_rule type_of.TypeParametersMore r (a ∷ vs) ts fin (inr (inr e)) m = elim e [ ]
type_rule type_of.TypeParametersMore r [] ts fin h m = tt
type_rule type_of.TypeParameter r vs ts fin (inl e) m = rule_is_type_parameter vs ts fin (subst (λ z. Means z vs ts fin) e m)
type_rule type_of.TypeParameter r vs ts fin (inr e) m = elim e [ ]
type_rule type_of.Bounds r vs ts fin (inl e) m = rule_is_bounds_1 vs ts fin (subst (λ z. Means z vs ts fin) e m)
type_rule type_of.Bounds r vs ts fin (inr (inl e)) m = rule_is_bounds_2 vs ts fin (subst (λ z. Means z vs ts fin) e m)
type_rule type_of.Bounds r vs ts fin (inr (inr e)) m = elim e [ ]
type_rule type_of.BoundsRest r (a ∷ vs) ts fin (inl e) m = rule_is_bounds_rest_1 a vs ts fin (subst (λ z. Means z (a ∷ vs) ts fin) e m)
type_rule type_of.BoundsRest r (a ∷ vs) ts fin (inr (inl e)) m = rule_is_bounds_rest_2 a vs ts fin (subst (λ z. Means z (a ∷ vs) ts fin) e m)
type_rule type_of.BoundsRest r (a ∷ vs) ts fin (inr (inr e)) m = elim e [ ]
type_rule type_of.BoundsRest r [] ts fin h m = tt
type_rule type_of.ConstructorTypes r vs ts fin (inl e) m = rule_is_constructor_types_1 vs ts fin (subst (λ z. Means z vs ts fin) e m)
type_rule type_of.ConstructorTypes r vs ts fin (inr (inl e)) m = rule_is_constructor_types_2 vs ts fin (subst (λ z. Means z vs ts fin) e m)
type_rule type_of.ConstructorTypes r vs ts fin (inr (inr e)) m = elim e [ ]
type_rule type_of.ConstructorTypesRest r (a ∷ vs) ts fin (inl e) m = rule_is_constructor_types_rest_1 a vs ts fin (subst (λ z. Means z (a ∷ vs) ts fin) e m)
type_rule type_of.ConstructorTypesRest r (a ∷ vs) ts fin (inr (inl e)) m = rule_is_constructor_types_rest_2 a vs ts fin (subst (λ z. Means z (a ∷ vs) ts fin) e m)
type_rule type_of.ConstructorTypesRest r (a ∷ vs) ts fin (inr (inr e)) m = elim e [ ]
type_rule type_of.ConstructorTypesRest r [] ts fin h m = tt
type_rule type_of.ConstructorTypesMore r (a ∷ vs) ts fin (inl e) m = rule_is_constructor_types_more_1 a vs ts fin (subst (λ z. Means z (a ∷ vs) ts fin) e m)
type_rule type_of.ConstructorTypesMore r (a ∷ vs) ts fin (inr (inl e)) m = rule_is_constructor_types_more_2 a vs ts fin (subst (λ z. Means z (a ∷ vs) ts fin) e m)
type_rule type_of.ConstructorTypesMore r (a ∷ vs) ts fin (inr (inr e)) m = elim e [ ]
type_rule type_of.ConstructorTypesMore r [] ts fin h m = tt
