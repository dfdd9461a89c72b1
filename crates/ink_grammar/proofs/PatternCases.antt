-- What the productions of patterns find is found by cases.
use Rattle.std.proofs.Common.{◌≡◌, List, [], ◌∷◌, ◌++◌, inl, inr, sym, ap, subst, ◌∙◌, append-nil}
use Rattle.ink_grammar.specs.declared.token.Terminal.{Terminal}
use Rattle.ink_grammar.specs.declared.symbol.Nonterminal.TheVariants as part_of
use Rattle.ink_grammar.specs.declared.symbol.PatternPart.TheVariants as pattern_of
use Rattle.ink_grammar.specs.declared.tree.TwoChildren.TheVariants as two_of
use Rattle.ink_grammar.specs.declared.tree.ThreeChildren.TheVariants as three_of
use Rattle.ink_grammar.specs.declared.tree.FourChildren.TheVariants as four_of
use Rattle.ink_grammar.specs.declared.symbol.PatternPart.{PatternPart}
use Rattle.ink_grammar.specs.declared.symbol.Symbol.{Symbol}
use Rattle.ink_grammar.specs.Grammar.{pattern_rules}
use Rattle.ink_grammar.specs.Tree.{Found, leaf, node_two, node_three, node_four}
use Rattle.ink_grammar.specs.Reads.{Among}
use Rattle.ink_grammar.specs.Productions.{Is, is_pattern, is_alternative_1, is_alternative_2, is_alternative_3, is_alternative_4, is_alternative_5, is_alternative_6, is_pattern_rest_1, is_pattern_rest_2, is_pattern_text_rest_1, is_pattern_text_rest_2, is_constructor_pattern_rest_1, is_constructor_pattern_rest_2, is_patterns_rest_1, is_patterns_rest_2, is_patterns_more_1, is_patterns_more_2, is_tuple_pattern_rest_1, is_tuple_pattern_rest_2, is_field_pattern, is_field_patterns_rest_1, is_field_patterns_rest_2, is_field_patterns_more_1, is_field_patterns_more_2}
use Rattle.ink_grammar.proofs.Samples.{nth}
use Rattle.ink_grammar.proofs.Meaning.{After, Means}

rule_is_pattern : (vs : List Found) (ts : List Terminal) (fin : List Found) → Means (nth 0 (pattern_rules pattern_of.Pattern)) (vs) ts fin → After (part_of.Pattern pattern_of.Pattern) (vs) ts (λ z. fin ≡ z)
rule_is_pattern vs ts fin m =
    let u0 = m.0 in
    let v0 = m.4.0 in
    let u1 = m.4.2.0 in
    let v1 = m.4.2.4.0 in
    let e : ts ≡ u0 ++ u1 = m.2 ∙ ap (λ z. u0 ++ z) (m.4.2.2 ∙ ap (λ z. u1 ++ z) m.4.2.4.2.0 ∙ append-nil u1) in
    (v1, subst (λ z. Is (part_of.Pattern pattern_of.Pattern) [] z v1) (sym e) (is_pattern u0 v0 u1 v1 m.4.1 m.4.2.4.1), m.4.2.4.2.1)

rule_is_alternative_1 : (vs : List Found) (ts : List Terminal) (fin : List Found) → Means (nth 0 (pattern_rules pattern_of.Alternative)) (vs) ts fin → After (part_of.Pattern pattern_of.Alternative) (vs) ts (λ z. fin ≡ z)
rule_is_alternative_1 vs ts fin m =
    let t0 = m.0 in
    let e : ts ≡ t0 ∷ [] = m.2 ∙ ap (λ z. t0 ∷ z) (m.5.0) in
    (leaf t0, subst (λ z. Is (part_of.Pattern pattern_of.Alternative) [] z (leaf t0)) (sym e) (is_alternative_1 t0 m.4), m.5.1)

rule_is_alternative_2 : (vs : List Found) (ts : List Terminal) (fin : List Found) → Means (nth 1 (pattern_rules pattern_of.Alternative)) (vs) ts fin → After (part_of.Pattern pattern_of.Alternative) (vs) ts (λ z. fin ≡ z)
rule_is_alternative_2 vs ts fin m =
    let t0 = m.0 in
    let u0 = m.5.0 in
    let v0 = m.5.4.0 in
    let e : ts ≡ t0 ∷ u0 = m.2 ∙ ap (λ z. t0 ∷ z) (m.5.2 ∙ ap (λ z. u0 ++ z) m.5.4.2.0 ∙ append-nil u0) in
    (node_two two_of.Text (leaf t0) v0, subst (λ z. Is (part_of.Pattern pattern_of.Alternative) [] z (node_two two_of.Text (leaf t0) v0)) (sym e) (is_alternative_2 t0 u0 v0 m.4 m.5.4.1), m.5.4.2.1)

rule_is_alternative_3 : (vs : List Found) (ts : List Terminal) (fin : List Found) → Means (nth 2 (pattern_rules pattern_of.Alternative)) (vs) ts fin → After (part_of.Pattern pattern_of.Alternative) (vs) ts (λ z. fin ≡ z)
rule_is_alternative_3 vs ts fin m =
    let t0 = m.0 in
    let t1 = m.5.0 in
    let e : ts ≡ t0 ∷ (t1 ∷ []) = m.2 ∙ ap (λ z. t0 ∷ z) (m.5.2 ∙ ap (λ z. t1 ∷ z) (m.5.5.0)) in
    (node_two two_of.MutableName (leaf t0) (leaf t1), subst (λ z. Is (part_of.Pattern pattern_of.Alternative) [] z (node_two two_of.MutableName (leaf t0) (leaf t1))) (sym e) (is_alternative_3 t0 t1 m.4 m.5.4), m.5.5.1)

rule_is_alternative_4 : (vs : List Found) (ts : List Terminal) (fin : List Found) → Means (nth 3 (pattern_rules pattern_of.Alternative)) (vs) ts fin → After (part_of.Pattern pattern_of.Alternative) (vs) ts (λ z. fin ≡ z)
rule_is_alternative_4 vs ts fin m =
    let t0 = m.0 in
    let u0 = m.5.0 in
    let v0 = m.5.4.0 in
    let e : ts ≡ t0 ∷ u0 = m.2 ∙ ap (λ z. t0 ∷ z) (m.5.2 ∙ ap (λ z. u0 ++ z) m.5.4.2.0 ∙ append-nil u0) in
    (v0, subst (λ z. Is (part_of.Pattern pattern_of.Alternative) [] z v0) (sym e) (is_alternative_4 t0 u0 v0 m.4 m.5.4.1), m.5.4.2.1)

rule_is_alternative_5 : (vs : List Found) (ts : List Terminal) (fin : List Found) → Means (nth 4 (pattern_rules pattern_of.Alternative)) (vs) ts fin → After (part_of.Pattern pattern_of.Alternative) (vs) ts (λ z. fin ≡ z)
rule_is_alternative_5 vs ts fin m =
    let t0 = m.0 in
    let u0 = m.5.0 in
    let v0 = m.5.4.0 in
    let t1 = m.5.4.2.0 in
    let u1 = m.5.4.2.5.0 in
    let v1 = m.5.4.2.5.4.0 in
    let u2 = m.5.4.2.5.4.2.0 in
    let v2 = m.5.4.2.5.4.2.4.0 in
    let e : ts ≡ t0 ∷ (u0 ++ (t1 ∷ (u1 ++ u2))) = m.2 ∙ ap (λ z. t0 ∷ z) (m.5.2 ∙ ap (λ z. u0 ++ z) (m.5.4.2.2 ∙ ap (λ z. t1 ∷ z) (m.5.4.2.5.2 ∙ ap (λ z. u1 ++ z) (m.5.4.2.5.4.2.2 ∙ ap (λ z. u2 ++ z) m.5.4.2.5.4.2.4.2.0 ∙ append-nil u2)))) in
    (v2, subst (λ z. Is (part_of.Pattern pattern_of.Alternative) [] z v2) (sym e) (is_alternative_5 t0 u0 v0 t1 u1 v1 u2 v2 m.4 m.5.4.1 m.5.4.2.4 m.5.4.2.5.4.1 m.5.4.2.5.4.2.4.1), m.5.4.2.5.4.2.4.2.1)

rule_is_alternative_6 : (vs : List Found) (ts : List Terminal) (fin : List Found) → Means (nth 5 (pattern_rules pattern_of.Alternative)) (vs) ts fin → After (part_of.Pattern pattern_of.Alternative) (vs) ts (λ z. fin ≡ z)
rule_is_alternative_6 vs ts fin m =
    let t0 = m.0 in
    let u0 = m.5.0 in
    let v0 = m.5.4.0 in
    let u1 = m.5.4.2.0 in
    let v1 = m.5.4.2.4.0 in
    let e : ts ≡ t0 ∷ (u0 ++ u1) = m.2 ∙ ap (λ z. t0 ∷ z) (m.5.2 ∙ ap (λ z. u0 ++ z) (m.5.4.2.2 ∙ ap (λ z. u1 ++ z) m.5.4.2.4.2.0 ∙ append-nil u1)) in
    (node_two two_of.FieldPatterns (leaf t0) v1, subst (λ z. Is (part_of.Pattern pattern_of.Alternative) [] z (node_two two_of.FieldPatterns (leaf t0) v1)) (sym e) (is_alternative_6 t0 u0 v0 u1 v1 m.4 m.5.4.1 m.5.4.2.4.1), m.5.4.2.4.2.1)

rule_is_pattern_rest_1 : (a : Found) (vs : List Found) (ts : List Terminal) (fin : List Found) → Means (nth 0 (pattern_rules pattern_of.PatternRest)) (a ∷ vs) ts fin → After (part_of.Pattern pattern_of.PatternRest) (a ∷ vs) ts (λ z. fin ≡ z)
rule_is_pattern_rest_1 a vs ts fin m =
    let t0 = m.0 in
    let u0 = m.5.0 in
    let v0 = m.5.4.0 in
    let u1 = m.5.4.2.0 in
    let v1 = m.5.4.2.4.0 in
    let e : ts ≡ t0 ∷ (u0 ++ u1) = m.2 ∙ ap (λ z. t0 ∷ z) (m.5.2 ∙ ap (λ z. u0 ++ z) (m.5.4.2.2 ∙ ap (λ z. u1 ++ z) m.5.4.2.4.2.0 ∙ append-nil u1)) in
    (v1, subst (λ z. Is (part_of.Pattern pattern_of.PatternRest) (a ∷ []) z v1) (sym e) (is_pattern_rest_1 t0 u0 v0 u1 v1 m.4 m.5.4.1 m.5.4.2.4.1), m.5.4.2.4.2.1)

rule_is_pattern_rest_2 : (a : Found) (vs : List Found) (ts : List Terminal) (fin : List Found) → Means (nth 1 (pattern_rules pattern_of.PatternRest)) (a ∷ vs) ts fin → After (part_of.Pattern pattern_of.PatternRest) (a ∷ vs) ts (λ z. fin ≡ z)
rule_is_pattern_rest_2 a vs ts fin m =
    let e : ts ≡ [] = m.0 in
    (a, subst (λ z. Is (part_of.Pattern pattern_of.PatternRest) (a ∷ []) z a) (sym e) is_pattern_rest_2, m.1)

rule_is_pattern_text_rest_1 : (a : Found) (vs : List Found) (ts : List Terminal) (fin : List Found) → Means (nth 0 (pattern_rules pattern_of.PatternTextRest)) (a ∷ vs) ts fin → After (part_of.Pattern pattern_of.PatternTextRest) (a ∷ vs) ts (λ z. fin ≡ z)
rule_is_pattern_text_rest_1 a vs ts fin m =
    let t0 = m.0 in
    let e : ts ≡ t0 ∷ [] = m.2 ∙ ap (λ z. t0 ∷ z) (m.5.0) in
    (a, subst (λ z. Is (part_of.Pattern pattern_of.PatternTextRest) (a ∷ []) z a) (sym e) (is_pattern_text_rest_1 t0 m.4), m.5.1)

rule_is_pattern_text_rest_2 : (a : Found) (vs : List Found) (ts : List Terminal) (fin : List Found) → Means (nth 1 (pattern_rules pattern_of.PatternTextRest)) (a ∷ vs) ts fin → After (part_of.Pattern pattern_of.PatternTextRest) (a ∷ vs) ts (λ z. fin ≡ z)
rule_is_pattern_text_rest_2 a vs ts fin m =
    let t0 = m.0 in
    let u0 = m.5.0 in
    let v0 = m.5.4.0 in
    let e : ts ≡ t0 ∷ u0 = m.2 ∙ ap (λ z. t0 ∷ z) (m.5.2 ∙ ap (λ z. u0 ++ z) m.5.4.2.0 ∙ append-nil u0) in
    (v0, subst (λ z. Is (part_of.Pattern pattern_of.PatternTextRest) (a ∷ []) z v0) (sym e) (is_pattern_text_rest_2 t0 u0 v0 m.4 m.5.4.1), m.5.4.2.1)

rule_is_constructor_pattern_rest_1 : (a : Found) (vs : List Found) (ts : List Terminal) (fin : List Found) → Means (nth 0 (pattern_rules pattern_of.ConstructorPatternRest)) (a ∷ vs) ts fin → After (part_of.Pattern pattern_of.ConstructorPatternRest) (a ∷ vs) ts (λ z. fin ≡ z)
rule_is_constructor_pattern_rest_1 a vs ts fin m =
    let t0 = m.0 in
    let u0 = m.5.0 in
    let v0 = m.5.4.0 in
    let u1 = m.5.4.2.0 in
    let v1 = m.5.4.2.4.0 in
    let e : ts ≡ t0 ∷ (u0 ++ u1) = m.2 ∙ ap (λ z. t0 ∷ z) (m.5.2 ∙ ap (λ z. u0 ++ z) (m.5.4.2.2 ∙ ap (λ z. u1 ++ z) m.5.4.2.4.2.0 ∙ append-nil u1)) in
    (node_two two_of.ConstructorPattern a v1, subst (λ z. Is (part_of.Pattern pattern_of.ConstructorPatternRest) (a ∷ []) z (node_two two_of.ConstructorPattern a v1)) (sym e) (is_constructor_pattern_rest_1 t0 u0 v0 u1 v1 m.4 m.5.4.1 m.5.4.2.4.1), m.5.4.2.4.2.1)

rule_is_constructor_pattern_rest_2 : (a : Found) (vs : List Found) (ts : List Terminal) (fin : List Found) → Means (nth 1 (pattern_rules pattern_of.ConstructorPatternRest)) (a ∷ vs) ts fin → After (part_of.Pattern pattern_of.ConstructorPatternRest) (a ∷ vs) ts (λ z. fin ≡ z)
rule_is_constructor_pattern_rest_2 a vs ts fin m =
    let e : ts ≡ [] = m.0 in
    (a, subst (λ z. Is (part_of.Pattern pattern_of.ConstructorPatternRest) (a ∷ []) z a) (sym e) is_constructor_pattern_rest_2, m.1)

rule_is_patterns_rest_1 : (a : Found) (vs : List Found) (ts : List Terminal) (fin : List Found) → Means (nth 0 (pattern_rules pattern_of.PatternsRest)) (a ∷ vs) ts fin → After (part_of.Pattern pattern_of.PatternsRest) (a ∷ vs) ts (λ z. fin ≡ z)
rule_is_patterns_rest_1 a vs ts fin m =
    let t0 = m.0 in
    let e : ts ≡ t0 ∷ [] = m.2 ∙ ap (λ z. t0 ∷ z) (m.5.0) in
    (a, subst (λ z. Is (part_of.Pattern pattern_of.PatternsRest) (a ∷ []) z a) (sym e) (is_patterns_rest_1 t0 m.4), m.5.1)

rule_is_patterns_rest_2 : (a : Found) (vs : List Found) (ts : List Terminal) (fin : List Found) → Means (nth 1 (pattern_rules pattern_of.PatternsRest)) (a ∷ vs) ts fin → After (part_of.Pattern pattern_of.PatternsRest) (a ∷ vs) ts (λ z. fin ≡ z)
rule_is_patterns_rest_2 a vs ts fin m =
    let t0 = m.0 in
    let u0 = m.5.0 in
    let v0 = m.5.4.0 in
    let e : ts ≡ t0 ∷ u0 = m.2 ∙ ap (λ z. t0 ∷ z) (m.5.2 ∙ ap (λ z. u0 ++ z) m.5.4.2.0 ∙ append-nil u0) in
    (v0, subst (λ z. Is (part_of.Pattern pattern_of.PatternsRest) (a ∷ []) z v0) (sym e) (is_patterns_rest_2 t0 u0 v0 m.4 m.5.4.1), m.5.4.2.1)

rule_is_patterns_more_1 : (a : Found) (vs : List Found) (ts : List Terminal) (fin : List Found) → Means (nth 0 (pattern_rules pattern_of.PatternsMore)) (a ∷ vs) ts fin → After (part_of.Pattern pattern_of.PatternsMore) (a ∷ vs) ts (λ z. fin ≡ z)
rule_is_patterns_more_1 a vs ts fin m =
    let t0 = m.0 in
    let e : ts ≡ t0 ∷ [] = m.2 ∙ ap (λ z. t0 ∷ z) (m.5.0) in
    (a, subst (λ z. Is (part_of.Pattern pattern_of.PatternsMore) (a ∷ []) z a) (sym e) (is_patterns_more_1 t0 m.4), m.5.1)

rule_is_patterns_more_2 : (a : Found) (vs : List Found) (ts : List Terminal) (fin : List Found) → Means (nth 1 (pattern_rules pattern_of.PatternsMore)) (a ∷ vs) ts fin → After (part_of.Pattern pattern_of.PatternsMore) (a ∷ vs) ts (λ z. fin ≡ z)
rule_is_patterns_more_2 a vs ts fin m =
    let u0 = m.0 in
    let v0 = m.4.0 in
    let u1 = m.4.2.0 in
    let v1 = m.4.2.4.0 in
    let e : ts ≡ u0 ++ u1 = m.2 ∙ ap (λ z. u0 ++ z) (m.4.2.2 ∙ ap (λ z. u1 ++ z) m.4.2.4.2.0 ∙ append-nil u1) in
    (v1, subst (λ z. Is (part_of.Pattern pattern_of.PatternsMore) (a ∷ []) z v1) (sym e) (is_patterns_more_2 u0 v0 u1 v1 m.4.1 m.4.2.4.1), m.4.2.4.2.1)

rule_is_tuple_pattern_rest_1 : (a : Found) (b : Found) (c : Found) (vs : List Found) (ts : List Terminal) (fin : List Found) → Means (nth 0 (pattern_rules pattern_of.TuplePatternRest)) (c ∷ b ∷ a ∷ vs) ts fin → After (part_of.Pattern pattern_of.TuplePatternRest) (c ∷ b ∷ a ∷ vs) ts (λ z. fin ≡ z)
rule_is_tuple_pattern_rest_1 a b c vs ts fin m =
    let t0 = m.0 in
    let e : ts ≡ t0 ∷ [] = m.2 ∙ ap (λ z. t0 ∷ z) (m.5.0) in
    (node_three three_of.PairPattern a b c, subst (λ z. Is (part_of.Pattern pattern_of.TuplePatternRest) (c ∷ b ∷ a ∷ []) z (node_three three_of.PairPattern a b c)) (sym e) (is_tuple_pattern_rest_1 t0 m.4), m.5.1)

rule_is_tuple_pattern_rest_2 : (a : Found) (b : Found) (c : Found) (vs : List Found) (ts : List Terminal) (fin : List Found) → Means (nth 1 (pattern_rules pattern_of.TuplePatternRest)) (c ∷ b ∷ a ∷ vs) ts fin → After (part_of.Pattern pattern_of.TuplePatternRest) (c ∷ b ∷ a ∷ vs) ts (λ z. fin ≡ z)
rule_is_tuple_pattern_rest_2 a b c vs ts fin m =
    let t0 = m.0 in
    let u0 = m.5.0 in
    let v0 = m.5.4.0 in
    let t1 = m.5.4.2.0 in
    let e : ts ≡ t0 ∷ (u0 ++ (t1 ∷ [])) = m.2 ∙ ap (λ z. t0 ∷ z) (m.5.2 ∙ ap (λ z. u0 ++ z) (m.5.4.2.2 ∙ ap (λ z. t1 ∷ z) (m.5.4.2.5.0))) in
    (node_four four_of.TriplePattern a b c v0, subst (λ z. Is (part_of.Pattern pattern_of.TuplePatternRest) (c ∷ b ∷ a ∷ []) z (node_four four_of.TriplePattern a b c v0)) (sym e) (is_tuple_pattern_rest_2 t0 u0 v0 t1 m.4 m.5.4.1 m.5.4.2.4), m.5.4.2.5.1)

rule_is_field_pattern : (vs : List Found) (ts : List Terminal) (fin : List Found) → Means (nth 0 (pattern_rules pattern_of.FieldPattern)) (vs) ts fin → After (part_of.Pattern pattern_of.FieldPattern) (vs) ts (λ z. fin ≡ z)
rule_is_field_pattern vs ts fin m =
    let t0 = m.0 in
    let t1 = m.5.0 in
    let u0 = m.5.5.0 in
    let v0 = m.5.5.4.0 in
    let e : ts ≡ t0 ∷ (t1 ∷ u0) = m.2 ∙ ap (λ z. t0 ∷ z) (m.5.2 ∙ ap (λ z. t1 ∷ z) (m.5.5.2 ∙ ap (λ z. u0 ++ z) m.5.5.4.2.0 ∙ append-nil u0)) in
    (node_two two_of.FieldPattern (leaf t0) v0, subst (λ z. Is (part_of.Pattern pattern_of.FieldPattern) [] z (node_two two_of.FieldPattern (leaf t0) v0)) (sym e) (is_field_pattern t0 t1 u0 v0 m.4 m.5.4 m.5.5.4.1), m.5.5.4.2.1)

rule_is_field_patterns_rest_1 : (a : Found) (vs : List Found) (ts : List Terminal) (fin : List Found) → Means (nth 0 (pattern_rules pattern_of.FieldPatternsRest)) (a ∷ vs) ts fin → After (part_of.Pattern pattern_of.FieldPatternsRest) (a ∷ vs) ts (λ z. fin ≡ z)
rule_is_field_patterns_rest_1 a vs ts fin m =
    let t0 = m.0 in
    let e : ts ≡ t0 ∷ [] = m.2 ∙ ap (λ z. t0 ∷ z) (m.5.0) in
    (a, subst (λ z. Is (part_of.Pattern pattern_of.FieldPatternsRest) (a ∷ []) z a) (sym e) (is_field_patterns_rest_1 t0 m.4), m.5.1)

rule_is_field_patterns_rest_2 : (a : Found) (vs : List Found) (ts : List Terminal) (fin : List Found) → Means (nth 1 (pattern_rules pattern_of.FieldPatternsRest)) (a ∷ vs) ts fin → After (part_of.Pattern pattern_of.FieldPatternsRest) (a ∷ vs) ts (λ z. fin ≡ z)
rule_is_field_patterns_rest_2 a vs ts fin m =
    let t0 = m.0 in
    let u0 = m.5.0 in
    let v0 = m.5.4.0 in
    let e : ts ≡ t0 ∷ u0 = m.2 ∙ ap (λ z. t0 ∷ z) (m.5.2 ∙ ap (λ z. u0 ++ z) m.5.4.2.0 ∙ append-nil u0) in
    (v0, subst (λ z. Is (part_of.Pattern pattern_of.FieldPatternsRest) (a ∷ []) z v0) (sym e) (is_field_patterns_rest_2 t0 u0 v0 m.4 m.5.4.1), m.5.4.2.1)

rule_is_field_patterns_more_1 : (a : Found) (vs : List Found) (ts : List Terminal) (fin : List Found) → Means (nth 0 (pattern_rules pattern_of.FieldPatternsMore)) (a ∷ vs) ts fin → After (part_of.Pattern pattern_of.FieldPatternsMore) (a ∷ vs) ts (λ z. fin ≡ z)
rule_is_field_patterns_more_1 a vs ts fin m =
    let t0 = m.0 in
    let e : ts ≡ t0 ∷ [] = m.2 ∙ ap (λ z. t0 ∷ z) (m.5.0) in
    (a, subst (λ z. Is (part_of.Pattern pattern_of.FieldPatternsMore) (a ∷ []) z a) (sym e) (is_field_patterns_more_1 t0 m.4), m.5.1)

rule_is_field_patterns_more_2 : (a : Found) (vs : List Found) (ts : List Terminal) (fin : List Found) → Means (nth 1 (pattern_rules pattern_of.FieldPatternsMore)) (a ∷ vs) ts fin → After (part_of.Pattern pattern_of.FieldPatternsMore) (a ∷ vs) ts (λ z. fin ≡ z)
rule_is_field_patterns_more_2 a vs ts fin m =
    let u0 = m.0 in
    let v0 = m.4.0 in
    let u1 = m.4.2.0 in
    let v1 = m.4.2.4.0 in
    let e : ts ≡ u0 ++ u1 = m.2 ∙ ap (λ z. u0 ++ z) (m.4.2.2 ∙ ap (λ z. u1 ++ z) m.4.2.4.2.0 ∙ append-nil u1) in
    (v1, subst (λ z. Is (part_of.Pattern pattern_of.FieldPatternsMore) (a ∷ []) z v1) (sym e) (is_field_patterns_more_2 u0 v0 u1 v1 m.4.1 m.4.2.4.1), m.4.2.4.2.1)

pub pattern_rule : (n : PatternPart) (r : List Symbol) (vs : List Found) (ts : List Terminal) (fin : List Found) → Among r (pattern_rules n) → Means r vs ts fin → After (part_of.Pattern n) vs ts (λ z. fin ≡ z)
pattern_rule pattern_of.Pattern r vs ts fin (inl e) m = rule_is_pattern vs ts fin (subst (λ z. Means z vs ts fin) e m)
pattern_rule pattern_of.Pattern r vs ts fin (inr e) m = elim e [ ]
pattern_rule pattern_of.Alternative r vs ts fin (inl e) m = rule_is_alternative_1 vs ts fin (subst (λ z. Means z vs ts fin) e m)
pattern_rule pattern_of.Alternative r vs ts fin (inr (inl e)) m = rule_is_alternative_2 vs ts fin (subst (λ z. Means z vs ts fin) e m)
pattern_rule pattern_of.Alternative r vs ts fin (inr (inr (inl e))) m = rule_is_alternative_3 vs ts fin (subst (λ z. Means z vs ts fin) e m)
pattern_rule pattern_of.Alternative r vs ts fin (inr (inr (inr (inl e)))) m = rule_is_alternative_4 vs ts fin (subst (λ z. Means z vs ts fin) e m)
pattern_rule pattern_of.Alternative r vs ts fin (inr (inr (inr (inr (inl e))))) m = rule_is_alternative_5 vs ts fin (subst (λ z. Means z vs ts fin) e m)
pattern_rule pattern_of.Alternative r vs ts fin (inr (inr (inr (inr (inr (inl e)))))) m = rule_is_alternative_6 vs ts fin (subst (λ z. Means z vs ts fin) e m)
pattern_rule pattern_of.Alternative r vs ts fin (inr (inr (inr (inr (inr (inr e)))))) m = elim e [ ]
pattern_rule pattern_of.PatternRest r (a ∷ vs) ts fin (inl e) m = rule_is_pattern_rest_1 a vs ts fin (subst (λ z. Means z (a ∷ vs) ts fin) e m)
pattern_rule pattern_of.PatternRest r (a ∷ vs) ts fin (inr (inl e)) m = rule_is_pattern_rest_2 a vs ts fin (subst (λ z. Means z (a ∷ vs) ts fin) e m)
pattern_rule pattern_of.PatternRest r (a ∷ vs) ts fin (inr (inr e)) m = elim e [ ]
pattern_rule pattern_of.PatternRest r [] ts fin h m = tt
pattern_rule pattern_of.PatternTextRest r (a ∷ vs) ts fin (inl e) m = rule_is_pattern_text_rest_1 a vs ts fin (subst (λ z. Means z (a ∷ vs) ts fin) e m)
pattern_rule pattern_of.PatternTextRest r (a ∷ vs) ts fin (inr (inl e)) m = rule_is_pattern_text_rest_2 a vs ts fin (subst (λ z. Means z (a ∷ vs) ts fin) e m)
pattern_rule pattern_of.PatternTextRest r (a ∷ vs) ts fin (inr (inr e)) m = elim e [ ]
pattern_rule pattern_of.PatternTextRest r [] ts fin h m = tt
pattern_rule pattern_of.ConstructorPatternRest r (a ∷ vs) ts fin (inl e) m = rule_is_constructor_pattern_rest_1 a vs ts fin (subst (λ z. Means z (a ∷ vs) ts fin) e m)
pattern_rule pattern_of.ConstructorPatternRest r (a ∷ vs) ts fin (inr (inl e)) m = rule_is_constructor_pattern_rest_2 a vs ts fin (subst (λ z. Means z (a ∷ vs) ts fin) e m)
pattern_rule pattern_of.ConstructorPatternRest r (a ∷ vs) ts fin (inr (inr e)) m = elim e [ ]
pattern_rule pattern_of.ConstructorPatternRest r [] ts fin h m = tt
pattern_rule pattern_of.PatternsRest r (a ∷ vs) ts fin (inl e) m = rule_is_patterns_rest_1 a vs ts fin (subst (λ z. Means z (a ∷ vs) ts fin) e m)
pattern_rule pattern_of.PatternsRest r (a ∷ vs) ts fin (inr (inl e)) m = rule_is_patterns_rest_2 a vs ts fin (subst (λ z. Means z (a ∷ vs) ts fin) e m)
pattern_rule pattern_of.PatternsRest r (a ∷ vs) ts fin (inr (inr e)) m = elim e [ ]
pattern_rule pattern_of.PatternsRest r [] ts fin h m = tt
pattern_rule pattern_of.PatternsMore r (a ∷ vs) ts fin (inl e) m = rule_is_patterns_more_1 a vs ts fin (subst (λ z. Means z (a ∷ vs) ts fin) e m)
pattern_rule pattern_of.PatternsMore r (a ∷ vs) ts fin (inr (inl e)) m = rule_is_patterns_more_2 a vs ts fin (subst (λ z. Means z (a ∷ vs) ts fin) e m)
pattern_rule pattern_of.PatternsMore r (a ∷ vs) ts fin (inr (inr e)) m = elim e [ ]
pattern_rule pattern_of.PatternsMore r [] ts fin h m = tt
pattern_rule pattern_of.TuplePatternRest r (c ∷ b ∷ a ∷ vs) ts fin (inl e) m = rule_is_tuple_pattern_rest_1 a b c vs ts fin (subst (λ z. Means z (c ∷ b ∷ a ∷ vs) ts fin) e m)
pattern_rule pattern_of.TuplePatternRest r (c ∷ b ∷ a ∷ vs) ts fin (inr (inl e)) m = rule_is_tuple_pattern_rest_2 a b c vs ts fin (subst (λ z. Means z (c ∷ b ∷ a ∷ vs) ts fin) e m)
pattern_rule pattern_of.TuplePatternRest r (c ∷ b ∷ a ∷ vs) ts fin (inr (inr e)) m = elim e [ ]
pattern_rule pattern_of.TuplePatternRest r [] ts fin h m = tt
pattern_rule pattern_of.TuplePatternRest r (c ∷ []) ts fin h m = tt
pattern_rule pattern_of.TuplePatternRest r (c ∷ b ∷ []) ts fin h m = tt
pattern_rule pattern_of.FieldPattern r vs ts fin (inl e) m = rule_is_field_pattern vs ts fin (subst (λ z. Means z vs ts fin) e m)
pattern_rule pattern_of.FieldPattern r vs ts fin (inr e) m = elim e [ ]
pattern_rule pattern_of.FieldPatternsRest r (a ∷ vs) ts fin (inl e) m = rule_is_field_patterns_rest_1 a vs ts fin (subst (λ z. Means z (a ∷ vs) ts fin) e m)
pattern_rule pattern_of.FieldPatternsRest r (a ∷ vs) ts fin (inr (inl e)) m = rule_is_field_patterns_rest_2 a vs ts fin (subst (λ z. Means z (a ∷ vs) ts fin) e m)
pattern_rule pattern_of.FieldPatternsRest r (a ∷ vs) ts fin (inr (inr e)) m = elim e [ ]
pattern_rule pattern_of.FieldPatternsRest r [] ts fin h m = tt
pattern_rule pattern_of.FieldPatternsMore r (a ∷ vs) ts fin (inl e) m = rule_is_field_patterns_more_1 a vs ts fin (subst (λ z. Means z (a ∷ vs) ts fin) e m)
pattern_rule pattern_of.FieldPatternsMore r (a ∷ vs) ts fin (inr (inl e)) m = rule_is_field_patterns_more_2 a vs ts fin (subst (λ z. Means z (a ∷ vs) ts fin) e m)
pattern_rule pattern_of.FieldPatternsMore r (a ∷ vs) ts fin (inr (inr e)) m = elim e [ ]
pattern_rule pattern_of.FieldPatternsMore r [] ts fin h m = tt
