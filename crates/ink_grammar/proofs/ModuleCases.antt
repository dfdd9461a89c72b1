-- What the productions of imports, declarations and their members find is found by cases.
use Rattle.std.proofs.Common.{◌≡◌, List, [], ◌∷◌, ◌++◌, inl, inr, sym, ap, subst, ◌∙◌, append-nil}
use Rattle.ink_grammar.specs.declared.token.Terminal.{Terminal}
use Rattle.ink_grammar.specs.declared.symbol.Nonterminal.TheVariants as part_of
use Rattle.ink_grammar.specs.declared.symbol.ModulePart.TheVariants as module_of
use Rattle.ink_grammar.specs.declared.tree.TwoChildren.TheVariants as two_of
use Rattle.ink_grammar.specs.declared.tree.ThreeChildren.TheVariants as three_of
use Rattle.ink_grammar.specs.declared.tree.FourChildren.TheVariants as four_of
use Rattle.ink_grammar.specs.declared.tree.FiveChildren.TheVariants as five_of
use Rattle.ink_grammar.specs.declared.symbol.ModulePart.{ModulePart}
use Rattle.ink_grammar.specs.declared.symbol.Symbol.{Symbol}
use Rattle.ink_grammar.specs.Grammar.{module_rules}
use Rattle.ink_grammar.specs.Tree.{Found, leaf, nothing, node_two, node_three, node_four, node_five}
use Rattle.ink_grammar.specs.Reads.{Among}
use Rattle.ink_grammar.specs.Productions.{Is, is_module, is_imports_1, is_imports_2, is_import, is_import_path_1, is_import_path_2, is_import_names_1, is_import_names_2, is_import_name_1, is_import_name_2, is_import_names_rest_1, is_import_names_rest_2, is_import_names_more_1, is_import_names_more_2, is_declarations_1, is_declarations_2, is_declaration_1, is_declaration_2, is_declaration_3, is_declaration_4, is_type_form_1, is_type_form_2, is_type_form_3, is_object_form, is_object_members_1, is_object_members_2, is_object_members_3, is_enum_members_1, is_enum_members_2, is_enum_members_3, is_field_declaration, is_constructor, is_trait_methods_1, is_trait_methods_2, is_trait_method, is_implemented_trait_1, is_implemented_trait_2}
use Rattle.ink_grammar.proofs.Samples.{nth}
use Rattle.ink_grammar.proofs.Meaning.{After, Means}

rule_is_module : (vs : List Found) (ts : List Terminal) (fin : List Found) → Means (nth 0 (module_rules module_of.Module)) (vs) ts fin → After (part_of.Module module_of.Module) (vs) ts (λ z. fin ≡ z)
rule_is_module vs ts fin m =
    let u0 = m.0 in
    let v0 = m.4.0 in
    let u1 = m.4.2.0 in
    let v1 = m.4.2.4.0 in
    let e : ts ≡ u0 ++ u1 = m.2 ∙ ap (λ z. u0 ++ z) (m.4.2.2 ∙ ap (λ z. u1 ++ z) m.4.2.4.2.0 ∙ append-nil u1) in
    (node_two two_of.Module v0 v1, subst (λ z. Is (part_of.Module module_of.Module) [] z (node_two two_of.Module v0 v1)) (sym e) (is_module u0 v0 u1 v1 m.4.1 m.4.2.4.1), m.4.2.4.2.1)

rule_is_imports_1 : (a : Found) (vs : List Found) (ts : List Terminal) (fin : List Found) → Means (nth 0 (module_rules module_of.Imports)) (a ∷ vs) ts fin → After (part_of.Module module_of.Imports) (a ∷ vs) ts (λ z. fin ≡ z)
rule_is_imports_1 a vs ts fin m =
    let u0 = m.0 in
    let v0 = m.4.0 in
    let u1 = m.4.2.0 in
    let v1 = m.4.2.4.0 in
    let e : ts ≡ u0 ++ u1 = m.2 ∙ ap (λ z. u0 ++ z) (m.4.2.2 ∙ ap (λ z. u1 ++ z) m.4.2.4.2.0 ∙ append-nil u1) in
    (v1, subst (λ z. Is (part_of.Module module_of.Imports) (a ∷ []) z v1) (sym e) (is_imports_1 u0 v0 u1 v1 m.4.1 m.4.2.4.1), m.4.2.4.2.1)

rule_is_imports_2 : (a : Found) (vs : List Found) (ts : List Terminal) (fin : List Found) → Means (nth 1 (module_rules module_of.Imports)) (a ∷ vs) ts fin → After (part_of.Module module_of.Imports) (a ∷ vs) ts (λ z. fin ≡ z)
rule_is_imports_2 a vs ts fin m =
    let e : ts ≡ [] = m.0 in
    (a, subst (λ z. Is (part_of.Module module_of.Imports) (a ∷ []) z a) (sym e) is_imports_2, m.1)

rule_is_import : (vs : List Found) (ts : List Terminal) (fin : List Found) → Means (nth 0 (module_rules module_of.Import)) (vs) ts fin → After (part_of.Module module_of.Import) (vs) ts (λ z. fin ≡ z)
rule_is_import vs ts fin m =
    let t0 = m.0 in
    let t1 = m.5.0 in
    let u0 = m.5.5.0 in
    let v0 = m.5.5.4.0 in
    let u1 = m.5.5.4.2.0 in
    let v1 = m.5.5.4.2.4.0 in
    let e : ts ≡ t0 ∷ (t1 ∷ (u0 ++ u1)) = m.2 ∙ ap (λ z. t0 ∷ z) (m.5.2 ∙ ap (λ z. t1 ∷ z) (m.5.5.2 ∙ ap (λ z. u0 ++ z) (m.5.5.4.2.2 ∙ ap (λ z. u1 ++ z) m.5.5.4.2.4.2.0 ∙ append-nil u1))) in
    (node_three three_of.Import (leaf t0) v0 v1, subst (λ z. Is (part_of.Module module_of.Import) [] z (node_three three_of.Import (leaf t0) v0 v1)) (sym e) (is_import t0 t1 u0 v0 u1 v1 m.4 m.5.4 m.5.5.4.1 m.5.5.4.2.4.1), m.5.5.4.2.4.2.1)

rule_is_import_path_1 : (a : Found) (vs : List Found) (ts : List Terminal) (fin : List Found) → Means (nth 0 (module_rules module_of.ImportPath)) (a ∷ vs) ts fin → After (part_of.Module module_of.ImportPath) (a ∷ vs) ts (λ z. fin ≡ z)
rule_is_import_path_1 a vs ts fin m =
    let t0 = m.0 in
    let t1 = m.5.0 in
    let u0 = m.5.5.0 in
    let v0 = m.5.5.4.0 in
    let e : ts ≡ t0 ∷ (t1 ∷ u0) = m.2 ∙ ap (λ z. t0 ∷ z) (m.5.2 ∙ ap (λ z. t1 ∷ z) (m.5.5.2 ∙ ap (λ z. u0 ++ z) m.5.5.4.2.0 ∙ append-nil u0)) in
    (v0, subst (λ z. Is (part_of.Module module_of.ImportPath) (a ∷ []) z v0) (sym e) (is_import_path_1 t0 t1 u0 v0 m.4 m.5.4 m.5.5.4.1), m.5.5.4.2.1)

rule_is_import_path_2 : (a : Found) (vs : List Found) (ts : List Terminal) (fin : List Found) → Means (nth 1 (module_rules module_of.ImportPath)) (a ∷ vs) ts fin → After (part_of.Module module_of.ImportPath) (a ∷ vs) ts (λ z. fin ≡ z)
rule_is_import_path_2 a vs ts fin m =
    let e : ts ≡ [] = m.0 in
    (a, subst (λ z. Is (part_of.Module module_of.ImportPath) (a ∷ []) z a) (sym e) is_import_path_2, m.1)

rule_is_import_names_1 : (vs : List Found) (ts : List Terminal) (fin : List Found) → Means (nth 0 (module_rules module_of.ImportNames)) (vs) ts fin → After (part_of.Module module_of.ImportNames) (vs) ts (λ z. fin ≡ z)
rule_is_import_names_1 vs ts fin m =
    let t0 = m.0 in
    let u0 = m.5.0 in
    let v0 = m.5.4.0 in
    let u1 = m.5.4.2.0 in
    let v1 = m.5.4.2.4.0 in
    let e : ts ≡ t0 ∷ (u0 ++ u1) = m.2 ∙ ap (λ z. t0 ∷ z) (m.5.2 ∙ ap (λ z. u0 ++ z) (m.5.4.2.2 ∙ ap (λ z. u1 ++ z) m.5.4.2.4.2.0 ∙ append-nil u1)) in
    (v1, subst (λ z. Is (part_of.Module module_of.ImportNames) [] z v1) (sym e) (is_import_names_1 t0 u0 v0 u1 v1 m.4 m.5.4.1 m.5.4.2.4.1), m.5.4.2.4.2.1)

rule_is_import_names_2 : (vs : List Found) (ts : List Terminal) (fin : List Found) → Means (nth 1 (module_rules module_of.ImportNames)) (vs) ts fin → After (part_of.Module module_of.ImportNames) (vs) ts (λ z. fin ≡ z)
rule_is_import_names_2 vs ts fin m =
    let e : ts ≡ [] = m.0 in
    (nothing, subst (λ z. Is (part_of.Module module_of.ImportNames) [] z nothing) (sym e) is_import_names_2, m.1)

rule_is_import_name_1 : (vs : List Found) (ts : List Terminal) (fin : List Found) → Means (nth 0 (module_rules module_of.ImportName)) (vs) ts fin → After (part_of.Module module_of.ImportName) (vs) ts (λ z. fin ≡ z)
rule_is_import_name_1 vs ts fin m =
    let t0 = m.0 in
    let e : ts ≡ t0 ∷ [] = m.2 ∙ ap (λ z. t0 ∷ z) (m.5.0) in
    (leaf t0, subst (λ z. Is (part_of.Module module_of.ImportName) [] z (leaf t0)) (sym e) (is_import_name_1 t0 m.4), m.5.1)

rule_is_import_name_2 : (vs : List Found) (ts : List Terminal) (fin : List Found) → Means (nth 1 (module_rules module_of.ImportName)) (vs) ts fin → After (part_of.Module module_of.ImportName) (vs) ts (λ z. fin ≡ z)
rule_is_import_name_2 vs ts fin m =
    let t0 = m.0 in
    let e : ts ≡ t0 ∷ [] = m.2 ∙ ap (λ z. t0 ∷ z) (m.5.0) in
    (leaf t0, subst (λ z. Is (part_of.Module module_of.ImportName) [] z (leaf t0)) (sym e) (is_import_name_2 t0 m.4), m.5.1)

rule_is_import_names_rest_1 : (a : Found) (vs : List Found) (ts : List Terminal) (fin : List Found) → Means (nth 0 (module_rules module_of.ImportNamesRest)) (a ∷ vs) ts fin → After (part_of.Module module_of.ImportNamesRest) (a ∷ vs) ts (λ z. fin ≡ z)
rule_is_import_names_rest_1 a vs ts fin m =
    let t0 = m.0 in
    let e : ts ≡ t0 ∷ [] = m.2 ∙ ap (λ z. t0 ∷ z) (m.5.0) in
    (a, subst (λ z. Is (part_of.Module module_of.ImportNamesRest) (a ∷ []) z a) (sym e) (is_import_names_rest_1 t0 m.4), m.5.1)

rule_is_import_names_rest_2 : (a : Found) (vs : List Found) (ts : List Terminal) (fin : List Found) → Means (nth 1 (module_rules module_of.ImportNamesRest)) (a ∷ vs) ts fin → After (part_of.Module module_of.ImportNamesRest) (a ∷ vs) ts (λ z. fin ≡ z)
rule_is_import_names_rest_2 a vs ts fin m =
    let t0 = m.0 in
    let u0 = m.5.0 in
    let v0 = m.5.4.0 in
    let e : ts ≡ t0 ∷ u0 = m.2 ∙ ap (λ z. t0 ∷ z) (m.5.2 ∙ ap (λ z. u0 ++ z) m.5.4.2.0 ∙ append-nil u0) in
    (v0, subst (λ z. Is (part_of.Module module_of.ImportNamesRest) (a ∷ []) z v0) (sym e) (is_import_names_rest_2 t0 u0 v0 m.4 m.5.4.1), m.5.4.2.1)

rule_is_import_names_more_1 : (a : Found) (vs : List Found) (ts : List Terminal) (fin : List Found) → Means (nth 0 (module_rules module_of.ImportNamesMore)) (a ∷ vs) ts fin → After (part_of.Module module_of.ImportNamesMore) (a ∷ vs) ts (λ z. fin ≡ z)
rule_is_import_names_more_1 a vs ts fin m =
    let t0 = m.0 in
    let e : ts ≡ t0 ∷ [] = m.2 ∙ ap (λ z. t0 ∷ z) (m.5.0) in
    (a, subst (λ z. Is (part_of.Module module_of.ImportNamesMore) (a ∷ []) z a) (sym e) (is_import_names_more_1 t0 m.4), m.5.1)

rule_is_import_names_more_2 : (a : Found) (vs : List Found) (ts : List Terminal) (fin : List Found) → Means (nth 1 (module_rules module_of.ImportNamesMore)) (a ∷ vs) ts fin → After (part_of.Module module_of.ImportNamesMore) (a ∷ vs) ts (λ z. fin ≡ z)
rule_is_import_names_more_2 a vs ts fin m =
    let u0 = m.0 in
    let v0 = m.4.0 in
    let u1 = m.4.2.0 in
    let v1 = m.4.2.4.0 in
    let e : ts ≡ u0 ++ u1 = m.2 ∙ ap (λ z. u0 ++ z) (m.4.2.2 ∙ ap (λ z. u1 ++ z) m.4.2.4.2.0 ∙ append-nil u1) in
    (v1, subst (λ z. Is (part_of.Module module_of.ImportNamesMore) (a ∷ []) z v1) (sym e) (is_import_names_more_2 u0 v0 u1 v1 m.4.1 m.4.2.4.1), m.4.2.4.2.1)

rule_is_declarations_1 : (a : Found) (vs : List Found) (ts : List Terminal) (fin : List Found) → Means (nth 0 (module_rules module_of.Declarations)) (a ∷ vs) ts fin → After (part_of.Module module_of.Declarations) (a ∷ vs) ts (λ z. fin ≡ z)
rule_is_declarations_1 a vs ts fin m =
    let u0 = m.0 in
    let v0 = m.4.0 in
    let u1 = m.4.2.0 in
    let v1 = m.4.2.4.0 in
    let e : ts ≡ u0 ++ u1 = m.2 ∙ ap (λ z. u0 ++ z) (m.4.2.2 ∙ ap (λ z. u1 ++ z) m.4.2.4.2.0 ∙ append-nil u1) in
    (v1, subst (λ z. Is (part_of.Module module_of.Declarations) (a ∷ []) z v1) (sym e) (is_declarations_1 u0 v0 u1 v1 m.4.1 m.4.2.4.1), m.4.2.4.2.1)

rule_is_declarations_2 : (a : Found) (vs : List Found) (ts : List Terminal) (fin : List Found) → Means (nth 1 (module_rules module_of.Declarations)) (a ∷ vs) ts fin → After (part_of.Module module_of.Declarations) (a ∷ vs) ts (λ z. fin ≡ z)
rule_is_declarations_2 a vs ts fin m =
    let e : ts ≡ [] = m.0 in
    (a, subst (λ z. Is (part_of.Module module_of.Declarations) (a ∷ []) z a) (sym e) is_declarations_2, m.1)

rule_is_declaration_1 : (vs : List Found) (ts : List Terminal) (fin : List Found) → Means (nth 0 (module_rules module_of.Declaration)) (vs) ts fin → After (part_of.Module module_of.Declaration) (vs) ts (λ z. fin ≡ z)
rule_is_declaration_1 vs ts fin m =
    let t0 = m.0 in
    let u0 = m.5.0 in
    let v0 = m.5.4.0 in
    let u1 = m.5.4.2.0 in
    let v1 = m.5.4.2.4.0 in
    let e : ts ≡ t0 ∷ (u0 ++ u1) = m.2 ∙ ap (λ z. t0 ∷ z) (m.5.2 ∙ ap (λ z. u0 ++ z) (m.5.4.2.2 ∙ ap (λ z. u1 ++ z) m.5.4.2.4.2.0 ∙ append-nil u1)) in
    (v1, subst (λ z. Is (part_of.Module module_of.Declaration) [] z v1) (sym e) (is_declaration_1 t0 u0 v0 u1 v1 m.4 m.5.4.1 m.5.4.2.4.1), m.5.4.2.4.2.1)

rule_is_declaration_2 : (vs : List Found) (ts : List Terminal) (fin : List Found) → Means (nth 1 (module_rules module_of.Declaration)) (vs) ts fin → After (part_of.Module module_of.Declaration) (vs) ts (λ z. fin ≡ z)
rule_is_declaration_2 vs ts fin m =
    let t0 = m.0 in
    let u0 = m.5.0 in
    let v0 = m.5.4.0 in
    let t1 = m.5.4.2.0 in
    let t2 = m.5.4.2.5.0 in
    let u1 = m.5.4.2.5.5.0 in
    let v1 = m.5.4.2.5.5.4.0 in
    let t3 = m.5.4.2.5.5.4.2.0 in
    let e : ts ≡ t0 ∷ (u0 ++ (t1 ∷ (t2 ∷ (u1 ++ (t3 ∷ []))))) = m.2 ∙ ap (λ z. t0 ∷ z) (m.5.2 ∙ ap (λ z. u0 ++ z) (m.5.4.2.2 ∙ ap (λ z. t1 ∷ z) (m.5.4.2.5.2 ∙ ap (λ z. t2 ∷ z) (m.5.4.2.5.5.2 ∙ ap (λ z. u1 ++ z) (m.5.4.2.5.5.4.2.2 ∙ ap (λ z. t3 ∷ z) (m.5.4.2.5.5.4.2.5.0)))))) in
    (node_four four_of.Trait (leaf t0) v0 (leaf t1) v1, subst (λ z. Is (part_of.Module module_of.Declaration) [] z (node_four four_of.Trait (leaf t0) v0 (leaf t1) v1)) (sym e) (is_declaration_2 t0 u0 v0 t1 t2 u1 v1 t3 m.4 m.5.4.1 m.5.4.2.4 m.5.4.2.5.4 m.5.4.2.5.5.4.1 m.5.4.2.5.5.4.2.4), m.5.4.2.5.5.4.2.5.1)

rule_is_declaration_3 : (vs : List Found) (ts : List Terminal) (fin : List Found) → Means (nth 2 (module_rules module_of.Declaration)) (vs) ts fin → After (part_of.Module module_of.Declaration) (vs) ts (λ z. fin ≡ z)
rule_is_declaration_3 vs ts fin m =
    let t0 = m.0 in
    let t1 = m.5.0 in
    let u0 = m.5.5.0 in
    let v0 = m.5.5.4.0 in
    let t2 = m.5.5.4.2.0 in
    let u1 = m.5.5.4.2.5.0 in
    let v1 = m.5.5.4.2.5.4.0 in
    let t3 = m.5.5.4.2.5.4.2.0 in
    let e : ts ≡ t0 ∷ (t1 ∷ (u0 ++ (t2 ∷ (u1 ++ (t3 ∷ []))))) = m.2 ∙ ap (λ z. t0 ∷ z) (m.5.2 ∙ ap (λ z. t1 ∷ z) (m.5.5.2 ∙ ap (λ z. u0 ++ z) (m.5.5.4.2.2 ∙ ap (λ z. t2 ∷ z) (m.5.5.4.2.5.2 ∙ ap (λ z. u1 ++ z) (m.5.5.4.2.5.4.2.2 ∙ ap (λ z. t3 ∷ z) (m.5.5.4.2.5.4.2.5.0)))))) in
    (node_four four_of.Implementation (leaf t0) (leaf t1) v0 v1, subst (λ z. Is (part_of.Module module_of.Declaration) [] z (node_four four_of.Implementation (leaf t0) (leaf t1) v0 v1)) (sym e) (is_declaration_3 t0 t1 u0 v0 t2 u1 v1 t3 m.4 m.5.4 m.5.5.4.1 m.5.5.4.2.4 m.5.5.4.2.5.4.1 m.5.5.4.2.5.4.2.4), m.5.5.4.2.5.4.2.5.1)

rule_is_declaration_4 : (vs : List Found) (ts : List Terminal) (fin : List Found) → Means (nth 3 (module_rules module_of.Declaration)) (vs) ts fin → After (part_of.Module module_of.Declaration) (vs) ts (λ z. fin ≡ z)
rule_is_declaration_4 vs ts fin m =
    let u0 = m.0 in
    let v0 = m.4.0 in
    let e : ts ≡ u0 = m.2 ∙ ap (λ z. u0 ++ z) m.4.2.0 ∙ append-nil u0 in
    (v0, subst (λ z. Is (part_of.Module module_of.Declaration) [] z v0) (sym e) (is_declaration_4 u0 v0 m.4.1), m.4.2.1)

rule_is_type_form_1 : (a : Found) (b : Found) (vs : List Found) (ts : List Terminal) (fin : List Found) → Means (nth 0 (module_rules module_of.TypeForm)) (b ∷ a ∷ vs) ts fin → After (part_of.Module module_of.TypeForm) (b ∷ a ∷ vs) ts (λ z. fin ≡ z)
rule_is_type_form_1 a b vs ts fin m =
    let t0 = m.0 in
    let t1 = m.5.0 in
    let u0 = m.5.5.0 in
    let v0 = m.5.5.4.0 in
    let t2 = m.5.5.4.2.0 in
    let u1 = m.5.5.4.2.5.0 in
    let v1 = m.5.5.4.2.5.4.0 in
    let t3 = m.5.5.4.2.5.4.2.0 in
    let e : ts ≡ t0 ∷ (t1 ∷ (u0 ++ (t2 ∷ (u1 ++ (t3 ∷ []))))) = m.2 ∙ ap (λ z. t0 ∷ z) (m.5.2 ∙ ap (λ z. t1 ∷ z) (m.5.5.2 ∙ ap (λ z. u0 ++ z) (m.5.5.4.2.2 ∙ ap (λ z. t2 ∷ z) (m.5.5.4.2.5.2 ∙ ap (λ z. u1 ++ z) (m.5.5.4.2.5.4.2.2 ∙ ap (λ z. t3 ∷ z) (m.5.5.4.2.5.4.2.5.0)))))) in
    (node_five five_of.EnumDeclaration a b (leaf t1) v0 v1, subst (λ z. Is (part_of.Module module_of.TypeForm) (b ∷ a ∷ []) z (node_five five_of.EnumDeclaration a b (leaf t1) v0 v1)) (sym e) (is_type_form_1 t0 t1 u0 v0 t2 u1 v1 t3 m.4 m.5.4 m.5.5.4.1 m.5.5.4.2.4 m.5.5.4.2.5.4.1 m.5.5.4.2.5.4.2.4), m.5.5.4.2.5.4.2.5.1)

rule_is_type_form_2 : (a : Found) (b : Found) (vs : List Found) (ts : List Terminal) (fin : List Found) → Means (nth 1 (module_rules module_of.TypeForm)) (b ∷ a ∷ vs) ts fin → After (part_of.Module module_of.TypeForm) (b ∷ a ∷ vs) ts (λ z. fin ≡ z)
rule_is_type_form_2 a b vs ts fin m =
    let t0 = m.0 in
    let u0 = m.5.0 in
    let v0 = m.5.4.0 in
    let e : ts ≡ t0 ∷ u0 = m.2 ∙ ap (λ z. t0 ∷ z) (m.5.2 ∙ ap (λ z. u0 ++ z) m.5.4.2.0 ∙ append-nil u0) in
    (v0, subst (λ z. Is (part_of.Module module_of.TypeForm) (b ∷ a ∷ []) z v0) (sym e) (is_type_form_2 t0 u0 v0 m.4 m.5.4.1), m.5.4.2.1)

rule_is_type_form_3 : (a : Found) (b : Found) (vs : List Found) (ts : List Terminal) (fin : List Found) → Means (nth 2 (module_rules module_of.TypeForm)) (b ∷ a ∷ vs) ts fin → After (part_of.Module module_of.TypeForm) (b ∷ a ∷ vs) ts (λ z. fin ≡ z)
rule_is_type_form_3 a b vs ts fin m =
    let u0 = m.0 in
    let v0 = m.4.0 in
    let e : ts ≡ u0 = m.2 ∙ ap (λ z. u0 ++ z) m.4.2.0 ∙ append-nil u0 in
    (v0, subst (λ z. Is (part_of.Module module_of.TypeForm) (b ∷ a ∷ []) z v0) (sym e) (is_type_form_3 u0 v0 m.4.1), m.4.2.1)

rule_is_object_form : (a : Found) (b : Found) (vs : List Found) (ts : List Terminal) (fin : List Found) → Means (nth 0 (module_rules module_of.ObjectForm)) (b ∷ a ∷ vs) ts fin → After (part_of.Module module_of.ObjectForm) (b ∷ a ∷ vs) ts (λ z. fin ≡ z)
rule_is_object_form a b vs ts fin m =
    let t0 = m.0 in
    let u0 = m.5.0 in
    let v0 = m.5.4.0 in
    let t1 = m.5.4.2.0 in
    let u1 = m.5.4.2.5.0 in
    let v1 = m.5.4.2.5.4.0 in
    let t2 = m.5.4.2.5.4.2.0 in
    let e : ts ≡ t0 ∷ (u0 ++ (t1 ∷ (u1 ++ (t2 ∷ [])))) = m.2 ∙ ap (λ z. t0 ∷ z) (m.5.2 ∙ ap (λ z. u0 ++ z) (m.5.4.2.2 ∙ ap (λ z. t1 ∷ z) (m.5.4.2.5.2 ∙ ap (λ z. u1 ++ z) (m.5.4.2.5.4.2.2 ∙ ap (λ z. t2 ∷ z) (m.5.4.2.5.4.2.5.0))))) in
    (node_five five_of.TypeDeclaration a b (leaf t0) v0 v1, subst (λ z. Is (part_of.Module module_of.ObjectForm) (b ∷ a ∷ []) z (node_five five_of.TypeDeclaration a b (leaf t0) v0 v1)) (sym e) (is_object_form t0 u0 v0 t1 u1 v1 t2 m.4 m.5.4.1 m.5.4.2.4 m.5.4.2.5.4.1 m.5.4.2.5.4.2.4), m.5.4.2.5.4.2.5.1)

rule_is_object_members_1 : (a : Found) (vs : List Found) (ts : List Terminal) (fin : List Found) → Means (nth 0 (module_rules module_of.ObjectMembers)) (a ∷ vs) ts fin → After (part_of.Module module_of.ObjectMembers) (a ∷ vs) ts (λ z. fin ≡ z)
rule_is_object_members_1 a vs ts fin m =
    let u0 = m.0 in
    let v0 = m.4.0 in
    let u1 = m.4.2.0 in
    let v1 = m.4.2.4.0 in
    let e : ts ≡ u0 ++ u1 = m.2 ∙ ap (λ z. u0 ++ z) (m.4.2.2 ∙ ap (λ z. u1 ++ z) m.4.2.4.2.0 ∙ append-nil u1) in
    (v1, subst (λ z. Is (part_of.Module module_of.ObjectMembers) (a ∷ []) z v1) (sym e) (is_object_members_1 u0 v0 u1 v1 m.4.1 m.4.2.4.1), m.4.2.4.2.1)

rule_is_object_members_2 : (a : Found) (vs : List Found) (ts : List Terminal) (fin : List Found) → Means (nth 1 (module_rules module_of.ObjectMembers)) (a ∷ vs) ts fin → After (part_of.Module module_of.ObjectMembers) (a ∷ vs) ts (λ z. fin ≡ z)
rule_is_object_members_2 a vs ts fin m =
    let u0 = m.0 in
    let v0 = m.4.0 in
    let u1 = m.4.2.0 in
    let v1 = m.4.2.4.0 in
    let e : ts ≡ u0 ++ u1 = m.2 ∙ ap (λ z. u0 ++ z) (m.4.2.2 ∙ ap (λ z. u1 ++ z) m.4.2.4.2.0 ∙ append-nil u1) in
    (v1, subst (λ z. Is (part_of.Module module_of.ObjectMembers) (a ∷ []) z v1) (sym e) (is_object_members_2 u0 v0 u1 v1 m.4.1 m.4.2.4.1), m.4.2.4.2.1)

rule_is_object_members_3 : (a : Found) (vs : List Found) (ts : List Terminal) (fin : List Found) → Means (nth 2 (module_rules module_of.ObjectMembers)) (a ∷ vs) ts fin → After (part_of.Module module_of.ObjectMembers) (a ∷ vs) ts (λ z. fin ≡ z)
rule_is_object_members_3 a vs ts fin m =
    let e : ts ≡ [] = m.0 in
    (a, subst (λ z. Is (part_of.Module module_of.ObjectMembers) (a ∷ []) z a) (sym e) is_object_members_3, m.1)

rule_is_enum_members_1 : (a : Found) (vs : List Found) (ts : List Terminal) (fin : List Found) → Means (nth 0 (module_rules module_of.EnumMembers)) (a ∷ vs) ts fin → After (part_of.Module module_of.EnumMembers) (a ∷ vs) ts (λ z. fin ≡ z)
rule_is_enum_members_1 a vs ts fin m =
    let u0 = m.0 in
    let v0 = m.4.0 in
    let u1 = m.4.2.0 in
    let v1 = m.4.2.4.0 in
    let e : ts ≡ u0 ++ u1 = m.2 ∙ ap (λ z. u0 ++ z) (m.4.2.2 ∙ ap (λ z. u1 ++ z) m.4.2.4.2.0 ∙ append-nil u1) in
    (v1, subst (λ z. Is (part_of.Module module_of.EnumMembers) (a ∷ []) z v1) (sym e) (is_enum_members_1 u0 v0 u1 v1 m.4.1 m.4.2.4.1), m.4.2.4.2.1)

rule_is_enum_members_2 : (a : Found) (vs : List Found) (ts : List Terminal) (fin : List Found) → Means (nth 1 (module_rules module_of.EnumMembers)) (a ∷ vs) ts fin → After (part_of.Module module_of.EnumMembers) (a ∷ vs) ts (λ z. fin ≡ z)
rule_is_enum_members_2 a vs ts fin m =
    let u0 = m.0 in
    let v0 = m.4.0 in
    let u1 = m.4.2.0 in
    let v1 = m.4.2.4.0 in
    let e : ts ≡ u0 ++ u1 = m.2 ∙ ap (λ z. u0 ++ z) (m.4.2.2 ∙ ap (λ z. u1 ++ z) m.4.2.4.2.0 ∙ append-nil u1) in
    (v1, subst (λ z. Is (part_of.Module module_of.EnumMembers) (a ∷ []) z v1) (sym e) (is_enum_members_2 u0 v0 u1 v1 m.4.1 m.4.2.4.1), m.4.2.4.2.1)

rule_is_enum_members_3 : (a : Found) (vs : List Found) (ts : List Terminal) (fin : List Found) → Means (nth 2 (module_rules module_of.EnumMembers)) (a ∷ vs) ts fin → After (part_of.Module module_of.EnumMembers) (a ∷ vs) ts (λ z. fin ≡ z)
rule_is_enum_members_3 a vs ts fin m =
    let e : ts ≡ [] = m.0 in
    (a, subst (λ z. Is (part_of.Module module_of.EnumMembers) (a ∷ []) z a) (sym e) is_enum_members_3, m.1)

rule_is_field_declaration : (vs : List Found) (ts : List Terminal) (fin : List Found) → Means (nth 0 (module_rules module_of.FieldDeclaration)) (vs) ts fin → After (part_of.Module module_of.FieldDeclaration) (vs) ts (λ z. fin ≡ z)
rule_is_field_declaration vs ts fin m =
    let t0 = m.0 in
    let u0 = m.5.0 in
    let v0 = m.5.4.0 in
    let u1 = m.5.4.2.0 in
    let v1 = m.5.4.2.4.0 in
    let t1 = m.5.4.2.4.2.0 in
    let t2 = m.5.4.2.4.2.5.0 in
    let u2 = m.5.4.2.4.2.5.5.0 in
    let v2 = m.5.4.2.4.2.5.5.4.0 in
    let e : ts ≡ t0 ∷ (u0 ++ (u1 ++ (t1 ∷ (t2 ∷ u2)))) = m.2 ∙ ap (λ z. t0 ∷ z) (m.5.2 ∙ ap (λ z. u0 ++ z) (m.5.4.2.2 ∙ ap (λ z. u1 ++ z) (m.5.4.2.4.2.2 ∙ ap (λ z. t1 ∷ z) (m.5.4.2.4.2.5.2 ∙ ap (λ z. t2 ∷ z) (m.5.4.2.4.2.5.5.2 ∙ ap (λ z. u2 ++ z) m.5.4.2.4.2.5.5.4.2.0 ∙ append-nil u2))))) in
    (node_four four_of.FieldDeclaration (leaf t0) v1 (leaf t1) v2, subst (λ z. Is (part_of.Module module_of.FieldDeclaration) [] z (node_four four_of.FieldDeclaration (leaf t0) v1 (leaf t1) v2)) (sym e) (is_field_declaration t0 u0 v0 u1 v1 t1 t2 u2 v2 m.4 m.5.4.1 m.5.4.2.4.1 m.5.4.2.4.2.4 m.5.4.2.4.2.5.4 m.5.4.2.4.2.5.5.4.1), m.5.4.2.4.2.5.5.4.2.1)

rule_is_constructor : (vs : List Found) (ts : List Terminal) (fin : List Found) → Means (nth 0 (module_rules module_of.Constructor)) (vs) ts fin → After (part_of.Module module_of.Constructor) (vs) ts (λ z. fin ≡ z)
rule_is_constructor vs ts fin m =
    let t0 = m.0 in
    let t1 = m.5.0 in
    let u0 = m.5.5.0 in
    let v0 = m.5.5.4.0 in
    let e : ts ≡ t0 ∷ (t1 ∷ u0) = m.2 ∙ ap (λ z. t0 ∷ z) (m.5.2 ∙ ap (λ z. t1 ∷ z) (m.5.5.2 ∙ ap (λ z. u0 ++ z) m.5.5.4.2.0 ∙ append-nil u0)) in
    (node_three three_of.Constructor (leaf t0) (leaf t1) v0, subst (λ z. Is (part_of.Module module_of.Constructor) [] z (node_three three_of.Constructor (leaf t0) (leaf t1) v0)) (sym e) (is_constructor t0 t1 u0 v0 m.4 m.5.4 m.5.5.4.1), m.5.5.4.2.1)

rule_is_trait_methods_1 : (a : Found) (vs : List Found) (ts : List Terminal) (fin : List Found) → Means (nth 0 (module_rules module_of.TraitMethods)) (a ∷ vs) ts fin → After (part_of.Module module_of.TraitMethods) (a ∷ vs) ts (λ z. fin ≡ z)
rule_is_trait_methods_1 a vs ts fin m =
    let u0 = m.0 in
    let v0 = m.4.0 in
    let u1 = m.4.2.0 in
    let v1 = m.4.2.4.0 in
    let e : ts ≡ u0 ++ u1 = m.2 ∙ ap (λ z. u0 ++ z) (m.4.2.2 ∙ ap (λ z. u1 ++ z) m.4.2.4.2.0 ∙ append-nil u1) in
    (v1, subst (λ z. Is (part_of.Module module_of.TraitMethods) (a ∷ []) z v1) (sym e) (is_trait_methods_1 u0 v0 u1 v1 m.4.1 m.4.2.4.1), m.4.2.4.2.1)

rule_is_trait_methods_2 : (a : Found) (vs : List Found) (ts : List Terminal) (fin : List Found) → Means (nth 1 (module_rules module_of.TraitMethods)) (a ∷ vs) ts fin → After (part_of.Module module_of.TraitMethods) (a ∷ vs) ts (λ z. fin ≡ z)
rule_is_trait_methods_2 a vs ts fin m =
    let e : ts ≡ [] = m.0 in
    (a, subst (λ z. Is (part_of.Module module_of.TraitMethods) (a ∷ []) z a) (sym e) is_trait_methods_2, m.1)

rule_is_trait_method : (vs : List Found) (ts : List Terminal) (fin : List Found) → Means (nth 0 (module_rules module_of.TraitMethod)) (vs) ts fin → After (part_of.Module module_of.TraitMethod) (vs) ts (λ z. fin ≡ z)
rule_is_trait_method vs ts fin m =
    let t0 = m.0 in
    let u0 = m.5.0 in
    let v0 = m.5.4.0 in
    let u1 = m.5.4.2.0 in
    let v1 = m.5.4.2.4.0 in
    let t1 = m.5.4.2.4.2.0 in
    let u2 = m.5.4.2.4.2.5.0 in
    let v2 = m.5.4.2.4.2.5.4.0 in
    let u3 = m.5.4.2.4.2.5.4.2.0 in
    let v3 = m.5.4.2.4.2.5.4.2.4.0 in
    let e : ts ≡ t0 ∷ (u0 ++ (u1 ++ (t1 ∷ (u2 ++ u3)))) = m.2 ∙ ap (λ z. t0 ∷ z) (m.5.2 ∙ ap (λ z. u0 ++ z) (m.5.4.2.2 ∙ ap (λ z. u1 ++ z) (m.5.4.2.4.2.2 ∙ ap (λ z. t1 ∷ z) (m.5.4.2.4.2.5.2 ∙ ap (λ z. u2 ++ z) (m.5.4.2.4.2.5.4.2.2 ∙ ap (λ z. u3 ++ z) m.5.4.2.4.2.5.4.2.4.2.0 ∙ append-nil u3))))) in
    (node_five five_of.TraitMethod (leaf t0) v1 (leaf t1) v2 v3, subst (λ z. Is (part_of.Module module_of.TraitMethod) [] z (node_five five_of.TraitMethod (leaf t0) v1 (leaf t1) v2 v3)) (sym e) (is_trait_method t0 u0 v0 u1 v1 t1 u2 v2 u3 v3 m.4 m.5.4.1 m.5.4.2.4.1 m.5.4.2.4.2.4 m.5.4.2.4.2.5.4.1 m.5.4.2.4.2.5.4.2.4.1), m.5.4.2.4.2.5.4.2.4.2.1)

rule_is_implemented_trait_1 : (vs : List Found) (ts : List Terminal) (fin : List Found) → Means (nth 0 (module_rules module_of.ImplementedTrait)) (vs) ts fin → After (part_of.Module module_of.ImplementedTrait) (vs) ts (λ z. fin ≡ z)
rule_is_implemented_trait_1 vs ts fin m =
    let t0 = m.0 in
    let t1 = m.5.0 in
    let e : ts ≡ t0 ∷ (t1 ∷ []) = m.2 ∙ ap (λ z. t0 ∷ z) (m.5.2 ∙ ap (λ z. t1 ∷ z) (m.5.5.0)) in
    (leaf t1, subst (λ z. Is (part_of.Module module_of.ImplementedTrait) [] z (leaf t1)) (sym e) (is_implemented_trait_1 t0 t1 m.4 m.5.4), m.5.5.1)

rule_is_implemented_trait_2 : (vs : List Found) (ts : List Terminal) (fin : List Found) → Means (nth 1 (module_rules module_of.ImplementedTrait)) (vs) ts fin → After (part_of.Module module_of.ImplementedTrait) (vs) ts (λ z. fin ≡ z)
rule_is_implemented_trait_2 vs ts fin m =
    let e : ts ≡ [] = m.0 in
    (nothing, subst (λ z. Is (part_of.Module module_of.ImplementedTrait) [] z nothing) (sym e) is_implemented_trait_2, m.1)

pub module_rule : (n : ModulePart) (r : List Symbol) (vs : List Found) (ts : List Terminal) (fin : List Found) → Among r (module_rules n) → Means r vs ts fin → After (part_of.Module n) vs ts (λ z. fin ≡ z)
module_rule module_of.Module r vs ts fin (inl e) m = rule_is_module vs ts fin (subst (λ z. Means z vs ts fin) e m)
module_rule module_of.Module r vs ts fin (inr e) m = elim e [ ]
module_rule module_of.Imports r (a ∷ vs) ts fin (inl e) m = rule_is_imports_1 a vs ts fin (subst (λ z. Means z (a ∷ vs) ts fin) e m)
module_rule module_of.Imports r (a ∷ vs) ts fin (inr (inl e)) m = rule_is_imports_2 a vs ts fin (subst (λ z. Means z (a ∷ vs) ts fin) e m)
module_rule module_of.Imports r (a ∷ vs) ts fin (inr (inr e)) m = elim e [ ]
module_rule module_of.Imports r [] ts fin h m = tt
module_rule module_of.Import r vs ts fin (inl e) m = rule_is_import vs ts fin (subst (λ z. Means z vs ts fin) e m)
module_rule module_of.Import r vs ts fin (inr e) m = elim e [ ]
module_rule module_of.ImportPath r (a ∷ vs) ts fin (inl e) m = rule_is_import_path_1 a vs ts fin (subst (λ z. Means z (a ∷ vs) ts fin) e m)
module_rule module_of.ImportPath r (a ∷ vs) ts fin (inr (inl e)) m = rule_is_import_path_2 a vs ts fin (subst (λ z. Means z (a ∷ vs) ts fin) e m)
module_rule module_of.ImportPath r (a ∷ vs) ts fin (inr (inr e)) m = elim e [ ]
module_rule module_of.ImportPath r [] ts fin h m = tt
module_rule module_of.ImportNames r vs ts fin (inl e) m = rule_is_import_names_1 vs ts fin (subst (λ z. Means z vs ts fin) e m)
module_rule module_of.ImportNames r vs ts fin (inr (inl e)) m = rule_is_import_names_2 vs ts fin (subst (λ z. Means z vs ts fin) e m)
module_rule module_of.ImportNames r vs ts fin (inr (inr e)) m = elim e [ ]
module_rule module_of.ImportName r vs ts fin (inl e) m = rule_is_import_name_1 vs ts fin (subst (λ z. Means z vs ts fin) e m)
module_rule module_of.ImportName r vs ts fin (inr (inl e)) m = rule_is_import_name_2 vs ts fin (subst (λ z. Means z vs ts fin) e m)
module_rule module_of.ImportName r vs ts fin (inr (inr e)) m = elim e [ ]
module_rule module_of.ImportNamesRest r (a ∷ vs) ts fin (inl e) m = rule_is_import_names_rest_1 a vs ts fin (subst (λ z. Means z (a ∷ vs) ts fin) e m)
module_rule module_of.ImportNamesRest r (a ∷ vs) ts fin (inr (inl e)) m = rule_is_import_names_rest_2 a vs ts fin (subst (λ z. Means z (a ∷ vs) ts fin) e m)
module_rule module_of.ImportNamesRest r (a ∷ vs) ts fin (inr (inr e)) m = elim e [ ]
module_rule module_of.ImportNamesRest r [] ts fin h m = tt
module_rule module_of.ImportNamesMore r (a ∷ vs) ts fin (inl e) m = rule_is_import_names_more_1 a vs ts fin (subst (λ z. Means z (a ∷ vs) ts fin) e m)
module_rule module_of.ImportNamesMore r (a ∷ vs) ts fin (inr (inl e)) m = rule_is_import_names_more_2 a vs ts fin (subst (λ z. Means z (a ∷ vs) ts fin) e m)
module_rule module_of.ImportNamesMore r (a ∷ vs) ts fin (inr (inr e)) m = elim e [ ]
module_rule module_of.ImportNamesMore r [] ts fin h m = tt
module_rule module_of.Declarations r (a ∷ vs) ts fin (inl e) m = rule_is_declarations_1 a vs ts fin (subst (λ z. Means z (a ∷ vs) ts fin) e m)
module_rule module_of.Declarations r (a ∷ vs) ts fin (inr (inl e)) m = rule_is_declarations_2 a vs ts fin (subst (λ z. Means z (a ∷ vs) ts fin) e m)
module_rule module_of.Declarations r (a ∷ vs) ts fin (inr (inr e)) m = elim e [ ]
module_rule module_of.Declarations r [] ts fin h m = tt
module_rule module_of.Declaration r vs ts fin (inl e) m = rule_is_declaration_1 vs ts fin (subst (λ z. Means z vs ts fin) e m)
module_rule module_of.Declaration r vs ts fin (inr (inl e)) m = rule_is_declaration_2 vs ts fin (subst (λ z. Means z vs ts fin) e m)
module_rule module_of.Declaration r vs ts fin (inr (inr (inl e))) m = rule_is_declaration_3 vs ts fin (subst (λ z. Means z vs ts fin) e m)
module_rule module_of.Declaration r vs ts fin (inr (inr (inr (inl e)))) m = rule_is_declaration_4 vs ts fin (subst (λ z. Means z vs ts fin) e m)
module_rule module_of.Declaration r vs ts fin (inr (inr (inr (inr e)))) m = elim e [ ]
module_rule module_of.TypeForm r (b ∷ a ∷ vs) ts fin (inl e) m = rule_is_type_form_1 a b vs ts fin (subst (λ z. Means z (b ∷ a ∷ vs) ts fin) e m)
module_rule module_of.TypeForm r (b ∷ a ∷ vs) ts fin (inr (inl e)) m = rule_is_type_form_2 a b vs ts fin (subst (λ z. Means z (b ∷ a ∷ vs) ts fin) e m)
module_rule module_of.TypeForm r (b ∷ a ∷ vs) ts fin (inr (inr (inl e))) m = rule_is_type_form_3 a b vs ts fin (subst (λ z. Means z (b ∷ a ∷ vs) ts fin) e m)
module_rule module_of.TypeForm r (b ∷ a ∷ vs) ts fin (inr (inr (inr e))) m = elim e [ ]
module_rule module_of.TypeForm r [] ts fin h m = tt
module_rule module_of.TypeForm r (b ∷ []) ts fin h m = tt
module_rule module_of.ObjectForm r (b ∷ a ∷ vs) ts fin (inl e) m = rule_is_object_form a b vs ts fin (subst (λ z. Means z (b ∷ a ∷ vs) ts fin) e m)
module_rule module_of.ObjectForm r (b ∷ a ∷ vs) ts fin (inr e) m = elim e [ ]
module_rule module_of.ObjectForm r [] ts fin h m = tt
module_rule module_of.ObjectForm r (b ∷ []) ts fin h m = tt
module_rule module_of.ObjectMembers r (a ∷ vs) ts fin (inl e) m = rule_is_object_members_1 a vs ts fin (subst (λ z. Means z (a ∷ vs) ts fin) e m)
module_rule module_of.ObjectMembers r (a ∷ vs) ts fin (inr (inl e)) m = rule_is_object_members_2 a vs ts fin (subst (λ z. Means z (a ∷ vs) ts fin) e m)
module_rule module_of.ObjectMembers r (a ∷ vs) ts fin (inr (inr (inl e))) m = rule_is_object_members_3 a vs ts fin (subst (λ z. Means z (a ∷ vs) ts fin) e m)
module_rule module_of.ObjectMembers r (a ∷ vs) ts fin (inr (inr (inr e))) m = elim e [ ]
module_rule module_of.ObjectMembers r [] ts fin h m = tt
module_rule module_of.EnumMembers r (a ∷ vs) ts fin (inl e) m = rule_is_enum_members_1 a vs ts fin (subst (λ z. Means z (a ∷ vs) ts fin) e m)
module_rule module_of.EnumMembers r (a ∷ vs) ts fin (inr (inl e)) m = rule_is_enum_members_2 a vs ts fin (subst (λ z. Means z (a ∷ vs) ts fin) e m)
module_rule module_of.EnumMembers r (a ∷ vs) ts fin (inr (inr (inl e))) m = rule_is_enum_members_3 a vs ts fin (subst (λ z. Means z (a ∷ vs) ts fin) e m)
module_rule module_of.EnumMembers r (a ∷ vs) ts fin (inr (inr (inr e))) m = elim e [ ]
module_rule module_of.EnumMembers r [] ts fin h m = tt
module_rule module_of.FieldDeclaration r vs ts fin (inl e) m = rule_is_field_declaration vs ts fin (subst (λ z. Means z vs ts fin) e m)
module_rule module_of.FieldDeclaration r vs ts fin (inr e) m = elim e [ ]
module_rule module_of.Constructor r vs ts fin (inl e) m = rule_is_constructor vs ts fin (subst (λ z. Means z vs ts fin) e m)
module_rule module_of.Constructor r vs ts fin (inr e) m = elim e [ ]
module_rule module_of.TraitMethods r (a ∷ vs) ts fin (inl e) m = rule_is_trait_methods_1 a vs ts fin (subst (λ z. Means z (a ∷ vs) ts fin) e m)
module_rule module_of.TraitMethods r (a ∷ vs) ts fin (inr (inl e)) m = rule_is_trait_methods_2 a vs ts fin (subst (λ z. Means z (a ∷ vs) ts fin) e m)
module_rule module_of.TraitMethods r (a ∷ vs) ts fin (inr (inr e)) m = elim e [ ]
module_rule module_of.TraitMethods r [] ts fin h m = tt
module_rule module_of.TraitMethod r vs ts fin (inl e) m = rule_is_trait_method vs ts fin (subst (λ z. Means z vs ts fin) e m)
module_rule module_of.TraitMethod r vs ts fin (inr e) m = elim e [ ]
module_rule module_of.ImplementedTrait r vs ts fin (inl e) m = rule_is_implemented_trait_1 vs ts fin (subst (λ z. Means z vs ts fin) e m)
module_rule module_of.ImplementedTrait r vs ts fin (inr (inl e)) m = rule_is_implemented_trait_2 vs ts fin (subst (λ z. Means z vs ts fin) e m)
module_rule module_of.ImplementedTrait r vs ts fin (inr (inr e)) m = elim e [ ]
