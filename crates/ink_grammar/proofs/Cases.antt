-- What the table derives, and what the cases are, is one.
use Rattle.std.proofs.Common.{◌≡◌, List, [], ◌∷◌, ◌++◌, inl, inr, refl, sym, subst, append-nil}
use Rattle.ink_grammar.specs.declared.token.Terminal.{Terminal}
use Rattle.ink_grammar.specs.declared.symbol.Nonterminal.{Nonterminal}
use Rattle.ink_grammar.specs.declared.symbol.Nonterminal.TheVariants as part_of
use Rattle.ink_grammar.specs.declared.tree.OneChild.TheVariants as one_of
use Rattle.ink_grammar.specs.declared.tree.FourChildren.TheVariants as four_of
use Rattle.ink_grammar.specs.declared.symbol.Symbol.{Symbol}
use Rattle.ink_grammar.specs.Grammar.{rules}
use Rattle.ink_grammar.specs.Tree.{Found, leaf, no_items, node_one, node_four}
use Rattle.ink_grammar.specs.Reads.{Among, Derives, by, Reads, done, token, at_place, part, make}
use Rattle.ink_grammar.specs.Productions.{Is, is_module, is_imports_1, is_imports_2, is_import, is_import_path_1, is_import_path_2, is_import_names_1, is_import_names_2, is_import_name_1, is_import_name_2, is_import_names_rest_1, is_import_names_rest_2, is_import_names_more_1, is_import_names_more_2, is_declarations_1, is_declarations_2, is_declaration_1, is_declaration_2, is_declaration_3, is_declaration_4, is_type_form_1, is_type_form_2, is_type_form_3, is_object_form, is_object_members_1, is_object_members_2, is_object_members_3, is_enum_members_1, is_enum_members_2, is_enum_members_3, is_field_declaration, is_constructor, is_trait_methods_1, is_trait_methods_2, is_trait_method, is_implemented_trait_1, is_implemented_trait_2, is_optional_pub_1, is_optional_pub_2, is_optional_async_1, is_optional_async_2, is_optional_mut_1, is_optional_mut_2, is_method_kind_1, is_method_kind_2, is_method_kind_3, is_method_kind_4, is_trait_method_kind_1, is_trait_method_kind_2, is_trait_method_kind_3, is_methods_1, is_methods_2, is_method, is_parameters_1, is_parameters_2, is_parameters_more_1, is_parameters_more_2, is_parameters_rest_1, is_parameters_rest_2, is_parameter, is_method_result_1, is_method_result_2, is_full_type_1, is_full_type_2, is_bare_type_1, is_bare_type_2, is_tuple_type_rest_1, is_tuple_type_rest_2, is_type_arguments_1, is_type_arguments_2, is_type_arguments_rest_1, is_type_arguments_rest_2, is_type_arguments_more_1, is_type_arguments_more_2, is_type_parameters_1, is_type_parameters_2, is_type_parameters_rest_1, is_type_parameters_rest_2, is_type_parameters_more_1, is_type_parameters_more_2, is_type_parameter, is_bounds_1, is_bounds_2, is_bounds_rest_1, is_bounds_rest_2, is_constructor_types_1, is_constructor_types_2, is_constructor_types_rest_1, is_constructor_types_rest_2, is_constructor_types_more_1, is_constructor_types_more_2, is_block, is_statements_1, is_statements_2, is_more_statements_1, is_more_statements_2, is_statement_1, is_statement_2, is_mutable_1, is_mutable_2, is_let_name_1, is_let_name_2, is_let_type_1, is_let_type_2, is_expression_1, is_expression_2, is_jump_1, is_jump_2, is_jump_3, is_return_rest_1, is_return_rest_2, is_after_operand_1, is_after_operand_2, is_chain, is_chain_rest_1, is_chain_rest_2, is_chain_rest_3, is_unnamed_expression_1, is_unnamed_expression_2, is_conditional, is_else_rest_1, is_else_rest_2, is_else_branch_1, is_else_branch_2, is_arms_1, is_arms_2, is_arm, is_guard_1, is_guard_2, is_arm_value_1, is_arm_value_2, is_operand_1, is_operand_2, is_unnamed_operand_1, is_unnamed_operand_2, is_unnamed_operand_3, is_unnamed_operand_4, is_unnamed_operand_5, is_recover_rest_1, is_recover_rest_2, is_name_rest_1, is_name_rest_2, is_links_1, is_links_2, is_link_1, is_link_2, is_link_rest_1, is_link_rest_2, is_constant_rest_1, is_constant_rest_2, is_constant_rest_3, is_after_constant_1, is_after_constant_2, is_qualified_rest_1, is_qualified_rest_2, is_primary_1, is_primary_2, is_primary_3, is_primary_4, is_primary_5, is_primary_6, is_primary_7, is_primary_8, is_text_rest_1, is_text_rest_2, is_text_rest_3, is_parenthesis_rest_1, is_parenthesis_rest_2, is_tuple_rest_1, is_tuple_rest_2, is_items_1, is_items_2, is_items_rest_1, is_items_rest_2, is_arguments_1, is_arguments_2, is_arguments_rest_1, is_arguments_rest_2, is_constructor_arguments_1, is_constructor_arguments_2, is_constructor_arguments_3, is_named_or_not_1, is_named_or_not_2, is_named_rest_1, is_named_rest_2, is_named_more_1, is_named_more_2, is_pattern, is_alternative_1, is_alternative_2, is_alternative_3, is_alternative_4, is_alternative_5, is_alternative_6, is_pattern_rest_1, is_pattern_rest_2, is_pattern_text_rest_1, is_pattern_text_rest_2, is_constructor_pattern_rest_1, is_constructor_pattern_rest_2, is_patterns_rest_1, is_patterns_rest_2, is_patterns_more_1, is_patterns_more_2, is_tuple_pattern_rest_1, is_tuple_pattern_rest_2, is_field_pattern, is_field_patterns_rest_1, is_field_patterns_rest_2, is_field_patterns_more_1, is_field_patterns_more_2}
use Rattle.ink_grammar.proofs.Meaning.{takes, After, after_map, Means}
use Rattle.ink_grammar.proofs.ModuleCases.{module_rule}
use Rattle.ink_grammar.proofs.MethodCases.{method_rule}
use Rattle.ink_grammar.proofs.TypeCases.{type_rule}
use Rattle.ink_grammar.proofs.StatementCases.{statement_rule}
use Rattle.ink_grammar.proofs.OperandCases.{operand_rule}
use Rattle.ink_grammar.proofs.PatternCases.{pattern_rule}

-- What the cases are, the table derives, whatever was found before.
pub from : {n : Nonterminal} {own : List Found} {ts : List Terminal} {v : Found} → Is n own ts v → (vs : List Found) → Derives n (own ++ vs) ts (v ∷ vs)
from (is_module u0 v0 u1 v1 h0 h1) vs = by (inl refl) (make (part (from h0 vs) tt (make (part (from h1 (v0 ∷ vs)) tt (make done) (sym (append-nil u1)))) refl))
from (is_imports_1 {a = a} u0 v0 u1 v1 h0 h1) vs = by (inl refl) (part (from h0 (a ∷ vs)) tt (make (part (from h1 vs) tt done (sym (append-nil u1)))) refl)
from (is_imports_2 {a = a}) vs = by (inr (inl refl)) done
from (is_import t0 t1 u0 v0 u1 v1 h0 h1 h2 h3) vs = by (inl refl) (token refl h0 (make (token refl h1 (make (part (from h2 (leaf t0 ∷ vs)) tt (part (from h3 (v0 ∷ leaf t0 ∷ vs)) tt (make done) (sym (append-nil u1))) refl)))))
from (is_import_path_1 {a = a} t0 t1 u0 v0 h0 h1 h2) vs = by (inl refl) (token refl h0 (token refl h1 (make (part (from h2 vs) tt done (sym (append-nil u0))))))
from (is_import_path_2 {a = a}) vs = by (inr (inl refl)) done
from (is_import_names_1 t0 u0 v0 u1 v1 h0 h1 h2) vs = by (inl refl) (token refl h0 (make (part (from h1 (no_items ∷ vs)) tt (make (part (from h2 vs) tt done (sym (append-nil u1)))) refl)))
from is_import_names_2 vs = by (inr (inl refl)) (make done)
from (is_import_name_1 t0 h0) vs = by (inl refl) (token refl h0 done)
from (is_import_name_2 t0 h0) vs = by (inr (inl refl)) (token refl h0 done)
from (is_import_names_rest_1 {a = a} t0 h0) vs = by (inl refl) (token refl h0 done)
from (is_import_names_rest_2 {a = a} t0 u0 v0 h0 h1) vs = by (inr (inl refl)) (token refl h0 (part (from h1 vs) tt done (sym (append-nil u0))))
from (is_import_names_more_1 {a = a} t0 h0) vs = by (inl refl) (token refl h0 done)
from (is_import_names_more_2 {a = a} u0 v0 u1 v1 h0 h1) vs = by (inr (inl refl)) (part (from h0 (a ∷ vs)) tt (make (part (from h1 vs) tt done (sym (append-nil u1)))) refl)
from (is_declarations_1 {a = a} u0 v0 u1 v1 h0 h1) vs = by (inl refl) (part (from h0 (a ∷ vs)) tt (make (part (from h1 vs) tt done (sym (append-nil u1)))) refl)
from (is_declarations_2 {a = a}) vs = by (inr (inl refl)) done
from (is_declaration_1 t0 u0 v0 u1 v1 h0 h1 h2) vs = by (inl refl) (token refl h0 (make (part (from h1 (leaf t0 ∷ vs)) tt (part (from h2 vs) tt done (sym (append-nil u1))) refl)))
from (is_declaration_2 t0 u0 v0 t1 t2 u1 v1 t3 h0 h1 h2 h3 h4 h5) vs = by (inr (inl refl)) (token refl h0 (make (part (from h1 (leaf t0 ∷ vs)) tt (token refl h2 (token refl h3 (make (part (from h4 (leaf t1 ∷ v0 ∷ leaf t0 ∷ vs)) tt (token refl h5 (make done)) refl)))) refl)))
from (is_declaration_3 t0 t1 u0 v0 t2 u1 v1 t3 h0 h1 h2 h3 h4 h5) vs = by (inr (inr (inl refl))) (token refl h0 (token refl h1 (part (from h2 (leaf t1 ∷ leaf t0 ∷ vs)) tt (token refl h3 (make (part (from h4 (v0 ∷ leaf t1 ∷ leaf t0 ∷ vs)) tt (token refl h5 (make done)) refl))) refl)))
from (is_declaration_4 u0 v0 h0) vs = by (inr (inr (inr (inl refl)))) (part (from h0 vs) tt done (sym (append-nil u0)))
from (is_type_form_1 {a = a} {b = b} t0 t1 u0 v0 t2 u1 v1 t3 h0 h1 h2 h3 h4 h5) vs = by (inl refl) (token refl h0 (token refl h1 (part (from h2 (leaf t1 ∷ b ∷ a ∷ vs)) tt (token refl h3 (make (part (from h4 (v0 ∷ leaf t1 ∷ b ∷ a ∷ vs)) tt (token refl h5 (make done)) refl))) refl)))
from (is_type_form_2 {a = a} {b = b} t0 u0 v0 h0 h1) vs = by (inr (inl refl)) (token refl h0 (make (part (from h1 vs) tt done (sym (append-nil u0)))))
from (is_type_form_3 {a = a} {b = b} u0 v0 h0) vs = by (inr (inr (inl refl))) (part (from h0 vs) tt done (sym (append-nil u0)))
from (is_object_form {a = a} {b = b} t0 u0 v0 t1 u1 v1 t2 h0 h1 h2 h3 h4) vs = by (inl refl) (token refl h0 (part (from h1 (leaf t0 ∷ b ∷ a ∷ vs)) tt (token refl h2 (make (part (from h3 (v0 ∷ leaf t0 ∷ b ∷ a ∷ vs)) tt (token refl h4 (make done)) refl))) refl))
from (is_object_members_1 {a = a} u0 v0 u1 v1 h0 h1) vs = by (inl refl) (part (from h0 (a ∷ vs)) tt (make (part (from h1 vs) tt done (sym (append-nil u1)))) refl)
from (is_object_members_2 {a = a} u0 v0 u1 v1 h0 h1) vs = by (inr (inl refl)) (part (from h0 (a ∷ vs)) tt (make (part (from h1 vs) tt done (sym (append-nil u1)))) refl)
from (is_object_members_3 {a = a}) vs = by (inr (inr (inl refl))) done
from (is_enum_members_1 {a = a} u0 v0 u1 v1 h0 h1) vs = by (inl refl) (part (from h0 (a ∷ vs)) tt (make (part (from h1 vs) tt done (sym (append-nil u1)))) refl)
from (is_enum_members_2 {a = a} u0 v0 u1 v1 h0 h1) vs = by (inr (inl refl)) (part (from h0 (a ∷ vs)) tt (make (part (from h1 vs) tt done (sym (append-nil u1)))) refl)
from (is_enum_members_3 {a = a}) vs = by (inr (inr (inl refl))) done
from (is_field_declaration t0 u0 v0 u1 v1 t1 t2 u2 v2 h0 h1 h2 h3 h4 h5) vs = by (inl refl) (token refl h0 (make (part (from h1 (leaf t0 ∷ vs)) tt (part (from h2 (leaf t0 ∷ vs)) tt (token refl h3 (token refl h4 (part (from h5 (leaf t1 ∷ v1 ∷ leaf t0 ∷ vs)) tt (make done) (sym (append-nil u2))))) refl) refl)))
from (is_constructor t0 t1 u0 v0 h0 h1 h2) vs = by (inl refl) (token refl h0 (token refl h1 (part (from h2 (leaf t1 ∷ leaf t0 ∷ vs)) tt (make done) (sym (append-nil u0)))))
from (is_trait_methods_1 {a = a} u0 v0 u1 v1 h0 h1) vs = by (inl refl) (part (from h0 (a ∷ vs)) tt (make (part (from h1 vs) tt done (sym (append-nil u1)))) refl)
from (is_trait_methods_2 {a = a}) vs = by (inr (inl refl)) done
from (is_trait_method t0 u0 v0 u1 v1 t1 u2 v2 u3 v3 h0 h1 h2 h3 h4 h5) vs = by (inl refl) (token refl h0 (make (part (from h1 (leaf t0 ∷ vs)) tt (part (from h2 (leaf t0 ∷ vs)) tt (token refl h3 (part (from h4 (leaf t1 ∷ v1 ∷ leaf t0 ∷ vs)) tt (part (from h5 (v2 ∷ leaf t1 ∷ v1 ∷ leaf t0 ∷ vs)) tt (make done) (sym (append-nil u3))) refl)) refl) refl)))
from (is_implemented_trait_1 t0 t1 h0 h1) vs = by (inl refl) (token refl h0 (token refl h1 done))
from is_implemented_trait_2 vs = by (inr (inl refl)) (make done)
from (is_optional_pub_1 {a = a} t0 h0) vs = by (inl refl) (token refl h0 (make done))
from (is_optional_pub_2 {a = a}) vs = by (inr (inl refl)) done
from (is_optional_async_1 {a = a} t0 h0) vs = by (inl refl) (token refl h0 (make done))
from (is_optional_async_2 {a = a}) vs = by (inr (inl refl)) done
from (is_optional_mut_1 {a = a} t0 h0) vs = by (inl refl) (token refl h0 (make done))
from (is_optional_mut_2 {a = a}) vs = by (inr (inl refl)) done
from (is_method_kind_1 {a = a} t0 h0) vs = by (inl refl) (token refl h0 (make done))
from (is_method_kind_2 {a = a} t0 h0) vs = by (inr (inl refl)) (token refl h0 (make done))
from (is_method_kind_3 {a = a} t0 h0) vs = by (inr (inr (inl refl))) (token refl h0 (make done))
from (is_method_kind_4 {a = a}) vs = by (inr (inr (inr (inl refl)))) done
from (is_trait_method_kind_1 {a = a} t0 h0) vs = by (inl refl) (token refl h0 (make done))
from (is_trait_method_kind_2 {a = a} t0 h0) vs = by (inr (inl refl)) (token refl h0 (make done))
from (is_trait_method_kind_3 {a = a}) vs = by (inr (inr (inl refl))) done
from (is_methods_1 {a = a} u0 v0 u1 v1 h0 h1) vs = by (inl refl) (part (from h0 (a ∷ vs)) tt (make (part (from h1 vs) tt done (sym (append-nil u1)))) refl)
from (is_methods_2 {a = a}) vs = by (inr (inl refl)) done
from (is_method t0 u0 v0 u1 v1 u2 v2 t1 u3 v3 u4 v4 u5 v5 u6 v6 h0 h1 h2 h3 h4 h5 h6 h7 h8) vs = by (inl refl) (token refl h0 (make (part (from h1 (leaf t0 ∷ vs)) tt (part (from h2 (leaf t0 ∷ vs)) tt (part (from h3 (leaf t0 ∷ vs)) tt (token refl h4 (part (from h5 (leaf t1 ∷ v2 ∷ leaf t0 ∷ vs)) tt (part (from h6 (v3 ∷ leaf t1 ∷ v2 ∷ leaf t0 ∷ vs)) tt (part (from h7 (v4 ∷ v3 ∷ leaf t1 ∷ v2 ∷ leaf t0 ∷ vs)) tt (make (part (from h8 (node_four four_of.Signature (leaf t1) v3 v4 v5 ∷ v2 ∷ leaf t0 ∷ vs)) tt (make done) (sym (append-nil u6)))) refl) refl) refl)) refl) refl) refl)))
from (is_parameters_1 t0 u0 v0 h0 h1) vs = by (inl refl) (token refl h0 (make (part (from h1 vs) tt done (sym (append-nil u0)))))
from is_parameters_2 vs = by (inr (inl refl)) (make done)
from (is_parameters_more_1 {a = a} t0 h0) vs = by (inl refl) (token refl h0 done)
from (is_parameters_more_2 {a = a} u0 v0 u1 v1 h0 h1) vs = by (inr (inl refl)) (part (from h0 (a ∷ vs)) tt (make (part (from h1 vs) tt done (sym (append-nil u1)))) refl)
from (is_parameters_rest_1 {a = a} t0 h0) vs = by (inl refl) (token refl h0 done)
from (is_parameters_rest_2 {a = a} t0 u0 v0 h0 h1) vs = by (inr (inl refl)) (token refl h0 (part (from h1 vs) tt done (sym (append-nil u0))))
from (is_parameter t0 t1 u0 v0 h0 h1 h2) vs = by (inl refl) (token refl h0 (token refl h1 (part (from h2 (leaf t0 ∷ vs)) tt (make done) (sym (append-nil u0)))))
from (is_method_result_1 t0 u0 v0 h0 h1) vs = by (inl refl) (token refl h0 (part (from h1 vs) tt done (sym (append-nil u0))))
from is_method_result_2 vs = by (inr (inl refl)) (make done)
from (is_full_type_1 t0 u0 v0 h0 h1) vs = by (inl refl) (token refl h0 (part (from h1 (leaf t0 ∷ vs)) tt (make done) (sym (append-nil u0))))
from (is_full_type_2 u0 v0 h0) vs = by (inr (inl refl)) (part (from h0 vs) tt done (sym (append-nil u0)))
from (is_bare_type_1 t0 u0 v0 h0 h1) vs = by (inl refl) (token refl h0 (part (from h1 (leaf t0 ∷ vs)) tt (make done) (sym (append-nil u0))))
from (is_bare_type_2 t0 u0 v0 t1 u1 v1 u2 v2 h0 h1 h2 h3 h4) vs = by (inr (inl refl)) (token refl h0 (part (from h1 (leaf t0 ∷ vs)) tt (token refl h2 (part (from h3 (v0 ∷ leaf t0 ∷ vs)) tt (part (from h4 vs) tt done (sym (append-nil u2))) refl)) refl))
from (is_tuple_type_rest_1 {a = a} {b = b} {c = c} t0 h0) vs = by (inl refl) (token refl h0 (make done))
from (is_tuple_type_rest_2 {a = a} {b = b} {c = c} t0 u0 v0 t1 h0 h1 h2) vs = by (inr (inl refl)) (token refl h0 (part (from h1 (c ∷ b ∷ a ∷ vs)) tt (token refl h2 (make done)) refl))
from (is_type_arguments_1 t0 u0 v0 u1 v1 h0 h1 h2) vs = by (inl refl) (token refl h0 (make (part (from h1 (no_items ∷ vs)) tt (make (part (from h2 vs) tt done (sym (append-nil u1)))) refl)))
from is_type_arguments_2 vs = by (inr (inl refl)) (make done)
from (is_type_arguments_rest_1 {a = a} t0 h0) vs = by (inl refl) (token refl h0 done)
from (is_type_arguments_rest_2 {a = a} t0 u0 v0 h0 h1) vs = by (inr (inl refl)) (token refl h0 (part (from h1 vs) tt done (sym (append-nil u0))))
from (is_type_arguments_more_1 {a = a} t0 h0) vs = by (inl refl) (token refl h0 done)
from (is_type_arguments_more_2 {a = a} u0 v0 u1 v1 h0 h1) vs = by (inr (inl refl)) (part (from h0 (a ∷ vs)) tt (make (part (from h1 vs) tt done (sym (append-nil u1)))) refl)
from (is_type_parameters_1 t0 u0 v0 u1 v1 h0 h1 h2) vs = by (inl refl) (token refl h0 (make (part (from h1 (no_items ∷ vs)) tt (make (part (from h2 vs) tt done (sym (append-nil u1)))) refl)))
from is_type_parameters_2 vs = by (inr (inl refl)) (make done)
from (is_type_parameters_rest_1 {a = a} t0 h0) vs = by (inl refl) (token refl h0 done)
from (is_type_parameters_rest_2 {a = a} t0 u0 v0 h0 h1) vs = by (inr (inl refl)) (token refl h0 (part (from h1 vs) tt done (sym (append-nil u0))))
from (is_type_parameters_more_1 {a = a} t0 h0) vs = by (inl refl) (token refl h0 done)
from (is_type_parameters_more_2 {a = a} u0 v0 u1 v1 h0 h1) vs = by (inr (inl refl)) (part (from h0 (a ∷ vs)) tt (make (part (from h1 vs) tt done (sym (append-nil u1)))) refl)
from (is_type_parameter t0 u0 v0 h0 h1) vs = by (inl refl) (token refl h0 (part (from h1 (leaf t0 ∷ vs)) tt (make done) (sym (append-nil u0))))
from (is_bounds_1 t0 t1 u0 v0 h0 h1 h2) vs = by (inl refl) (token refl h0 (make (token refl h1 (make (part (from h2 vs) tt done (sym (append-nil u0)))))))
from is_bounds_2 vs = by (inr (inl refl)) (make done)
from (is_bounds_rest_1 {a = a} t0 t1 u0 v0 h0 h1 h2) vs = by (inl refl) (token refl h0 (token refl h1 (make (part (from h2 vs) tt done (sym (append-nil u0))))))
from (is_bounds_rest_2 {a = a}) vs = by (inr (inl refl)) done
from (is_constructor_types_1 t0 u0 v0 u1 v1 h0 h1 h2) vs = by (inl refl) (token refl h0 (make (part (from h1 (no_items ∷ vs)) tt (make (part (from h2 vs) tt done (sym (append-nil u1)))) refl)))
from is_constructor_types_2 vs = by (inr (inl refl)) (make done)
from (is_constructor_types_rest_1 {a = a} t0 h0) vs = by (inl refl) (token refl h0 done)
from (is_constructor_types_rest_2 {a = a} t0 u0 v0 h0 h1) vs = by (inr (inl refl)) (token refl h0 (part (from h1 vs) tt done (sym (append-nil u0))))
from (is_constructor_types_more_1 {a = a} t0 h0) vs = by (inl refl) (token refl h0 done)
from (is_constructor_types_more_2 {a = a} u0 v0 u1 v1 h0 h1) vs = by (inr (inl refl)) (part (from h0 (a ∷ vs)) tt (make (part (from h1 vs) tt done (sym (append-nil u1)))) refl)
from (is_block t0 u0 v0 t1 h0 h1 h2) vs = by (inl refl) (token refl h0 (make (part (from h1 (leaf t0 ∷ vs)) tt (token refl h2 (make done)) refl)))
from (is_statements_1 {a = a} u0 v0 u1 v1 h0 h1) vs = by (inl refl) (part (from h0 (a ∷ vs)) tt (make (part (from h1 vs) tt done (sym (append-nil u1)))) refl)
from (is_statements_2 {a = a}) vs = by (inr (inl refl)) done
from (is_more_statements_1 {a = a} u0 v0 u1 v1 h0 h1 h2) vs = by (inl refl) (part (from h0 (a ∷ vs)) h1 (make (part (from h2 vs) tt done (sym (append-nil u1)))) refl)
from (is_more_statements_2 {a = a}) vs = by (inr (inl refl)) done
from (is_statement_1 t0 u0 v0 u1 v1 u2 v2 t1 u3 v3 h0 h1 h2 h3 h4 h5) vs = by (inl refl) (token refl h0 (part (from h1 (leaf t0 ∷ vs)) tt (part (from h2 (v0 ∷ leaf t0 ∷ vs)) tt (part (from h3 (v1 ∷ v0 ∷ leaf t0 ∷ vs)) tt (token refl h4 (part (from h5 (v2 ∷ v1 ∷ v0 ∷ leaf t0 ∷ vs)) tt (make done) (sym (append-nil u3)))) refl) refl) refl))
from (is_statement_2 u0 v0 h0) vs = by (inr (inl refl)) (part (from h0 vs) tt (make done) (sym (append-nil u0)))
from (is_mutable_1 t0 h0) vs = by (inl refl) (token refl h0 done)
from is_mutable_2 vs = by (inr (inl refl)) (make done)
from (is_let_name_1 t0 h0) vs = by (inl refl) (token refl h0 done)
from (is_let_name_2 t0 h0) vs = by (inr (inl refl)) (token refl h0 done)
from (is_let_type_1 t0 u0 v0 h0 h1) vs = by (inl refl) (token refl h0 (part (from h1 vs) tt done (sym (append-nil u0))))
from is_let_type_2 vs = by (inr (inl refl)) (make done)
from (is_expression_1 u0 v0 h0) vs = by (inl refl) (part (from h0 vs) tt done (sym (append-nil u0)))
from (is_expression_2 u0 v0 u1 v1 h0 h1) vs = by (inr (inl refl)) (part (from h0 vs) tt (part (from h1 vs) tt done (sym (append-nil u1))) refl)
from (is_jump_1 t0 u0 v0 h0 h1) vs = by (inl refl) (token refl h0 (part (from h1 vs) tt done (sym (append-nil u0))))
from (is_jump_2 t0 u0 v0 h0 h1) vs = by (inr (inl refl)) (token refl h0 (part (from h1 (leaf t0 ∷ vs)) tt (make done) (sym (append-nil u0))))
from (is_jump_3 t0 h0) vs = by (inr (inr (inl refl))) (token refl h0 done)
from (is_return_rest_1 {a = a} u0 v0 h0 h1) vs = by (inl refl) (part (from h0 (a ∷ vs)) h1 (make done) (sym (append-nil u0)))
from (is_return_rest_2 {a = a}) vs = by (inr (inl refl)) (make (make done))
from (is_after_operand_1 {a = a} t0 u0 v0 h0 h1 h2 h3) vs = by (inl refl) (at_place h0 h1 h2 (part (from h3 (leaf t0 ∷ a ∷ vs)) tt (make done) (sym (append-nil u0))))
from (is_after_operand_2 {a = a} u0 v0 h0) vs = by (inr (inl refl)) (part (from h0 vs) tt done (sym (append-nil u0)))
from (is_chain u0 v0 u1 v1 h0 h1) vs = by (inl refl) (part (from h0 vs) tt (part (from h1 vs) tt done (sym (append-nil u1))) refl)
from (is_chain_rest_1 {a = a} t0 u0 v0 u1 v1 h0 h1 h2 h3) vs = by (inl refl) (token h0 h1 (part (from h2 (leaf t0 ∷ a ∷ vs)) tt (make (part (from h3 vs) tt done (sym (append-nil u1)))) refl))
from (is_chain_rest_2 {a = a} t0 u0 v0 u1 v1 h0 h1 h2 h3) vs = by (inr (inl refl)) (token h0 h1 (part (from h2 (leaf t0 ∷ a ∷ vs)) tt (make (make (part (from h3 vs) tt done (sym (append-nil u1))))) refl))
from (is_chain_rest_3 {a = a}) vs = by (inr (inr (inl refl))) done
from (is_unnamed_expression_1 u0 v0 h0) vs = by (inl refl) (part (from h0 vs) tt done (sym (append-nil u0)))
from (is_unnamed_expression_2 u0 v0 u1 v1 h0 h1) vs = by (inr (inl refl)) (part (from h0 vs) tt (part (from h1 vs) tt done (sym (append-nil u1))) refl)
from (is_conditional t0 u0 v0 u1 v1 u2 v2 h0 h1 h2 h3) vs = by (inl refl) (token refl h0 (part (from h1 (leaf t0 ∷ vs)) tt (make (part (from h2 (node_one one_of.Statement v0 ∷ leaf t0 ∷ vs)) tt (part (from h3 vs) tt done (sym (append-nil u2))) refl)) refl))
from (is_else_rest_1 {a = a} {b = b} {c = c} t0 u0 v0 h0 h1) vs = by (inl refl) (token refl h0 (part (from h1 (c ∷ b ∷ a ∷ vs)) tt (make done) (sym (append-nil u0))))
from (is_else_rest_2 {a = a} {b = b} {c = c}) vs = by (inr (inl refl)) (make (make done))
from (is_else_branch_1 u0 v0 h0) vs = by (inl refl) (part (from h0 vs) tt done (sym (append-nil u0)))
from (is_else_branch_2 u0 v0 h0) vs = by (inr (inl refl)) (part (from h0 vs) tt done (sym (append-nil u0)))
from (is_arms_1 {a = a} u0 v0 u1 v1 h0 h1) vs = by (inl refl) (part (from h0 (a ∷ vs)) tt (make (part (from h1 vs) tt done (sym (append-nil u1)))) refl)
from (is_arms_2 {a = a}) vs = by (inr (inl refl)) done
from (is_arm t0 u0 v0 u1 v1 t1 u2 v2 h0 h1 h2 h3 h4) vs = by (inl refl) (token refl h0 (part (from h1 (leaf t0 ∷ vs)) tt (part (from h2 (v0 ∷ leaf t0 ∷ vs)) tt (token refl h3 (part (from h4 (v1 ∷ v0 ∷ leaf t0 ∷ vs)) tt (make done) (sym (append-nil u2)))) refl) refl))
from (is_guard_1 t0 u0 v0 h0 h1) vs = by (inl refl) (token refl h0 (part (from h1 vs) tt (make done) (sym (append-nil u0))))
from is_guard_2 vs = by (inr (inl refl)) (make done)
from (is_arm_value_1 u0 v0 h0) vs = by (inl refl) (part (from h0 vs) tt done (sym (append-nil u0)))
from (is_arm_value_2 u0 v0 h0) vs = by (inr (inl refl)) (part (from h0 vs) tt (make done) (sym (append-nil u0)))
from (is_operand_1 t0 u0 v0 u1 v1 h0 h1 h2) vs = by (inl refl) (token refl h0 (part (from h1 vs) tt (part (from h2 vs) tt done (sym (append-nil u1))) refl))
from (is_operand_2 u0 v0 h0) vs = by (inr (inl refl)) (part (from h0 vs) tt done (sym (append-nil u0)))
from (is_unnamed_operand_1 t0 u0 v0 h0 h1) vs = by (inl refl) (token refl h0 (part (from h1 (leaf t0 ∷ vs)) tt (make done) (sym (append-nil u0))))
from (is_unnamed_operand_2 t0 u0 v0 h0 h1) vs = by (inr (inl refl)) (token refl h0 (part (from h1 (leaf t0 ∷ vs)) tt (make done) (sym (append-nil u0))))
from (is_unnamed_operand_3 t0 u0 v0 h0 h1) vs = by (inr (inr (inl refl))) (token refl h0 (part (from h1 vs) tt done (sym (append-nil u0))))
from (is_unnamed_operand_4 t0 u0 v0 h0 h1) vs = by (inr (inr (inr (inl refl)))) (token refl h0 (part (from h1 vs) tt done (sym (append-nil u0))))
from (is_unnamed_operand_5 u0 v0 u1 v1 h0 h1) vs = by (inr (inr (inr (inr (inl refl))))) (part (from h0 vs) tt (part (from h1 vs) tt done (sym (append-nil u1))) refl)
from (is_recover_rest_1 {a = a} u0 v0 h0) vs = by (inl refl) (part (from h0 (a ∷ vs)) tt (make done) (sym (append-nil u0)))
from (is_recover_rest_2 {a = a} u0 v0 h0) vs = by (inr (inl refl)) (part (from h0 (a ∷ vs)) tt (make (make done)) (sym (append-nil u0)))
from (is_name_rest_1 {a = a} t0 u0 v0 h0 h1 h2) vs = by (inl refl) (token h0 h1 (make (part (from h2 (a ∷ vs)) tt (make done) (sym (append-nil u0)))))
from (is_name_rest_2 {a = a}) vs = by (inr (inl refl)) done
from (is_links_1 {a = a} t0 u0 v0 u1 v1 h0 h1 h2) vs = by (inl refl) (token refl h0 (part (from h1 vs) tt (part (from h2 vs) tt done (sym (append-nil u1))) refl))
from (is_links_2 {a = a}) vs = by (inr (inl refl)) done
from (is_link_1 {a = a} t0 u0 v0 h0 h1) vs = by (inl refl) (token refl h0 (part (from h1 vs) tt done (sym (append-nil u0))))
from (is_link_2 {a = a} t0 h0) vs = by (inr (inl refl)) (token refl h0 (make done))
from (is_link_rest_1 {a = a} {b = b} t0 u0 v0 h0 h1 h2) vs = by (inl refl) (token h0 h1 (make (part (from h2 (b ∷ a ∷ vs)) tt (make done) (sym (append-nil u0)))))
from (is_link_rest_2 {a = a} {b = b}) vs = by (inr (inl refl)) (make done)
from (is_constant_rest_1 {a = a} t0 u0 v0 u1 v1 h0 h1 h2 h3) vs = by (inl refl) (token h0 h1 (make (part (from h2 (a ∷ vs)) tt (make (part (from h3 vs) tt done (sym (append-nil u1)))) refl)))
from (is_constant_rest_2 {a = a} t0 u0 v0 h0 h1) vs = by (inr (inl refl)) (token refl h0 (part (from h1 vs) tt done (sym (append-nil u0))))
from (is_constant_rest_3 {a = a}) vs = by (inr (inr (inl refl))) done
from (is_after_constant_1 {a = a} t0 u0 v0 u1 v1 h0 h1 h2) vs = by (inl refl) (token refl h0 (make (part (from h1 vs) tt (part (from h2 vs) tt done (sym (append-nil u1))) refl)))
from (is_after_constant_2 {a = a} u0 v0 u1 v1 h0 h1) vs = by (inr (inl refl)) (part (from h0 vs) tt (part (from h1 vs) tt done (sym (append-nil u1))) refl)
from (is_qualified_rest_1 {a = a} t0 u0 v0 h0 h1 h2) vs = by (inl refl) (token h0 h1 (make (part (from h2 (a ∷ vs)) tt (make done) (sym (append-nil u0)))))
from (is_qualified_rest_2 {a = a}) vs = by (inr (inl refl)) done
from (is_primary_1 t0 h0) vs = by (inl refl) (token refl h0 done)
from (is_primary_2 t0 u0 v0 h0 h1) vs = by (inr (inl refl)) (token refl h0 (make (part (from h1 (leaf t0 ∷ vs)) tt (make done) (sym (append-nil u0)))))
from (is_primary_3 t0 u0 v0 u1 v1 h0 h1 h2) vs = by (inr (inr (inl refl))) (token refl h0 (part (from h1 (leaf t0 ∷ vs)) tt (part (from h2 vs) tt done (sym (append-nil u1))) refl))
from (is_primary_4 t0 u0 v0 h0 h1) vs = by (inr (inr (inr (inl refl)))) (token refl h0 (make (part (from h1 (leaf t0 ∷ vs)) tt (make done) (sym (append-nil u0)))))
from (is_primary_5 u0 v0 h0) vs = by (inr (inr (inr (inr (inl refl))))) (part (from h0 vs) tt done (sym (append-nil u0)))
from (is_primary_6 t0 u0 v0 u1 v1 h0 h1 h2) vs = by (inr (inr (inr (inr (inr (inl refl)))))) (token refl h0 (part (from h1 (leaf t0 ∷ vs)) tt (make (part (from h2 (node_one one_of.Statement v0 ∷ leaf t0 ∷ vs)) tt (make done) (sym (append-nil u1)))) refl))
from (is_primary_7 t0 u0 v0 h0 h1) vs = by (inr (inr (inr (inr (inr (inr (inl refl))))))) (token refl h0 (part (from h1 (leaf t0 ∷ vs)) tt (make done) (sym (append-nil u0))))
from (is_primary_8 t0 u0 v0 t1 u1 v1 u2 v2 t2 h0 h1 h2 h3 h4 h5) vs = by (inr (inr (inr (inr (inr (inr (inr (inl refl)))))))) (token refl h0 (part (from h1 (leaf t0 ∷ vs)) tt (make (token refl h2 (make (part (from h3 (no_items ∷ node_one one_of.Statement v0 ∷ leaf t0 ∷ vs)) tt (make (part (from h4 (node_one one_of.Statement v0 ∷ leaf t0 ∷ vs)) tt (token refl h5 (make done)) refl)) refl)))) refl))
from (is_text_rest_1 {a = a} t0 h0) vs = by (inl refl) (token refl h0 done)
from (is_text_rest_2 {a = a} t0 u0 v0 h0 h1) vs = by (inr (inl refl)) (token refl h0 (make (part (from h1 vs) tt done (sym (append-nil u0)))))
from (is_text_rest_3 {a = a} t0 u0 v0 t1 u1 v1 h0 h1 h2 h3) vs = by (inr (inr (inl refl))) (token refl h0 (part (from h1 (a ∷ vs)) tt (token refl h2 (make (part (from h3 vs) tt done (sym (append-nil u1))))) refl))
from (is_parenthesis_rest_1 {a = a} {b = b} t0 h0) vs = by (inl refl) (token refl h0 (make done))
from (is_parenthesis_rest_2 {a = a} {b = b} t0 u0 v0 u1 v1 h0 h1 h2) vs = by (inr (inl refl)) (token refl h0 (part (from h1 (b ∷ a ∷ vs)) tt (part (from h2 vs) tt done (sym (append-nil u1))) refl))
from (is_tuple_rest_1 {a = a} {b = b} {c = c} t0 h0) vs = by (inl refl) (token refl h0 (make done))
from (is_tuple_rest_2 {a = a} {b = b} {c = c} t0 u0 v0 t1 h0 h1 h2) vs = by (inr (inl refl)) (token refl h0 (part (from h1 (c ∷ b ∷ a ∷ vs)) tt (token refl h2 (make done)) refl))
from (is_items_1 {a = a} t0 h0) vs = by (inl refl) (token refl h0 done)
from (is_items_2 {a = a} u0 v0 u1 v1 h0 h1) vs = by (inr (inl refl)) (part (from h0 (a ∷ vs)) tt (make (part (from h1 vs) tt done (sym (append-nil u1)))) refl)
from (is_items_rest_1 {a = a} t0 h0) vs = by (inl refl) (token refl h0 done)
from (is_items_rest_2 {a = a} t0 u0 v0 h0 h1) vs = by (inr (inl refl)) (token refl h0 (part (from h1 vs) tt done (sym (append-nil u0))))
from (is_arguments_1 {a = a} t0 h0) vs = by (inl refl) (token refl h0 done)
from (is_arguments_2 {a = a} u0 v0 u1 v1 h0 h1) vs = by (inr (inl refl)) (part (from h0 (a ∷ vs)) tt (make (part (from h1 vs) tt done (sym (append-nil u1)))) refl)
from (is_arguments_rest_1 {a = a} t0 h0) vs = by (inl refl) (token refl h0 done)
from (is_arguments_rest_2 {a = a} t0 u0 v0 h0 h1) vs = by (inr (inl refl)) (token refl h0 (part (from h1 vs) tt done (sym (append-nil u0))))
from (is_constructor_arguments_1 {a = a} t0 h0) vs = by (inl refl) (token refl h0 done)
from (is_constructor_arguments_2 {a = a} t0 u0 v0 h0 h1) vs = by (inr (inl refl)) (token refl h0 (part (from h1 vs) tt done (sym (append-nil u0))))
from (is_constructor_arguments_3 {a = a} u0 v0 u1 v1 h0 h1) vs = by (inr (inr (inl refl))) (part (from h0 (a ∷ vs)) tt (make (part (from h1 vs) tt done (sym (append-nil u1)))) refl)
from (is_named_or_not_1 {a = a} {b = b} t0 u0 v0 u1 v1 h0 h1 h2) vs = by (inl refl) (token refl h0 (part (from h1 (b ∷ a ∷ vs)) tt (make (make (part (from h2 vs) tt done (sym (append-nil u1))))) refl))
from (is_named_or_not_2 {a = a} {b = b} u0 v0 u1 v1 u2 v2 u3 v3 h0 h1 h2 h3) vs = by (inr (inl refl)) (part (from h0 (a ∷ vs)) tt (part (from h1 (a ∷ vs)) tt (part (from h2 (a ∷ vs)) tt (make (part (from h3 vs) tt done (sym (append-nil u3)))) refl) refl) refl)
from (is_named_rest_1 {a = a} t0 h0) vs = by (inl refl) (token refl h0 done)
from (is_named_rest_2 {a = a} t0 u0 v0 h0 h1) vs = by (inr (inl refl)) (token refl h0 (part (from h1 vs) tt done (sym (append-nil u0))))
from (is_named_more_1 {a = a} t0 h0) vs = by (inl refl) (token refl h0 done)
from (is_named_more_2 {a = a} t0 t1 u0 v0 u1 v1 h0 h1 h2 h3) vs = by (inr (inl refl)) (token refl h0 (token refl h1 (part (from h2 (leaf t0 ∷ a ∷ vs)) tt (make (make (part (from h3 vs) tt done (sym (append-nil u1))))) refl)))
from (is_pattern u0 v0 u1 v1 h0 h1) vs = by (inl refl) (part (from h0 vs) tt (part (from h1 vs) tt done (sym (append-nil u1))) refl)
from (is_alternative_1 t0 h0) vs = by (inl refl) (token refl h0 done)
from (is_alternative_2 t0 u0 v0 h0 h1) vs = by (inr (inl refl)) (token refl h0 (make (part (from h1 (leaf t0 ∷ vs)) tt (make done) (sym (append-nil u0)))))
from (is_alternative_3 t0 t1 h0 h1) vs = by (inr (inr (inl refl))) (token refl h0 (token refl h1 (make done)))
from (is_alternative_4 t0 u0 v0 h0 h1) vs = by (inr (inr (inr (inl refl)))) (token refl h0 (part (from h1 vs) tt done (sym (append-nil u0))))
from (is_alternative_5 t0 u0 v0 t1 u1 v1 u2 v2 h0 h1 h2 h3 h4) vs = by (inr (inr (inr (inr (inl refl))))) (token refl h0 (part (from h1 (leaf t0 ∷ vs)) tt (token refl h2 (part (from h3 (v0 ∷ leaf t0 ∷ vs)) tt (part (from h4 vs) tt done (sym (append-nil u2))) refl)) refl))
from (is_alternative_6 t0 u0 v0 u1 v1 h0 h1 h2) vs = by (inr (inr (inr (inr (inr (inl refl)))))) (token refl h0 (make (part (from h1 (no_items ∷ leaf t0 ∷ vs)) tt (make (part (from h2 (leaf t0 ∷ vs)) tt (make done) (sym (append-nil u1)))) refl)))
from (is_pattern_rest_1 {a = a} t0 u0 v0 u1 v1 h0 h1 h2) vs = by (inl refl) (token refl h0 (part (from h1 (a ∷ vs)) tt (make (part (from h2 vs) tt done (sym (append-nil u1)))) refl))
from (is_pattern_rest_2 {a = a}) vs = by (inr (inl refl)) done
from (is_pattern_text_rest_1 {a = a} t0 h0) vs = by (inl refl) (token refl h0 done)
from (is_pattern_text_rest_2 {a = a} t0 u0 v0 h0 h1) vs = by (inr (inl refl)) (token refl h0 (make (part (from h1 vs) tt done (sym (append-nil u0)))))
from (is_constructor_pattern_rest_1 {a = a} t0 u0 v0 u1 v1 h0 h1 h2) vs = by (inl refl) (token refl h0 (make (part (from h1 (no_items ∷ a ∷ vs)) tt (make (part (from h2 (a ∷ vs)) tt (make done) (sym (append-nil u1)))) refl)))
from (is_constructor_pattern_rest_2 {a = a}) vs = by (inr (inl refl)) done
from (is_patterns_rest_1 {a = a} t0 h0) vs = by (inl refl) (token refl h0 done)
from (is_patterns_rest_2 {a = a} t0 u0 v0 h0 h1) vs = by (inr (inl refl)) (token refl h0 (part (from h1 vs) tt done (sym (append-nil u0))))
from (is_patterns_more_1 {a = a} t0 h0) vs = by (inl refl) (token refl h0 done)
from (is_patterns_more_2 {a = a} u0 v0 u1 v1 h0 h1) vs = by (inr (inl refl)) (part (from h0 (a ∷ vs)) tt (make (part (from h1 vs) tt done (sym (append-nil u1)))) refl)
from (is_tuple_pattern_rest_1 {a = a} {b = b} {c = c} t0 h0) vs = by (inl refl) (token refl h0 (make done))
from (is_tuple_pattern_rest_2 {a = a} {b = b} {c = c} t0 u0 v0 t1 h0 h1 h2) vs = by (inr (inl refl)) (token refl h0 (part (from h1 (c ∷ b ∷ a ∷ vs)) tt (token refl h2 (make done)) refl))
from (is_field_pattern t0 t1 u0 v0 h0 h1 h2) vs = by (inl refl) (token refl h0 (token refl h1 (part (from h2 (leaf t0 ∷ vs)) tt (make done) (sym (append-nil u0)))))
from (is_field_patterns_rest_1 {a = a} t0 h0) vs = by (inl refl) (token refl h0 done)
from (is_field_patterns_rest_2 {a = a} t0 u0 v0 h0 h1) vs = by (inr (inl refl)) (token refl h0 (part (from h1 vs) tt done (sym (append-nil u0))))
from (is_field_patterns_more_1 {a = a} t0 h0) vs = by (inl refl) (token refl h0 done)
from (is_field_patterns_more_2 {a = a} u0 v0 u1 v1 h0 h1) vs = by (inr (inl refl)) (part (from h0 (a ∷ vs)) tt (make (part (from h1 vs) tt done (sym (append-nil u1)))) refl)

rule : (n : Nonterminal) (r : List Symbol) (vs : List Found) (ts : List Terminal) (fin : List Found) → Among r (rules n) → Means r vs ts fin → After n vs ts (λ z. fin ≡ z)
rule (part_of.Module n) = module_rule n
rule (part_of.Method n) = method_rule n
rule (part_of.Type n) = type_rule n
rule (part_of.Statement n) = statement_rule n
rule (part_of.Operand n) = operand_rule n
rule (part_of.Pattern n) = pattern_rule n

mutual
  -- What the table derives are the cases.
  pub to : {n : Nonterminal} {vs : List Found} {ts : List Terminal} {fin : List Found} → Derives n vs ts fin → After n vs ts (λ z. fin ≡ z)
  to (by {n = n} {vs = vs} {ts = ts} {fin = fin} {r = r} h d) = rule n r vs ts fin h (meant d)

  meant : {r : List Symbol} {vs : List Found} {ts : List Terminal} {fin : List Found} → Reads r vs ts fin → Means r vs ts fin
  meant done = (refl, refl)
  meant (token {t = t} {ts = ts} p q d) = (t, ts, refl, p, q, meant d)
  meant (at_place {t = t} {ts = ts} o p q d) = (t, ts, refl, o, p, q, meant d)
  meant (part {n = n} {r = r} {vs = vs} {mid = mid} {us = us} {ws = ws} {fin = fin} d o c e) = (us, ws, e, o, after_map (takes n) n [] vs us (λ z. mid ≡ z) (λ z. Means r z ws fin) (λ z g. subst (λ x. Means r x ws fin) g (meant c)) (to d))
  meant (make d) = meant d
