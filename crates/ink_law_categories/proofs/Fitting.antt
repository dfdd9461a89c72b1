-- The trees that the parts of the grammar find are of their categories.
use Rattle.std.proofs.Common.{◌≡◌, ℕ, Bool, true, false, List, [], ◌∷◌, inl, inr, refl, sym, ap, subst, ◌∙◌, ◌++◌, append-nil}
use Rattle.ink_grammar.specs.declared.token.Keyword.TheVariants as keyword
use Rattle.ink_grammar.specs.declared.token.Mark.TheVariants as mark
use Rattle.ink_grammar.specs.declared.token.Shape.TheVariants as shape
use Rattle.ink_grammar.specs.declared.token.Terminal.{Terminal}
use Rattle.ink_grammar.specs.declared.symbol.Wanted.TheVariants as wanted
use Rattle.ink_grammar.specs.declared.symbol.Nonterminal.{Nonterminal}
use Rattle.ink_grammar.specs.declared.tree.TwoChildren.TheVariants as two_of
use Rattle.ink_grammar.specs.Tree.{Tree, Leaf, Empty, Two, Found, is_place_word}
use Rattle.ink_grammar.specs.Productions.{Is, is_module, is_imports_1, is_imports_2, is_import, is_import_path_1, is_import_path_2, is_import_names_1, is_import_names_2, is_import_name_1, is_import_name_2, is_import_names_rest_1, is_import_names_rest_2, is_import_names_more_1, is_import_names_more_2, is_declarations_1, is_declarations_2, is_declaration_1, is_declaration_2, is_declaration_3, is_declaration_4, is_type_form_1, is_type_form_2, is_type_form_3, is_object_form, is_object_members_1, is_object_members_2, is_object_members_3, is_enum_members_1, is_enum_members_2, is_enum_members_3, is_field_declaration, is_constructor, is_trait_methods_1, is_trait_methods_2, is_trait_method, is_implemented_trait_1, is_implemented_trait_2, is_optional_pub_1, is_optional_pub_2, is_optional_async_1, is_optional_async_2, is_optional_mut_1, is_optional_mut_2, is_method_kind_1, is_method_kind_2, is_method_kind_3, is_method_kind_4, is_trait_method_kind_1, is_trait_method_kind_2, is_trait_method_kind_3, is_methods_1, is_methods_2, is_method, is_parameters_1, is_parameters_2, is_parameters_more_1, is_parameters_more_2, is_parameters_rest_1, is_parameters_rest_2, is_parameter, is_method_result_1, is_method_result_2, is_full_type_1, is_full_type_2, is_bare_type_1, is_bare_type_2, is_tuple_type_rest_1, is_tuple_type_rest_2, is_type_arguments_1, is_type_arguments_2, is_type_arguments_rest_1, is_type_arguments_rest_2, is_type_arguments_more_1, is_type_arguments_more_2, is_type_parameters_1, is_type_parameters_2, is_type_parameters_rest_1, is_type_parameters_rest_2, is_type_parameters_more_1, is_type_parameters_more_2, is_type_parameter, is_bounds_1, is_bounds_2, is_bounds_rest_1, is_bounds_rest_2, is_constructor_types_1, is_constructor_types_2, is_constructor_types_rest_1, is_constructor_types_rest_2, is_constructor_types_more_1, is_constructor_types_more_2, is_block, is_statements_1, is_statements_2, is_more_statements_1, is_more_statements_2, is_statement_1, is_statement_2, is_mutable_1, is_mutable_2, is_let_name_1, is_let_name_2, is_let_type_1, is_let_type_2, is_expression_1, is_expression_2, is_jump_1, is_jump_2, is_jump_3, is_return_rest_1, is_return_rest_2, is_after_operand_1, is_after_operand_2, is_chain, is_chain_rest_1, is_chain_rest_2, is_chain_rest_3, is_unnamed_expression_1, is_unnamed_expression_2, is_conditional, is_else_rest_1, is_else_rest_2, is_else_branch_1, is_else_branch_2, is_arms_1, is_arms_2, is_arm, is_guard_1, is_guard_2, is_arm_value_1, is_arm_value_2, is_operand_1, is_operand_2, is_unnamed_operand_1, is_unnamed_operand_2, is_unnamed_operand_3, is_unnamed_operand_4, is_unnamed_operand_5, is_recover_rest_1, is_recover_rest_2, is_name_rest_1, is_name_rest_2, is_links_1, is_links_2, is_link_1, is_link_2, is_link_rest_1, is_link_rest_2, is_constant_rest_1, is_constant_rest_2, is_constant_rest_3, is_after_constant_1, is_after_constant_2, is_qualified_rest_1, is_qualified_rest_2, is_primary_1, is_primary_2, is_primary_3, is_primary_4, is_primary_5, is_primary_6, is_primary_7, is_primary_8, is_text_rest_1, is_text_rest_2, is_text_rest_3, is_parenthesis_rest_1, is_parenthesis_rest_2, is_tuple_rest_1, is_tuple_rest_2, is_items_1, is_items_2, is_items_rest_1, is_items_rest_2, is_arguments_1, is_arguments_2, is_arguments_rest_1, is_arguments_rest_2, is_constructor_arguments_1, is_constructor_arguments_2, is_constructor_arguments_3, is_named_or_not_1, is_named_or_not_2, is_named_rest_1, is_named_rest_2, is_named_more_1, is_named_more_2, is_pattern, is_alternative_1, is_alternative_2, is_alternative_3, is_alternative_4, is_alternative_5, is_alternative_6, is_pattern_rest_1, is_pattern_rest_2, is_pattern_text_rest_1, is_pattern_text_rest_2, is_constructor_pattern_rest_1, is_constructor_pattern_rest_2, is_patterns_rest_1, is_patterns_rest_2, is_patterns_more_1, is_patterns_more_2, is_tuple_pattern_rest_1, is_tuple_pattern_rest_2, is_field_pattern, is_field_patterns_rest_1, is_field_patterns_rest_2, is_field_patterns_more_1, is_field_patterns_more_2}
use Rattle.ink_grammar.specs.Language.{Parses}
use Rattle.ink_law_categories.specs.Written.{IsToken, IsWanted}
use Rattle.ink_law_categories.specs.Categories.{IsA, Module, PubWord, ListOf, SomeOf, Expression, Place, TextItems, PartItems, Category, word, wants, bracket, list_empty, list_more, some_more, maybe_missing, maybe_there, a_module, an_import, import_name, import_constant, a_type, an_enum, a_trait, an_implementation, a_module_method, a_field, an_object_method, a_constructor, an_enum_method, a_method, a_signature, a_trait_method, a_parameter, a_type_parameter, no_pub, with_pub, no_mut, with_mut, no_async, with_async, no_kind, with_kind, no_trait_kind, with_trait_kind, a_prefixed_type, a_plain_type, a_named_type, a_pair_type, a_triple_type, a_block, a_let, a_value_statement, a_let_name, a_let_underscore, a_counted, a_return, a_throw, a_loop_jump, an_assignment, a_chain, a_logical_chain, a_place, a_place_name, a_place_field, a_member, a_borrow, a_try, a_recover, a_recovered_block, a_recovered_value, a_member_call, a_tuple_item, an_atom, a_text, a_call, a_constructed, a_construction, a_constant, a_qualified, unnamed_arguments, named_arguments, a_named, a_pair, a_triple, an_array, a_conditional, an_if, a_block_branch, a_conditional_branch, a_while, a_loop, a_match, an_arm, an_arm_block, an_arm_value, no_text, text_part, text_value, no_pattern_text, pattern_text_part, an_alternative, alternatives, a_pattern_atom, a_pattern_text, a_mutable_name, a_constant_pattern, a_constructor_pattern, a_pair_pattern, a_triple_pattern, field_patterns, a_field_pattern}
use Rattle.ink_law_categories.specs.Nested.{Level, Outside, Inside, Embedded, Nested}
use Rattle.ink_law_categories.proofs.Shapes.{atom_place}
use Rattle.ink_law_categories.proofs.Levels.{inner_level, inner_rest, inner_code}
use Rattle.ink_law_categories.proofs.Steps.{done, then, so, token, wanted_token, left_brace, right_brace, left_quote, right_quote, quoted_part, opening, closing}
use Rattle.ink_law_categories.proofs.Fits.{IsValue, Fits}

module _ {source : List ℕ} where
  some_list : {item : Category} {a : Tree} → IsA source (SomeOf item) a → IsA source (ListOf item) a
  some_list (some_more x y) = list_more x y

  pub_word : {s : ℕ} {a : Tree} {t : Terminal} → a ≡ Empty → IsToken source (shape.Keyword keyword.Pub) t → IsA source PubWord (Two two_of.More s a (Leaf t))
  pub_word {s = s} {t = t} e i = subst (λ z. IsA source PubWord (Two two_of.More s z (Leaf t))) (sym e) (with_pub i)

  no_pub_word : {a : Tree} → a ≡ Empty → IsA source PubWord a
  no_pub_word e = subst (λ z. IsA source PubWord z) (sym e) no_pub

  -- an expression that is no place
  plain : {b : Bool} {a : Tree} → b ≡ false → IsA source Expression a → IsValue source b a
  plain e x = record { expression = x; place = λ p. let bad : true ≡ false = sym p ∙ e in cc }

  placed : {b : Bool} {a : Tree} → IsA source Place a → IsValue source b a
  placed x = record { expression = a_place x; place = λ p. x }

  atom_value : {t : Terminal} → IsWanted source wanted.Atom t → IsValue source (is_place_word t.shape) (Leaf t)
  atom_value {t = t} i = record { expression = an_atom (wants i); place = λ p. a_place_field (word (record { shape = atom_place t.shape i.shape p; written = i.written })) }

  no_part : {quote : Terminal} {ends : Bool} {a : Tree} → ends ≡ false → IsA source (TextItems quote ends) a → IsA source (TextItems quote false) a
  no_part {quote = quote} {a = a} e x = subst (λ z. IsA source (TextItems quote z) a) e x

  no_pattern_part : {quote : Terminal} {ends : Bool} {a : Tree} → ends ≡ false → IsA source (PartItems quote ends) a → IsA source (PartItems quote false) a
  no_pattern_part {quote = quote} {a = a} e x = subst (λ z. IsA source (PartItems quote z) a) e x

module _ (source : List ℕ) (last : List Level) where
  pub fit : {n : Nonterminal} {own : List Found} {us : List Terminal} {v : Found} → Is n own us v → Fits source last n own us v
  fit (is_module u0 v0 u1 v1 h0 h1) = λ x l ls c. then (fit h0 list_empty l ls c) (λ a0. so (fit h1 list_empty l ls c) (λ a1. a_module a0 a1))
  fit (is_imports_1 u0 v0 u1 v1 h0 h1) = λ x l ls c. then (fit h0 tt l ls c) (λ a0. fit h1 (list_more x a0) l ls c)
  fit is_imports_2 = λ x l ls c. done x
  fit (is_import t0 t1 u0 v0 u1 v1 h0 h1 h2 h3) = λ x l ls c. token (shape.Keyword keyword.Import) h0 refl (λ i0. token shape.Name h1 refl (λ i1. then (fit h2 (some_more list_empty (word i1)) l ls c) (λ a0. so (fit h3 tt l ls c) (λ a1. an_import (word i0) a0 a1))))
  fit (is_import_path_1 t0 t1 u0 v0 h0 h1 h2) = λ x l ls c. token (shape.Mark mark.Dot) h0 refl (λ i0. token shape.Name h1 refl (λ i1. fit h2 (some_more (some_list x) (word i1)) l ls c))
  fit is_import_path_2 = λ x l ls c. done x
  fit (is_import_names_1 t0 u0 v0 u1 v1 h0 h1 h2) = λ x l ls c. token (shape.Mark mark.LeftParen) h0 refl (λ i0. then (fit h1 tt l ls c) (λ a0. so (fit h2 (some_more list_empty a0) l ls c) (λ a1. maybe_there a1)))
  fit is_import_names_2 = λ x l ls c. done maybe_missing
  fit (is_import_name_1 t0 h0) = λ x l ls c. token shape.Name h0 refl (λ i0. done (import_name (word i0)))
  fit (is_import_name_2 t0 h0) = λ x l ls c. token shape.Constant h0 refl (λ i0. done (import_constant (word i0)))
  fit (is_import_names_rest_1 t0 h0) = λ x l ls c. token (shape.Mark mark.RightParen) h0 refl (λ i0. done x)
  fit (is_import_names_rest_2 t0 u0 v0 h0 h1) = λ x l ls c. token (shape.Mark mark.Comma) h0 refl (λ i0. fit h1 x l ls c)
  fit (is_import_names_more_1 t0 h0) = λ x l ls c. token (shape.Mark mark.RightParen) h0 refl (λ i0. done x)
  fit (is_import_names_more_2 u0 v0 u1 v1 h0 h1) = λ x l ls c. then (fit h0 tt l ls c) (λ a0. fit h1 (some_more (some_list x) a0) l ls c)
  fit (is_declarations_1 u0 v0 u1 v1 h0 h1) = λ x l ls c. then (fit h0 tt l ls c) (λ a0. fit h1 (list_more x a0) l ls c)
  fit is_declarations_2 = λ x l ls c. done x
  fit (is_declaration_1 t0 u0 v0 u1 v1 h0 h1 h2) = λ x l ls c. token (shape.Keyword keyword.Type) h0 refl (λ i0. then (fit h1 refl l ls c) (λ a0. fit h2 (a0, word i0) l ls c))
  fit (is_declaration_2 t0 u0 v0 t1 t2 u1 v1 t3 h0 h1 h2 h3 h4 h5) = λ x l ls c. token (shape.Keyword keyword.Trait) h0 refl (λ i0. then (fit h1 refl l ls c) (λ a0. token shape.Constant h2 refl (λ i1. left_brace c h3 (λ i2. then (fit h4 list_empty (inner_level l) (inner_rest l ls) (inner_code l c)) (λ a1. right_brace l c h5 (λ i3. done (a_trait (word i0) a0 (word i1) a1)))))))
  fit (is_declaration_3 t0 t1 u0 v0 t2 u1 v1 t3 h0 h1 h2 h3 h4 h5) = λ x l ls c. token (shape.Keyword keyword.Impl) h0 refl (λ i0. token shape.Constant h1 refl (λ i1. then (fit h2 tt l ls c) (λ a0. left_brace c h3 (λ i2. then (fit h4 list_empty (inner_level l) (inner_rest l ls) (inner_code l c)) (λ a1. right_brace l c h5 (λ i3. done (an_implementation (word i0) (word i1) a0 a1)))))))
  fit (is_declaration_4 u0 v0 h0) = λ x l ls c. so (fit h0 tt l ls c) (λ a0. a_module_method a0)
  fit (is_type_form_1 t0 t1 u0 v0 t2 u1 v1 t3 h0 h1 h2 h3 h4 h5) = λ x l ls c. token (shape.Keyword keyword.Enum) h0 refl (λ i0. token shape.Constant h1 refl (λ i1. then (fit h2 tt l ls c) (λ a0. left_brace c h3 (λ i2. then (fit h4 list_empty (inner_level l) (inner_rest l ls) (inner_code l c)) (λ a1. right_brace l c h5 (λ i3. done (an_enum x.1 x.0 (word i1) a0 a1)))))))
  fit (is_type_form_2 t0 u0 v0 h0 h1) = λ x l ls c. token (shape.Keyword keyword.Async) h0 refl (λ i0. fit h1 (with_async x.0 i0, x.1) l ls c)
  fit (is_type_form_3 u0 v0 h0) = λ x l ls c. fit h0 (no_async x.0, x.1) l ls c
  fit (is_object_form t0 u0 v0 t1 u1 v1 t2 h0 h1 h2 h3 h4) = λ x l ls c. token shape.Constant h0 refl (λ i0. then (fit h1 tt l ls c) (λ a0. left_brace c h2 (λ i1. then (fit h3 list_empty (inner_level l) (inner_rest l ls) (inner_code l c)) (λ a1. right_brace l c h4 (λ i2. done (a_type x.1 x.0 (word i0) a0 a1))))))
  fit (is_object_members_1 u0 v0 u1 v1 h0 h1) = λ x l ls c. then (fit h0 tt l ls c) (λ a0. fit h1 (list_more x a0) l ls c)
  fit (is_object_members_2 u0 v0 u1 v1 h0 h1) = λ x l ls c. then (fit h0 tt l ls c) (λ a0. fit h1 (list_more x (an_object_method a0)) l ls c)
  fit is_object_members_3 = λ x l ls c. done x
  fit (is_enum_members_1 u0 v0 u1 v1 h0 h1) = λ x l ls c. then (fit h0 tt l ls c) (λ a0. fit h1 (list_more x a0) l ls c)
  fit (is_enum_members_2 u0 v0 u1 v1 h0 h1) = λ x l ls c. then (fit h0 tt l ls c) (λ a0. fit h1 (list_more x (an_enum_method a0)) l ls c)
  fit is_enum_members_3 = λ x l ls c. done x
  fit (is_field_declaration t0 u0 v0 u1 v1 t1 t2 u2 v2 h0 h1 h2 h3 h4 h5) = λ x l ls c. token (shape.Keyword keyword.Let) h0 refl (λ i0. then (fit h1 refl l ls c) (λ a0. then (fit h2 a0 l ls c) (λ a1. token shape.Field h3 refl (λ i1. token (shape.Mark mark.Colon) h4 refl (λ i2. so (fit h5 tt l ls c) (λ a2. a_field (word i0) a1 (word i1) a2))))))
  fit (is_constructor t0 t1 u0 v0 h0 h1 h2) = λ x l ls c. token (shape.Keyword keyword.Case) h0 refl (λ i0. token shape.Constant h1 refl (λ i1. so (fit h2 tt l ls c) (λ a0. a_constructor (word i0) (word i1) a0)))
  fit (is_trait_methods_1 u0 v0 u1 v1 h0 h1) = λ x l ls c. then (fit h0 tt l ls c) (λ a0. fit h1 (list_more x a0) l ls c)
  fit is_trait_methods_2 = λ x l ls c. done x
  fit (is_trait_method t0 u0 v0 u1 v1 t1 u2 v2 u3 v3 h0 h1 h2 h3 h4 h5) = λ x l ls c. token (shape.Keyword keyword.Fn) h0 refl (λ i0. then (fit h1 refl l ls c) (λ a0. then (fit h2 a0 l ls c) (λ a1. token shape.Name h3 refl (λ i1. then (fit h4 tt l ls c) (λ a2. so (fit h5 tt l ls c) (λ a3. a_trait_method (word i0) a1 (word i1) a2 a3))))))
  fit (is_implemented_trait_1 t0 t1 h0 h1) = λ x l ls c. token (shape.Keyword keyword.For) h0 refl (λ i0. token shape.Constant h1 refl (λ i1. done (maybe_there (word i1))))
  fit is_implemented_trait_2 = λ x l ls c. done maybe_missing
  fit (is_optional_pub_1 t0 h0) = λ x l ls c. token (shape.Keyword keyword.Pub) h0 refl (λ i0. done (pub_word x i0))
  fit is_optional_pub_2 = λ x l ls c. done (no_pub_word x)
  fit (is_optional_async_1 t0 h0) = λ x l ls c. token (shape.Keyword keyword.Async) h0 refl (λ i0. done (with_async x i0))
  fit is_optional_async_2 = λ x l ls c. done (no_async x)
  fit (is_optional_mut_1 t0 h0) = λ x l ls c. token (shape.Keyword keyword.Mut) h0 refl (λ i0. done (with_mut x i0))
  fit is_optional_mut_2 = λ x l ls c. done (no_mut x)
  fit (is_method_kind_1 t0 h0) = λ x l ls c. token (shape.Keyword keyword.Mut) h0 refl (λ i0. done (with_kind x (inl i0)))
  fit (is_method_kind_2 t0 h0) = λ x l ls c. token (shape.Keyword keyword.Move) h0 refl (λ i0. done (with_kind x (inr (inl i0))))
  fit (is_method_kind_3 t0 h0) = λ x l ls c. token (shape.Keyword keyword.Static) h0 refl (λ i0. done (with_kind x (inr (inr i0))))
  fit is_method_kind_4 = λ x l ls c. done (no_kind x)
  fit (is_trait_method_kind_1 t0 h0) = λ x l ls c. token (shape.Keyword keyword.Mut) h0 refl (λ i0. done (with_trait_kind x (inl i0)))
  fit (is_trait_method_kind_2 t0 h0) = λ x l ls c. token (shape.Keyword keyword.Move) h0 refl (λ i0. done (with_trait_kind x (inr i0)))
  fit is_trait_method_kind_3 = λ x l ls c. done (no_trait_kind x)
  fit (is_methods_1 u0 v0 u1 v1 h0 h1) = λ x l ls c. then (fit h0 tt l ls c) (λ a0. fit h1 (list_more x a0) l ls c)
  fit is_methods_2 = λ x l ls c. done x
  fit (is_method t0 u0 v0 u1 v1 u2 v2 t1 u3 v3 u4 v4 u5 v5 u6 v6 h0 h1 h2 h3 h4 h5 h6 h7 h8) = λ x l ls c. token (shape.Keyword keyword.Fn) h0 refl (λ i0. then (fit h1 refl l ls c) (λ a0. then (fit h2 a0 l ls c) (λ a1. then (fit h3 a1 l ls c) (λ a2. token shape.Name h4 refl (λ i1. then (fit h5 tt l ls c) (λ a3. then (fit h6 tt l ls c) (λ a4. then (fit h7 tt l ls c) (λ a5. so (fit h8 tt l ls c) (λ a6. a_method (word i0) a2 (a_signature (word i1) a3 a4 a5) a6)))))))))
  fit (is_parameters_1 t0 u0 v0 h0 h1) = λ x l ls c. token (shape.Mark mark.LeftParen) h0 refl (λ i0. so (fit h1 list_empty l ls c) (λ a0. maybe_there a0))
  fit is_parameters_2 = λ x l ls c. done maybe_missing
  fit (is_parameters_more_1 t0 h0) = λ x l ls c. token (shape.Mark mark.RightParen) h0 refl (λ i0. done x)
  fit (is_parameters_more_2 u0 v0 u1 v1 h0 h1) = λ x l ls c. then (fit h0 tt l ls c) (λ a0. fit h1 (list_more x a0) l ls c)
  fit (is_parameters_rest_1 t0 h0) = λ x l ls c. token (shape.Mark mark.RightParen) h0 refl (λ i0. done x)
  fit (is_parameters_rest_2 t0 u0 v0 h0 h1) = λ x l ls c. token (shape.Mark mark.Comma) h0 refl (λ i0. fit h1 x l ls c)
  fit (is_parameter t0 t1 u0 v0 h0 h1 h2) = λ x l ls c. token shape.Name h0 refl (λ i0. token (shape.Mark mark.Colon) h1 refl (λ i1. so (fit h2 tt l ls c) (λ a0. a_parameter (word i0) a0)))
  fit (is_method_result_1 t0 u0 v0 h0 h1) = λ x l ls c. token (shape.Mark mark.Arrow) h0 refl (λ i0. so (fit h1 tt l ls c) (λ a0. maybe_there a0))
  fit is_method_result_2 = λ x l ls c. done maybe_missing
  fit (is_full_type_1 t0 u0 v0 h0 h1) = λ x l ls c. wanted_token wanted.TypePrefix h0 refl (λ i0. so (fit h1 tt l ls c) (λ a0. a_prefixed_type (wants i0) a0))
  fit (is_full_type_2 u0 v0 h0) = λ x l ls c. so (fit h0 tt l ls c) (λ a0. a_plain_type a0)
  fit (is_bare_type_1 t0 u0 v0 h0 h1) = λ x l ls c. token shape.Constant h0 refl (λ i0. so (fit h1 tt l ls c) (λ a0. a_named_type (word i0) a0))
  fit (is_bare_type_2 t0 u0 v0 t1 u1 v1 u2 v2 h0 h1 h2 h3 h4) = λ x l ls c. token (shape.Mark mark.LeftParen) h0 refl (λ i0. then (fit h1 tt l ls c) (λ a0. token (shape.Mark mark.Comma) h2 refl (λ i1. then (fit h3 tt l ls c) (λ a1. fit h4 (a1, a0, bracket i0.shape) l ls c))))
  fit (is_tuple_type_rest_1 t0 h0) = λ x l ls c. token (shape.Mark mark.RightParen) h0 refl (λ i0. done (a_pair_type x.2 x.1 x.0))
  fit (is_tuple_type_rest_2 t0 u0 v0 t1 h0 h1 h2) = λ x l ls c. token (shape.Mark mark.Comma) h0 refl (λ i0. then (fit h1 tt l ls c) (λ a0. token (shape.Mark mark.RightParen) h2 refl (λ i1. done (a_triple_type x.2 x.1 x.0 a0))))
  fit (is_type_arguments_1 t0 u0 v0 u1 v1 h0 h1 h2) = λ x l ls c. token (shape.Mark mark.LeftBracket) h0 refl (λ i0. then (fit h1 tt l ls c) (λ a0. so (fit h2 (some_more list_empty a0) l ls c) (λ a1. maybe_there a1)))
  fit is_type_arguments_2 = λ x l ls c. done maybe_missing
  fit (is_type_arguments_rest_1 t0 h0) = λ x l ls c. token (shape.Mark mark.RightBracket) h0 refl (λ i0. done x)
  fit (is_type_arguments_rest_2 t0 u0 v0 h0 h1) = λ x l ls c. token (shape.Mark mark.Comma) h0 refl (λ i0. fit h1 x l ls c)
  fit (is_type_arguments_more_1 t0 h0) = λ x l ls c. token (shape.Mark mark.RightBracket) h0 refl (λ i0. done x)
  fit (is_type_arguments_more_2 u0 v0 u1 v1 h0 h1) = λ x l ls c. then (fit h0 tt l ls c) (λ a0. fit h1 (some_more (some_list x) a0) l ls c)
  fit (is_type_parameters_1 t0 u0 v0 u1 v1 h0 h1 h2) = λ x l ls c. token (shape.Mark mark.LeftBracket) h0 refl (λ i0. then (fit h1 tt l ls c) (λ a0. so (fit h2 (some_more list_empty a0) l ls c) (λ a1. maybe_there a1)))
  fit is_type_parameters_2 = λ x l ls c. done maybe_missing
  fit (is_type_parameters_rest_1 t0 h0) = λ x l ls c. token (shape.Mark mark.RightBracket) h0 refl (λ i0. done x)
  fit (is_type_parameters_rest_2 t0 u0 v0 h0 h1) = λ x l ls c. token (shape.Mark mark.Comma) h0 refl (λ i0. fit h1 x l ls c)
  fit (is_type_parameters_more_1 t0 h0) = λ x l ls c. token (shape.Mark mark.RightBracket) h0 refl (λ i0. done x)
  fit (is_type_parameters_more_2 u0 v0 u1 v1 h0 h1) = λ x l ls c. then (fit h0 tt l ls c) (λ a0. fit h1 (some_more (some_list x) a0) l ls c)
  fit (is_type_parameter t0 u0 v0 h0 h1) = λ x l ls c. token shape.Constant h0 refl (λ i0. so (fit h1 tt l ls c) (λ a0. a_type_parameter (word i0) a0))
  fit (is_bounds_1 t0 t1 u0 v0 h0 h1 h2) = λ x l ls c. token (shape.Mark mark.Colon) h0 refl (λ i0. token shape.Constant h1 refl (λ i1. so (fit h2 (some_more list_empty (word i1)) l ls c) (λ a0. maybe_there a0)))
  fit is_bounds_2 = λ x l ls c. done maybe_missing
  fit (is_bounds_rest_1 t0 t1 u0 v0 h0 h1 h2) = λ x l ls c. token (shape.Mark mark.Plus) h0 refl (λ i0. token shape.Constant h1 refl (λ i1. fit h2 (some_more (some_list x) (word i1)) l ls c))
  fit is_bounds_rest_2 = λ x l ls c. done x
  fit (is_constructor_types_1 t0 u0 v0 u1 v1 h0 h1 h2) = λ x l ls c. token (shape.Mark mark.LeftParen) h0 refl (λ i0. then (fit h1 tt l ls c) (λ a0. so (fit h2 (some_more list_empty a0) l ls c) (λ a1. maybe_there a1)))
  fit is_constructor_types_2 = λ x l ls c. done maybe_missing
  fit (is_constructor_types_rest_1 t0 h0) = λ x l ls c. token (shape.Mark mark.RightParen) h0 refl (λ i0. done x)
  fit (is_constructor_types_rest_2 t0 u0 v0 h0 h1) = λ x l ls c. token (shape.Mark mark.Comma) h0 refl (λ i0. fit h1 x l ls c)
  fit (is_constructor_types_more_1 t0 h0) = λ x l ls c. token (shape.Mark mark.RightParen) h0 refl (λ i0. done x)
  fit (is_constructor_types_more_2 u0 v0 u1 v1 h0 h1) = λ x l ls c. then (fit h0 tt l ls c) (λ a0. fit h1 (some_more (some_list x) a0) l ls c)
  fit (is_block t0 u0 v0 t1 h0 h1 h2) = λ x l ls c. left_brace c h0 (λ i0. then (fit h1 list_empty (inner_level l) (inner_rest l ls) (inner_code l c)) (λ a0. right_brace l c h2 (λ i1. done (a_block (bracket i0) a0 (bracket i1)))))
  fit (is_statements_1 u0 v0 u1 v1 h0 h1) = λ x l ls c. then (fit h0 tt l ls c) (λ a0. fit h1 (list_more x a0) l ls c)
  fit is_statements_2 = λ x l ls c. done x
  fit (is_more_statements_1 u0 v0 u1 v1 h0 h1 h2) = λ x l ls c. then (fit h0 tt l ls c) (λ a0. fit h2 (list_more x a0) l ls c)
  fit is_more_statements_2 = λ x l ls c. done x
  fit (is_statement_1 t0 u0 v0 u1 v1 u2 v2 t1 u3 v3 h0 h1 h2 h3 h4 h5) = λ x l ls c. token (shape.Keyword keyword.Let) h0 refl (λ i0. then (fit h1 tt l ls c) (λ a0. then (fit h2 tt l ls c) (λ a1. then (fit h3 tt l ls c) (λ a2. token (shape.Mark mark.Equals) h4 refl (λ i1. so (fit h5 tt l ls c) (λ a3. a_let (word i0) a0 a1 a2 a3))))))
  fit (is_statement_2 u0 v0 h0) = λ x l ls c. so (fit h0 tt l ls c) (λ a0. a_value_statement a0)
  fit (is_mutable_1 t0 h0) = λ x l ls c. token (shape.Keyword keyword.Mut) h0 refl (λ i0. done (maybe_there (word i0)))
  fit is_mutable_2 = λ x l ls c. done maybe_missing
  fit (is_let_name_1 t0 h0) = λ x l ls c. token shape.Name h0 refl (λ i0. done (a_let_name (word i0)))
  fit (is_let_name_2 t0 h0) = λ x l ls c. token shape.Underscore h0 refl (λ i0. done (a_let_underscore (word i0)))
  fit (is_let_type_1 t0 u0 v0 h0 h1) = λ x l ls c. token (shape.Mark mark.Colon) h0 refl (λ i0. so (fit h1 tt l ls c) (λ a0. maybe_there a0))
  fit is_let_type_2 = λ x l ls c. done maybe_missing
  fit (is_expression_1 u0 v0 h0) = λ x l ls c. fit h0 tt l ls c
  fit (is_expression_2 u0 v0 u1 v1 h0 h1) = λ x l ls c. then (fit h0 tt l ls c) (λ a0. fit h1 a0 l ls c)
  fit (is_jump_1 t0 u0 v0 h0 h1) = λ x l ls c. token (shape.Keyword keyword.Return) h0 refl (λ i0. fit h1 (word i0) l ls c)
  fit (is_jump_2 t0 u0 v0 h0 h1) = λ x l ls c. token (shape.Keyword keyword.Throw) h0 refl (λ i0. so (fit h1 tt l ls c) (λ a0. a_throw (word i0) a0))
  fit (is_jump_3 t0 h0) = λ x l ls c. wanted_token wanted.LoopJump h0 refl (λ i0. done (a_loop_jump (wants i0)))
  fit (is_return_rest_1 u0 v0 h0 h1) = λ x l ls c. so (fit h0 tt l ls c) (λ a0. a_return x (maybe_there a0))
  fit is_return_rest_2 = λ x l ls c. done (a_return x maybe_missing)
  fit (is_after_operand_1 t0 u0 v0 h0 h1 h2 h3) = λ x l ls c. wanted_token wanted.Setter h2 refl (λ i0. so (fit h3 tt l ls c) (λ a0. an_assignment (x.place h0) (wants i0) a0))
  fit (is_after_operand_2 u0 v0 h0) = λ x l ls c. fit h0 x.expression l ls c
  fit (is_chain u0 v0 u1 v1 h0 h1) = λ x l ls c. then (fit h0 tt l ls c) (λ a0. fit h1 a0.expression l ls c)
  fit (is_chain_rest_1 t0 u0 v0 u1 v1 h0 h1 h2 h3) = λ x l ls c. wanted_token wanted.Operator h1 refl (λ i0. then (fit h2 tt l ls c) (λ a0. fit h3 (a_chain x (wants i0) a0.expression) l ls c))
  fit (is_chain_rest_2 t0 u0 v0 u1 v1 h0 h1 h2 h3) = λ x l ls c. wanted_token wanted.Logical h1 refl (λ i0. then (fit h2 tt l ls c) (λ a0. fit h3 (a_logical_chain x (wants i0) (a_counted a0.expression)) l ls c))
  fit is_chain_rest_3 = λ x l ls c. done x
  fit (is_unnamed_expression_1 u0 v0 h0) = λ x l ls c. fit h0 tt l ls c
  fit (is_unnamed_expression_2 u0 v0 u1 v1 h0 h1) = λ x l ls c. then (fit h0 tt l ls c) (λ a0. fit h1 a0 l ls c)
  fit (is_conditional t0 u0 v0 u1 v1 u2 v2 h0 h1 h2 h3) = λ x l ls c. token (shape.Keyword keyword.If) h0 refl (λ i0. then (fit h1 tt l ls c) (λ a0. then (fit h2 tt l ls c) (λ a1. fit h3 (a1, a_counted a0, word i0) l ls c)))
  fit (is_else_rest_1 t0 u0 v0 h0 h1) = λ x l ls c. token (shape.Keyword keyword.Else) h0 refl (λ i0. so (fit h1 tt l ls c) (λ a0. (an_if x.2 x.1 x.0 (maybe_there a0), refl)))
  fit is_else_rest_2 = λ x l ls c. done (an_if x.2 x.1 x.0 maybe_missing, refl)
  fit (is_else_branch_1 u0 v0 h0) = λ x l ls c. so (fit h0 tt l ls c) (λ a0. a_block_branch a0)
  fit (is_else_branch_2 u0 v0 h0) = λ x l ls c. so (fit h0 tt l ls c) (λ a0. a_conditional_branch a0.0)
  fit (is_arms_1 u0 v0 u1 v1 h0 h1) = λ x l ls c. then (fit h0 tt l ls c) (λ a0. fit h1 (some_more (some_list x) a0) l ls c)
  fit is_arms_2 = λ x l ls c. done x
  fit (is_arm t0 u0 v0 u1 v1 t1 u2 v2 h0 h1 h2 h3 h4) = λ x l ls c. token (shape.Keyword keyword.Case) h0 refl (λ i0. then (fit h1 tt l ls c) (λ a0. then (fit h2 tt l ls c) (λ a1. token (shape.Mark mark.Arrow) h3 refl (λ i1. so (fit h4 tt l ls c) (λ a2. an_arm (word i0) a0 a1 a2)))))
  fit (is_guard_1 t0 u0 v0 h0 h1) = λ x l ls c. token (shape.Keyword keyword.If) h0 refl (λ i0. so (fit h1 tt l ls c) (λ a0. maybe_there (a_counted a0)))
  fit is_guard_2 = λ x l ls c. done maybe_missing
  fit (is_arm_value_1 u0 v0 h0) = λ x l ls c. so (fit h0 tt l ls c) (λ a0. an_arm_block a0)
  fit (is_arm_value_2 u0 v0 h0) = λ x l ls c. so (fit h0 tt l ls c) (λ a0. an_arm_value (a_counted a0))
  fit (is_operand_1 t0 u0 v0 u1 v1 h0 h1 h2) = λ x l ls c. token shape.Name h0 refl (λ i0. then (fit h1 (word i0) l ls c) (λ a0. fit h2 a0 l ls c))
  fit (is_operand_2 u0 v0 h0) = λ x l ls c. fit h0 tt l ls c
  fit (is_unnamed_operand_1 t0 u0 v0 h0 h1) = λ x l ls c. wanted_token wanted.BorrowWord h0 refl (λ i0. so (fit h1 tt l ls c) (λ a0. plain refl (a_borrow (wants i0) a0.expression)))
  fit (is_unnamed_operand_2 t0 u0 v0 h0 h1) = λ x l ls c. token (shape.Keyword keyword.Try) h0 refl (λ i0. so (fit h1 tt l ls c) (λ a0. plain refl (a_try (word i0) a0.expression)))
  fit (is_unnamed_operand_3 t0 u0 v0 h0 h1) = λ x l ls c. token (shape.Keyword keyword.Recover) h0 refl (λ i0. fit h1 (word i0) l ls c)
  fit (is_unnamed_operand_4 t0 u0 v0 h0 h1) = λ x l ls c. token shape.Constant h0 refl (λ i0. fit h1 (word i0, ap is_place_word i0.shape) l ls c)
  fit (is_unnamed_operand_5 u0 v0 u1 v1 h0 h1) = λ x l ls c. then (fit h0 tt l ls c) (λ a0. fit h1 a0 l ls c)
  fit (is_recover_rest_1 u0 v0 h0) = λ x l ls c. so (fit h0 tt l ls c) (λ a0. plain refl (a_recover x (a_recovered_block a0)))
  fit (is_recover_rest_2 u0 v0 h0) = λ x l ls c. so (fit h0 tt l ls c) (λ a0. plain refl (a_recover x (a_recovered_value (a_counted a0.expression))))
  fit (is_name_rest_1 t0 u0 v0 h0 h1 h2) = λ x l ls c. token (shape.Mark mark.LeftParen) h1 refl (λ i0. so (fit h2 list_empty l ls c) (λ a0. plain refl (a_call x a0)))
  fit is_name_rest_2 = λ x l ls c. done (placed (a_place_name x))
  fit (is_links_1 t0 u0 v0 u1 v1 h0 h1 h2) = λ x l ls c. token (shape.Mark mark.Dot) h0 refl (λ i0. then (fit h1 x.expression l ls c) (λ a0. fit h2 a0 l ls c))
  fit is_links_2 = λ x l ls c. done x
  fit (is_link_1 t0 u0 v0 h0 h1) = λ x l ls c. wanted_token wanted.LinkName h0 refl (λ i0. fit h1 (wants i0, x) l ls c)
  fit (is_link_2 t0 h0) = λ x l ls c. token shape.Integer h0 refl (λ i0. done (plain refl (a_tuple_item x (word i0))))
  fit (is_link_rest_1 t0 u0 v0 h0 h1 h2) = λ x l ls c. token (shape.Mark mark.LeftParen) h1 refl (λ i0. so (fit h2 list_empty l ls c) (λ a0. plain refl (a_member_call x.1 x.0 a0)))
  fit is_link_rest_2 = λ x l ls c. done (placed (a_member x.1 x.0))
  fit (is_constant_rest_1 t0 u0 v0 u1 v1 h0 h1 h2 h3) = λ x l ls c. token (shape.Mark mark.LeftParen) h1 refl (λ i0. then (fit h2 (list_empty, list_empty) l ls c) (λ a0. fit h3 (plain refl (a_construction (a_constant x.0) a0)) l ls c))
  fit (is_constant_rest_2 t0 u0 v0 h0 h1) = λ x l ls c. token (shape.Mark mark.Dot) h0 refl (λ i0. fit h1 x.0 l ls c)
  fit is_constant_rest_3 = λ x l ls c. done (plain x.1 (a_constructed (a_constant x.0)))
  fit (is_after_constant_1 t0 u0 v0 u1 v1 h0 h1 h2) = λ x l ls c. token shape.Constant h0 refl (λ i0. then (fit h1 (a_qualified x (word i0), refl) l ls c) (λ a0. fit h2 a0 l ls c))
  fit (is_after_constant_2 u0 v0 u1 v1 h0 h1) = λ x l ls c. then (fit h0 (a_constructed (a_constant x)) l ls c) (λ a0. fit h1 a0 l ls c)
  fit (is_qualified_rest_1 t0 u0 v0 h0 h1 h2) = λ x l ls c. token (shape.Mark mark.LeftParen) h1 refl (λ i0. so (fit h2 (list_empty, list_empty) l ls c) (λ a0. plain refl (a_construction x.0 a0)))
  fit is_qualified_rest_2 = λ x l ls c. done (plain x.1 (a_constructed x.0))
  fit (is_primary_1 t0 h0) = λ x l ls c. wanted_token wanted.Atom h0 refl (λ i0. done (atom_value i0))
  fit (is_primary_2 t0 u0 v0 h0 h1) = λ x l ls c. left_quote c h0 (λ i0 q. so (fit h1 t0 false l ls c no_text) (λ a0. plain refl (a_text i0 q a0.1)))
  fit (is_primary_3 t0 u0 v0 u1 v1 h0 h1 h2) = λ x l ls c. token (shape.Mark mark.LeftParen) h0 refl (λ i0. then (fit h1 tt l ls c) (λ a0. fit h2 (a0, bracket i0.shape) l ls c))
  fit (is_primary_4 t0 u0 v0 h0 h1) = λ x l ls c. token (shape.Mark mark.LeftBracket) h0 refl (λ i0. so (fit h1 list_empty l ls c) (λ a0. plain refl (an_array (bracket i0.shape) a0)))
  fit (is_primary_5 u0 v0 h0) = λ x l ls c. so (fit h0 tt l ls c) (λ a0. plain a0.1 (a_conditional a0.0))
  fit (is_primary_6 t0 u0 v0 u1 v1 h0 h1 h2) = λ x l ls c. token (shape.Keyword keyword.While) h0 refl (λ i0. then (fit h1 tt l ls c) (λ a0. so (fit h2 tt l ls c) (λ a1. plain refl (a_while (word i0) (a_counted a0) a1))))
  fit (is_primary_7 t0 u0 v0 h0 h1) = λ x l ls c. token (shape.Keyword keyword.Loop) h0 refl (λ i0. so (fit h1 tt l ls c) (λ a0. plain refl (a_loop (word i0) a0)))
  fit (is_primary_8 t0 u0 v0 t1 u1 v1 u2 v2 t2 h0 h1 h2 h3 h4 h5) = λ x l ls c. token (shape.Keyword keyword.Match) h0 refl (λ i0. then (fit h1 tt l ls c) (λ a0. left_brace c h2 (λ i1. then (fit h3 tt (inner_level l) (inner_rest l ls) (inner_code l c)) (λ a1. then (fit h4 (some_more list_empty a1) (inner_level l) (inner_rest l ls) (inner_code l c)) (λ a2. right_brace l c h5 (λ i2. done (plain refl (a_match (word i0) (a_counted a0) a2))))))))
  fit (is_text_rest_1 t0 h0) = λ quote ends l ls c x. right_quote h0 (done (ends, x))
  fit (is_text_rest_2 t0 u0 v0 h0 h1) = λ quote ends l ls c x. quoted_part h0 (λ e i0 p. fit h1 quote true l ls c (text_part (no_part e x) i0 p))
  fit (is_text_rest_3 t0 u0 v0 t1 u1 v1 h0 h1 h2 h3) = λ quote ends l ls c x. opening h0 (then (fit h1 tt Embedded (Inside quote false ∷ l ∷ ls) tt) (λ a0. closing h2 (fit h3 quote false l ls c (text_value x a0))))
  fit (is_parenthesis_rest_1 t0 h0) = λ x l ls c. token (shape.Mark mark.RightParen) h0 refl (λ i0. done (plain refl x.0))
  fit (is_parenthesis_rest_2 t0 u0 v0 u1 v1 h0 h1 h2) = λ x l ls c. token (shape.Mark mark.Comma) h0 refl (λ i0. then (fit h1 tt l ls c) (λ a0. fit h2 (a0, x.0, x.1) l ls c))
  fit (is_tuple_rest_1 t0 h0) = λ x l ls c. token (shape.Mark mark.RightParen) h0 refl (λ i0. done (plain refl (a_pair x.2 x.1 x.0)))
  fit (is_tuple_rest_2 t0 u0 v0 t1 h0 h1 h2) = λ x l ls c. token (shape.Mark mark.Comma) h0 refl (λ i0. then (fit h1 tt l ls c) (λ a0. token (shape.Mark mark.RightParen) h2 refl (λ i1. done (plain refl (a_triple x.2 x.1 x.0 a0)))))
  fit (is_items_1 t0 h0) = λ x l ls c. token (shape.Mark mark.RightBracket) h0 refl (λ i0. done x)
  fit (is_items_2 u0 v0 u1 v1 h0 h1) = λ x l ls c. then (fit h0 tt l ls c) (λ a0. fit h1 (list_more x a0) l ls c)
  fit (is_items_rest_1 t0 h0) = λ x l ls c. token (shape.Mark mark.RightBracket) h0 refl (λ i0. done x)
  fit (is_items_rest_2 t0 u0 v0 h0 h1) = λ x l ls c. token (shape.Mark mark.Comma) h0 refl (λ i0. fit h1 x l ls c)
  fit (is_arguments_1 t0 h0) = λ x l ls c. token (shape.Mark mark.RightParen) h0 refl (λ i0. done x)
  fit (is_arguments_2 u0 v0 u1 v1 h0 h1) = λ x l ls c. then (fit h0 tt l ls c) (λ a0. fit h1 (list_more x a0) l ls c)
  fit (is_arguments_rest_1 t0 h0) = λ x l ls c. token (shape.Mark mark.RightParen) h0 refl (λ i0. done x)
  fit (is_arguments_rest_2 t0 u0 v0 h0 h1) = λ x l ls c. token (shape.Mark mark.Comma) h0 refl (λ i0. fit h1 x l ls c)
  fit (is_constructor_arguments_1 t0 h0) = λ x l ls c. token (shape.Mark mark.RightParen) h0 refl (λ i0. done (unnamed_arguments x.0))
  fit (is_constructor_arguments_2 t0 u0 v0 h0 h1) = λ x l ls c. token shape.Name h0 refl (λ i0. fit h1 (word i0, x.0, x.1) l ls c)
  fit (is_constructor_arguments_3 u0 v0 u1 v1 h0 h1) = λ x l ls c. then (fit h0 tt l ls c) (λ a0. so (fit h1 (list_more x.0 a0) l ls c) (λ a1. unnamed_arguments a1))
  fit (is_named_or_not_1 t0 u0 v0 u1 v1 h0 h1 h2) = λ x l ls c. token (shape.Mark mark.Colon) h0 refl (λ i0. then (fit h1 tt l ls c) (λ a0. so (fit h2 (some_more x.2 (a_named x.0 a0)) l ls c) (λ a1. named_arguments a1)))
  fit (is_named_or_not_2 u0 v0 u1 v1 u2 v2 u3 v3 h0 h1 h2 h3) = λ x l ls c. then (fit h0 x.0 l ls c) (λ a0. then (fit h1 a0 l ls c) (λ a1. then (fit h2 a1 l ls c) (λ a2. so (fit h3 (list_more x.1 a2) l ls c) (λ a3. unnamed_arguments a3))))
  fit (is_named_rest_1 t0 h0) = λ x l ls c. token (shape.Mark mark.RightParen) h0 refl (λ i0. done x)
  fit (is_named_rest_2 t0 u0 v0 h0 h1) = λ x l ls c. token (shape.Mark mark.Comma) h0 refl (λ i0. fit h1 x l ls c)
  fit (is_named_more_1 t0 h0) = λ x l ls c. token (shape.Mark mark.RightParen) h0 refl (λ i0. done x)
  fit (is_named_more_2 t0 t1 u0 v0 u1 v1 h0 h1 h2 h3) = λ x l ls c. token shape.Name h0 refl (λ i0. token (shape.Mark mark.Colon) h1 refl (λ i1. then (fit h2 tt l ls c) (λ a0. fit h3 (some_more (some_list x) (a_named (word i0) a0)) l ls c)))
  fit (is_pattern u0 v0 u1 v1 h0 h1) = λ x l ls c. then (fit h0 tt l ls c) (λ a0. fit h1 (an_alternative a0) l ls c)
  fit (is_alternative_1 t0 h0) = λ x l ls c. wanted_token wanted.PatternAtom h0 refl (λ i0. done (a_pattern_atom (wants i0)))
  fit (is_alternative_2 t0 u0 v0 h0 h1) = λ x l ls c. left_quote c h0 (λ i0 q. so (fit h1 t0 false l ls c no_pattern_text) (λ a0. a_pattern_text i0 q a0.1))
  fit (is_alternative_3 t0 t1 h0 h1) = λ x l ls c. token (shape.Keyword keyword.Mut) h0 refl (λ i0. token shape.Name h1 refl (λ i1. done (a_mutable_name (word i0) (word i1))))
  fit (is_alternative_4 t0 u0 v0 h0 h1) = λ x l ls c. token shape.Constant h0 refl (λ i0. fit h1 (word i0) l ls c)
  fit (is_alternative_5 t0 u0 v0 t1 u1 v1 u2 v2 h0 h1 h2 h3 h4) = λ x l ls c. token (shape.Mark mark.LeftParen) h0 refl (λ i0. then (fit h1 tt l ls c) (λ a0. token (shape.Mark mark.Comma) h2 refl (λ i1. then (fit h3 tt l ls c) (λ a1. fit h4 (a1, a0, bracket i0.shape) l ls c))))
  fit (is_alternative_6 t0 u0 v0 u1 v1 h0 h1 h2) = λ x l ls c. left_brace c h0 (λ i0. then (fit h1 tt (inner_level l) (inner_rest l ls) (inner_code l c)) (λ a0. so (fit h2 (some_more list_empty a0) l ls c) (λ a1. field_patterns (bracket i0) a1)))
  fit (is_pattern_rest_1 t0 u0 v0 u1 v1 h0 h1 h2) = λ x l ls c. token (shape.Keyword keyword.Or) h0 refl (λ i0. then (fit h1 tt l ls c) (λ a0. fit h2 (alternatives x a0) l ls c))
  fit is_pattern_rest_2 = λ x l ls c. done x
  fit (is_pattern_text_rest_1 t0 h0) = λ quote ends l ls c x. right_quote h0 (done (ends, x))
  fit (is_pattern_text_rest_2 t0 u0 v0 h0 h1) = λ quote ends l ls c x. quoted_part h0 (λ e i0 p. fit h1 quote true l ls c (pattern_text_part (no_pattern_part e x) i0 p))
  fit (is_constructor_pattern_rest_1 t0 u0 v0 u1 v1 h0 h1 h2) = λ x l ls c. token (shape.Mark mark.LeftParen) h0 refl (λ i0. then (fit h1 tt l ls c) (λ a0. so (fit h2 (some_more list_empty a0) l ls c) (λ a1. a_constructor_pattern x a1)))
  fit is_constructor_pattern_rest_2 = λ x l ls c. done (a_constant_pattern x)
  fit (is_patterns_rest_1 t0 h0) = λ x l ls c. token (shape.Mark mark.RightParen) h0 refl (λ i0. done x)
  fit (is_patterns_rest_2 t0 u0 v0 h0 h1) = λ x l ls c. token (shape.Mark mark.Comma) h0 refl (λ i0. fit h1 x l ls c)
  fit (is_patterns_more_1 t0 h0) = λ x l ls c. token (shape.Mark mark.RightParen) h0 refl (λ i0. done x)
  fit (is_patterns_more_2 u0 v0 u1 v1 h0 h1) = λ x l ls c. then (fit h0 tt l ls c) (λ a0. fit h1 (some_more (some_list x) a0) l ls c)
  fit (is_tuple_pattern_rest_1 t0 h0) = λ x l ls c. token (shape.Mark mark.RightParen) h0 refl (λ i0. done (a_pair_pattern x.2 x.1 x.0))
  fit (is_tuple_pattern_rest_2 t0 u0 v0 t1 h0 h1 h2) = λ x l ls c. token (shape.Mark mark.Comma) h0 refl (λ i0. then (fit h1 tt l ls c) (λ a0. token (shape.Mark mark.RightParen) h2 refl (λ i1. done (a_triple_pattern x.2 x.1 x.0 a0))))
  fit (is_field_pattern t0 t1 u0 v0 h0 h1 h2) = λ x l ls c. token shape.Field h0 refl (λ i0. token (shape.Mark mark.Equals) h1 refl (λ i1. so (fit h2 tt l ls c) (λ a0. a_field_pattern (word i0) a0)))
  fit (is_field_patterns_rest_1 t0 h0) = λ x l ls c. right_brace l c h0 (λ i0. done x)
  fit (is_field_patterns_rest_2 t0 u0 v0 h0 h1) = λ x l ls c. token (shape.Mark mark.Comma) h0 refl (λ i0. fit h1 x l ls c)
  fit (is_field_patterns_more_1 t0 h0) = λ x l ls c. right_brace l c h0 (λ i0. done x)
  fit (is_field_patterns_more_2 u0 v0 u1 v1 h0 h1) = λ x l ls c. then (fit h0 tt (inner_level l) (inner_rest l ls) (inner_code l c)) (λ a0. fit h1 (some_more (some_list x) a0) l ls c)

pub well_formed : (source : List ℕ) (ts : List Terminal) (tree : Tree) → Nested source (Outside ∷ []) ts (Outside ∷ []) → Parses ts tree → IsA source Module tree
well_formed source ts tree n p =
    let all : Nested source (Outside ∷ []) (ts ++ []) (Outside ∷ []) = subst (λ z. Nested source (Outside ∷ []) z (Outside ∷ [])) (sym (append-nil ts)) n in
    subst (λ z. IsA source Module z) p.2 ((fit source (Outside ∷ []) p.1 tt Outside [] tt).step [] all).0
