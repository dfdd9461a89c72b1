-- The sample is written as its tokens say, and is read as its tree.
use Rattle.std.proofs.Common.{List, [], ◌∷◌, ◌++◌, inl, refl, subst, ◌∙◌, append-nil, arith}
use Rattle.ink_base.specs.declared.token.TokenKind.TheVariants as kind
use Rattle.ink_tokens.specs.Fault.{is_wide_integer}
use Rattle.ink_tokens.specs.Integer.{is_too_wide, begins_hexadecimal, number_behind}
use Rattle.ink_tokens.specs.Part.{part_length}
use Rattle.ink_tokens.specs.Spelling.{spelled_name, spelled_integer}
use Rattle.ink_tokens.specs.Words.{word_kind, is_keyword}
use Rattle.ink_shapes.specs.Terminals.{shape_by, integer_shape, keyword_shape}
use Rattle.ink_shapes.specs.Keywords.{keyword_of}
use Rattle.ink_grammar.specs.declared.token.Terminal.{Terminal}
use Rattle.ink_grammar.specs.declared.tree.OneChild.TheVariants as one_of
use Rattle.ink_grammar.specs.declared.tree.TwoChildren.TheVariants as two_of
use Rattle.ink_grammar.specs.declared.tree.ThreeChildren.TheVariants as three_of
use Rattle.ink_grammar.specs.declared.tree.FourChildren.TheVariants as four_of
use Rattle.ink_grammar.specs.Parts.{Method, Block, Expression, Primary}
use Rattle.ink_grammar.specs.Tree.{Found, leaf, no_items, nothing, node_one, node_two, node_three, node_four}
use Rattle.ink_grammar.specs.Language.{Parses}
use Rattle.ink_grammar.specs.Productions.{Is, is_module, is_imports_2, is_declarations_1, is_declarations_2, is_declaration_4, is_method, is_optional_pub_2, is_optional_async_2, is_method_kind_4, is_type_parameters_2, is_parameters_2, is_method_result_2, is_block, is_statements_1, is_more_statements_2, is_statement_2, is_expression_2, is_after_operand_2, is_chain_rest_3, is_operand_2, is_unnamed_operand_5, is_links_2, is_primary_1, is_primary_2, is_text_rest_1, is_text_rest_2, is_text_rest_3}
use Rattle.ink_law_categories.specs.Written.{IsWorded, IsPartOf}
use Rattle.ink_law_categories.specs.Categories.{Module, IsA}
use Rattle.ink_law_categories.specs.Nested.{Nested, Outside, none, flat, left_brace, right_brace, opens_text, closes_text, part, opens_value, closes_value}
use Rattle.ink_law_categories.specs.Sample as sample
use Rattle.ink_law_categories.proofs.Fitting.{well_formed}

fn_worded : IsWorded sample.source sample.word
unfolding shape_by keyword_shape keyword_of word_kind is_keyword is_wide_integer
fn_worded = record { kind = kind.Keyword; shape = refl; spelled = spelled_name (refl, inl refl); narrow = refl }

name_worded : IsWorded sample.source sample.name
unfolding shape_by keyword_shape keyword_of word_kind is_keyword is_wide_integer
name_worded = record { kind = kind.Name; shape = refl; spelled = spelled_name (refl, inl refl); narrow = refl }

one_worded : IsWorded sample.source sample.one
unfolding shape_by integer_shape is_wide_integer is_too_wide begins_hexadecimal number_behind
one_worded = record { kind = kind.Int; shape = refl; spelled = spelled_integer (inl (inl (refl, refl))); narrow = refl }

part_whole : IsPartOf sample.source sample.quote sample.part
unfolding part_length
part_whole = record { some = omega arith; whole = refl }

pub nested : Nested sample.source (Outside ∷ []) sample.tokens (Outside ∷ [])
nested =
    flat tt refl fn_worded (flat tt refl name_worded (left_brace refl
    (opens_text tt refl (record { quote = refl; alone = refl }) (part refl part_whole (opens_value refl (flat tt refl one_worded (closes_value refl (closes_text refl
    (right_brace refl none)))))))))

-- an expression that is a primary alone
primary_alone : (us : List Terminal) (v : Found) → Is Primary [] us v → Is Expression [] us v
primary_alone us v h = subst (λ z. Is Expression [] z v) (append-nil (us ++ []) ∙ append-nil us)
    (is_expression_2 (us ++ []) v [] v (is_operand_2 (us ++ []) v (is_unnamed_operand_5 us v [] v h is_links_2)) (is_after_operand_2 [] v is_chain_rest_3))

abbrev text_tokens : List Terminal
text_tokens = sample.quote ∷ sample.part ∷ sample.opening ∷ sample.one ∷ sample.closing ∷ sample.quote_behind ∷ []

abbrev text_found : Found
text_found = node_two two_of.Text (leaf sample.quote) (node_two two_of.More (node_two two_of.More no_items (leaf sample.part)) (leaf sample.one))

text : Is Primary [] text_tokens text_found
text = is_primary_2 sample.quote _ _ refl (is_text_rest_2 sample.part _ _ refl
    (is_text_rest_3 sample.opening (sample.one ∷ []) (leaf sample.one) sample.closing (sample.quote_behind ∷ []) _ refl
    (primary_alone (sample.one ∷ []) (leaf sample.one) (is_primary_1 sample.one refl)) refl (is_text_rest_1 sample.quote_behind refl)))

abbrev block_found : Found
block_found = node_three three_of.Block (leaf sample.left) (node_two two_of.More no_items (node_one one_of.Statement text_found)) (leaf sample.right)

block : Is Block [] (sample.left ∷ (text_tokens ++ (sample.right ∷ []))) block_found
block = is_block sample.left text_tokens _ sample.right refl
    (is_statements_1 text_tokens _ [] _ (is_statement_2 text_tokens text_found (primary_alone text_tokens text_found text)) is_more_statements_2) refl

abbrev method_found : Found
method_found = node_four four_of.Method (leaf sample.word) no_items (node_four four_of.Signature (leaf sample.name) nothing nothing nothing) block_found

method : Is Method [] sample.tokens method_found
method = is_method sample.word [] no_items [] no_items [] no_items sample.name [] nothing [] nothing [] nothing (sample.left ∷ (text_tokens ++ (sample.right ∷ []))) block_found
    refl is_optional_pub_2 is_optional_async_2 is_method_kind_4 refl is_type_parameters_2 is_parameters_2 is_method_result_2 block

pub parsed : Parses sample.tokens sample.tree
parsed = (node_two two_of.Module no_items (node_two two_of.More no_items method_found), is_module [] _ sample.tokens _ is_imports_2 (is_declarations_1 sample.tokens _ [] _ (is_declaration_4 sample.tokens _ method) is_declarations_2), refl)

pub category : IsA sample.source Module sample.tree
category = well_formed sample.source sample.tokens sample.tree nested parsed
