-- Each tree is read as it was printed, whatever its category.
use Rattle.std.proofs.Common.{◌≡◌, ℕ, Bool, true, false, List, [], inl, inr, refl}
use Rattle.ink_grammar.specs.declared.token.Shape.TheVariants as shape
use Rattle.ink_grammar.specs.declared.symbol.Wanted.TheVariants as wanted
use Rattle.ink_grammar.specs.declared.token.Terminal.{Terminal}
use Rattle.ink_grammar.specs.Language.{Parses}
use Rattle.ink_grammar.specs.Productions.{Is}
use Rattle.ink_grammar.specs.Parts as part
use Rattle.ink_grammar.specs.Shapes.{is}
use Rattle.ink_grammar.specs.Tree.{Tree}
use Rattle.ink_print.specs.declared.context.Context.TheVariants as context
use Rattle.ink_print.specs.Printed.{pieces}
use Rattle.ink_law_categories.specs.Alike.{Alike}
use Rattle.ink_law_categories.specs.Categories.{Category, IsA}
use Rattle.ink_law_categories.specs.Categories as category
use Rattle.ink_law_categories.specs.Spells.{Spells}
use Rattle.ink_law_parsing.proofs.Words.{Kept, kept}
use Rattle.ink_law_parsing.proofs.Lists.{Each, no_item, one_more, EachOfSome, with_item, Perhaps, left_out, there, Reading}
use Rattle.ink_law_parsing.proofs.Types.{Typed, BareTyped, named_type, prefixed_type, plain_type, pair_type, triple_type}
use Rattle.ink_law_parsing.proofs.Contexts.{ReadsAt, Expressed}
use Rattle.ink_law_parsing.proofs.Chains.{Placed, RecoverKind, return_form, throw_form, jump_form, assignment_form, plain_right_form, binary_form, name_form, field_form, member_form, borrow_form, try_form, recover_form}
use Rattle.ink_law_parsing.proofs.Calls.{Constructible, ConstructorItems, NamedTree, unnamed_form, named_form, named_arguments_form, call_form, member_call_form, tuple_item_form, constant_form, qualified_form, construction_form}
use Rattle.ink_law_parsing.proofs.Primaries.{TextTree, text_part, text_value, atom_form, text_form, pair_form, triple_form, array_form}
use Rattle.ink_law_parsing.proofs.Statements.{StatementTree, Blocked, Counts, counts, Branched, ConditionalTree, block_form, value_statement_form, recovered_block_form, recovered_value_form, logical_right_form, block_branch_form, if_form, while_form, loop_form}
use Rattle.ink_law_parsing.proofs.Arms.{LetName, let_form, arm_block_form, arm_value_form, arm_form, match_form}
use Rattle.ink_law_parsing.proofs.Patterns.{PatternKind, alternative_form, either_form, pattern_atom_form, constant_pattern_form, mutable_name_form, constructor_pattern_form, pair_pattern_form, triple_pattern_form, field_pattern_form, field_patterns_form, pattern_text_form}
use Rattle.ink_law_parsing.proofs.Methods.{WordsTree, PubKind, MutKind, AsyncKind, SelfKind, TraitKind, SignatureKind, no_pub_form, pub_form, no_mut_form, mut_form, no_async_form, async_form, no_self_form, self_form, no_trait_self_form, trait_self_form, type_parameter_form, parameter_form, signature_form, method_form, trait_method_form}
use Rattle.ink_law_parsing.proofs.Declarations.{ImportWord, ObjectKind, EnumKind, import_form, field_declaration_form, object_method_form, enum_method_form, constructor_form, type_form, enum_form, trait_form, implementation_form, module_method_form, module_form}

-- how a tree of a category is read
abbrev pub Rereads : List ℕ → List ℕ → Category → Tree → Type 0
Rereads source print (category.Word x) = Kept (λ y. y ≡ x)
Rereads source print (category.Wants w) = Kept (λ y. is w y ≡ true)
Rereads source print (category.Bracket x) = Kept (λ y. y ≡ x)
Rereads source print (category.ListOf item) = Each (Rereads source print item)
Rereads source print (category.SomeOf item) = EachOfSome (Rereads source print item)
Rereads source print (category.Maybe item) = Perhaps (Rereads source print item)
Rereads source print category.Module = Reading source print (Is part.Module [])
Rereads source print category.Import = Reading source print (Is part.Import [])
Rereads source print category.ImportName = Kept ImportWord
Rereads source print category.Declaration = Reading source print (Is part.Declaration [])
Rereads source print category.ObjectMember = Reading source print ObjectKind
Rereads source print category.EnumMember = Reading source print EnumKind
Rereads source print category.Method = Reading source print (Is part.Method [])
Rereads source print category.Signature = Reading source print SignatureKind
Rereads source print category.TraitMethod = Reading source print (Is part.TraitMethod [])
Rereads source print category.Parameter = Reading source print (Is part.Parameter [])
Rereads source print category.TypeParameter = Reading source print (Is part.TypeParameter [])
Rereads source print category.PubWord = WordsTree source print PubKind
Rereads source print category.PubMutWords = WordsTree source print MutKind
Rereads source print category.PubAsyncWords = WordsTree source print AsyncKind
Rereads source print category.MethodWords = WordsTree source print SelfKind
Rereads source print category.TraitMethodWords = WordsTree source print TraitKind
Rereads source print category.FullType = Typed source print
Rereads source print category.BareType = BareTyped source print
Rereads source print category.Block = Blocked source print
Rereads source print category.Statement = StatementTree source print
Rereads source print category.LetName = Kept LetName
Rereads source print category.Place = Placed source print
Rereads source print category.Expression = Expressed source print
Rereads source print category.Counted = Counts source print
Rereads source print category.Recovered = ReadsAt source print RecoverKind context.Operand
Rereads source print category.Branch = Branched source print
Rereads source print category.Conditional = ConditionalTree source print
Rereads source print category.Arm = Reading source print (Is part.Arm [])
Rereads source print category.ArmValue = Reading source print (Is part.ArmValue [])
Rereads source print (category.TextItems quote ends) = Each (TextTree source print)
Rereads source print (category.PartItems quote ends) = Each (Kept (λ y. y ≡ shape.TextPart))
Rereads source print category.Constructed = Constructible source print
Rereads source print category.ConstructorArguments = ConstructorItems source print
Rereads source print category.Named = NamedTree source print
Rereads source print category.Pattern = Reading source print PatternKind
Rereads source print category.Alternative = Reading source print (Is part.Alternative [])
Rereads source print category.FieldPattern = Reading source print (Is part.FieldPattern [])

-- each tree of a category is read so
pub reread : {source : List ℕ} (print : List ℕ) {s : Category} {tree : Tree} → IsA source s tree → Rereads source print s tree
reread print (category.word h) = kept h.shape
reread print (category.wants h) = kept h.shape
reread print (category.bracket e) = kept e
reread print category.list_empty = no_item
reread print (category.list_more h k) = one_more (reread print h) (reread print k)
reread print (category.some_more h k) = with_item (reread print h) (reread print k)
reread print category.maybe_missing = left_out
reread print (category.maybe_there h) = there (reread print h)
reread print (category.a_module h k) = module_form (reread print h) (reread print k)
reread print (category.an_import h k l) = import_form (reread print h) (reread print k) (reread print l)
reread print (category.import_name (category.word h)) = kept (inl h.shape)
reread print (category.import_constant (category.word h)) = kept (inr h.shape)
reread print (category.a_type h k l m n) = type_form (reread print h) (reread print k) (reread print l) (reread print m) (reread print n)
reread print (category.an_enum h k l m n) = enum_form (reread print h) (reread print k) (reread print l) (reread print m) (reread print n)
reread print (category.a_trait h k l m) = trait_form (reread print h) (reread print k) (reread print l) (reread print m)
reread print (category.an_implementation h k l m) = implementation_form (reread print h) (reread print k) (reread print l) (reread print m)
reread print (category.a_module_method h) = module_method_form (reread print h)
reread print (category.a_field h k l m) = field_declaration_form (reread print h) (reread print k) (reread print l) (reread print m)
reread print (category.an_object_method h) = object_method_form (reread print h)
reread print (category.a_constructor h k l) = constructor_form (reread print h) (reread print k) (reread print l)
reread print (category.an_enum_method h) = enum_method_form (reread print h)
reread print (category.a_method h k l m) = method_form (reread print h) (reread print k) (reread print l) (reread print m)
reread print (category.a_signature h k l m) = signature_form (reread print h) (reread print k) (reread print l) (reread print m)
reread print (category.a_trait_method h k l m n) = trait_method_form (reread print h) (reread print k) (reread print l) (reread print m) (reread print n)
reread print (category.a_parameter h k) = parameter_form (reread print h) (reread print k)
reread print (category.a_type_parameter h k) = type_parameter_form (reread print h) (reread print k)
reread print category.no_pub = no_pub_form
reread print (category.with_pub h) = pub_form (kept h.shape)
reread print (category.no_mut h) = no_mut_form (reread print h)
reread print (category.with_mut h k) = mut_form (reread print h) (kept k.shape)
reread print (category.no_async h) = no_async_form (reread print h)
reread print (category.with_async h k) = async_form (reread print h) (kept k.shape)
reread print (category.no_kind h) = no_self_form (reread print h)
reread print (category.with_kind h (inl k)) = self_form (reread print h) (kept (inl k.shape))
reread print (category.with_kind h (inr (inl k))) = self_form (reread print h) (kept (inr (inl k.shape)))
reread print (category.with_kind h (inr (inr k))) = self_form (reread print h) (kept (inr (inr k.shape)))
reread print (category.no_trait_kind h) = no_trait_self_form (reread print h)
reread print (category.with_trait_kind h (inl k)) = trait_self_form (reread print h) (kept (inl k.shape))
reread print (category.with_trait_kind h (inr k)) = trait_self_form (reread print h) (kept (inr k.shape))
reread print (category.a_prefixed_type h k) = prefixed_type (reread print h) (reread print k)
reread print (category.a_plain_type h) = plain_type (reread print h)
reread print (category.a_named_type h k) = named_type (reread print h) (reread print k)
reread print (category.a_pair_type h k l) = pair_type (reread print h) (reread print k) (reread print l)
reread print (category.a_triple_type h k l m) = triple_type (reread print h) (reread print k) (reread print l) (reread print m)
reread print (category.a_block h k l) = block_form (reread print h) (reread print k) (reread print l)
reread print (category.a_let h k l m n) = let_form (reread print h) (reread print k) (reread print l) (reread print m) (reread print n)
reread print (category.a_value_statement h) = value_statement_form (reread print h)
reread print (category.a_let_name (category.word h)) = kept (inl h.shape)
reread print (category.a_let_underscore (category.word h)) = kept (inr h.shape)
reread print (category.a_counted h) = counts (reread print h)
reread print (category.a_return h k) = return_form (reread print h) (reread print k)
reread print (category.a_throw h k) = throw_form (reread print h) (reread print k)
reread print (category.a_loop_jump h) = jump_form (reread print h)
reread print (category.an_assignment h k l) = assignment_form (reread print h) (reread print k) (reread print l)
reread print (category.a_chain h k l) = binary_form wanted.Operator (reread print h) (reread print k) (plain_right_form (reread print l))
reread print (category.a_logical_chain h k l) = binary_form wanted.Logical (reread print h) (reread print k) (logical_right_form (reread print l))
reread print (category.a_place h) = (reread print h).expressed
reread print (category.a_place_name h) = name_form (reread print h)
reread print (category.a_place_field h) = field_form (reread print h)
reread print (category.a_member h k) = member_form (reread print h) (reread print k)
reread print (category.a_borrow h k) = borrow_form (reread print h) (reread print k)
reread print (category.a_try h k) = try_form (reread print h) (reread print k)
reread print (category.a_recover h k) = recover_form (reread print h) (reread print k)
reread print (category.a_recovered_block h) = recovered_block_form (reread print h)
reread print (category.a_recovered_value h) = recovered_value_form (reread print h)
reread print (category.a_member_call h k l) = member_call_form (reread print h) (reread print k) (reread print l)
reread print (category.a_tuple_item h k) = tuple_item_form (reread print h) (reread print k)
reread print (category.an_atom h) = atom_form (reread print h)
reread print (category.a_text e q h) = text_form (kept e) (reread print h)
reread print (category.a_call h k) = call_form (reread print h) (reread print k)
reread print (category.a_constructed h) = (reread print h).expressed
reread print (category.a_construction h k) = construction_form (reread print h) (reread print k)
reread print (category.a_constant h) = constant_form (reread print h)
reread print (category.a_qualified h k) = qualified_form (reread print h) (reread print k)
reread print (category.unnamed_arguments h) = unnamed_form (reread print h)
reread print (category.named_arguments h) = named_arguments_form (reread print h)
reread print (category.a_named h k) = named_form (reread print h) (reread print k)
reread print (category.a_pair h k l) = pair_form (reread print h) (reread print k) (reread print l)
reread print (category.a_triple h k l m) = triple_form (reread print h) (reread print k) (reread print l) (reread print m)
reread print (category.an_array h k) = array_form (reread print h) (reread print k)
reread print (category.a_conditional h) = (reread print h).expressed
reread print (category.an_if h k l m) = if_form (reread print h) (reread print k) (reread print l) (reread print m)
reread print (category.a_block_branch h) = block_branch_form (reread print h)
reread print (category.a_conditional_branch h) = (reread print h).branched
reread print (category.a_while h k l) = while_form (reread print h) (reread print k) (reread print l)
reread print (category.a_loop h k) = loop_form (reread print h) (reread print k)
reread print (category.a_match h k l) = match_form (reread print h) (reread print k) (reread print l)
reread print (category.an_arm h k l m) = arm_form (reread print h) (reread print k) (reread print l) (reread print m)
reread print (category.an_arm_block h) = arm_block_form (reread print h)
reread print (category.an_arm_value h) = arm_value_form (reread print h)
reread print category.no_text = no_item
reread print (category.text_part h e p) = one_more (reread print h) (text_part (kept e))
reread print (category.text_value h k) = one_more (reread print h) (text_value (reread print k))
reread print category.no_pattern_text = no_item
reread print (category.pattern_text_part h e p) = one_more (reread print h) (kept e)
reread print (category.an_alternative h) = alternative_form (reread print h)
reread print (category.alternatives h k) = either_form (reread print h) (reread print k)
reread print (category.a_pattern_atom h) = pattern_atom_form (reread print h)
reread print (category.a_pattern_text e q h) = pattern_text_form (kept e) (reread print h)
reread print (category.a_mutable_name h k) = mutable_name_form (reread print h) (reread print k)
reread print (category.a_constant_pattern h) = constant_pattern_form (reread print h)
reread print (category.a_constructor_pattern h k) = constructor_pattern_form (reread print h) (reread print k)
reread print (category.a_pair_pattern h k l) = pair_pattern_form (reread print h) (reread print k) (reread print l)
reread print (category.a_triple_pattern h k l m) = triple_pattern_form (reread print h) (reread print k) (reread print l) (reread print m)
reread print (category.field_patterns h k) = field_patterns_form (reread print h) (reread print k)
reread print (category.a_field_pattern h k) = field_pattern_form (reread print h) (reread print k)

-- the print of a module is read as the same tree
pub print_read : (source print : List ℕ) (tree : Tree) (ts : List Terminal) (end : Bool) → IsA source category.Module tree → Spells source print false (pieces tree) ts end → (other : Tree) × Parses ts other × Alike source print tree other
print_read source print tree ts end h k = let r = reread print h false end ts k in (r.value.tree, (r.value, r.kind, refl), r.alike)
