-- The language by cases, one for each way to write a part: which tokens are it, behind the values that were found just
-- before it, and what is found. Those values are a part's own: the last of them stands first.
use Rattle.std.specs.Prelude.{◌≡◌, true, false, List, [], ◌∷◌, ◌++◌}
use Rattle.ink_grammar.specs.declared.token.Keyword.{Keyword}
use Rattle.ink_grammar.specs.declared.token.Keyword.TheVariants as keyword
use Rattle.ink_grammar.specs.declared.token.Mark.{Mark}
use Rattle.ink_grammar.specs.declared.token.Mark.TheVariants as mark
use Rattle.ink_grammar.specs.declared.token.Shape.{Shape}
use Rattle.ink_grammar.specs.declared.token.Shape.TheVariants as shape
use Rattle.ink_grammar.specs.declared.token.Terminal.{Terminal}
use Rattle.ink_grammar.specs.declared.symbol.Line.{Line}
use Rattle.ink_grammar.specs.declared.symbol.Line.TheVariants as line
use Rattle.ink_grammar.specs.declared.symbol.Wanted.{Wanted}
use Rattle.ink_grammar.specs.declared.symbol.Wanted.TheVariants as wanted
use Rattle.ink_grammar.specs.declared.symbol.Nonterminal.{Nonterminal}
use Rattle.ink_grammar.specs.declared.tree.OneChild.TheVariants as one_of
use Rattle.ink_grammar.specs.declared.tree.TwoChildren.TheVariants as two_of
use Rattle.ink_grammar.specs.declared.tree.ThreeChildren.TheVariants as three_of
use Rattle.ink_grammar.specs.declared.tree.FourChildren.TheVariants as four_of
use Rattle.ink_grammar.specs.declared.tree.FiveChildren.TheVariants as five_of
use Rattle.ink_grammar.specs.Shapes.{same, is, stands}
use Rattle.ink_grammar.specs.Tree.{Found, leaf, no_items, nothing, in_parentheses, node_one, node_two, node_three, node_four, node_five}
use Rattle.ink_grammar.specs.Reads.{Opens}
use Rattle.ink_grammar.specs.Parts.{Module, Imports, Import, ImportPath, ImportNames, ImportName, ImportNamesRest, ImportNamesMore, Declarations, Declaration, TypeForm, ObjectForm, ObjectMembers, EnumMembers, FieldDeclaration, Constructor, OptionalPub, OptionalAsync, OptionalMut, MethodKind, TraitMethodKind, Methods, Method, Parameters, ParametersMore, ParametersRest, Parameter, MethodResult, TraitMethods, TraitMethod, ImplementedTrait, FullType, BareType, TupleTypeRest, TypeArguments, TypeArgumentsRest, TypeArgumentsMore, TypeParameters, TypeParametersRest, TypeParametersMore, TypeParameter, Bounds, BoundsRest, ConstructorTypes, ConstructorTypesRest, ConstructorTypesMore, Block, Statements, MoreStatements, Statement, Mutable, LetName, LetType, Expression, Jump, ReturnRest, AfterOperand, Chain, ChainRest, Operand, UnnamedOperand, RecoverRest, NameRest, Links, Link, LinkRest, ConstantRest, AfterConstant, QualifiedRest, Primary, TextRest, ParenthesisRest, TupleRest, Items, ItemsRest, Arguments, ArgumentsRest, ConstructorArguments, NamedOrNot, NamedRest, NamedMore, UnnamedExpression, Conditional, ElseRest, ElseBranch, Arms, Arm, Guard, ArmValue, Pattern, PatternRest, Alternative, PatternTextRest, ConstructorPatternRest, PatternsRest, PatternsMore, TuplePatternRest, FieldPattern, FieldPatternsRest, FieldPatternsMore}

-- The token is this keyword.
abbrev pub IsWord : Keyword → Terminal → Type 0
IsWord k t = same (shape.Keyword k) t.shape ≡ true

-- The token is this mark.
abbrev pub IsMark : Mark → Terminal → Type 0
IsMark m t = same (shape.Mark m) t.shape ≡ true

-- The token has this shape.
abbrev pub HasShape : Shape → Terminal → Type 0
HasShape x t = same x t.shape ≡ true

-- The token is one of several that are wanted.
abbrev pub IsOneOf : Wanted → Terminal → Type 0
IsOneOf w t = is w t.shape ≡ true

-- The token stands so.
abbrev pub StandsOn : Line → Terminal → Type 0
StandsOn l t = stands l t.new_line ≡ true

pub data Is : Nonterminal → List Found → List Terminal → Found → Type 0 where
  -- imports, declarations and their members
  is_module : (u0 : List Terminal) (v0 : Found) (u1 : List Terminal) (v1 : Found) → Is Imports (no_items ∷ []) u0 v0 → Is Declarations (no_items ∷ []) u1 v1 → Is Module [] (u0 ++ u1) (node_two two_of.Module v0 v1)
  is_imports_1 : {a : Found} (u0 : List Terminal) (v0 : Found) (u1 : List Terminal) (v1 : Found) → Is Import [] u0 v0 → Is Imports (node_two two_of.More a v0 ∷ []) u1 v1 → Is Imports (a ∷ []) (u0 ++ u1) v1
  is_imports_2 : {a : Found} → Is Imports (a ∷ []) [] a
  is_import : (t0 : Terminal) (t1 : Terminal) (u0 : List Terminal) (v0 : Found) (u1 : List Terminal) (v1 : Found) → IsWord keyword.Import t0 → HasShape shape.Name t1 → Is ImportPath (node_two two_of.More no_items (leaf t1) ∷ []) u0 v0 → Is ImportNames [] u1 v1 → Is Import [] (t0 ∷ (t1 ∷ (u0 ++ u1))) (node_three three_of.Import (leaf t0) v0 v1)
  is_import_path_1 : {a : Found} (t0 : Terminal) (t1 : Terminal) (u0 : List Terminal) (v0 : Found) → IsMark mark.Dot t0 → HasShape shape.Name t1 → Is ImportPath (node_two two_of.More a (leaf t1) ∷ []) u0 v0 → Is ImportPath (a ∷ []) (t0 ∷ (t1 ∷ u0)) v0
  is_import_path_2 : {a : Found} → Is ImportPath (a ∷ []) [] a
  is_import_names_1 : (t0 : Terminal) (u0 : List Terminal) (v0 : Found) (u1 : List Terminal) (v1 : Found) → IsMark mark.LeftParen t0 → Is ImportName [] u0 v0 → Is ImportNamesRest (node_two two_of.More no_items v0 ∷ []) u1 v1 → Is ImportNames [] (t0 ∷ (u0 ++ u1)) v1
  is_import_names_2 : Is ImportNames [] [] nothing
  is_import_name_1 : (t0 : Terminal) → HasShape shape.Name t0 → Is ImportName [] (t0 ∷ []) (leaf t0)
  is_import_name_2 : (t0 : Terminal) → HasShape shape.Constant t0 → Is ImportName [] (t0 ∷ []) (leaf t0)
  is_import_names_rest_1 : {a : Found} (t0 : Terminal) → IsMark mark.RightParen t0 → Is ImportNamesRest (a ∷ []) (t0 ∷ []) a
  is_import_names_rest_2 : {a : Found} (t0 : Terminal) (u0 : List Terminal) (v0 : Found) → IsMark mark.Comma t0 → Is ImportNamesMore (a ∷ []) u0 v0 → Is ImportNamesRest (a ∷ []) (t0 ∷ u0) v0
  is_import_names_more_1 : {a : Found} (t0 : Terminal) → IsMark mark.RightParen t0 → Is ImportNamesMore (a ∷ []) (t0 ∷ []) a
  is_import_names_more_2 : {a : Found} (u0 : List Terminal) (v0 : Found) (u1 : List Terminal) (v1 : Found) → Is ImportName [] u0 v0 → Is ImportNamesRest (node_two two_of.More a v0 ∷ []) u1 v1 → Is ImportNamesMore (a ∷ []) (u0 ++ u1) v1
  is_declarations_1 : {a : Found} (u0 : List Terminal) (v0 : Found) (u1 : List Terminal) (v1 : Found) → Is Declaration [] u0 v0 → Is Declarations (node_two two_of.More a v0 ∷ []) u1 v1 → Is Declarations (a ∷ []) (u0 ++ u1) v1
  is_declarations_2 : {a : Found} → Is Declarations (a ∷ []) [] a
  is_declaration_1 : (t0 : Terminal) (u0 : List Terminal) (v0 : Found) (u1 : List Terminal) (v1 : Found) → IsWord keyword.Type t0 → Is OptionalPub (no_items ∷ []) u0 v0 → Is TypeForm (v0 ∷ leaf t0 ∷ []) u1 v1 → Is Declaration [] (t0 ∷ (u0 ++ u1)) v1
  is_declaration_2 : (t0 : Terminal) (u0 : List Terminal) (v0 : Found) (t1 : Terminal) (t2 : Terminal) (u1 : List Terminal) (v1 : Found) (t3 : Terminal) → IsWord keyword.Trait t0 → Is OptionalPub (no_items ∷ []) u0 v0 → HasShape shape.Constant t1 → IsMark mark.LeftBrace t2 → Is TraitMethods (no_items ∷ []) u1 v1 → IsMark mark.RightBrace t3 → Is Declaration [] (t0 ∷ (u0 ++ (t1 ∷ (t2 ∷ (u1 ++ (t3 ∷ [])))))) (node_four four_of.Trait (leaf t0) v0 (leaf t1) v1)
  is_declaration_3 : (t0 : Terminal) (t1 : Terminal) (u0 : List Terminal) (v0 : Found) (t2 : Terminal) (u1 : List Terminal) (v1 : Found) (t3 : Terminal) → IsWord keyword.Impl t0 → HasShape shape.Constant t1 → Is ImplementedTrait [] u0 v0 → IsMark mark.LeftBrace t2 → Is Methods (no_items ∷ []) u1 v1 → IsMark mark.RightBrace t3 → Is Declaration [] (t0 ∷ (t1 ∷ (u0 ++ (t2 ∷ (u1 ++ (t3 ∷ [])))))) (node_four four_of.Implementation (leaf t0) (leaf t1) v0 v1)
  is_declaration_4 : (u0 : List Terminal) (v0 : Found) → Is Method [] u0 v0 → Is Declaration [] u0 v0
  is_type_form_1 : {a : Found} {b : Found} (t0 : Terminal) (t1 : Terminal) (u0 : List Terminal) (v0 : Found) (t2 : Terminal) (u1 : List Terminal) (v1 : Found) (t3 : Terminal) → IsWord keyword.Enum t0 → HasShape shape.Constant t1 → Is TypeParameters [] u0 v0 → IsMark mark.LeftBrace t2 → Is EnumMembers (no_items ∷ []) u1 v1 → IsMark mark.RightBrace t3 → Is TypeForm (b ∷ a ∷ []) (t0 ∷ (t1 ∷ (u0 ++ (t2 ∷ (u1 ++ (t3 ∷ [])))))) (node_five five_of.EnumDeclaration a b (leaf t1) v0 v1)
  is_type_form_2 : {a : Found} {b : Found} (t0 : Terminal) (u0 : List Terminal) (v0 : Found) → IsWord keyword.Async t0 → Is ObjectForm (node_two two_of.More b (leaf t0) ∷ a ∷ []) u0 v0 → Is TypeForm (b ∷ a ∷ []) (t0 ∷ u0) v0
  is_type_form_3 : {a : Found} {b : Found} (u0 : List Terminal) (v0 : Found) → Is ObjectForm (b ∷ a ∷ []) u0 v0 → Is TypeForm (b ∷ a ∷ []) u0 v0
  is_object_form : {a : Found} {b : Found} (t0 : Terminal) (u0 : List Terminal) (v0 : Found) (t1 : Terminal) (u1 : List Terminal) (v1 : Found) (t2 : Terminal) → HasShape shape.Constant t0 → Is TypeParameters [] u0 v0 → IsMark mark.LeftBrace t1 → Is ObjectMembers (no_items ∷ []) u1 v1 → IsMark mark.RightBrace t2 → Is ObjectForm (b ∷ a ∷ []) (t0 ∷ (u0 ++ (t1 ∷ (u1 ++ (t2 ∷ []))))) (node_five five_of.TypeDeclaration a b (leaf t0) v0 v1)
  is_object_members_1 : {a : Found} (u0 : List Terminal) (v0 : Found) (u1 : List Terminal) (v1 : Found) → Is FieldDeclaration [] u0 v0 → Is ObjectMembers (node_two two_of.More a v0 ∷ []) u1 v1 → Is ObjectMembers (a ∷ []) (u0 ++ u1) v1
  is_object_members_2 : {a : Found} (u0 : List Terminal) (v0 : Found) (u1 : List Terminal) (v1 : Found) → Is Method [] u0 v0 → Is ObjectMembers (node_two two_of.More a v0 ∷ []) u1 v1 → Is ObjectMembers (a ∷ []) (u0 ++ u1) v1
  is_object_members_3 : {a : Found} → Is ObjectMembers (a ∷ []) [] a
  is_enum_members_1 : {a : Found} (u0 : List Terminal) (v0 : Found) (u1 : List Terminal) (v1 : Found) → Is Constructor [] u0 v0 → Is EnumMembers (node_two two_of.More a v0 ∷ []) u1 v1 → Is EnumMembers (a ∷ []) (u0 ++ u1) v1
  is_enum_members_2 : {a : Found} (u0 : List Terminal) (v0 : Found) (u1 : List Terminal) (v1 : Found) → Is Method [] u0 v0 → Is EnumMembers (node_two two_of.More a v0 ∷ []) u1 v1 → Is EnumMembers (a ∷ []) (u0 ++ u1) v1
  is_enum_members_3 : {a : Found} → Is EnumMembers (a ∷ []) [] a
  is_field_declaration : (t0 : Terminal) (u0 : List Terminal) (v0 : Found) (u1 : List Terminal) (v1 : Found) (t1 : Terminal) (t2 : Terminal) (u2 : List Terminal) (v2 : Found) → IsWord keyword.Let t0 → Is OptionalPub (no_items ∷ []) u0 v0 → Is OptionalMut (v0 ∷ []) u1 v1 → HasShape shape.Field t1 → IsMark mark.Colon t2 → Is FullType [] u2 v2 → Is FieldDeclaration [] (t0 ∷ (u0 ++ (u1 ++ (t1 ∷ (t2 ∷ u2))))) (node_four four_of.FieldDeclaration (leaf t0) v1 (leaf t1) v2)
  is_constructor : (t0 : Terminal) (t1 : Terminal) (u0 : List Terminal) (v0 : Found) → IsWord keyword.Case t0 → HasShape shape.Constant t1 → Is ConstructorTypes [] u0 v0 → Is Constructor [] (t0 ∷ (t1 ∷ u0)) (node_three three_of.Constructor (leaf t0) (leaf t1) v0)
  is_trait_methods_1 : {a : Found} (u0 : List Terminal) (v0 : Found) (u1 : List Terminal) (v1 : Found) → Is TraitMethod [] u0 v0 → Is TraitMethods (node_two two_of.More a v0 ∷ []) u1 v1 → Is TraitMethods (a ∷ []) (u0 ++ u1) v1
  is_trait_methods_2 : {a : Found} → Is TraitMethods (a ∷ []) [] a
  is_trait_method : (t0 : Terminal) (u0 : List Terminal) (v0 : Found) (u1 : List Terminal) (v1 : Found) (t1 : Terminal) (u2 : List Terminal) (v2 : Found) (u3 : List Terminal) (v3 : Found) → IsWord keyword.Fn t0 → Is OptionalPub (no_items ∷ []) u0 v0 → Is TraitMethodKind (v0 ∷ []) u1 v1 → HasShape shape.Name t1 → Is Parameters [] u2 v2 → Is MethodResult [] u3 v3 → Is TraitMethod [] (t0 ∷ (u0 ++ (u1 ++ (t1 ∷ (u2 ++ u3))))) (node_five five_of.TraitMethod (leaf t0) v1 (leaf t1) v2 v3)
  is_implemented_trait_1 : (t0 : Terminal) (t1 : Terminal) → IsWord keyword.For t0 → HasShape shape.Constant t1 → Is ImplementedTrait [] (t0 ∷ (t1 ∷ [])) (leaf t1)
  is_implemented_trait_2 : Is ImplementedTrait [] [] nothing
  -- methods
  is_optional_pub_1 : {a : Found} (t0 : Terminal) → IsWord keyword.Pub t0 → Is OptionalPub (a ∷ []) (t0 ∷ []) (node_two two_of.More a (leaf t0))
  is_optional_pub_2 : {a : Found} → Is OptionalPub (a ∷ []) [] a
  is_optional_async_1 : {a : Found} (t0 : Terminal) → IsWord keyword.Async t0 → Is OptionalAsync (a ∷ []) (t0 ∷ []) (node_two two_of.More a (leaf t0))
  is_optional_async_2 : {a : Found} → Is OptionalAsync (a ∷ []) [] a
  is_optional_mut_1 : {a : Found} (t0 : Terminal) → IsWord keyword.Mut t0 → Is OptionalMut (a ∷ []) (t0 ∷ []) (node_two two_of.More a (leaf t0))
  is_optional_mut_2 : {a : Found} → Is OptionalMut (a ∷ []) [] a
  is_method_kind_1 : {a : Found} (t0 : Terminal) → IsWord keyword.Mut t0 → Is MethodKind (a ∷ []) (t0 ∷ []) (node_two two_of.More a (leaf t0))
  is_method_kind_2 : {a : Found} (t0 : Terminal) → IsWord keyword.Move t0 → Is MethodKind (a ∷ []) (t0 ∷ []) (node_two two_of.More a (leaf t0))
  is_method_kind_3 : {a : Found} (t0 : Terminal) → IsWord keyword.Static t0 → Is MethodKind (a ∷ []) (t0 ∷ []) (node_two two_of.More a (leaf t0))
  is_method_kind_4 : {a : Found} → Is MethodKind (a ∷ []) [] a
  is_trait_method_kind_1 : {a : Found} (t0 : Terminal) → IsWord keyword.Mut t0 → Is TraitMethodKind (a ∷ []) (t0 ∷ []) (node_two two_of.More a (leaf t0))
  is_trait_method_kind_2 : {a : Found} (t0 : Terminal) → IsWord keyword.Move t0 → Is TraitMethodKind (a ∷ []) (t0 ∷ []) (node_two two_of.More a (leaf t0))
  is_trait_method_kind_3 : {a : Found} → Is TraitMethodKind (a ∷ []) [] a
  is_methods_1 : {a : Found} (u0 : List Terminal) (v0 : Found) (u1 : List Terminal) (v1 : Found) → Is Method [] u0 v0 → Is Methods (node_two two_of.More a v0 ∷ []) u1 v1 → Is Methods (a ∷ []) (u0 ++ u1) v1
  is_methods_2 : {a : Found} → Is Methods (a ∷ []) [] a
  is_method : (t0 : Terminal) (u0 : List Terminal) (v0 : Found) (u1 : List Terminal) (v1 : Found) (u2 : List Terminal) (v2 : Found) (t1 : Terminal) (u3 : List Terminal) (v3 : Found) (u4 : List Terminal) (v4 : Found) (u5 : List Terminal) (v5 : Found) (u6 : List Terminal) (v6 : Found) → IsWord keyword.Fn t0 → Is OptionalPub (no_items ∷ []) u0 v0 → Is OptionalAsync (v0 ∷ []) u1 v1 → Is MethodKind (v1 ∷ []) u2 v2 → HasShape shape.Name t1 → Is TypeParameters [] u3 v3 → Is Parameters [] u4 v4 → Is MethodResult [] u5 v5 → Is Block [] u6 v6 → Is Method [] (t0 ∷ (u0 ++ (u1 ++ (u2 ++ (t1 ∷ (u3 ++ (u4 ++ (u5 ++ u6)))))))) (node_four four_of.Method (leaf t0) v2 (node_four four_of.Signature (leaf t1) v3 v4 v5) v6)
  is_parameters_1 : (t0 : Terminal) (u0 : List Terminal) (v0 : Found) → IsMark mark.LeftParen t0 → Is ParametersMore (no_items ∷ []) u0 v0 → Is Parameters [] (t0 ∷ u0) v0
  is_parameters_2 : Is Parameters [] [] nothing
  is_parameters_more_1 : {a : Found} (t0 : Terminal) → IsMark mark.RightParen t0 → Is ParametersMore (a ∷ []) (t0 ∷ []) a
  is_parameters_more_2 : {a : Found} (u0 : List Terminal) (v0 : Found) (u1 : List Terminal) (v1 : Found) → Is Parameter [] u0 v0 → Is ParametersRest (node_two two_of.More a v0 ∷ []) u1 v1 → Is ParametersMore (a ∷ []) (u0 ++ u1) v1
  is_parameters_rest_1 : {a : Found} (t0 : Terminal) → IsMark mark.RightParen t0 → Is ParametersRest (a ∷ []) (t0 ∷ []) a
  is_parameters_rest_2 : {a : Found} (t0 : Terminal) (u0 : List Terminal) (v0 : Found) → IsMark mark.Comma t0 → Is ParametersMore (a ∷ []) u0 v0 → Is ParametersRest (a ∷ []) (t0 ∷ u0) v0
  is_parameter : (t0 : Terminal) (t1 : Terminal) (u0 : List Terminal) (v0 : Found) → HasShape shape.Name t0 → IsMark mark.Colon t1 → Is FullType [] u0 v0 → Is Parameter [] (t0 ∷ (t1 ∷ u0)) (node_two two_of.Parameter (leaf t0) v0)
  is_method_result_1 : (t0 : Terminal) (u0 : List Terminal) (v0 : Found) → IsMark mark.Arrow t0 → Is FullType [] u0 v0 → Is MethodResult [] (t0 ∷ u0) v0
  is_method_result_2 : Is MethodResult [] [] nothing
  -- types
  is_full_type_1 : (t0 : Terminal) (u0 : List Terminal) (v0 : Found) → IsOneOf wanted.TypePrefix t0 → Is BareType [] u0 v0 → Is FullType [] (t0 ∷ u0) (node_two two_of.PrefixedType (leaf t0) v0)
  is_full_type_2 : (u0 : List Terminal) (v0 : Found) → Is BareType [] u0 v0 → Is FullType [] u0 v0
  is_bare_type_1 : (t0 : Terminal) (u0 : List Terminal) (v0 : Found) → HasShape shape.Constant t0 → Is TypeArguments [] u0 v0 → Is BareType [] (t0 ∷ u0) (node_two two_of.NamedType (leaf t0) v0)
  is_bare_type_2 : (t0 : Terminal) (u0 : List Terminal) (v0 : Found) (t1 : Terminal) (u1 : List Terminal) (v1 : Found) (u2 : List Terminal) (v2 : Found) → IsMark mark.LeftParen t0 → Is FullType [] u0 v0 → IsMark mark.Comma t1 → Is FullType [] u1 v1 → Is TupleTypeRest (v1 ∷ v0 ∷ leaf t0 ∷ []) u2 v2 → Is BareType [] (t0 ∷ (u0 ++ (t1 ∷ (u1 ++ u2)))) v2
  is_tuple_type_rest_1 : {a : Found} {b : Found} {c : Found} (t0 : Terminal) → IsMark mark.RightParen t0 → Is TupleTypeRest (c ∷ b ∷ a ∷ []) (t0 ∷ []) (node_three three_of.PairType a b c)
  is_tuple_type_rest_2 : {a : Found} {b : Found} {c : Found} (t0 : Terminal) (u0 : List Terminal) (v0 : Found) (t1 : Terminal) → IsMark mark.Comma t0 → Is FullType [] u0 v0 → IsMark mark.RightParen t1 → Is TupleTypeRest (c ∷ b ∷ a ∷ []) (t0 ∷ (u0 ++ (t1 ∷ []))) (node_four four_of.TripleType a b c v0)
  is_type_arguments_1 : (t0 : Terminal) (u0 : List Terminal) (v0 : Found) (u1 : List Terminal) (v1 : Found) → IsMark mark.LeftBracket t0 → Is FullType [] u0 v0 → Is TypeArgumentsRest (node_two two_of.More no_items v0 ∷ []) u1 v1 → Is TypeArguments [] (t0 ∷ (u0 ++ u1)) v1
  is_type_arguments_2 : Is TypeArguments [] [] nothing
  is_type_arguments_rest_1 : {a : Found} (t0 : Terminal) → IsMark mark.RightBracket t0 → Is TypeArgumentsRest (a ∷ []) (t0 ∷ []) a
  is_type_arguments_rest_2 : {a : Found} (t0 : Terminal) (u0 : List Terminal) (v0 : Found) → IsMark mark.Comma t0 → Is TypeArgumentsMore (a ∷ []) u0 v0 → Is TypeArgumentsRest (a ∷ []) (t0 ∷ u0) v0
  is_type_arguments_more_1 : {a : Found} (t0 : Terminal) → IsMark mark.RightBracket t0 → Is TypeArgumentsMore (a ∷ []) (t0 ∷ []) a
  is_type_arguments_more_2 : {a : Found} (u0 : List Terminal) (v0 : Found) (u1 : List Terminal) (v1 : Found) → Is FullType [] u0 v0 → Is TypeArgumentsRest (node_two two_of.More a v0 ∷ []) u1 v1 → Is TypeArgumentsMore (a ∷ []) (u0 ++ u1) v1
  is_type_parameters_1 : (t0 : Terminal) (u0 : List Terminal) (v0 : Found) (u1 : List Terminal) (v1 : Found) → IsMark mark.LeftBracket t0 → Is TypeParameter [] u0 v0 → Is TypeParametersRest (node_two two_of.More no_items v0 ∷ []) u1 v1 → Is TypeParameters [] (t0 ∷ (u0 ++ u1)) v1
  is_type_parameters_2 : Is TypeParameters [] [] nothing
  is_type_parameters_rest_1 : {a : Found} (t0 : Terminal) → IsMark mark.RightBracket t0 → Is TypeParametersRest (a ∷ []) (t0 ∷ []) a
  is_type_parameters_rest_2 : {a : Found} (t0 : Terminal) (u0 : List Terminal) (v0 : Found) → IsMark mark.Comma t0 → Is TypeParametersMore (a ∷ []) u0 v0 → Is TypeParametersRest (a ∷ []) (t0 ∷ u0) v0
  is_type_parameters_more_1 : {a : Found} (t0 : Terminal) → IsMark mark.RightBracket t0 → Is TypeParametersMore (a ∷ []) (t0 ∷ []) a
  is_type_parameters_more_2 : {a : Found} (u0 : List Terminal) (v0 : Found) (u1 : List Terminal) (v1 : Found) → Is TypeParameter [] u0 v0 → Is TypeParametersRest (node_two two_of.More a v0 ∷ []) u1 v1 → Is TypeParametersMore (a ∷ []) (u0 ++ u1) v1
  is_type_parameter : (t0 : Terminal) (u0 : List Terminal) (v0 : Found) → HasShape shape.Constant t0 → Is Bounds [] u0 v0 → Is TypeParameter [] (t0 ∷ u0) (node_two two_of.TypeParameter (leaf t0) v0)
  is_bounds_1 : (t0 : Terminal) (t1 : Terminal) (u0 : List Terminal) (v0 : Found) → IsMark mark.Colon t0 → HasShape shape.Constant t1 → Is BoundsRest (node_two two_of.More no_items (leaf t1) ∷ []) u0 v0 → Is Bounds [] (t0 ∷ (t1 ∷ u0)) v0
  is_bounds_2 : Is Bounds [] [] nothing
  is_bounds_rest_1 : {a : Found} (t0 : Terminal) (t1 : Terminal) (u0 : List Terminal) (v0 : Found) → IsMark mark.Plus t0 → HasShape shape.Constant t1 → Is BoundsRest (node_two two_of.More a (leaf t1) ∷ []) u0 v0 → Is BoundsRest (a ∷ []) (t0 ∷ (t1 ∷ u0)) v0
  is_bounds_rest_2 : {a : Found} → Is BoundsRest (a ∷ []) [] a
  is_constructor_types_1 : (t0 : Terminal) (u0 : List Terminal) (v0 : Found) (u1 : List Terminal) (v1 : Found) → IsMark mark.LeftParen t0 → Is FullType [] u0 v0 → Is ConstructorTypesRest (node_two two_of.More no_items v0 ∷ []) u1 v1 → Is ConstructorTypes [] (t0 ∷ (u0 ++ u1)) v1
  is_constructor_types_2 : Is ConstructorTypes [] [] nothing
  is_constructor_types_rest_1 : {a : Found} (t0 : Terminal) → IsMark mark.RightParen t0 → Is ConstructorTypesRest (a ∷ []) (t0 ∷ []) a
  is_constructor_types_rest_2 : {a : Found} (t0 : Terminal) (u0 : List Terminal) (v0 : Found) → IsMark mark.Comma t0 → Is ConstructorTypesMore (a ∷ []) u0 v0 → Is ConstructorTypesRest (a ∷ []) (t0 ∷ u0) v0
  is_constructor_types_more_1 : {a : Found} (t0 : Terminal) → IsMark mark.RightParen t0 → Is ConstructorTypesMore (a ∷ []) (t0 ∷ []) a
  is_constructor_types_more_2 : {a : Found} (u0 : List Terminal) (v0 : Found) (u1 : List Terminal) (v1 : Found) → Is FullType [] u0 v0 → Is ConstructorTypesRest (node_two two_of.More a v0 ∷ []) u1 v1 → Is ConstructorTypesMore (a ∷ []) (u0 ++ u1) v1
  -- blocks, statements and expressions
  is_block : (t0 : Terminal) (u0 : List Terminal) (v0 : Found) (t1 : Terminal) → IsMark mark.LeftBrace t0 → Is Statements (no_items ∷ []) u0 v0 → IsMark mark.RightBrace t1 → Is Block [] (t0 ∷ (u0 ++ (t1 ∷ []))) (node_three three_of.Block (leaf t0) v0 (leaf t1))
  is_statements_1 : {a : Found} (u0 : List Terminal) (v0 : Found) (u1 : List Terminal) (v1 : Found) → Is Statement [] u0 v0 → Is MoreStatements (node_two two_of.More a v0 ∷ []) u1 v1 → Is Statements (a ∷ []) (u0 ++ u1) v1
  is_statements_2 : {a : Found} → Is Statements (a ∷ []) [] a
  is_more_statements_1 : {a : Found} (u0 : List Terminal) (v0 : Found) (u1 : List Terminal) (v1 : Found) → Is Statement [] u0 v0 → Opens line.Fresh u0 → Is MoreStatements (node_two two_of.More a v0 ∷ []) u1 v1 → Is MoreStatements (a ∷ []) (u0 ++ u1) v1
  is_more_statements_2 : {a : Found} → Is MoreStatements (a ∷ []) [] a
  is_statement_1 : (t0 : Terminal) (u0 : List Terminal) (v0 : Found) (u1 : List Terminal) (v1 : Found) (u2 : List Terminal) (v2 : Found) (t1 : Terminal) (u3 : List Terminal) (v3 : Found) → IsWord keyword.Let t0 → Is Mutable [] u0 v0 → Is LetName [] u1 v1 → Is LetType [] u2 v2 → IsMark mark.Equals t1 → Is Expression [] u3 v3 → Is Statement [] (t0 ∷ (u0 ++ (u1 ++ (u2 ++ (t1 ∷ u3))))) (node_five five_of.Let (leaf t0) v0 v1 v2 v3)
  is_statement_2 : (u0 : List Terminal) (v0 : Found) → Is Expression [] u0 v0 → Is Statement [] u0 (node_one one_of.Statement v0)
  is_mutable_1 : (t0 : Terminal) → IsWord keyword.Mut t0 → Is Mutable [] (t0 ∷ []) (leaf t0)
  is_mutable_2 : Is Mutable [] [] nothing
  is_let_name_1 : (t0 : Terminal) → HasShape shape.Name t0 → Is LetName [] (t0 ∷ []) (leaf t0)
  is_let_name_2 : (t0 : Terminal) → HasShape shape.Underscore t0 → Is LetName [] (t0 ∷ []) (leaf t0)
  is_let_type_1 : (t0 : Terminal) (u0 : List Terminal) (v0 : Found) → IsMark mark.Colon t0 → Is FullType [] u0 v0 → Is LetType [] (t0 ∷ u0) v0
  is_let_type_2 : Is LetType [] [] nothing
  is_expression_1 : (u0 : List Terminal) (v0 : Found) → Is Jump [] u0 v0 → Is Expression [] u0 v0
  is_expression_2 : (u0 : List Terminal) (v0 : Found) (u1 : List Terminal) (v1 : Found) → Is Operand [] u0 v0 → Is AfterOperand (v0 ∷ []) u1 v1 → Is Expression [] (u0 ++ u1) v1
  is_jump_1 : (t0 : Terminal) (u0 : List Terminal) (v0 : Found) → IsWord keyword.Return t0 → Is ReturnRest (leaf t0 ∷ []) u0 v0 → Is Jump [] (t0 ∷ u0) v0
  is_jump_2 : (t0 : Terminal) (u0 : List Terminal) (v0 : Found) → IsWord keyword.Throw t0 → Is Expression [] u0 v0 → Is Jump [] (t0 ∷ u0) (node_two two_of.Throw (leaf t0) v0)
  is_jump_3 : (t0 : Terminal) → IsOneOf wanted.LoopJump t0 → Is Jump [] (t0 ∷ []) (leaf t0)
  is_return_rest_1 : {a : Found} (u0 : List Terminal) (v0 : Found) → Is Expression [] u0 v0 → Opens line.Same u0 → Is ReturnRest (a ∷ []) u0 (node_two two_of.Return a v0)
  is_return_rest_2 : {a : Found} → Is ReturnRest (a ∷ []) [] (node_two two_of.Return a nothing)
  is_after_operand_1 : {a : Found} (t0 : Terminal) (u0 : List Terminal) (v0 : Found) → a.is_place ≡ true → t0.new_line ≡ false → IsOneOf wanted.Setter t0 → Is Expression [] u0 v0 → Is AfterOperand (a ∷ []) (t0 ∷ u0) (node_three three_of.Assign a (leaf t0) v0)
  is_after_operand_2 : {a : Found} (u0 : List Terminal) (v0 : Found) → Is ChainRest (a ∷ []) u0 v0 → Is AfterOperand (a ∷ []) u0 v0
  is_chain : (u0 : List Terminal) (v0 : Found) (u1 : List Terminal) (v1 : Found) → Is Operand [] u0 v0 → Is ChainRest (v0 ∷ []) u1 v1 → Is Chain [] (u0 ++ u1) v1
  is_chain_rest_1 : {a : Found} (t0 : Terminal) (u0 : List Terminal) (v0 : Found) (u1 : List Terminal) (v1 : Found) → StandsOn line.Same t0 → IsOneOf wanted.Operator t0 → Is Operand [] u0 v0 → Is ChainRest (node_three three_of.Binary a (leaf t0) v0 ∷ []) u1 v1 → Is ChainRest (a ∷ []) (t0 ∷ (u0 ++ u1)) v1
  is_chain_rest_2 : {a : Found} (t0 : Terminal) (u0 : List Terminal) (v0 : Found) (u1 : List Terminal) (v1 : Found) → StandsOn line.Same t0 → IsOneOf wanted.Logical t0 → Is Operand [] u0 v0 → Is ChainRest (node_three three_of.Binary a (leaf t0) (node_one one_of.Statement v0) ∷ []) u1 v1 → Is ChainRest (a ∷ []) (t0 ∷ (u0 ++ u1)) v1
  is_chain_rest_3 : {a : Found} → Is ChainRest (a ∷ []) [] a
  is_unnamed_expression_1 : (u0 : List Terminal) (v0 : Found) → Is Jump [] u0 v0 → Is UnnamedExpression [] u0 v0
  is_unnamed_expression_2 : (u0 : List Terminal) (v0 : Found) (u1 : List Terminal) (v1 : Found) → Is UnnamedOperand [] u0 v0 → Is AfterOperand (v0 ∷ []) u1 v1 → Is UnnamedExpression [] (u0 ++ u1) v1
  is_conditional : (t0 : Terminal) (u0 : List Terminal) (v0 : Found) (u1 : List Terminal) (v1 : Found) (u2 : List Terminal) (v2 : Found) → IsWord keyword.If t0 → Is Chain [] u0 v0 → Is Block [] u1 v1 → Is ElseRest (v1 ∷ node_one one_of.Statement v0 ∷ leaf t0 ∷ []) u2 v2 → Is Conditional [] (t0 ∷ (u0 ++ (u1 ++ u2))) v2
  is_else_rest_1 : {a : Found} {b : Found} {c : Found} (t0 : Terminal) (u0 : List Terminal) (v0 : Found) → IsWord keyword.Else t0 → Is ElseBranch [] u0 v0 → Is ElseRest (c ∷ b ∷ a ∷ []) (t0 ∷ u0) (node_four four_of.If a b c v0)
  is_else_rest_2 : {a : Found} {b : Found} {c : Found} → Is ElseRest (c ∷ b ∷ a ∷ []) [] (node_four four_of.If a b c nothing)
  is_else_branch_1 : (u0 : List Terminal) (v0 : Found) → Is Block [] u0 v0 → Is ElseBranch [] u0 v0
  is_else_branch_2 : (u0 : List Terminal) (v0 : Found) → Is Conditional [] u0 v0 → Is ElseBranch [] u0 v0
  is_arms_1 : {a : Found} (u0 : List Terminal) (v0 : Found) (u1 : List Terminal) (v1 : Found) → Is Arm [] u0 v0 → Is Arms (node_two two_of.More a v0 ∷ []) u1 v1 → Is Arms (a ∷ []) (u0 ++ u1) v1
  is_arms_2 : {a : Found} → Is Arms (a ∷ []) [] a
  is_arm : (t0 : Terminal) (u0 : List Terminal) (v0 : Found) (u1 : List Terminal) (v1 : Found) (t1 : Terminal) (u2 : List Terminal) (v2 : Found) → IsWord keyword.Case t0 → Is Pattern [] u0 v0 → Is Guard [] u1 v1 → IsMark mark.Arrow t1 → Is ArmValue [] u2 v2 → Is Arm [] (t0 ∷ (u0 ++ (u1 ++ (t1 ∷ u2)))) (node_four four_of.Arm (leaf t0) v0 v1 v2)
  is_guard_1 : (t0 : Terminal) (u0 : List Terminal) (v0 : Found) → IsWord keyword.If t0 → Is Chain [] u0 v0 → Is Guard [] (t0 ∷ u0) (node_one one_of.Statement v0)
  is_guard_2 : Is Guard [] [] nothing
  is_arm_value_1 : (u0 : List Terminal) (v0 : Found) → Is Block [] u0 v0 → Is ArmValue [] u0 v0
  is_arm_value_2 : (u0 : List Terminal) (v0 : Found) → Is Expression [] u0 v0 → Is ArmValue [] u0 (node_one one_of.Statement v0)
  -- operands
  is_operand_1 : (t0 : Terminal) (u0 : List Terminal) (v0 : Found) (u1 : List Terminal) (v1 : Found) → HasShape shape.Name t0 → Is NameRest (leaf t0 ∷ []) u0 v0 → Is Links (v0 ∷ []) u1 v1 → Is Operand [] (t0 ∷ (u0 ++ u1)) v1
  is_operand_2 : (u0 : List Terminal) (v0 : Found) → Is UnnamedOperand [] u0 v0 → Is Operand [] u0 v0
  is_unnamed_operand_1 : (t0 : Terminal) (u0 : List Terminal) (v0 : Found) → IsOneOf wanted.BorrowWord t0 → Is Operand [] u0 v0 → Is UnnamedOperand [] (t0 ∷ u0) (node_two two_of.Borrow (leaf t0) v0)
  is_unnamed_operand_2 : (t0 : Terminal) (u0 : List Terminal) (v0 : Found) → IsWord keyword.Try t0 → Is Operand [] u0 v0 → Is UnnamedOperand [] (t0 ∷ u0) (node_two two_of.Try (leaf t0) v0)
  is_unnamed_operand_3 : (t0 : Terminal) (u0 : List Terminal) (v0 : Found) → IsWord keyword.Recover t0 → Is RecoverRest (leaf t0 ∷ []) u0 v0 → Is UnnamedOperand [] (t0 ∷ u0) v0
  is_unnamed_operand_4 : (t0 : Terminal) (u0 : List Terminal) (v0 : Found) → HasShape shape.Constant t0 → Is ConstantRest (leaf t0 ∷ []) u0 v0 → Is UnnamedOperand [] (t0 ∷ u0) v0
  is_unnamed_operand_5 : (u0 : List Terminal) (v0 : Found) (u1 : List Terminal) (v1 : Found) → Is Primary [] u0 v0 → Is Links (v0 ∷ []) u1 v1 → Is UnnamedOperand [] (u0 ++ u1) v1
  is_recover_rest_1 : {a : Found} (u0 : List Terminal) (v0 : Found) → Is Block [] u0 v0 → Is RecoverRest (a ∷ []) u0 (node_two two_of.Recover a v0)
  is_recover_rest_2 : {a : Found} (u0 : List Terminal) (v0 : Found) → Is Operand [] u0 v0 → Is RecoverRest (a ∷ []) u0 (node_two two_of.Recover a (node_one one_of.Statement v0))
  is_name_rest_1 : {a : Found} (t0 : Terminal) (u0 : List Terminal) (v0 : Found) → StandsOn line.Same t0 → IsMark mark.LeftParen t0 → Is Arguments (no_items ∷ []) u0 v0 → Is NameRest (a ∷ []) (t0 ∷ u0) (node_two two_of.Call a v0)
  is_name_rest_2 : {a : Found} → Is NameRest (a ∷ []) [] a
  is_links_1 : {a : Found} (t0 : Terminal) (u0 : List Terminal) (v0 : Found) (u1 : List Terminal) (v1 : Found) → IsMark mark.Dot t0 → Is Link (a ∷ []) u0 v0 → Is Links (v0 ∷ []) u1 v1 → Is Links (a ∷ []) (t0 ∷ (u0 ++ u1)) v1
  is_links_2 : {a : Found} → Is Links (a ∷ []) [] a
  is_link_1 : {a : Found} (t0 : Terminal) (u0 : List Terminal) (v0 : Found) → IsOneOf wanted.LinkName t0 → Is LinkRest (leaf t0 ∷ a ∷ []) u0 v0 → Is Link (a ∷ []) (t0 ∷ u0) v0
  is_link_2 : {a : Found} (t0 : Terminal) → HasShape shape.Integer t0 → Is Link (a ∷ []) (t0 ∷ []) (node_two two_of.TupleItem a (leaf t0))
  is_link_rest_1 : {a : Found} {b : Found} (t0 : Terminal) (u0 : List Terminal) (v0 : Found) → StandsOn line.Same t0 → IsMark mark.LeftParen t0 → Is Arguments (no_items ∷ []) u0 v0 → Is LinkRest (b ∷ a ∷ []) (t0 ∷ u0) (node_three three_of.MemberCall a b v0)
  is_link_rest_2 : {a : Found} {b : Found} → Is LinkRest (b ∷ a ∷ []) [] (node_two two_of.Member a b)
  is_constant_rest_1 : {a : Found} (t0 : Terminal) (u0 : List Terminal) (v0 : Found) (u1 : List Terminal) (v1 : Found) → StandsOn line.Same t0 → IsMark mark.LeftParen t0 → Is ConstructorArguments (no_items ∷ []) u0 v0 → Is Links (node_two two_of.Construct a v0 ∷ []) u1 v1 → Is ConstantRest (a ∷ []) (t0 ∷ (u0 ++ u1)) v1
  is_constant_rest_2 : {a : Found} (t0 : Terminal) (u0 : List Terminal) (v0 : Found) → IsMark mark.Dot t0 → Is AfterConstant (a ∷ []) u0 v0 → Is ConstantRest (a ∷ []) (t0 ∷ u0) v0
  is_constant_rest_3 : {a : Found} → Is ConstantRest (a ∷ []) [] a
  is_after_constant_1 : {a : Found} (t0 : Terminal) (u0 : List Terminal) (v0 : Found) (u1 : List Terminal) (v1 : Found) → HasShape shape.Constant t0 → Is QualifiedRest (node_two two_of.Qualified a (leaf t0) ∷ []) u0 v0 → Is Links (v0 ∷ []) u1 v1 → Is AfterConstant (a ∷ []) (t0 ∷ (u0 ++ u1)) v1
  is_after_constant_2 : {a : Found} (u0 : List Terminal) (v0 : Found) (u1 : List Terminal) (v1 : Found) → Is Link (a ∷ []) u0 v0 → Is Links (v0 ∷ []) u1 v1 → Is AfterConstant (a ∷ []) (u0 ++ u1) v1
  is_qualified_rest_1 : {a : Found} (t0 : Terminal) (u0 : List Terminal) (v0 : Found) → StandsOn line.Same t0 → IsMark mark.LeftParen t0 → Is ConstructorArguments (no_items ∷ []) u0 v0 → Is QualifiedRest (a ∷ []) (t0 ∷ u0) (node_two two_of.Construct a v0)
  is_qualified_rest_2 : {a : Found} → Is QualifiedRest (a ∷ []) [] a
  is_primary_1 : (t0 : Terminal) → IsOneOf wanted.Atom t0 → Is Primary [] (t0 ∷ []) (leaf t0)
  is_primary_2 : (t0 : Terminal) (u0 : List Terminal) (v0 : Found) → HasShape shape.Quote t0 → Is TextRest (no_items ∷ []) u0 v0 → Is Primary [] (t0 ∷ u0) (node_two two_of.Text (leaf t0) v0)
  is_primary_3 : (t0 : Terminal) (u0 : List Terminal) (v0 : Found) (u1 : List Terminal) (v1 : Found) → IsMark mark.LeftParen t0 → Is Expression [] u0 v0 → Is ParenthesisRest (v0 ∷ leaf t0 ∷ []) u1 v1 → Is Primary [] (t0 ∷ (u0 ++ u1)) v1
  is_primary_4 : (t0 : Terminal) (u0 : List Terminal) (v0 : Found) → IsMark mark.LeftBracket t0 → Is Items (no_items ∷ []) u0 v0 → Is Primary [] (t0 ∷ u0) (node_two two_of.Array (leaf t0) v0)
  is_primary_5 : (u0 : List Terminal) (v0 : Found) → Is Conditional [] u0 v0 → Is Primary [] u0 v0
  is_primary_6 : (t0 : Terminal) (u0 : List Terminal) (v0 : Found) (u1 : List Terminal) (v1 : Found) → IsWord keyword.While t0 → Is Chain [] u0 v0 → Is Block [] u1 v1 → Is Primary [] (t0 ∷ (u0 ++ u1)) (node_three three_of.While (leaf t0) (node_one one_of.Statement v0) v1)
  is_primary_7 : (t0 : Terminal) (u0 : List Terminal) (v0 : Found) → IsWord keyword.Loop t0 → Is Block [] u0 v0 → Is Primary [] (t0 ∷ u0) (node_two two_of.Loop (leaf t0) v0)
  is_primary_8 : (t0 : Terminal) (u0 : List Terminal) (v0 : Found) (t1 : Terminal) (u1 : List Terminal) (v1 : Found) (u2 : List Terminal) (v2 : Found) (t2 : Terminal) → IsWord keyword.Match t0 → Is Chain [] u0 v0 → IsMark mark.LeftBrace t1 → Is Arm [] u1 v1 → Is Arms (node_two two_of.More no_items v1 ∷ []) u2 v2 → IsMark mark.RightBrace t2 → Is Primary [] (t0 ∷ (u0 ++ (t1 ∷ (u1 ++ (u2 ++ (t2 ∷ [])))))) (node_three three_of.Match (leaf t0) (node_one one_of.Statement v0) v2)
  is_text_rest_1 : {a : Found} (t0 : Terminal) → HasShape shape.Quote t0 → Is TextRest (a ∷ []) (t0 ∷ []) a
  is_text_rest_2 : {a : Found} (t0 : Terminal) (u0 : List Terminal) (v0 : Found) → HasShape shape.TextPart t0 → Is TextRest (node_two two_of.More a (leaf t0) ∷ []) u0 v0 → Is TextRest (a ∷ []) (t0 ∷ u0) v0
  is_text_rest_3 : {a : Found} (t0 : Terminal) (u0 : List Terminal) (v0 : Found) (t1 : Terminal) (u1 : List Terminal) (v1 : Found) → HasShape shape.Opening t0 → Is Expression [] u0 v0 → HasShape shape.Closing t1 → Is TextRest (node_two two_of.More a v0 ∷ []) u1 v1 → Is TextRest (a ∷ []) (t0 ∷ (u0 ++ (t1 ∷ u1))) v1
  is_parenthesis_rest_1 : {a : Found} {b : Found} (t0 : Terminal) → IsMark mark.RightParen t0 → Is ParenthesisRest (b ∷ a ∷ []) (t0 ∷ []) (in_parentheses a b)
  is_parenthesis_rest_2 : {a : Found} {b : Found} (t0 : Terminal) (u0 : List Terminal) (v0 : Found) (u1 : List Terminal) (v1 : Found) → IsMark mark.Comma t0 → Is Expression [] u0 v0 → Is TupleRest (v0 ∷ b ∷ a ∷ []) u1 v1 → Is ParenthesisRest (b ∷ a ∷ []) (t0 ∷ (u0 ++ u1)) v1
  is_tuple_rest_1 : {a : Found} {b : Found} {c : Found} (t0 : Terminal) → IsMark mark.RightParen t0 → Is TupleRest (c ∷ b ∷ a ∷ []) (t0 ∷ []) (node_three three_of.Pair a b c)
  is_tuple_rest_2 : {a : Found} {b : Found} {c : Found} (t0 : Terminal) (u0 : List Terminal) (v0 : Found) (t1 : Terminal) → IsMark mark.Comma t0 → Is Expression [] u0 v0 → IsMark mark.RightParen t1 → Is TupleRest (c ∷ b ∷ a ∷ []) (t0 ∷ (u0 ++ (t1 ∷ []))) (node_four four_of.Triple a b c v0)
  is_items_1 : {a : Found} (t0 : Terminal) → IsMark mark.RightBracket t0 → Is Items (a ∷ []) (t0 ∷ []) a
  is_items_2 : {a : Found} (u0 : List Terminal) (v0 : Found) (u1 : List Terminal) (v1 : Found) → Is Expression [] u0 v0 → Is ItemsRest (node_two two_of.More a v0 ∷ []) u1 v1 → Is Items (a ∷ []) (u0 ++ u1) v1
  is_items_rest_1 : {a : Found} (t0 : Terminal) → IsMark mark.RightBracket t0 → Is ItemsRest (a ∷ []) (t0 ∷ []) a
  is_items_rest_2 : {a : Found} (t0 : Terminal) (u0 : List Terminal) (v0 : Found) → IsMark mark.Comma t0 → Is Items (a ∷ []) u0 v0 → Is ItemsRest (a ∷ []) (t0 ∷ u0) v0
  is_arguments_1 : {a : Found} (t0 : Terminal) → IsMark mark.RightParen t0 → Is Arguments (a ∷ []) (t0 ∷ []) a
  is_arguments_2 : {a : Found} (u0 : List Terminal) (v0 : Found) (u1 : List Terminal) (v1 : Found) → Is Expression [] u0 v0 → Is ArgumentsRest (node_two two_of.More a v0 ∷ []) u1 v1 → Is Arguments (a ∷ []) (u0 ++ u1) v1
  is_arguments_rest_1 : {a : Found} (t0 : Terminal) → IsMark mark.RightParen t0 → Is ArgumentsRest (a ∷ []) (t0 ∷ []) a
  is_arguments_rest_2 : {a : Found} (t0 : Terminal) (u0 : List Terminal) (v0 : Found) → IsMark mark.Comma t0 → Is Arguments (a ∷ []) u0 v0 → Is ArgumentsRest (a ∷ []) (t0 ∷ u0) v0
  is_constructor_arguments_1 : {a : Found} (t0 : Terminal) → IsMark mark.RightParen t0 → Is ConstructorArguments (a ∷ []) (t0 ∷ []) a
  is_constructor_arguments_2 : {a : Found} (t0 : Terminal) (u0 : List Terminal) (v0 : Found) → HasShape shape.Name t0 → Is NamedOrNot (leaf t0 ∷ a ∷ []) u0 v0 → Is ConstructorArguments (a ∷ []) (t0 ∷ u0) v0
  is_constructor_arguments_3 : {a : Found} (u0 : List Terminal) (v0 : Found) (u1 : List Terminal) (v1 : Found) → Is UnnamedExpression [] u0 v0 → Is ArgumentsRest (node_two two_of.More a v0 ∷ []) u1 v1 → Is ConstructorArguments (a ∷ []) (u0 ++ u1) v1
  is_named_or_not_1 : {a : Found} {b : Found} (t0 : Terminal) (u0 : List Terminal) (v0 : Found) (u1 : List Terminal) (v1 : Found) → IsMark mark.Colon t0 → Is Expression [] u0 v0 → Is NamedRest (node_two two_of.More a (node_two two_of.Named b v0) ∷ []) u1 v1 → Is NamedOrNot (b ∷ a ∷ []) (t0 ∷ (u0 ++ u1)) v1
  is_named_or_not_2 : {a : Found} {b : Found} (u0 : List Terminal) (v0 : Found) (u1 : List Terminal) (v1 : Found) (u2 : List Terminal) (v2 : Found) (u3 : List Terminal) (v3 : Found) → Is NameRest (b ∷ []) u0 v0 → Is Links (v0 ∷ []) u1 v1 → Is AfterOperand (v1 ∷ []) u2 v2 → Is ArgumentsRest (node_two two_of.More a v2 ∷ []) u3 v3 → Is NamedOrNot (b ∷ a ∷ []) (u0 ++ (u1 ++ (u2 ++ u3))) v3
  is_named_rest_1 : {a : Found} (t0 : Terminal) → IsMark mark.RightParen t0 → Is NamedRest (a ∷ []) (t0 ∷ []) a
  is_named_rest_2 : {a : Found} (t0 : Terminal) (u0 : List Terminal) (v0 : Found) → IsMark mark.Comma t0 → Is NamedMore (a ∷ []) u0 v0 → Is NamedRest (a ∷ []) (t0 ∷ u0) v0
  is_named_more_1 : {a : Found} (t0 : Terminal) → IsMark mark.RightParen t0 → Is NamedMore (a ∷ []) (t0 ∷ []) a
  is_named_more_2 : {a : Found} (t0 : Terminal) (t1 : Terminal) (u0 : List Terminal) (v0 : Found) (u1 : List Terminal) (v1 : Found) → HasShape shape.Name t0 → IsMark mark.Colon t1 → Is Expression [] u0 v0 → Is NamedRest (node_two two_of.More a (node_two two_of.Named (leaf t0) v0) ∷ []) u1 v1 → Is NamedMore (a ∷ []) (t0 ∷ (t1 ∷ (u0 ++ u1))) v1
  -- patterns
  is_pattern : (u0 : List Terminal) (v0 : Found) (u1 : List Terminal) (v1 : Found) → Is Alternative [] u0 v0 → Is PatternRest (v0 ∷ []) u1 v1 → Is Pattern [] (u0 ++ u1) v1
  is_alternative_1 : (t0 : Terminal) → IsOneOf wanted.PatternAtom t0 → Is Alternative [] (t0 ∷ []) (leaf t0)
  is_alternative_2 : (t0 : Terminal) (u0 : List Terminal) (v0 : Found) → HasShape shape.Quote t0 → Is PatternTextRest (no_items ∷ []) u0 v0 → Is Alternative [] (t0 ∷ u0) (node_two two_of.Text (leaf t0) v0)
  is_alternative_3 : (t0 : Terminal) (t1 : Terminal) → IsWord keyword.Mut t0 → HasShape shape.Name t1 → Is Alternative [] (t0 ∷ (t1 ∷ [])) (node_two two_of.MutableName (leaf t0) (leaf t1))
  is_alternative_4 : (t0 : Terminal) (u0 : List Terminal) (v0 : Found) → HasShape shape.Constant t0 → Is ConstructorPatternRest (leaf t0 ∷ []) u0 v0 → Is Alternative [] (t0 ∷ u0) v0
  is_alternative_5 : (t0 : Terminal) (u0 : List Terminal) (v0 : Found) (t1 : Terminal) (u1 : List Terminal) (v1 : Found) (u2 : List Terminal) (v2 : Found) → IsMark mark.LeftParen t0 → Is Pattern [] u0 v0 → IsMark mark.Comma t1 → Is Pattern [] u1 v1 → Is TuplePatternRest (v1 ∷ v0 ∷ leaf t0 ∷ []) u2 v2 → Is Alternative [] (t0 ∷ (u0 ++ (t1 ∷ (u1 ++ u2)))) v2
  is_alternative_6 : (t0 : Terminal) (u0 : List Terminal) (v0 : Found) (u1 : List Terminal) (v1 : Found) → IsMark mark.LeftBrace t0 → Is FieldPattern [] u0 v0 → Is FieldPatternsRest (node_two two_of.More no_items v0 ∷ []) u1 v1 → Is Alternative [] (t0 ∷ (u0 ++ u1)) (node_two two_of.FieldPatterns (leaf t0) v1)
  is_pattern_rest_1 : {a : Found} (t0 : Terminal) (u0 : List Terminal) (v0 : Found) (u1 : List Terminal) (v1 : Found) → IsWord keyword.Or t0 → Is Alternative [] u0 v0 → Is PatternRest (node_two two_of.Either a v0 ∷ []) u1 v1 → Is PatternRest (a ∷ []) (t0 ∷ (u0 ++ u1)) v1
  is_pattern_rest_2 : {a : Found} → Is PatternRest (a ∷ []) [] a
  is_pattern_text_rest_1 : {a : Found} (t0 : Terminal) → HasShape shape.Quote t0 → Is PatternTextRest (a ∷ []) (t0 ∷ []) a
  is_pattern_text_rest_2 : {a : Found} (t0 : Terminal) (u0 : List Terminal) (v0 : Found) → HasShape shape.TextPart t0 → Is PatternTextRest (node_two two_of.More a (leaf t0) ∷ []) u0 v0 → Is PatternTextRest (a ∷ []) (t0 ∷ u0) v0
  is_constructor_pattern_rest_1 : {a : Found} (t0 : Terminal) (u0 : List Terminal) (v0 : Found) (u1 : List Terminal) (v1 : Found) → IsMark mark.LeftParen t0 → Is Pattern [] u0 v0 → Is PatternsRest (node_two two_of.More no_items v0 ∷ []) u1 v1 → Is ConstructorPatternRest (a ∷ []) (t0 ∷ (u0 ++ u1)) (node_two two_of.ConstructorPattern a v1)
  is_constructor_pattern_rest_2 : {a : Found} → Is ConstructorPatternRest (a ∷ []) [] a
  is_patterns_rest_1 : {a : Found} (t0 : Terminal) → IsMark mark.RightParen t0 → Is PatternsRest (a ∷ []) (t0 ∷ []) a
  is_patterns_rest_2 : {a : Found} (t0 : Terminal) (u0 : List Terminal) (v0 : Found) → IsMark mark.Comma t0 → Is PatternsMore (a ∷ []) u0 v0 → Is PatternsRest (a ∷ []) (t0 ∷ u0) v0
  is_patterns_more_1 : {a : Found} (t0 : Terminal) → IsMark mark.RightParen t0 → Is PatternsMore (a ∷ []) (t0 ∷ []) a
  is_patterns_more_2 : {a : Found} (u0 : List Terminal) (v0 : Found) (u1 : List Terminal) (v1 : Found) → Is Pattern [] u0 v0 → Is PatternsRest (node_two two_of.More a v0 ∷ []) u1 v1 → Is PatternsMore (a ∷ []) (u0 ++ u1) v1
  is_tuple_pattern_rest_1 : {a : Found} {b : Found} {c : Found} (t0 : Terminal) → IsMark mark.RightParen t0 → Is TuplePatternRest (c ∷ b ∷ a ∷ []) (t0 ∷ []) (node_three three_of.PairPattern a b c)
  is_tuple_pattern_rest_2 : {a : Found} {b : Found} {c : Found} (t0 : Terminal) (u0 : List Terminal) (v0 : Found) (t1 : Terminal) → IsMark mark.Comma t0 → Is Pattern [] u0 v0 → IsMark mark.RightParen t1 → Is TuplePatternRest (c ∷ b ∷ a ∷ []) (t0 ∷ (u0 ++ (t1 ∷ []))) (node_four four_of.TriplePattern a b c v0)
  is_field_pattern : (t0 : Terminal) (t1 : Terminal) (u0 : List Terminal) (v0 : Found) → HasShape shape.Field t0 → IsMark mark.Equals t1 → Is Pattern [] u0 v0 → Is FieldPattern [] (t0 ∷ (t1 ∷ u0)) (node_two two_of.FieldPattern (leaf t0) v0)
  is_field_patterns_rest_1 : {a : Found} (t0 : Terminal) → IsMark mark.RightBrace t0 → Is FieldPatternsRest (a ∷ []) (t0 ∷ []) a
  is_field_patterns_rest_2 : {a : Found} (t0 : Terminal) (u0 : List Terminal) (v0 : Found) → IsMark mark.Comma t0 → Is FieldPatternsMore (a ∷ []) u0 v0 → Is FieldPatternsRest (a ∷ []) (t0 ∷ u0) v0
  is_field_patterns_more_1 : {a : Found} (t0 : Terminal) → IsMark mark.RightBrace t0 → Is FieldPatternsMore (a ∷ []) (t0 ∷ []) a
  is_field_patterns_more_2 : {a : Found} (u0 : List Terminal) (v0 : Found) (u1 : List Terminal) (v1 : Found) → Is FieldPattern [] u0 v0 → Is FieldPatternsRest (node_two two_of.More a v0 ∷ []) u1 v1 → Is FieldPatternsMore (a ∷ []) (u0 ++ u1) v1
