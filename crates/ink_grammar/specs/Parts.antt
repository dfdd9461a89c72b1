-- The parts by their names.
use Rattle.ink_grammar.specs.declared.symbol.Nonterminal.{Nonterminal}
use Rattle.ink_grammar.specs.declared.symbol.Nonterminal.TheVariants as part_of
use Rattle.ink_grammar.specs.declared.symbol.ModulePart.TheVariants as module_of
use Rattle.ink_grammar.specs.declared.symbol.MethodPart.TheVariants as method_of
use Rattle.ink_grammar.specs.declared.symbol.TypePart.TheVariants as type_of
use Rattle.ink_grammar.specs.declared.symbol.StatementPart.TheVariants as statement_of
use Rattle.ink_grammar.specs.declared.symbol.OperandPart.TheVariants as operand_of
use Rattle.ink_grammar.specs.declared.symbol.PatternPart.TheVariants as pattern_of

-- imports, declarations and their members
abbrev pub Module : Nonterminal
Module = part_of.Module module_of.Module

abbrev pub Imports : Nonterminal
Imports = part_of.Module module_of.Imports

abbrev pub Import : Nonterminal
Import = part_of.Module module_of.Import

abbrev pub ImportPath : Nonterminal
ImportPath = part_of.Module module_of.ImportPath

abbrev pub ImportNames : Nonterminal
ImportNames = part_of.Module module_of.ImportNames

abbrev pub ImportName : Nonterminal
ImportName = part_of.Module module_of.ImportName

abbrev pub ImportNamesRest : Nonterminal
ImportNamesRest = part_of.Module module_of.ImportNamesRest

abbrev pub ImportNamesMore : Nonterminal
ImportNamesMore = part_of.Module module_of.ImportNamesMore

abbrev pub Declarations : Nonterminal
Declarations = part_of.Module module_of.Declarations

abbrev pub Declaration : Nonterminal
Declaration = part_of.Module module_of.Declaration

abbrev pub TypeForm : Nonterminal
TypeForm = part_of.Module module_of.TypeForm

abbrev pub ObjectForm : Nonterminal
ObjectForm = part_of.Module module_of.ObjectForm

abbrev pub ObjectMembers : Nonterminal
ObjectMembers = part_of.Module module_of.ObjectMembers

abbrev pub EnumMembers : Nonterminal
EnumMembers = part_of.Module module_of.EnumMembers

abbrev pub FieldDeclaration : Nonterminal
FieldDeclaration = part_of.Module module_of.FieldDeclaration

abbrev pub Constructor : Nonterminal
Constructor = part_of.Module module_of.Constructor

abbrev pub TraitMethods : Nonterminal
TraitMethods = part_of.Module module_of.TraitMethods

abbrev pub TraitMethod : Nonterminal
TraitMethod = part_of.Module module_of.TraitMethod

abbrev pub ImplementedTrait : Nonterminal
ImplementedTrait = part_of.Module module_of.ImplementedTrait

-- methods
abbrev pub OptionalPub : Nonterminal
OptionalPub = part_of.Method method_of.OptionalPub

abbrev pub OptionalAsync : Nonterminal
OptionalAsync = part_of.Method method_of.OptionalAsync

abbrev pub OptionalMut : Nonterminal
OptionalMut = part_of.Method method_of.OptionalMut

abbrev pub MethodKind : Nonterminal
MethodKind = part_of.Method method_of.MethodKind

abbrev pub TraitMethodKind : Nonterminal
TraitMethodKind = part_of.Method method_of.TraitMethodKind

abbrev pub Methods : Nonterminal
Methods = part_of.Method method_of.Methods

abbrev pub Method : Nonterminal
Method = part_of.Method method_of.Method

abbrev pub Parameters : Nonterminal
Parameters = part_of.Method method_of.Parameters

abbrev pub ParametersMore : Nonterminal
ParametersMore = part_of.Method method_of.ParametersMore

abbrev pub ParametersRest : Nonterminal
ParametersRest = part_of.Method method_of.ParametersRest

abbrev pub Parameter : Nonterminal
Parameter = part_of.Method method_of.Parameter

abbrev pub MethodResult : Nonterminal
MethodResult = part_of.Method method_of.MethodResult

-- types
abbrev pub FullType : Nonterminal
FullType = part_of.Type type_of.FullType

abbrev pub BareType : Nonterminal
BareType = part_of.Type type_of.BareType

abbrev pub TupleTypeRest : Nonterminal
TupleTypeRest = part_of.Type type_of.TupleTypeRest

abbrev pub TypeArguments : Nonterminal
TypeArguments = part_of.Type type_of.TypeArguments

abbrev pub TypeArgumentsRest : Nonterminal
TypeArgumentsRest = part_of.Type type_of.TypeArgumentsRest

abbrev pub TypeArgumentsMore : Nonterminal
TypeArgumentsMore = part_of.Type type_of.TypeArgumentsMore

abbrev pub TypeParameters : Nonterminal
TypeParameters = part_of.Type type_of.TypeParameters

abbrev pub TypeParametersRest : Nonterminal
TypeParametersRest = part_of.Type type_of.TypeParametersRest

abbrev pub TypeParametersMore : Nonterminal
TypeParametersMore = part_of.Type type_of.TypeParametersMore

abbrev pub TypeParameter : Nonterminal
TypeParameter = part_of.Type type_of.TypeParameter

abbrev pub Bounds : Nonterminal
Bounds = part_of.Type type_of.Bounds

abbrev pub BoundsRest : Nonterminal
BoundsRest = part_of.Type type_of.BoundsRest

abbrev pub ConstructorTypes : Nonterminal
ConstructorTypes = part_of.Type type_of.ConstructorTypes

abbrev pub ConstructorTypesRest : Nonterminal
ConstructorTypesRest = part_of.Type type_of.ConstructorTypesRest

abbrev pub ConstructorTypesMore : Nonterminal
ConstructorTypesMore = part_of.Type type_of.ConstructorTypesMore

-- blocks, statements and expressions
abbrev pub Block : Nonterminal
Block = part_of.Statement statement_of.Block

abbrev pub Statements : Nonterminal
Statements = part_of.Statement statement_of.Statements

abbrev pub MoreStatements : Nonterminal
MoreStatements = part_of.Statement statement_of.MoreStatements

abbrev pub Statement : Nonterminal
Statement = part_of.Statement statement_of.Statement

abbrev pub Mutable : Nonterminal
Mutable = part_of.Statement statement_of.Mutable

abbrev pub LetName : Nonterminal
LetName = part_of.Statement statement_of.LetName

abbrev pub LetType : Nonterminal
LetType = part_of.Statement statement_of.LetType

abbrev pub Expression : Nonterminal
Expression = part_of.Statement statement_of.Expression

abbrev pub Jump : Nonterminal
Jump = part_of.Statement statement_of.Jump

abbrev pub ReturnRest : Nonterminal
ReturnRest = part_of.Statement statement_of.ReturnRest

abbrev pub AfterOperand : Nonterminal
AfterOperand = part_of.Statement statement_of.AfterOperand

abbrev pub Chain : Nonterminal
Chain = part_of.Statement statement_of.Chain

abbrev pub ChainRest : Nonterminal
ChainRest = part_of.Statement statement_of.ChainRest

abbrev pub UnnamedExpression : Nonterminal
UnnamedExpression = part_of.Statement statement_of.UnnamedExpression

abbrev pub Conditional : Nonterminal
Conditional = part_of.Statement statement_of.Conditional

abbrev pub ElseRest : Nonterminal
ElseRest = part_of.Statement statement_of.ElseRest

abbrev pub ElseBranch : Nonterminal
ElseBranch = part_of.Statement statement_of.ElseBranch

abbrev pub Arms : Nonterminal
Arms = part_of.Statement statement_of.Arms

abbrev pub Arm : Nonterminal
Arm = part_of.Statement statement_of.Arm

abbrev pub Guard : Nonterminal
Guard = part_of.Statement statement_of.Guard

abbrev pub ArmValue : Nonterminal
ArmValue = part_of.Statement statement_of.ArmValue

-- operands
abbrev pub Operand : Nonterminal
Operand = part_of.Operand operand_of.Operand

abbrev pub UnnamedOperand : Nonterminal
UnnamedOperand = part_of.Operand operand_of.UnnamedOperand

abbrev pub RecoverRest : Nonterminal
RecoverRest = part_of.Operand operand_of.RecoverRest

abbrev pub NameRest : Nonterminal
NameRest = part_of.Operand operand_of.NameRest

abbrev pub Links : Nonterminal
Links = part_of.Operand operand_of.Links

abbrev pub Link : Nonterminal
Link = part_of.Operand operand_of.Link

abbrev pub LinkRest : Nonterminal
LinkRest = part_of.Operand operand_of.LinkRest

abbrev pub ConstantRest : Nonterminal
ConstantRest = part_of.Operand operand_of.ConstantRest

abbrev pub AfterConstant : Nonterminal
AfterConstant = part_of.Operand operand_of.AfterConstant

abbrev pub QualifiedRest : Nonterminal
QualifiedRest = part_of.Operand operand_of.QualifiedRest

abbrev pub Primary : Nonterminal
Primary = part_of.Operand operand_of.Primary

abbrev pub TextRest : Nonterminal
TextRest = part_of.Operand operand_of.TextRest

abbrev pub ParenthesisRest : Nonterminal
ParenthesisRest = part_of.Operand operand_of.ParenthesisRest

abbrev pub TupleRest : Nonterminal
TupleRest = part_of.Operand operand_of.TupleRest

abbrev pub Items : Nonterminal
Items = part_of.Operand operand_of.Items

abbrev pub ItemsRest : Nonterminal
ItemsRest = part_of.Operand operand_of.ItemsRest

abbrev pub Arguments : Nonterminal
Arguments = part_of.Operand operand_of.Arguments

abbrev pub ArgumentsRest : Nonterminal
ArgumentsRest = part_of.Operand operand_of.ArgumentsRest

abbrev pub ConstructorArguments : Nonterminal
ConstructorArguments = part_of.Operand operand_of.ConstructorArguments

abbrev pub NamedOrNot : Nonterminal
NamedOrNot = part_of.Operand operand_of.NamedOrNot

abbrev pub NamedRest : Nonterminal
NamedRest = part_of.Operand operand_of.NamedRest

abbrev pub NamedMore : Nonterminal
NamedMore = part_of.Operand operand_of.NamedMore

-- patterns
abbrev pub Pattern : Nonterminal
Pattern = part_of.Pattern pattern_of.Pattern

abbrev pub Alternative : Nonterminal
Alternative = part_of.Pattern pattern_of.Alternative

abbrev pub PatternRest : Nonterminal
PatternRest = part_of.Pattern pattern_of.PatternRest

abbrev pub PatternTextRest : Nonterminal
PatternTextRest = part_of.Pattern pattern_of.PatternTextRest

abbrev pub ConstructorPatternRest : Nonterminal
ConstructorPatternRest = part_of.Pattern pattern_of.ConstructorPatternRest

abbrev pub PatternsRest : Nonterminal
PatternsRest = part_of.Pattern pattern_of.PatternsRest

abbrev pub PatternsMore : Nonterminal
PatternsMore = part_of.Pattern pattern_of.PatternsMore

abbrev pub TuplePatternRest : Nonterminal
TuplePatternRest = part_of.Pattern pattern_of.TuplePatternRest

abbrev pub FieldPattern : Nonterminal
FieldPattern = part_of.Pattern pattern_of.FieldPattern

abbrev pub FieldPatternsRest : Nonterminal
FieldPatternsRest = part_of.Pattern pattern_of.FieldPatternsRest

abbrev pub FieldPatternsMore : Nonterminal
FieldPatternsMore = part_of.Pattern pattern_of.FieldPatternsMore
