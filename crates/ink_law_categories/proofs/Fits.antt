-- What each part of the grammar needs of the values before it, and what it then gives.
use Rattle.std.proofs.Common.{◌≡◌, ℕ, Bool, true, false, List, ◌∷◌}
use Rattle.ink_grammar.specs.declared.token.Keyword.TheVariants as keyword
use Rattle.ink_grammar.specs.declared.token.Mark.TheVariants as mark
use Rattle.ink_grammar.specs.declared.token.Shape.TheVariants as shape
use Rattle.ink_grammar.specs.declared.token.Terminal.{Terminal}
use Rattle.ink_grammar.specs.declared.symbol.Wanted.TheVariants as wanted
use Rattle.ink_grammar.specs.declared.symbol.Nonterminal.{Nonterminal}
use Rattle.ink_grammar.specs.declared.symbol.Nonterminal.TheVariants as part_of
use Rattle.ink_grammar.specs.declared.symbol.ModulePart.{ModulePart}
use Rattle.ink_grammar.specs.declared.symbol.ModulePart.TheVariants as module_of
use Rattle.ink_grammar.specs.declared.symbol.MethodPart.{MethodPart}
use Rattle.ink_grammar.specs.declared.symbol.MethodPart.TheVariants as method_of
use Rattle.ink_grammar.specs.declared.symbol.TypePart.{TypePart}
use Rattle.ink_grammar.specs.declared.symbol.TypePart.TheVariants as type_of
use Rattle.ink_grammar.specs.declared.symbol.StatementPart.{StatementPart}
use Rattle.ink_grammar.specs.declared.symbol.StatementPart.TheVariants as statement_of
use Rattle.ink_grammar.specs.declared.symbol.OperandPart.{OperandPart}
use Rattle.ink_grammar.specs.declared.symbol.OperandPart.TheVariants as operand_of
use Rattle.ink_grammar.specs.declared.symbol.PatternPart.{PatternPart}
use Rattle.ink_grammar.specs.declared.symbol.PatternPart.TheVariants as pattern_of
use Rattle.ink_grammar.specs.Tree.{Tree, Empty, Found, first, rest, is_place}
use Rattle.ink_law_categories.specs.Categories.{Category, IsA, Word, Wants, Bracket, ListOf, SomeOf, Maybe, Module, Import, ImportName, Declaration, ObjectMember, EnumMember, Method, TraitMethod, Parameter, TypeParameter, PubWord, PubMutWords, PubAsyncWords, MethodWords, TraitMethodWords, FullType, BareType, Block, Statement, LetName, Place, Expression, Counted, Branch, Conditional, Arm, ArmValue, TextItems, PartItems, Constructed, ConstructorArguments, Named, Pattern, Alternative, FieldPattern}
use Rattle.ink_law_categories.specs.Nested.{Level, Inside, IsCode}
use Rattle.ink_law_categories.proofs.Levels.{inner_level, inner_rest}
use Rattle.ink_law_categories.proofs.Steps.{Leads}

-- an expression, and a place if it says that it is one
pub record IsValue (source : List ℕ) (is_place : Bool) (tree : Tree) : Type 0 where
  pub expression : IsA source Expression tree
  pub place : is_place ≡ true → IsA source Place tree

-- imports, declarations and their members
abbrev pub ModuleNeeds : List ℕ → ModulePart → List Found → Type 0
ModuleNeeds source module_of.Imports own = IsA source (ListOf Import) (first own)
ModuleNeeds source module_of.ImportPath own = IsA source (SomeOf (Word shape.Name)) (first own)
ModuleNeeds source module_of.ImportNamesRest own = IsA source (SomeOf ImportName) (first own)
ModuleNeeds source module_of.ImportNamesMore own = IsA source (SomeOf ImportName) (first own)
ModuleNeeds source module_of.Declarations own = IsA source (ListOf Declaration) (first own)
ModuleNeeds source module_of.TypeForm own = IsA source PubWord (first own) × IsA source (Word (shape.Keyword keyword.Type)) (first (rest own))
ModuleNeeds source module_of.ObjectForm own = IsA source PubAsyncWords (first own) × IsA source (Word (shape.Keyword keyword.Type)) (first (rest own))
ModuleNeeds source module_of.ObjectMembers own = IsA source (ListOf ObjectMember) (first own)
ModuleNeeds source module_of.EnumMembers own = IsA source (ListOf EnumMember) (first own)
ModuleNeeds source module_of.TraitMethods own = IsA source (ListOf TraitMethod) (first own)
ModuleNeeds source _ own = Unit {0}

abbrev pub ModuleGives : List ℕ → ModulePart → Found → Type 0
ModuleGives source module_of.Module v = IsA source Module v.tree
ModuleGives source module_of.Imports v = IsA source (ListOf Import) v.tree
ModuleGives source module_of.Import v = IsA source Import v.tree
ModuleGives source module_of.ImportPath v = IsA source (SomeOf (Word shape.Name)) v.tree
ModuleGives source module_of.ImportNames v = IsA source (Maybe (SomeOf ImportName)) v.tree
ModuleGives source module_of.ImportName v = IsA source ImportName v.tree
ModuleGives source module_of.ImportNamesRest v = IsA source (SomeOf ImportName) v.tree
ModuleGives source module_of.ImportNamesMore v = IsA source (SomeOf ImportName) v.tree
ModuleGives source module_of.Declarations v = IsA source (ListOf Declaration) v.tree
ModuleGives source module_of.Declaration v = IsA source Declaration v.tree
ModuleGives source module_of.TypeForm v = IsA source Declaration v.tree
ModuleGives source module_of.ObjectForm v = IsA source Declaration v.tree
ModuleGives source module_of.ObjectMembers v = IsA source (ListOf ObjectMember) v.tree
ModuleGives source module_of.EnumMembers v = IsA source (ListOf EnumMember) v.tree
ModuleGives source module_of.FieldDeclaration v = IsA source ObjectMember v.tree
ModuleGives source module_of.Constructor v = IsA source EnumMember v.tree
ModuleGives source module_of.TraitMethods v = IsA source (ListOf TraitMethod) v.tree
ModuleGives source module_of.TraitMethod v = IsA source TraitMethod v.tree
ModuleGives source module_of.ImplementedTrait v = IsA source (Maybe (Word shape.Constant)) v.tree

-- methods
abbrev pub MethodNeeds : List ℕ → MethodPart → List Found → Type 0
MethodNeeds source method_of.OptionalPub own = first own ≡ Empty
MethodNeeds source method_of.OptionalAsync own = IsA source PubWord (first own)
MethodNeeds source method_of.OptionalMut own = IsA source PubWord (first own)
MethodNeeds source method_of.MethodKind own = IsA source PubAsyncWords (first own)
MethodNeeds source method_of.TraitMethodKind own = IsA source PubWord (first own)
MethodNeeds source method_of.Methods own = IsA source (ListOf Method) (first own)
MethodNeeds source method_of.ParametersMore own = IsA source (ListOf Parameter) (first own)
MethodNeeds source method_of.ParametersRest own = IsA source (ListOf Parameter) (first own)
MethodNeeds source _ own = Unit {0}

abbrev pub MethodGives : List ℕ → MethodPart → Found → Type 0
MethodGives source method_of.OptionalPub v = IsA source PubWord v.tree
MethodGives source method_of.OptionalAsync v = IsA source PubAsyncWords v.tree
MethodGives source method_of.OptionalMut v = IsA source PubMutWords v.tree
MethodGives source method_of.MethodKind v = IsA source MethodWords v.tree
MethodGives source method_of.TraitMethodKind v = IsA source TraitMethodWords v.tree
MethodGives source method_of.Methods v = IsA source (ListOf Method) v.tree
MethodGives source method_of.Method v = IsA source Method v.tree
MethodGives source method_of.Parameters v = IsA source (Maybe (ListOf Parameter)) v.tree
MethodGives source method_of.ParametersMore v = IsA source (ListOf Parameter) v.tree
MethodGives source method_of.ParametersRest v = IsA source (ListOf Parameter) v.tree
MethodGives source method_of.Parameter v = IsA source Parameter v.tree
MethodGives source method_of.MethodResult v = IsA source (Maybe FullType) v.tree

-- types
abbrev pub TypeNeeds : List ℕ → TypePart → List Found → Type 0
TypeNeeds source type_of.TupleTypeRest own = IsA source FullType (first own) × IsA source FullType (first (rest own)) × IsA source (Bracket (shape.Mark mark.LeftParen)) (first (rest (rest own)))
TypeNeeds source type_of.TypeArgumentsRest own = IsA source (SomeOf FullType) (first own)
TypeNeeds source type_of.TypeArgumentsMore own = IsA source (SomeOf FullType) (first own)
TypeNeeds source type_of.TypeParametersRest own = IsA source (SomeOf TypeParameter) (first own)
TypeNeeds source type_of.TypeParametersMore own = IsA source (SomeOf TypeParameter) (first own)
TypeNeeds source type_of.BoundsRest own = IsA source (SomeOf (Word shape.Constant)) (first own)
TypeNeeds source type_of.ConstructorTypesRest own = IsA source (SomeOf FullType) (first own)
TypeNeeds source type_of.ConstructorTypesMore own = IsA source (SomeOf FullType) (first own)
TypeNeeds source _ own = Unit {0}

abbrev pub TypeGives : List ℕ → TypePart → Found → Type 0
TypeGives source type_of.FullType v = IsA source FullType v.tree
TypeGives source type_of.BareType v = IsA source BareType v.tree
TypeGives source type_of.TupleTypeRest v = IsA source BareType v.tree
TypeGives source type_of.TypeArguments v = IsA source (Maybe (SomeOf FullType)) v.tree
TypeGives source type_of.TypeArgumentsRest v = IsA source (SomeOf FullType) v.tree
TypeGives source type_of.TypeArgumentsMore v = IsA source (SomeOf FullType) v.tree
TypeGives source type_of.TypeParameters v = IsA source (Maybe (SomeOf TypeParameter)) v.tree
TypeGives source type_of.TypeParametersRest v = IsA source (SomeOf TypeParameter) v.tree
TypeGives source type_of.TypeParametersMore v = IsA source (SomeOf TypeParameter) v.tree
TypeGives source type_of.TypeParameter v = IsA source TypeParameter v.tree
TypeGives source type_of.Bounds v = IsA source (Maybe (SomeOf (Word shape.Constant))) v.tree
TypeGives source type_of.BoundsRest v = IsA source (SomeOf (Word shape.Constant)) v.tree
TypeGives source type_of.ConstructorTypes v = IsA source (Maybe (SomeOf FullType)) v.tree
TypeGives source type_of.ConstructorTypesRest v = IsA source (SomeOf FullType) v.tree
TypeGives source type_of.ConstructorTypesMore v = IsA source (SomeOf FullType) v.tree

-- blocks, statements and expressions
abbrev pub StatementNeeds : List ℕ → StatementPart → List Found → Type 0
StatementNeeds source statement_of.Statements own = IsA source (ListOf Statement) (first own)
StatementNeeds source statement_of.MoreStatements own = IsA source (ListOf Statement) (first own)
StatementNeeds source statement_of.ReturnRest own = IsA source (Word (shape.Keyword keyword.Return)) (first own)
StatementNeeds source statement_of.AfterOperand own = IsValue source (is_place own) (first own)
StatementNeeds source statement_of.ChainRest own = IsA source Expression (first own)
StatementNeeds source statement_of.ElseRest own = IsA source Block (first own) × IsA source Counted (first (rest own)) × IsA source (Word (shape.Keyword keyword.If)) (first (rest (rest own)))
StatementNeeds source statement_of.Arms own = IsA source (SomeOf Arm) (first own)
StatementNeeds source _ own = Unit {0}

abbrev pub StatementGives : List ℕ → StatementPart → Found → Type 0
StatementGives source statement_of.Block v = IsA source Block v.tree
StatementGives source statement_of.Statements v = IsA source (ListOf Statement) v.tree
StatementGives source statement_of.MoreStatements v = IsA source (ListOf Statement) v.tree
StatementGives source statement_of.Statement v = IsA source Statement v.tree
StatementGives source statement_of.Mutable v = IsA source (Maybe (Word (shape.Keyword keyword.Mut))) v.tree
StatementGives source statement_of.LetName v = IsA source LetName v.tree
StatementGives source statement_of.LetType v = IsA source (Maybe FullType) v.tree
StatementGives source statement_of.Expression v = IsA source Expression v.tree
StatementGives source statement_of.Jump v = IsA source Expression v.tree
StatementGives source statement_of.ReturnRest v = IsA source Expression v.tree
StatementGives source statement_of.AfterOperand v = IsA source Expression v.tree
StatementGives source statement_of.Chain v = IsA source Expression v.tree
StatementGives source statement_of.ChainRest v = IsA source Expression v.tree
StatementGives source statement_of.UnnamedExpression v = IsA source Expression v.tree
StatementGives source statement_of.Conditional v = IsA source Conditional v.tree × (v.is_place ≡ false)
StatementGives source statement_of.ElseRest v = IsA source Conditional v.tree × (v.is_place ≡ false)
StatementGives source statement_of.ElseBranch v = IsA source Branch v.tree
StatementGives source statement_of.Arms v = IsA source (SomeOf Arm) v.tree
StatementGives source statement_of.Arm v = IsA source Arm v.tree
StatementGives source statement_of.Guard v = IsA source (Maybe Counted) v.tree
StatementGives source statement_of.ArmValue v = IsA source ArmValue v.tree

-- operands
abbrev pub OperandNeeds : List ℕ → OperandPart → List Found → Type 0
OperandNeeds source operand_of.RecoverRest own = IsA source (Word (shape.Keyword keyword.Recover)) (first own)
OperandNeeds source operand_of.NameRest own = IsA source (Word shape.Name) (first own)
OperandNeeds source operand_of.Links own = IsValue source (is_place own) (first own)
OperandNeeds source operand_of.Link own = IsA source Expression (first own)
OperandNeeds source operand_of.LinkRest own = IsA source (Wants wanted.LinkName) (first own) × IsA source Expression (first (rest own))
OperandNeeds source operand_of.ConstantRest own = IsA source (Word shape.Constant) (first own) × (is_place own ≡ false)
OperandNeeds source operand_of.AfterConstant own = IsA source (Word shape.Constant) (first own)
OperandNeeds source operand_of.QualifiedRest own = IsA source Constructed (first own) × (is_place own ≡ false)
OperandNeeds source operand_of.ParenthesisRest own = IsA source Expression (first own) × IsA source (Bracket (shape.Mark mark.LeftParen)) (first (rest own))
OperandNeeds source operand_of.TupleRest own = IsA source Expression (first own) × IsA source Expression (first (rest own)) × IsA source (Bracket (shape.Mark mark.LeftParen)) (first (rest (rest own)))
OperandNeeds source operand_of.Items own = IsA source (ListOf Expression) (first own)
OperandNeeds source operand_of.ItemsRest own = IsA source (ListOf Expression) (first own)
OperandNeeds source operand_of.Arguments own = IsA source (ListOf Expression) (first own)
OperandNeeds source operand_of.ArgumentsRest own = IsA source (ListOf Expression) (first own)
OperandNeeds source operand_of.ConstructorArguments own = IsA source (ListOf Expression) (first own) × IsA source (ListOf Named) (first own)
OperandNeeds source operand_of.NamedOrNot own = IsA source (Word shape.Name) (first own) × IsA source (ListOf Expression) (first (rest own)) × IsA source (ListOf Named) (first (rest own))
OperandNeeds source operand_of.NamedRest own = IsA source (SomeOf Named) (first own)
OperandNeeds source operand_of.NamedMore own = IsA source (SomeOf Named) (first own)
OperandNeeds source _ own = Unit {0}

abbrev pub OperandGives : List ℕ → OperandPart → Found → Type 0
OperandGives source operand_of.Operand v = IsValue source v.is_place v.tree
OperandGives source operand_of.UnnamedOperand v = IsValue source v.is_place v.tree
OperandGives source operand_of.RecoverRest v = IsValue source v.is_place v.tree
OperandGives source operand_of.NameRest v = IsValue source v.is_place v.tree
OperandGives source operand_of.Links v = IsValue source v.is_place v.tree
OperandGives source operand_of.Link v = IsValue source v.is_place v.tree
OperandGives source operand_of.LinkRest v = IsValue source v.is_place v.tree
OperandGives source operand_of.ConstantRest v = IsValue source v.is_place v.tree
OperandGives source operand_of.AfterConstant v = IsValue source v.is_place v.tree
OperandGives source operand_of.QualifiedRest v = IsValue source v.is_place v.tree
OperandGives source operand_of.Primary v = IsValue source v.is_place v.tree
OperandGives source operand_of.ParenthesisRest v = IsValue source v.is_place v.tree
OperandGives source operand_of.TupleRest v = IsValue source v.is_place v.tree
OperandGives source operand_of.Items v = IsA source (ListOf Expression) v.tree
OperandGives source operand_of.ItemsRest v = IsA source (ListOf Expression) v.tree
OperandGives source operand_of.Arguments v = IsA source (ListOf Expression) v.tree
OperandGives source operand_of.ArgumentsRest v = IsA source (ListOf Expression) v.tree
OperandGives source operand_of.ConstructorArguments v = IsA source ConstructorArguments v.tree
OperandGives source operand_of.NamedOrNot v = IsA source ConstructorArguments v.tree
OperandGives source operand_of.NamedRest v = IsA source (SomeOf Named) v.tree
OperandGives source operand_of.NamedMore v = IsA source (SomeOf Named) v.tree
OperandGives source _ v = Unit {0}

-- patterns
abbrev pub PatternNeeds : List ℕ → PatternPart → List Found → Type 0
PatternNeeds source pattern_of.PatternRest own = IsA source Pattern (first own)
PatternNeeds source pattern_of.ConstructorPatternRest own = IsA source (Word shape.Constant) (first own)
PatternNeeds source pattern_of.PatternsRest own = IsA source (SomeOf Pattern) (first own)
PatternNeeds source pattern_of.PatternsMore own = IsA source (SomeOf Pattern) (first own)
PatternNeeds source pattern_of.TuplePatternRest own = IsA source Pattern (first own) × IsA source Pattern (first (rest own)) × IsA source (Bracket (shape.Mark mark.LeftParen)) (first (rest (rest own)))
PatternNeeds source _ own = Unit {0}

abbrev pub PatternGives : List ℕ → PatternPart → Found → Type 0
PatternGives source pattern_of.Pattern v = IsA source Pattern v.tree
PatternGives source pattern_of.Alternative v = IsA source Alternative v.tree
PatternGives source pattern_of.PatternRest v = IsA source Pattern v.tree
PatternGives source pattern_of.ConstructorPatternRest v = IsA source Alternative v.tree
PatternGives source pattern_of.PatternsRest v = IsA source (SomeOf Pattern) v.tree
PatternGives source pattern_of.PatternsMore v = IsA source (SomeOf Pattern) v.tree
PatternGives source pattern_of.TuplePatternRest v = IsA source Alternative v.tree
PatternGives source pattern_of.FieldPattern v = IsA source FieldPattern v.tree
PatternGives source _ v = Unit {0}

-- what a part needs of its own values
abbrev pub Needs : List ℕ → Nonterminal → List Found → Type 0
Needs source (part_of.Module n) own = ModuleNeeds source n own
Needs source (part_of.Method n) own = MethodNeeds source n own
Needs source (part_of.Type n) own = TypeNeeds source n own
Needs source (part_of.Statement n) own = StatementNeeds source n own
Needs source (part_of.Operand n) own = OperandNeeds source n own
Needs source (part_of.Pattern n) own = PatternNeeds source n own

-- what is known of what it finds
abbrev pub Gives : List ℕ → Nonterminal → Found → Type 0
Gives source (part_of.Module n) v = ModuleGives source n v
Gives source (part_of.Method n) v = MethodGives source n v
Gives source (part_of.Type n) v = TypeGives source n v
Gives source (part_of.Statement n) v = StatementGives source n v
Gives source (part_of.Operand n) v = OperandGives source n v
Gives source (part_of.Pattern n) v = PatternGives source n v

-- the rest of a text, which begins behind the quote that opened it
abbrev pub FitsText : List ℕ → List Level → (Terminal → Bool → Category) → List Found → List Terminal → Found → Type 0
FitsText source last items own us v = (quote : Terminal) (ends : Bool) (l : Level) (ls : List Level) → IsCode l → IsA source (items quote ends) (first own) → Leads source last (Inside quote ends ∷ l ∷ ls) us (l ∷ ls) ((e : Bool) × IsA source (items quote e) v.tree)

-- the rest of patterns of fields, which begins within their braces
abbrev pub FitsFields : List ℕ → List Level → List Found → List Terminal → Found → Type 0
FitsFields source last own us v = IsA source (SomeOf FieldPattern) (first own) → (l : Level) (ls : List Level) → IsCode l → Leads source last (inner_level l ∷ inner_rest l ls) us (l ∷ ls) (IsA source (SomeOf FieldPattern) v.tree)

-- These tokens, which are this part behind its own values, are closed as they were opened, and what they find is what the part
-- gives, if those values are what it needs.
abbrev pub Fits : List ℕ → List Level → Nonterminal → List Found → List Terminal → Found → Type 0
Fits source last (part_of.Operand operand_of.TextRest) own us v = FitsText source last TextItems own us v
Fits source last (part_of.Pattern pattern_of.PatternTextRest) own us v = FitsText source last PartItems own us v
Fits source last (part_of.Pattern pattern_of.FieldPatternsRest) own us v = FitsFields source last own us v
Fits source last (part_of.Pattern pattern_of.FieldPatternsMore) own us v = FitsFields source last own us v
Fits source last n own us v = Needs source n own → (l : Level) (ls : List Level) → IsCode l → Leads source last (l ∷ ls) us (l ∷ ls) (Gives source n v)
