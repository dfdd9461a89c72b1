-- The grammar as a table: the productions of each part, and which tokens it may begin with.
use Rattle.std.specs.Prelude.{Bool, true, false, not, ◌&&◌, ◌||◌, List, [], ◌∷◌}
use Rattle.ink_grammar.specs.declared.token.Keyword.{Keyword}
use Rattle.ink_grammar.specs.declared.token.Keyword.TheVariants as keyword
use Rattle.ink_grammar.specs.declared.token.Mark.{Mark}
use Rattle.ink_grammar.specs.declared.token.Mark.TheVariants as mark
use Rattle.ink_grammar.specs.declared.token.Shape.{Shape}
use Rattle.ink_grammar.specs.declared.token.Shape.TheVariants as shape
use Rattle.ink_grammar.specs.declared.symbol.Line.TheVariants as line
use Rattle.ink_grammar.specs.declared.symbol.Wanted.{Wanted}
use Rattle.ink_grammar.specs.declared.symbol.Wanted.TheVariants as wanted
use Rattle.ink_grammar.specs.declared.symbol.Nonterminal.{Nonterminal}
use Rattle.ink_grammar.specs.declared.symbol.Nonterminal.TheVariants as part
use Rattle.ink_grammar.specs.declared.symbol.ModulePart.{ModulePart}
use Rattle.ink_grammar.specs.declared.symbol.ModulePart.TheVariants as module_of
use Rattle.ink_grammar.specs.declared.symbol.MethodPart.{MethodPart}
use Rattle.ink_grammar.specs.declared.symbol.MethodPart.TheVariants as method_of
use Rattle.ink_grammar.specs.declared.symbol.TypePart.{TypePart}
use Rattle.ink_grammar.specs.declared.symbol.TypePart.TheVariants as type_of
use Rattle.ink_grammar.specs.declared.symbol.StatementPart.{StatementPart}
use Rattle.ink_grammar.specs.declared.symbol.StatementPart.TheVariants as statement_of
use Rattle.ink_grammar.specs.declared.symbol.OperandPart.{OperandPart}
use Rattle.ink_grammar.specs.declared.symbol.OperandPart.TheVariants as operand_of
use Rattle.ink_grammar.specs.declared.symbol.PatternPart.{PatternPart}
use Rattle.ink_grammar.specs.declared.symbol.PatternPart.TheVariants as pattern_of
use Rattle.ink_grammar.specs.declared.tree.OneChild.{OneChild}
use Rattle.ink_grammar.specs.declared.tree.OneChild.TheVariants as one_of
use Rattle.ink_grammar.specs.declared.tree.TwoChildren.{TwoChildren}
use Rattle.ink_grammar.specs.declared.tree.TwoChildren.TheVariants as two_of
use Rattle.ink_grammar.specs.declared.tree.ThreeChildren.{ThreeChildren}
use Rattle.ink_grammar.specs.declared.tree.ThreeChildren.TheVariants as three_of
use Rattle.ink_grammar.specs.declared.tree.FourChildren.{FourChildren}
use Rattle.ink_grammar.specs.declared.tree.FourChildren.TheVariants as four_of
use Rattle.ink_grammar.specs.declared.tree.FiveChildren.{FiveChildren}
use Rattle.ink_grammar.specs.declared.tree.FiveChildren.TheVariants as five_of
use Rattle.ink_grammar.specs.declared.symbol.Action.{Action}
use Rattle.ink_grammar.specs.declared.symbol.Action.TheVariants as act
use Rattle.ink_grammar.specs.declared.symbol.Symbol.{Symbol}
use Rattle.ink_grammar.specs.declared.symbol.Symbol.TheVariants as of
use Rattle.ink_grammar.specs.Shapes.{same, is}

-- A mark, which is not kept.
abbrev pub sign : Mark → Symbol
sign m = of.Token line.Any (wanted.Mark (shape.Mark m))

-- Another token that is not kept.
abbrev pub skip : Shape → Symbol
skip s = of.Token line.Any (wanted.Mark s)

-- A keyword that is kept.
abbrev pub word : Keyword → Symbol
word k = of.Token line.Any (wanted.Word (shape.Keyword k))

-- Another token that is kept.
abbrev pub keep : Shape → Symbol
keep s = of.Token line.Any (wanted.Word s)

-- One of several tokens, which is kept.
abbrev pub any_of : Wanted → Symbol
any_of w = of.Token line.Any w

-- A part of this kind, anywhere.
abbrev pub module_part : ModulePart → Symbol
module_part n = of.Part line.Any (part.Module n)

-- A part of this kind, anywhere.
abbrev pub method_part : MethodPart → Symbol
method_part n = of.Part line.Any (part.Method n)

-- A part of this kind, anywhere.
abbrev pub type_part : TypePart → Symbol
type_part n = of.Part line.Any (part.Type n)

-- A part of this kind, anywhere.
abbrev pub statement_part : StatementPart → Symbol
statement_part n = of.Part line.Any (part.Statement n)

-- A part of this kind, anywhere.
abbrev pub operand_part : OperandPart → Symbol
operand_part n = of.Part line.Any (part.Operand n)

-- A part of this kind, anywhere.
abbrev pub pattern_part : PatternPart → Symbol
pattern_part n = of.Part line.Any (part.Pattern n)

-- What is made of the values that were read last.
abbrev pub make : Action → Symbol
make a = of.Do a

-- A node of the last value.
abbrev pub one : OneChild → Symbol
one form = of.Do (act.One form)

-- A node of the last two values.
abbrev pub two : TwoChildren → Symbol
two form = of.Do (act.Two form)

-- A node of the last three values.
abbrev pub three : ThreeChildren → Symbol
three form = of.Do (act.Three form)

-- A node of the last four values.
abbrev pub four : FourChildren → Symbol
four form = of.Do (act.Four form)

-- A node of the last five values.
abbrev pub five : FiveChildren → Symbol
five form = of.Do (act.Five form)

-- the productions of imports, declarations and their members
abbrev pub module_rules : ModulePart → List (List Symbol)
module_rules module_of.Module = (make act.Empty ∷ module_part module_of.Imports ∷ make act.Empty ∷ module_part module_of.Declarations ∷ two two_of.Module ∷ []) ∷ []
module_rules module_of.Imports =
    (module_part module_of.Import ∷ two two_of.More ∷ module_part module_of.Imports ∷ []) ∷
    [] ∷ []
module_rules module_of.Import = (word keyword.Import ∷ make act.Empty ∷ keep shape.Name ∷ two two_of.More ∷ module_part module_of.ImportPath ∷ module_part module_of.ImportNames ∷ three three_of.Import ∷ []) ∷ []
module_rules module_of.ImportPath =
    (sign mark.Dot ∷ keep shape.Name ∷ two two_of.More ∷ module_part module_of.ImportPath ∷ []) ∷
    [] ∷ []
module_rules module_of.ImportNames =
    (sign mark.LeftParen ∷ make act.Empty ∷ module_part module_of.ImportName ∷ two two_of.More ∷ module_part module_of.ImportNamesRest ∷ []) ∷
    (make act.Nothing ∷ []) ∷ []
module_rules module_of.ImportName =
    (keep shape.Name ∷ []) ∷
    (keep shape.Constant ∷ []) ∷ []
module_rules module_of.ImportNamesRest =
    (sign mark.RightParen ∷ []) ∷
    (sign mark.Comma ∷ module_part module_of.ImportNamesMore ∷ []) ∷ []
module_rules module_of.ImportNamesMore =
    (sign mark.RightParen ∷ []) ∷
    (module_part module_of.ImportName ∷ two two_of.More ∷ module_part module_of.ImportNamesRest ∷ []) ∷ []
module_rules module_of.Declarations =
    (module_part module_of.Declaration ∷ two two_of.More ∷ module_part module_of.Declarations ∷ []) ∷
    [] ∷ []
module_rules module_of.Declaration =
    (word keyword.Type ∷ make act.Empty ∷ method_part method_of.OptionalPub ∷ module_part module_of.TypeForm ∷ []) ∷
    (word keyword.Trait ∷ make act.Empty ∷ method_part method_of.OptionalPub ∷ keep shape.Constant ∷ sign mark.LeftBrace ∷ make act.Empty ∷ module_part module_of.TraitMethods ∷ sign mark.RightBrace ∷ four four_of.Trait ∷ []) ∷
    (word keyword.Impl ∷ keep shape.Constant ∷ module_part module_of.ImplementedTrait ∷ sign mark.LeftBrace ∷ make act.Empty ∷ method_part method_of.Methods ∷ sign mark.RightBrace ∷ four four_of.Implementation ∷ []) ∷
    (method_part method_of.Method ∷ []) ∷ []
module_rules module_of.TypeForm =
    (skip (shape.Keyword keyword.Enum) ∷ keep shape.Constant ∷ type_part type_of.TypeParameters ∷ sign mark.LeftBrace ∷ make act.Empty ∷ module_part module_of.EnumMembers ∷ sign mark.RightBrace ∷ five five_of.EnumDeclaration ∷ []) ∷
    (word keyword.Async ∷ two two_of.More ∷ module_part module_of.ObjectForm ∷ []) ∷
    (module_part module_of.ObjectForm ∷ []) ∷ []
module_rules module_of.ObjectForm = (keep shape.Constant ∷ type_part type_of.TypeParameters ∷ sign mark.LeftBrace ∷ make act.Empty ∷ module_part module_of.ObjectMembers ∷ sign mark.RightBrace ∷ five five_of.TypeDeclaration ∷ []) ∷ []
module_rules module_of.ObjectMembers =
    (module_part module_of.FieldDeclaration ∷ two two_of.More ∷ module_part module_of.ObjectMembers ∷ []) ∷
    (method_part method_of.Method ∷ two two_of.More ∷ module_part module_of.ObjectMembers ∷ []) ∷
    [] ∷ []
module_rules module_of.EnumMembers =
    (module_part module_of.Constructor ∷ two two_of.More ∷ module_part module_of.EnumMembers ∷ []) ∷
    (method_part method_of.Method ∷ two two_of.More ∷ module_part module_of.EnumMembers ∷ []) ∷
    [] ∷ []
module_rules module_of.FieldDeclaration = (word keyword.Let ∷ make act.Empty ∷ method_part method_of.OptionalPub ∷ method_part method_of.OptionalMut ∷ keep shape.Field ∷ sign mark.Colon ∷ type_part type_of.FullType ∷ four four_of.FieldDeclaration ∷ []) ∷ []
module_rules module_of.Constructor = (word keyword.Case ∷ keep shape.Constant ∷ type_part type_of.ConstructorTypes ∷ three three_of.Constructor ∷ []) ∷ []
module_rules module_of.TraitMethods =
    (module_part module_of.TraitMethod ∷ two two_of.More ∷ module_part module_of.TraitMethods ∷ []) ∷
    [] ∷ []
module_rules module_of.TraitMethod = (word keyword.Fn ∷ make act.Empty ∷ method_part method_of.OptionalPub ∷ method_part method_of.TraitMethodKind ∷ keep shape.Name ∷ method_part method_of.Parameters ∷ method_part method_of.MethodResult ∷ five five_of.TraitMethod ∷ []) ∷ []
module_rules module_of.ImplementedTrait =
    (skip (shape.Keyword keyword.For) ∷ keep shape.Constant ∷ []) ∷
    (make act.Nothing ∷ []) ∷ []

-- the productions of methods
abbrev pub method_rules : MethodPart → List (List Symbol)
method_rules method_of.OptionalPub =
    (word keyword.Pub ∷ two two_of.More ∷ []) ∷
    [] ∷ []
method_rules method_of.OptionalAsync =
    (word keyword.Async ∷ two two_of.More ∷ []) ∷
    [] ∷ []
method_rules method_of.OptionalMut =
    (word keyword.Mut ∷ two two_of.More ∷ []) ∷
    [] ∷ []
method_rules method_of.MethodKind =
    (word keyword.Mut ∷ two two_of.More ∷ []) ∷
    (word keyword.Move ∷ two two_of.More ∷ []) ∷
    (word keyword.Static ∷ two two_of.More ∷ []) ∷
    [] ∷ []
method_rules method_of.TraitMethodKind =
    (word keyword.Mut ∷ two two_of.More ∷ []) ∷
    (word keyword.Move ∷ two two_of.More ∷ []) ∷
    [] ∷ []
method_rules method_of.Methods =
    (method_part method_of.Method ∷ two two_of.More ∷ method_part method_of.Methods ∷ []) ∷
    [] ∷ []
method_rules method_of.Method = (word keyword.Fn ∷ make act.Empty ∷ method_part method_of.OptionalPub ∷ method_part method_of.OptionalAsync ∷ method_part method_of.MethodKind ∷ keep shape.Name ∷ type_part type_of.TypeParameters ∷ method_part method_of.Parameters ∷ method_part method_of.MethodResult ∷ four four_of.Signature ∷ statement_part statement_of.Block ∷ four four_of.Method ∷ []) ∷ []
method_rules method_of.Parameters =
    (sign mark.LeftParen ∷ make act.Empty ∷ method_part method_of.ParametersMore ∷ []) ∷
    (make act.Nothing ∷ []) ∷ []
method_rules method_of.ParametersMore =
    (sign mark.RightParen ∷ []) ∷
    (method_part method_of.Parameter ∷ two two_of.More ∷ method_part method_of.ParametersRest ∷ []) ∷ []
method_rules method_of.ParametersRest =
    (sign mark.RightParen ∷ []) ∷
    (sign mark.Comma ∷ method_part method_of.ParametersMore ∷ []) ∷ []
method_rules method_of.Parameter = (keep shape.Name ∷ sign mark.Colon ∷ type_part type_of.FullType ∷ two two_of.Parameter ∷ []) ∷ []
method_rules method_of.MethodResult =
    (sign mark.Arrow ∷ type_part type_of.FullType ∷ []) ∷
    (make act.Nothing ∷ []) ∷ []

-- the productions of types
abbrev pub type_rules : TypePart → List (List Symbol)
type_rules type_of.FullType =
    (any_of wanted.TypePrefix ∷ type_part type_of.BareType ∷ two two_of.PrefixedType ∷ []) ∷
    (type_part type_of.BareType ∷ []) ∷ []
type_rules type_of.BareType =
    (keep shape.Constant ∷ type_part type_of.TypeArguments ∷ two two_of.NamedType ∷ []) ∷
    (keep (shape.Mark mark.LeftParen) ∷ type_part type_of.FullType ∷ sign mark.Comma ∷ type_part type_of.FullType ∷ type_part type_of.TupleTypeRest ∷ []) ∷ []
type_rules type_of.TupleTypeRest =
    (sign mark.RightParen ∷ three three_of.PairType ∷ []) ∷
    (sign mark.Comma ∷ type_part type_of.FullType ∷ sign mark.RightParen ∷ four four_of.TripleType ∷ []) ∷ []
type_rules type_of.TypeArguments =
    (sign mark.LeftBracket ∷ make act.Empty ∷ type_part type_of.FullType ∷ two two_of.More ∷ type_part type_of.TypeArgumentsRest ∷ []) ∷
    (make act.Nothing ∷ []) ∷ []
type_rules type_of.TypeArgumentsRest =
    (sign mark.RightBracket ∷ []) ∷
    (sign mark.Comma ∷ type_part type_of.TypeArgumentsMore ∷ []) ∷ []
type_rules type_of.TypeArgumentsMore =
    (sign mark.RightBracket ∷ []) ∷
    (type_part type_of.FullType ∷ two two_of.More ∷ type_part type_of.TypeArgumentsRest ∷ []) ∷ []
type_rules type_of.TypeParameters =
    (sign mark.LeftBracket ∷ make act.Empty ∷ type_part type_of.TypeParameter ∷ two two_of.More ∷ type_part type_of.TypeParametersRest ∷ []) ∷
    (make act.Nothing ∷ []) ∷ []
type_rules type_of.TypeParametersRest =
    (sign mark.RightBracket ∷ []) ∷
    (sign mark.Comma ∷ type_part type_of.TypeParametersMore ∷ []) ∷ []
type_rules type_of.TypeParametersMore =
    (sign mark.RightBracket ∷ []) ∷
    (type_part type_of.TypeParameter ∷ two two_of.More ∷ type_part type_of.TypeParametersRest ∷ []) ∷ []
type_rules type_of.TypeParameter = (keep shape.Constant ∷ type_part type_of.Bounds ∷ two two_of.TypeParameter ∷ []) ∷ []
type_rules type_of.Bounds =
    (sign mark.Colon ∷ make act.Empty ∷ keep shape.Constant ∷ two two_of.More ∷ type_part type_of.BoundsRest ∷ []) ∷
    (make act.Nothing ∷ []) ∷ []
type_rules type_of.BoundsRest =
    (sign mark.Plus ∷ keep shape.Constant ∷ two two_of.More ∷ type_part type_of.BoundsRest ∷ []) ∷
    [] ∷ []
type_rules type_of.ConstructorTypes =
    (sign mark.LeftParen ∷ make act.Empty ∷ type_part type_of.FullType ∷ two two_of.More ∷ type_part type_of.ConstructorTypesRest ∷ []) ∷
    (make act.Nothing ∷ []) ∷ []
type_rules type_of.ConstructorTypesRest =
    (sign mark.RightParen ∷ []) ∷
    (sign mark.Comma ∷ type_part type_of.ConstructorTypesMore ∷ []) ∷ []
type_rules type_of.ConstructorTypesMore =
    (sign mark.RightParen ∷ []) ∷
    (type_part type_of.FullType ∷ two two_of.More ∷ type_part type_of.ConstructorTypesRest ∷ []) ∷ []

-- the productions of blocks, statements and expressions
abbrev pub statement_rules : StatementPart → List (List Symbol)
statement_rules statement_of.Block = (keep (shape.Mark mark.LeftBrace) ∷ make act.Empty ∷ statement_part statement_of.Statements ∷ keep (shape.Mark mark.RightBrace) ∷ three three_of.Block ∷ []) ∷ []
statement_rules statement_of.Statements =
    (statement_part statement_of.Statement ∷ two two_of.More ∷ statement_part statement_of.MoreStatements ∷ []) ∷
    [] ∷ []
statement_rules statement_of.MoreStatements =
    (of.Part line.Fresh (part.Statement statement_of.Statement) ∷ two two_of.More ∷ statement_part statement_of.MoreStatements ∷ []) ∷
    [] ∷ []
statement_rules statement_of.Statement =
    (word keyword.Let ∷ statement_part statement_of.Mutable ∷ statement_part statement_of.LetName ∷ statement_part statement_of.LetType ∷ sign mark.Equals ∷ statement_part statement_of.Expression ∷ five five_of.Let ∷ []) ∷
    (statement_part statement_of.Expression ∷ one one_of.Statement ∷ []) ∷ []
statement_rules statement_of.Mutable =
    (word keyword.Mut ∷ []) ∷
    (make act.Nothing ∷ []) ∷ []
statement_rules statement_of.LetName =
    (keep shape.Name ∷ []) ∷
    (keep shape.Underscore ∷ []) ∷ []
statement_rules statement_of.LetType =
    (sign mark.Colon ∷ type_part type_of.FullType ∷ []) ∷
    (make act.Nothing ∷ []) ∷ []
statement_rules statement_of.Expression =
    (statement_part statement_of.Jump ∷ []) ∷
    (operand_part operand_of.Operand ∷ statement_part statement_of.AfterOperand ∷ []) ∷ []
statement_rules statement_of.Jump =
    (word keyword.Return ∷ statement_part statement_of.ReturnRest ∷ []) ∷
    (word keyword.Throw ∷ statement_part statement_of.Expression ∷ two two_of.Throw ∷ []) ∷
    (any_of wanted.LoopJump ∷ []) ∷ []
statement_rules statement_of.ReturnRest =
    (of.Part line.Same (part.Statement statement_of.Expression) ∷ two two_of.Return ∷ []) ∷
    (make act.Nothing ∷ two two_of.Return ∷ []) ∷ []
statement_rules statement_of.AfterOperand =
    (of.Place wanted.Setter ∷ statement_part statement_of.Expression ∷ three three_of.Assign ∷ []) ∷
    (statement_part statement_of.ChainRest ∷ []) ∷ []
statement_rules statement_of.Chain = (operand_part operand_of.Operand ∷ statement_part statement_of.ChainRest ∷ []) ∷ []
statement_rules statement_of.ChainRest =
    (of.Token line.Same wanted.Operator ∷ operand_part operand_of.Operand ∷ three three_of.Binary ∷ statement_part statement_of.ChainRest ∷ []) ∷
    (of.Token line.Same wanted.Logical ∷ operand_part operand_of.Operand ∷ one one_of.Statement ∷ three three_of.Binary ∷ statement_part statement_of.ChainRest ∷ []) ∷
    [] ∷ []
statement_rules statement_of.UnnamedExpression =
    (statement_part statement_of.Jump ∷ []) ∷
    (operand_part operand_of.UnnamedOperand ∷ statement_part statement_of.AfterOperand ∷ []) ∷ []
statement_rules statement_of.Conditional = (word keyword.If ∷ statement_part statement_of.Chain ∷ one one_of.Statement ∷ statement_part statement_of.Block ∷ statement_part statement_of.ElseRest ∷ []) ∷ []
statement_rules statement_of.ElseRest =
    (skip (shape.Keyword keyword.Else) ∷ statement_part statement_of.ElseBranch ∷ four four_of.If ∷ []) ∷
    (make act.Nothing ∷ four four_of.If ∷ []) ∷ []
statement_rules statement_of.ElseBranch =
    (statement_part statement_of.Block ∷ []) ∷
    (statement_part statement_of.Conditional ∷ []) ∷ []
statement_rules statement_of.Arms =
    (statement_part statement_of.Arm ∷ two two_of.More ∷ statement_part statement_of.Arms ∷ []) ∷
    [] ∷ []
statement_rules statement_of.Arm = (word keyword.Case ∷ pattern_part pattern_of.Pattern ∷ statement_part statement_of.Guard ∷ sign mark.Arrow ∷ statement_part statement_of.ArmValue ∷ four four_of.Arm ∷ []) ∷ []
statement_rules statement_of.Guard =
    (skip (shape.Keyword keyword.If) ∷ statement_part statement_of.Chain ∷ one one_of.Statement ∷ []) ∷
    (make act.Nothing ∷ []) ∷ []
statement_rules statement_of.ArmValue =
    (statement_part statement_of.Block ∷ []) ∷
    (statement_part statement_of.Expression ∷ one one_of.Statement ∷ []) ∷ []

-- the productions of operands
abbrev pub operand_rules : OperandPart → List (List Symbol)
operand_rules operand_of.Operand =
    (keep shape.Name ∷ operand_part operand_of.NameRest ∷ operand_part operand_of.Links ∷ []) ∷
    (operand_part operand_of.UnnamedOperand ∷ []) ∷ []
operand_rules operand_of.UnnamedOperand =
    (any_of wanted.BorrowWord ∷ operand_part operand_of.Operand ∷ two two_of.Borrow ∷ []) ∷
    (word keyword.Try ∷ operand_part operand_of.Operand ∷ two two_of.Try ∷ []) ∷
    (word keyword.Recover ∷ operand_part operand_of.RecoverRest ∷ []) ∷
    (keep shape.Constant ∷ operand_part operand_of.ConstantRest ∷ []) ∷
    (operand_part operand_of.Primary ∷ operand_part operand_of.Links ∷ []) ∷ []
operand_rules operand_of.RecoverRest =
    (statement_part statement_of.Block ∷ two two_of.Recover ∷ []) ∷
    (operand_part operand_of.Operand ∷ one one_of.Statement ∷ two two_of.Recover ∷ []) ∷ []
operand_rules operand_of.NameRest =
    (of.Token line.Same (wanted.Mark (shape.Mark mark.LeftParen)) ∷ make act.Empty ∷ operand_part operand_of.Arguments ∷ two two_of.Call ∷ []) ∷
    [] ∷ []
operand_rules operand_of.Links =
    (sign mark.Dot ∷ operand_part operand_of.Link ∷ operand_part operand_of.Links ∷ []) ∷
    [] ∷ []
operand_rules operand_of.Link =
    (any_of wanted.LinkName ∷ operand_part operand_of.LinkRest ∷ []) ∷
    (keep shape.Integer ∷ two two_of.TupleItem ∷ []) ∷ []
operand_rules operand_of.LinkRest =
    (of.Token line.Same (wanted.Mark (shape.Mark mark.LeftParen)) ∷ make act.Empty ∷ operand_part operand_of.Arguments ∷ three three_of.MemberCall ∷ []) ∷
    (two two_of.Member ∷ []) ∷ []
operand_rules operand_of.ConstantRest =
    (of.Token line.Same (wanted.Mark (shape.Mark mark.LeftParen)) ∷ make act.Empty ∷ operand_part operand_of.ConstructorArguments ∷ two two_of.Construct ∷ operand_part operand_of.Links ∷ []) ∷
    (sign mark.Dot ∷ operand_part operand_of.AfterConstant ∷ []) ∷
    [] ∷ []
operand_rules operand_of.AfterConstant =
    (keep shape.Constant ∷ two two_of.Qualified ∷ operand_part operand_of.QualifiedRest ∷ operand_part operand_of.Links ∷ []) ∷
    (operand_part operand_of.Link ∷ operand_part operand_of.Links ∷ []) ∷ []
operand_rules operand_of.QualifiedRest =
    (of.Token line.Same (wanted.Mark (shape.Mark mark.LeftParen)) ∷ make act.Empty ∷ operand_part operand_of.ConstructorArguments ∷ two two_of.Construct ∷ []) ∷
    [] ∷ []
operand_rules operand_of.Primary =
    (any_of wanted.Atom ∷ []) ∷
    (keep shape.Quote ∷ make act.Empty ∷ operand_part operand_of.TextRest ∷ two two_of.Text ∷ []) ∷
    (keep (shape.Mark mark.LeftParen) ∷ statement_part statement_of.Expression ∷ operand_part operand_of.ParenthesisRest ∷ []) ∷
    (keep (shape.Mark mark.LeftBracket) ∷ make act.Empty ∷ operand_part operand_of.Items ∷ two two_of.Array ∷ []) ∷
    (statement_part statement_of.Conditional ∷ []) ∷
    (word keyword.While ∷ statement_part statement_of.Chain ∷ one one_of.Statement ∷ statement_part statement_of.Block ∷ three three_of.While ∷ []) ∷
    (word keyword.Loop ∷ statement_part statement_of.Block ∷ two two_of.Loop ∷ []) ∷
    (word keyword.Match ∷ statement_part statement_of.Chain ∷ one one_of.Statement ∷ sign mark.LeftBrace ∷ make act.Empty ∷ statement_part statement_of.Arm ∷ two two_of.More ∷ statement_part statement_of.Arms ∷ sign mark.RightBrace ∷ three three_of.Match ∷ []) ∷ []
operand_rules operand_of.TextRest =
    (skip shape.Quote ∷ []) ∷
    (keep shape.TextPart ∷ two two_of.More ∷ operand_part operand_of.TextRest ∷ []) ∷
    (skip shape.Opening ∷ statement_part statement_of.Expression ∷ skip shape.Closing ∷ two two_of.More ∷ operand_part operand_of.TextRest ∷ []) ∷ []
operand_rules operand_of.ParenthesisRest =
    (sign mark.RightParen ∷ make act.Closed ∷ []) ∷
    (sign mark.Comma ∷ statement_part statement_of.Expression ∷ operand_part operand_of.TupleRest ∷ []) ∷ []
operand_rules operand_of.TupleRest =
    (sign mark.RightParen ∷ three three_of.Pair ∷ []) ∷
    (sign mark.Comma ∷ statement_part statement_of.Expression ∷ sign mark.RightParen ∷ four four_of.Triple ∷ []) ∷ []
operand_rules operand_of.Items =
    (sign mark.RightBracket ∷ []) ∷
    (statement_part statement_of.Expression ∷ two two_of.More ∷ operand_part operand_of.ItemsRest ∷ []) ∷ []
operand_rules operand_of.ItemsRest =
    (sign mark.RightBracket ∷ []) ∷
    (sign mark.Comma ∷ operand_part operand_of.Items ∷ []) ∷ []
operand_rules operand_of.Arguments =
    (sign mark.RightParen ∷ []) ∷
    (statement_part statement_of.Expression ∷ two two_of.More ∷ operand_part operand_of.ArgumentsRest ∷ []) ∷ []
operand_rules operand_of.ArgumentsRest =
    (sign mark.RightParen ∷ []) ∷
    (sign mark.Comma ∷ operand_part operand_of.Arguments ∷ []) ∷ []
operand_rules operand_of.ConstructorArguments =
    (sign mark.RightParen ∷ []) ∷
    (keep shape.Name ∷ operand_part operand_of.NamedOrNot ∷ []) ∷
    (statement_part statement_of.UnnamedExpression ∷ two two_of.More ∷ operand_part operand_of.ArgumentsRest ∷ []) ∷ []
operand_rules operand_of.NamedOrNot =
    (sign mark.Colon ∷ statement_part statement_of.Expression ∷ two two_of.Named ∷ two two_of.More ∷ operand_part operand_of.NamedRest ∷ []) ∷
    (operand_part operand_of.NameRest ∷ operand_part operand_of.Links ∷ statement_part statement_of.AfterOperand ∷ two two_of.More ∷ operand_part operand_of.ArgumentsRest ∷ []) ∷ []
operand_rules operand_of.NamedRest =
    (sign mark.RightParen ∷ []) ∷
    (sign mark.Comma ∷ operand_part operand_of.NamedMore ∷ []) ∷ []
operand_rules operand_of.NamedMore =
    (sign mark.RightParen ∷ []) ∷
    (keep shape.Name ∷ sign mark.Colon ∷ statement_part statement_of.Expression ∷ two two_of.Named ∷ two two_of.More ∷ operand_part operand_of.NamedRest ∷ []) ∷ []

-- the productions of patterns
abbrev pub pattern_rules : PatternPart → List (List Symbol)
pattern_rules pattern_of.Pattern = (pattern_part pattern_of.Alternative ∷ pattern_part pattern_of.PatternRest ∷ []) ∷ []
pattern_rules pattern_of.Alternative =
    (any_of wanted.PatternAtom ∷ []) ∷
    (keep shape.Quote ∷ make act.Empty ∷ pattern_part pattern_of.PatternTextRest ∷ two two_of.Text ∷ []) ∷
    (word keyword.Mut ∷ keep shape.Name ∷ two two_of.MutableName ∷ []) ∷
    (keep shape.Constant ∷ pattern_part pattern_of.ConstructorPatternRest ∷ []) ∷
    (keep (shape.Mark mark.LeftParen) ∷ pattern_part pattern_of.Pattern ∷ sign mark.Comma ∷ pattern_part pattern_of.Pattern ∷ pattern_part pattern_of.TuplePatternRest ∷ []) ∷
    (keep (shape.Mark mark.LeftBrace) ∷ make act.Empty ∷ pattern_part pattern_of.FieldPattern ∷ two two_of.More ∷ pattern_part pattern_of.FieldPatternsRest ∷ two two_of.FieldPatterns ∷ []) ∷ []
pattern_rules pattern_of.PatternRest =
    (skip (shape.Keyword keyword.Or) ∷ pattern_part pattern_of.Alternative ∷ two two_of.Either ∷ pattern_part pattern_of.PatternRest ∷ []) ∷
    [] ∷ []
pattern_rules pattern_of.PatternTextRest =
    (skip shape.Quote ∷ []) ∷
    (keep shape.TextPart ∷ two two_of.More ∷ pattern_part pattern_of.PatternTextRest ∷ []) ∷ []
pattern_rules pattern_of.ConstructorPatternRest =
    (sign mark.LeftParen ∷ make act.Empty ∷ pattern_part pattern_of.Pattern ∷ two two_of.More ∷ pattern_part pattern_of.PatternsRest ∷ two two_of.ConstructorPattern ∷ []) ∷
    [] ∷ []
pattern_rules pattern_of.PatternsRest =
    (sign mark.RightParen ∷ []) ∷
    (sign mark.Comma ∷ pattern_part pattern_of.PatternsMore ∷ []) ∷ []
pattern_rules pattern_of.PatternsMore =
    (sign mark.RightParen ∷ []) ∷
    (pattern_part pattern_of.Pattern ∷ two two_of.More ∷ pattern_part pattern_of.PatternsRest ∷ []) ∷ []
pattern_rules pattern_of.TuplePatternRest =
    (sign mark.RightParen ∷ three three_of.PairPattern ∷ []) ∷
    (sign mark.Comma ∷ pattern_part pattern_of.Pattern ∷ sign mark.RightParen ∷ four four_of.TriplePattern ∷ []) ∷ []
pattern_rules pattern_of.FieldPattern = (keep shape.Field ∷ sign mark.Equals ∷ pattern_part pattern_of.Pattern ∷ two two_of.FieldPattern ∷ []) ∷ []
pattern_rules pattern_of.FieldPatternsRest =
    (sign mark.RightBrace ∷ []) ∷
    (sign mark.Comma ∷ pattern_part pattern_of.FieldPatternsMore ∷ []) ∷ []
pattern_rules pattern_of.FieldPatternsMore =
    (sign mark.RightBrace ∷ []) ∷
    (pattern_part pattern_of.FieldPattern ∷ two two_of.More ∷ pattern_part pattern_of.FieldPatternsRest ∷ []) ∷ []

-- the productions of each part
abbrev pub rules : Nonterminal → List (List Symbol)
rules (part.Module n) = module_rules n
rules (part.Method n) = method_rules n
rules (part.Type n) = type_rules n
rules (part.Statement n) = statement_rules n
rules (part.Operand n) = operand_rules n
rules (part.Pattern n) = pattern_rules n

-- which parts of imports, declarations and their members may be no token
abbrev pub module_may_be_empty : ModulePart → Bool
module_may_be_empty module_of.Module = true
module_may_be_empty module_of.Imports = true
module_may_be_empty module_of.Import = false
module_may_be_empty module_of.ImportPath = true
module_may_be_empty module_of.ImportNames = true
module_may_be_empty module_of.ImportName = false
module_may_be_empty module_of.ImportNamesRest = false
module_may_be_empty module_of.ImportNamesMore = false
module_may_be_empty module_of.Declarations = true
module_may_be_empty module_of.Declaration = false
module_may_be_empty module_of.TypeForm = false
module_may_be_empty module_of.ObjectForm = false
module_may_be_empty module_of.ObjectMembers = true
module_may_be_empty module_of.EnumMembers = true
module_may_be_empty module_of.FieldDeclaration = false
module_may_be_empty module_of.Constructor = false
module_may_be_empty module_of.TraitMethods = true
module_may_be_empty module_of.TraitMethod = false
module_may_be_empty module_of.ImplementedTrait = true

-- which parts of methods may be no token
abbrev pub method_may_be_empty : MethodPart → Bool
method_may_be_empty method_of.OptionalPub = true
method_may_be_empty method_of.OptionalAsync = true
method_may_be_empty method_of.OptionalMut = true
method_may_be_empty method_of.MethodKind = true
method_may_be_empty method_of.TraitMethodKind = true
method_may_be_empty method_of.Methods = true
method_may_be_empty method_of.Method = false
method_may_be_empty method_of.Parameters = true
method_may_be_empty method_of.ParametersMore = false
method_may_be_empty method_of.ParametersRest = false
method_may_be_empty method_of.Parameter = false
method_may_be_empty method_of.MethodResult = true

-- which parts of types may be no token
abbrev pub type_may_be_empty : TypePart → Bool
type_may_be_empty type_of.FullType = false
type_may_be_empty type_of.BareType = false
type_may_be_empty type_of.TupleTypeRest = false
type_may_be_empty type_of.TypeArguments = true
type_may_be_empty type_of.TypeArgumentsRest = false
type_may_be_empty type_of.TypeArgumentsMore = false
type_may_be_empty type_of.TypeParameters = true
type_may_be_empty type_of.TypeParametersRest = false
type_may_be_empty type_of.TypeParametersMore = false
type_may_be_empty type_of.TypeParameter = false
type_may_be_empty type_of.Bounds = true
type_may_be_empty type_of.BoundsRest = true
type_may_be_empty type_of.ConstructorTypes = true
type_may_be_empty type_of.ConstructorTypesRest = false
type_may_be_empty type_of.ConstructorTypesMore = false

-- which parts of blocks, statements and expressions may be no token
abbrev pub statement_may_be_empty : StatementPart → Bool
statement_may_be_empty statement_of.Block = false
statement_may_be_empty statement_of.Statements = true
statement_may_be_empty statement_of.MoreStatements = true
statement_may_be_empty statement_of.Statement = false
statement_may_be_empty statement_of.Mutable = true
statement_may_be_empty statement_of.LetName = false
statement_may_be_empty statement_of.LetType = true
statement_may_be_empty statement_of.Expression = false
statement_may_be_empty statement_of.Jump = false
statement_may_be_empty statement_of.ReturnRest = true
statement_may_be_empty statement_of.AfterOperand = true
statement_may_be_empty statement_of.Chain = false
statement_may_be_empty statement_of.ChainRest = true
statement_may_be_empty statement_of.UnnamedExpression = false
statement_may_be_empty statement_of.Conditional = false
statement_may_be_empty statement_of.ElseRest = true
statement_may_be_empty statement_of.ElseBranch = false
statement_may_be_empty statement_of.Arms = true
statement_may_be_empty statement_of.Arm = false
statement_may_be_empty statement_of.Guard = true
statement_may_be_empty statement_of.ArmValue = false

-- which parts of operands may be no token
abbrev pub operand_may_be_empty : OperandPart → Bool
operand_may_be_empty operand_of.Operand = false
operand_may_be_empty operand_of.UnnamedOperand = false
operand_may_be_empty operand_of.RecoverRest = false
operand_may_be_empty operand_of.NameRest = true
operand_may_be_empty operand_of.Links = true
operand_may_be_empty operand_of.Link = false
operand_may_be_empty operand_of.LinkRest = true
operand_may_be_empty operand_of.ConstantRest = true
operand_may_be_empty operand_of.AfterConstant = false
operand_may_be_empty operand_of.QualifiedRest = true
operand_may_be_empty operand_of.Primary = false
operand_may_be_empty operand_of.TextRest = false
operand_may_be_empty operand_of.ParenthesisRest = false
operand_may_be_empty operand_of.TupleRest = false
operand_may_be_empty operand_of.Items = false
operand_may_be_empty operand_of.ItemsRest = false
operand_may_be_empty operand_of.Arguments = false
operand_may_be_empty operand_of.ArgumentsRest = false
operand_may_be_empty operand_of.ConstructorArguments = false
operand_may_be_empty operand_of.NamedOrNot = false
operand_may_be_empty operand_of.NamedRest = false
operand_may_be_empty operand_of.NamedMore = false

-- which parts of patterns may be no token
abbrev pub pattern_may_be_empty : PatternPart → Bool
pattern_may_be_empty pattern_of.Pattern = false
pattern_may_be_empty pattern_of.Alternative = false
pattern_may_be_empty pattern_of.PatternRest = true
pattern_may_be_empty pattern_of.PatternTextRest = false
pattern_may_be_empty pattern_of.ConstructorPatternRest = true
pattern_may_be_empty pattern_of.PatternsRest = false
pattern_may_be_empty pattern_of.PatternsMore = false
pattern_may_be_empty pattern_of.TuplePatternRest = false
pattern_may_be_empty pattern_of.FieldPattern = false
pattern_may_be_empty pattern_of.FieldPatternsRest = false
pattern_may_be_empty pattern_of.FieldPatternsMore = false

-- whether a part may be no token at all
abbrev pub may_be_empty : Nonterminal → Bool
may_be_empty (part.Module n) = module_may_be_empty n
may_be_empty (part.Method n) = method_may_be_empty n
may_be_empty (part.Type n) = type_may_be_empty n
may_be_empty (part.Statement n) = statement_may_be_empty n
may_be_empty (part.Operand n) = operand_may_be_empty n
may_be_empty (part.Pattern n) = pattern_may_be_empty n

-- what may begin a literal, a text, brackets, or a form with its own word
abbrev pub begins_primary : Shape → Bool
begins_primary x = is wanted.Atom x || same shape.Quote x || same (shape.Mark mark.LeftParen) x || same (shape.Mark mark.LeftBracket) x || same (shape.Keyword keyword.If) x || same (shape.Keyword keyword.While) x || same (shape.Keyword keyword.Loop) x || same (shape.Keyword keyword.Match) x

-- what may begin an operand that begins with no name
abbrev pub begins_unnamed_operand : Shape → Bool
begins_unnamed_operand x = is wanted.BorrowWord x || same (shape.Keyword keyword.Try) x || same (shape.Keyword keyword.Recover) x || same shape.Constant x || begins_primary x

-- what may begin an expression that leaves where it stands
abbrev pub begins_jump : Shape → Bool
begins_jump x = same (shape.Keyword keyword.Return) x || same (shape.Keyword keyword.Throw) x || is wanted.LoopJump x

-- what may begin an operand
abbrev pub begins_operand : Shape → Bool
begins_operand x = same shape.Name x || begins_unnamed_operand x

-- which tokens may go on a chain of operands
abbrev pub goes_on_a_chain : Shape → Bool
goes_on_a_chain x = is wanted.Operator x || is wanted.Logical x

-- what may begin an expression
abbrev pub begins_expression : Shape → Bool
begins_expression x = begins_jump x || begins_operand x

-- what may begin an expression that begins with no name
abbrev pub begins_unnamed_expression : Shape → Bool
begins_unnamed_expression x = begins_jump x || begins_unnamed_operand x

-- what may begin a statement
abbrev pub begins_statement : Shape → Bool
begins_statement x = same (shape.Keyword keyword.Let) x || begins_expression x

-- what may begin a type
abbrev pub begins_full_type : Shape → Bool
begins_full_type x = is wanted.TypePrefix x || same shape.Constant x || same (shape.Mark mark.LeftParen) x

-- what may begin one alternative of a pattern
abbrev pub begins_alternative : Shape → Bool
begins_alternative x = is wanted.PatternAtom x || same shape.Quote x || same (shape.Keyword keyword.Mut) x || same shape.Constant x || same (shape.Mark mark.LeftParen) x || same (shape.Mark mark.LeftBrace) x

-- which tokens the parts of imports, declarations and their members may begin with
abbrev pub module_begins : ModulePart → Shape → Bool → Bool
module_begins module_of.Module x new_line = same (shape.Keyword keyword.Import) x || same (shape.Keyword keyword.Type) x || same (shape.Keyword keyword.Trait) x || same (shape.Keyword keyword.Impl) x || same (shape.Keyword keyword.Fn) x
module_begins module_of.Imports x new_line = same (shape.Keyword keyword.Import) x
module_begins module_of.Import x new_line = same (shape.Keyword keyword.Import) x
module_begins module_of.ImportPath x new_line = same (shape.Mark mark.Dot) x
module_begins module_of.ImportNames x new_line = same (shape.Mark mark.LeftParen) x
module_begins module_of.ImportName x new_line = same shape.Name x || same shape.Constant x
module_begins module_of.ImportNamesRest x new_line = same (shape.Mark mark.RightParen) x || same (shape.Mark mark.Comma) x
module_begins module_of.ImportNamesMore x new_line = same (shape.Mark mark.RightParen) x || same shape.Name x || same shape.Constant x
module_begins module_of.Declarations x new_line = same (shape.Keyword keyword.Type) x || same (shape.Keyword keyword.Trait) x || same (shape.Keyword keyword.Impl) x || same (shape.Keyword keyword.Fn) x
module_begins module_of.Declaration x new_line = same (shape.Keyword keyword.Type) x || same (shape.Keyword keyword.Trait) x || same (shape.Keyword keyword.Impl) x || same (shape.Keyword keyword.Fn) x
module_begins module_of.TypeForm x new_line = same (shape.Keyword keyword.Enum) x || same (shape.Keyword keyword.Async) x || same shape.Constant x
module_begins module_of.ObjectForm x new_line = same shape.Constant x
module_begins module_of.ObjectMembers x new_line = same (shape.Keyword keyword.Let) x || same (shape.Keyword keyword.Fn) x
module_begins module_of.EnumMembers x new_line = same (shape.Keyword keyword.Case) x || same (shape.Keyword keyword.Fn) x
module_begins module_of.FieldDeclaration x new_line = same (shape.Keyword keyword.Let) x
module_begins module_of.Constructor x new_line = same (shape.Keyword keyword.Case) x
module_begins module_of.TraitMethods x new_line = same (shape.Keyword keyword.Fn) x
module_begins module_of.TraitMethod x new_line = same (shape.Keyword keyword.Fn) x
module_begins module_of.ImplementedTrait x new_line = same (shape.Keyword keyword.For) x

-- which tokens the parts of methods may begin with
abbrev pub method_begins : MethodPart → Shape → Bool → Bool
method_begins method_of.OptionalPub x new_line = same (shape.Keyword keyword.Pub) x
method_begins method_of.OptionalAsync x new_line = same (shape.Keyword keyword.Async) x
method_begins method_of.OptionalMut x new_line = same (shape.Keyword keyword.Mut) x
method_begins method_of.MethodKind x new_line = same (shape.Keyword keyword.Mut) x || same (shape.Keyword keyword.Move) x || same (shape.Keyword keyword.Static) x
method_begins method_of.TraitMethodKind x new_line = same (shape.Keyword keyword.Mut) x || same (shape.Keyword keyword.Move) x
method_begins method_of.Methods x new_line = same (shape.Keyword keyword.Fn) x
method_begins method_of.Method x new_line = same (shape.Keyword keyword.Fn) x
method_begins method_of.Parameters x new_line = same (shape.Mark mark.LeftParen) x
method_begins method_of.ParametersMore x new_line = same (shape.Mark mark.RightParen) x || same shape.Name x
method_begins method_of.ParametersRest x new_line = same (shape.Mark mark.RightParen) x || same (shape.Mark mark.Comma) x
method_begins method_of.Parameter x new_line = same shape.Name x
method_begins method_of.MethodResult x new_line = same (shape.Mark mark.Arrow) x

-- which tokens the parts of types may begin with
abbrev pub type_begins : TypePart → Shape → Bool → Bool
type_begins type_of.FullType x new_line = begins_full_type x
type_begins type_of.BareType x new_line = same shape.Constant x || same (shape.Mark mark.LeftParen) x
type_begins type_of.TupleTypeRest x new_line = same (shape.Mark mark.RightParen) x || same (shape.Mark mark.Comma) x
type_begins type_of.TypeArguments x new_line = same (shape.Mark mark.LeftBracket) x
type_begins type_of.TypeArgumentsRest x new_line = same (shape.Mark mark.RightBracket) x || same (shape.Mark mark.Comma) x
type_begins type_of.TypeArgumentsMore x new_line = same (shape.Mark mark.RightBracket) x || begins_full_type x
type_begins type_of.TypeParameters x new_line = same (shape.Mark mark.LeftBracket) x
type_begins type_of.TypeParametersRest x new_line = same (shape.Mark mark.RightBracket) x || same (shape.Mark mark.Comma) x
type_begins type_of.TypeParametersMore x new_line = same (shape.Mark mark.RightBracket) x || same shape.Constant x
type_begins type_of.TypeParameter x new_line = same shape.Constant x
type_begins type_of.Bounds x new_line = same (shape.Mark mark.Colon) x
type_begins type_of.BoundsRest x new_line = same (shape.Mark mark.Plus) x
type_begins type_of.ConstructorTypes x new_line = same (shape.Mark mark.LeftParen) x
type_begins type_of.ConstructorTypesRest x new_line = same (shape.Mark mark.RightParen) x || same (shape.Mark mark.Comma) x
type_begins type_of.ConstructorTypesMore x new_line = same (shape.Mark mark.RightParen) x || begins_full_type x

-- which tokens the parts of blocks, statements and expressions may begin with
abbrev pub statement_begins : StatementPart → Shape → Bool → Bool
statement_begins statement_of.Block x new_line = same (shape.Mark mark.LeftBrace) x
statement_begins statement_of.Statements x new_line = begins_statement x
statement_begins statement_of.MoreStatements x new_line = new_line && begins_statement x
statement_begins statement_of.Statement x new_line = begins_statement x
statement_begins statement_of.Mutable x new_line = same (shape.Keyword keyword.Mut) x
statement_begins statement_of.LetName x new_line = same shape.Name x || same shape.Underscore x
statement_begins statement_of.LetType x new_line = same (shape.Mark mark.Colon) x
statement_begins statement_of.Expression x new_line = begins_expression x
statement_begins statement_of.Jump x new_line = begins_jump x
statement_begins statement_of.ReturnRest x new_line = not new_line && begins_expression x
statement_begins statement_of.AfterOperand x new_line = not new_line && (is wanted.Setter x || goes_on_a_chain x)
statement_begins statement_of.Chain x new_line = begins_operand x
statement_begins statement_of.ChainRest x new_line = not new_line && goes_on_a_chain x
statement_begins statement_of.UnnamedExpression x new_line = begins_unnamed_expression x
statement_begins statement_of.Conditional x new_line = same (shape.Keyword keyword.If) x
statement_begins statement_of.ElseRest x new_line = same (shape.Keyword keyword.Else) x
statement_begins statement_of.ElseBranch x new_line = same (shape.Mark mark.LeftBrace) x || same (shape.Keyword keyword.If) x
statement_begins statement_of.Arms x new_line = same (shape.Keyword keyword.Case) x
statement_begins statement_of.Arm x new_line = same (shape.Keyword keyword.Case) x
statement_begins statement_of.Guard x new_line = same (shape.Keyword keyword.If) x
statement_begins statement_of.ArmValue x new_line = same (shape.Mark mark.LeftBrace) x || begins_expression x

-- which tokens the parts of operands may begin with
abbrev pub operand_begins : OperandPart → Shape → Bool → Bool
operand_begins operand_of.Operand x new_line = begins_operand x
operand_begins operand_of.UnnamedOperand x new_line = begins_unnamed_operand x
operand_begins operand_of.RecoverRest x new_line = same (shape.Mark mark.LeftBrace) x || begins_operand x
operand_begins operand_of.NameRest x new_line = not new_line && same (shape.Mark mark.LeftParen) x
operand_begins operand_of.Links x new_line = same (shape.Mark mark.Dot) x
operand_begins operand_of.Link x new_line = is wanted.LinkName x || same shape.Integer x
operand_begins operand_of.LinkRest x new_line = not new_line && same (shape.Mark mark.LeftParen) x
operand_begins operand_of.ConstantRest x new_line = same (shape.Mark mark.Dot) x || (not new_line && same (shape.Mark mark.LeftParen) x)
operand_begins operand_of.AfterConstant x new_line = same shape.Constant x || is wanted.LinkName x || same shape.Integer x
operand_begins operand_of.QualifiedRest x new_line = not new_line && same (shape.Mark mark.LeftParen) x
operand_begins operand_of.Primary x new_line = begins_primary x
operand_begins operand_of.TextRest x new_line = same shape.Quote x || same shape.TextPart x || same shape.Opening x
operand_begins operand_of.ParenthesisRest x new_line = same (shape.Mark mark.RightParen) x || same (shape.Mark mark.Comma) x
operand_begins operand_of.TupleRest x new_line = same (shape.Mark mark.RightParen) x || same (shape.Mark mark.Comma) x
operand_begins operand_of.Items x new_line = same (shape.Mark mark.RightBracket) x || begins_expression x
operand_begins operand_of.ItemsRest x new_line = same (shape.Mark mark.RightBracket) x || same (shape.Mark mark.Comma) x
operand_begins operand_of.Arguments x new_line = same (shape.Mark mark.RightParen) x || begins_expression x
operand_begins operand_of.ArgumentsRest x new_line = same (shape.Mark mark.RightParen) x || same (shape.Mark mark.Comma) x
operand_begins operand_of.ConstructorArguments x new_line = same (shape.Mark mark.RightParen) x || same shape.Name x || begins_unnamed_expression x
operand_begins operand_of.NamedOrNot x new_line = same (shape.Mark mark.Colon) x || same (shape.Mark mark.Dot) x || same (shape.Mark mark.RightParen) x || same (shape.Mark mark.Comma) x || (not new_line && (same (shape.Mark mark.LeftParen) x || is wanted.Setter x || goes_on_a_chain x))
operand_begins operand_of.NamedRest x new_line = same (shape.Mark mark.RightParen) x || same (shape.Mark mark.Comma) x
operand_begins operand_of.NamedMore x new_line = same (shape.Mark mark.RightParen) x || same shape.Name x

-- which tokens the parts of patterns may begin with
abbrev pub pattern_begins : PatternPart → Shape → Bool → Bool
pattern_begins pattern_of.Pattern x new_line = begins_alternative x
pattern_begins pattern_of.Alternative x new_line = begins_alternative x
pattern_begins pattern_of.PatternRest x new_line = same (shape.Keyword keyword.Or) x
pattern_begins pattern_of.PatternTextRest x new_line = same shape.Quote x || same shape.TextPart x
pattern_begins pattern_of.ConstructorPatternRest x new_line = same (shape.Mark mark.LeftParen) x
pattern_begins pattern_of.PatternsRest x new_line = same (shape.Mark mark.RightParen) x || same (shape.Mark mark.Comma) x
pattern_begins pattern_of.PatternsMore x new_line = same (shape.Mark mark.RightParen) x || begins_alternative x
pattern_begins pattern_of.TuplePatternRest x new_line = same (shape.Mark mark.RightParen) x || same (shape.Mark mark.Comma) x
pattern_begins pattern_of.FieldPattern x new_line = same shape.Field x
pattern_begins pattern_of.FieldPatternsRest x new_line = same (shape.Mark mark.RightBrace) x || same (shape.Mark mark.Comma) x
pattern_begins pattern_of.FieldPatternsMore x new_line = same (shape.Mark mark.RightBrace) x || same shape.Field x

-- whether a part may begin with a token of this shape
abbrev pub begins : Nonterminal → Shape → Bool → Bool
begins (part.Module n) x new_line = module_begins n x new_line
begins (part.Method n) x new_line = method_begins n x new_line
begins (part.Type n) x new_line = type_begins n x new_line
begins (part.Statement n) x new_line = statement_begins n x new_line
begins (part.Operand n) x new_line = operand_begins n x new_line
begins (part.Pattern n) x new_line = pattern_begins n x new_line
