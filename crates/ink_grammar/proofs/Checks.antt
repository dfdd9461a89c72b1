-- What the grammar has to meet, so that one token tells how to go on.
use Rattle.std.proofs.Common.{◌≡◌, Bool, true, false, not, ◌&&◌, ◌||◌, List, [], ◌∷◌, refl}
use Rattle.ink_grammar.specs.declared.token.Keyword.TheVariants as keyword
use Rattle.ink_grammar.specs.declared.token.Mark.TheVariants as mark
use Rattle.ink_grammar.specs.declared.token.Shape.{Shape}
use Rattle.ink_grammar.specs.declared.token.Shape.TheVariants as shape
use Rattle.ink_grammar.specs.declared.symbol.Line.{Line}
use Rattle.ink_grammar.specs.declared.symbol.Line.TheVariants as line
use Rattle.ink_grammar.specs.declared.symbol.Nonterminal.{Nonterminal}
use Rattle.ink_grammar.specs.declared.symbol.Nonterminal.TheVariants as part
use Rattle.ink_grammar.specs.declared.symbol.ModulePart.{ModulePart}
use Rattle.ink_grammar.specs.declared.symbol.MethodPart.{MethodPart}
use Rattle.ink_grammar.specs.declared.symbol.TypePart.{TypePart}
use Rattle.ink_grammar.specs.declared.symbol.StatementPart.{StatementPart}
use Rattle.ink_grammar.specs.declared.symbol.OperandPart.{OperandPart}
use Rattle.ink_grammar.specs.declared.symbol.PatternPart.{PatternPart}
use Rattle.ink_grammar.specs.declared.symbol.ModulePart.TheVariants as module_of
use Rattle.ink_grammar.specs.declared.symbol.MethodPart.TheVariants as method_of
use Rattle.ink_grammar.specs.declared.symbol.TypePart.TheVariants as type_of
use Rattle.ink_grammar.specs.declared.symbol.StatementPart.TheVariants as statement_of
use Rattle.ink_grammar.specs.declared.symbol.OperandPart.TheVariants as operand_of
use Rattle.ink_grammar.specs.declared.symbol.PatternPart.TheVariants as pattern_of
use Rattle.ink_grammar.specs.declared.symbol.Symbol.{Symbol}
use Rattle.ink_grammar.specs.declared.symbol.Symbol.TheVariants as s
use Rattle.ink_grammar.specs.Grammar.{rules, begins, may_be_empty}
use Rattle.ink_grammar.specs.Shapes.{same, is, stands}
use Rattle.ink_grammar.specs.Machine.{goes, ends}
use Rattle.ink_grammar.proofs.Bools.{implies, all, every}

-- whether symbols may begin with a token of this shape
abbrev pub opens : List Symbol → Shape → Bool → Bool
opens [] shape new_line = false
opens (s.Token l w ∷ r) shape new_line = stands l new_line && is w shape
opens (s.Place w ∷ r) shape new_line = not new_line && is w shape
opens (s.Part l n ∷ r) shape new_line = (stands l new_line && begins n shape new_line) || (may_be_empty n && opens r shape new_line)
opens (s.Do a ∷ r) shape new_line = opens r shape new_line

-- whether symbols may be no token
abbrev pub empties : List Symbol → Bool
empties [] = true
empties (s.Token l w ∷ r) = false
empties (s.Place w ∷ r) = false
empties (s.Part l n ∷ r) = may_be_empty n && empties r
empties (s.Do a ∷ r) = empties r

abbrev pub strict : Line → Nonterminal → Bool
strict line.Any n = true
strict line.Same n = not (may_be_empty n)
strict line.Fresh n = not (may_be_empty n)

-- whether the list has this shape
abbrev has : List Shape → Shape → Bool
has [] x = false
has (y ∷ ys) x = same y x || has ys x

-- a token of these shapes anywhere, or of those on the line of the token before it
abbrev never : List Shape → List Shape → Shape → Bool → Bool
never anywhere within x new_line = has anywhere x || (not new_line && has within x)

abbrev behind_expression_within : List Shape
behind_expression_within =
    shape.Name ∷ shape.Constant ∷ shape.Field ∷ shape.Integer ∷ shape.Hexadecimal ∷ shape.Quote ∷
    shape.Keyword keyword.And ∷ shape.Keyword keyword.Break ∷ shape.Keyword keyword.False ∷ shape.Keyword keyword.If ∷ shape.Keyword keyword.Loop ∷ shape.Keyword keyword.Match ∷
    shape.Keyword keyword.Mut ∷ shape.Keyword keyword.Next ∷ shape.Keyword keyword.Nil ∷ shape.Keyword keyword.Or ∷ shape.Keyword keyword.Recover ∷ shape.Keyword keyword.Ref ∷
    shape.Keyword keyword.Return ∷ shape.Keyword keyword.SelfWord ∷ shape.Keyword keyword.Throw ∷ shape.Keyword keyword.True ∷ shape.Keyword keyword.Try ∷ shape.Keyword keyword.While ∷
    shape.Mark mark.LeftParen ∷ shape.Mark mark.LeftBracket ∷ shape.Mark mark.Swap ∷ shape.Mark mark.Equals ∷ shape.Mark mark.Plus ∷ shape.Mark mark.Operator ∷
    shape.Mark mark.OperatorEquals ∷
    []

abbrev behind_statements : List Shape
behind_statements =
    shape.Name ∷ shape.Constant ∷ shape.Field ∷ shape.Integer ∷ shape.Hexadecimal ∷ shape.Quote ∷
    shape.Keyword keyword.Break ∷ shape.Keyword keyword.Else ∷ shape.Keyword keyword.False ∷ shape.Keyword keyword.If ∷ shape.Keyword keyword.Let ∷ shape.Keyword keyword.Loop ∷
    shape.Keyword keyword.Match ∷ shape.Keyword keyword.Mut ∷ shape.Keyword keyword.Next ∷ shape.Keyword keyword.Nil ∷ shape.Keyword keyword.Recover ∷ shape.Keyword keyword.Ref ∷
    shape.Keyword keyword.Return ∷ shape.Keyword keyword.SelfWord ∷ shape.Keyword keyword.Throw ∷ shape.Keyword keyword.True ∷ shape.Keyword keyword.Try ∷ shape.Keyword keyword.While ∷
    shape.Mark mark.LeftParen ∷ shape.Mark mark.LeftBracket ∷ shape.Mark mark.Dot ∷
    []

abbrev behind_statements_within : List Shape
behind_statements_within =
    shape.Keyword keyword.And ∷ shape.Keyword keyword.Or ∷ shape.Mark mark.Swap ∷ shape.Mark mark.Equals ∷ shape.Mark mark.Plus ∷ shape.Mark mark.Operator ∷
    shape.Mark mark.OperatorEquals ∷
    []

abbrev behind_chain_within : List Shape
behind_chain_within =
    shape.Keyword keyword.And ∷ shape.Keyword keyword.Or ∷ shape.Mark mark.LeftParen ∷ shape.Mark mark.Plus ∷ shape.Mark mark.Operator ∷
    []

abbrev module_clash : ModulePart → Shape → Bool → Bool
module_clash module_of.Module = never (shape.Keyword keyword.Fn ∷ shape.Keyword keyword.Impl ∷ shape.Keyword keyword.Import ∷ shape.Keyword keyword.Trait ∷ shape.Keyword keyword.Type ∷ shape.Mark mark.LeftParen ∷ shape.Mark mark.Dot ∷ []) []
module_clash module_of.Imports = never (shape.Keyword keyword.Import ∷ shape.Mark mark.LeftParen ∷ shape.Mark mark.Dot ∷ []) []
module_clash module_of.Import = never (shape.Mark mark.LeftParen ∷ shape.Mark mark.Dot ∷ []) []
module_clash module_of.ImportPath = never (shape.Mark mark.Dot ∷ []) []
module_clash module_of.ImportNames = never (shape.Mark mark.LeftParen ∷ []) []
module_clash module_of.ImportName = never [] []
module_clash module_of.ImportNamesRest = never [] []
module_clash module_of.ImportNamesMore = never [] []
module_clash module_of.Declarations = never (shape.Keyword keyword.Fn ∷ shape.Keyword keyword.Impl ∷ shape.Keyword keyword.Trait ∷ shape.Keyword keyword.Type ∷ []) []
module_clash module_of.Declaration = never [] []
module_clash module_of.TypeForm = never [] []
module_clash module_of.ObjectForm = never [] []
module_clash module_of.ObjectMembers = never (shape.Keyword keyword.Fn ∷ shape.Keyword keyword.Let ∷ shape.Mark mark.LeftBracket ∷ []) []
module_clash module_of.EnumMembers = never (shape.Keyword keyword.Case ∷ shape.Keyword keyword.Fn ∷ shape.Mark mark.LeftParen ∷ []) []
module_clash module_of.FieldDeclaration = never (shape.Mark mark.LeftBracket ∷ []) []
module_clash module_of.Constructor = never (shape.Mark mark.LeftParen ∷ []) []
module_clash module_of.TraitMethods = never (shape.Keyword keyword.Fn ∷ shape.Mark mark.LeftParen ∷ shape.Mark mark.LeftBracket ∷ shape.Mark mark.Arrow ∷ []) []
module_clash module_of.TraitMethod = never (shape.Mark mark.LeftParen ∷ shape.Mark mark.LeftBracket ∷ shape.Mark mark.Arrow ∷ []) []
module_clash module_of.ImplementedTrait = never (shape.Keyword keyword.For ∷ []) []

abbrev method_clash : MethodPart → Shape → Bool → Bool
method_clash method_of.OptionalPub = never (shape.Keyword keyword.Pub ∷ []) []
method_clash method_of.OptionalAsync = never (shape.Keyword keyword.Async ∷ []) []
method_clash method_of.OptionalMut = never (shape.Keyword keyword.Mut ∷ []) []
method_clash method_of.MethodKind = never (shape.Keyword keyword.Move ∷ shape.Keyword keyword.Mut ∷ shape.Keyword keyword.Static ∷ []) []
method_clash method_of.TraitMethodKind = never (shape.Keyword keyword.Move ∷ shape.Keyword keyword.Mut ∷ []) []
method_clash method_of.Methods = never (shape.Keyword keyword.Fn ∷ []) []
method_clash method_of.Method = never [] []
method_clash method_of.Parameters = never (shape.Mark mark.LeftParen ∷ []) []
method_clash method_of.ParametersMore = never [] []
method_clash method_of.ParametersRest = never [] []
method_clash method_of.Parameter = never (shape.Mark mark.LeftBracket ∷ []) []
method_clash method_of.MethodResult = never (shape.Mark mark.LeftBracket ∷ shape.Mark mark.Arrow ∷ []) []

abbrev type_clash : TypePart → Shape → Bool → Bool
type_clash type_of.FullType = never (shape.Mark mark.LeftBracket ∷ []) []
type_clash type_of.BareType = never (shape.Mark mark.LeftBracket ∷ []) []
type_clash type_of.TupleTypeRest = never [] []
type_clash type_of.TypeArguments = never (shape.Mark mark.LeftBracket ∷ []) []
type_clash type_of.TypeArgumentsRest = never [] []
type_clash type_of.TypeArgumentsMore = never [] []
type_clash type_of.TypeParameters = never (shape.Mark mark.LeftBracket ∷ []) []
type_clash type_of.TypeParametersRest = never [] []
type_clash type_of.TypeParametersMore = never [] []
type_clash type_of.TypeParameter = never (shape.Mark mark.Colon ∷ shape.Mark mark.Plus ∷ []) []
type_clash type_of.Bounds = never (shape.Mark mark.Colon ∷ shape.Mark mark.Plus ∷ []) []
type_clash type_of.BoundsRest = never (shape.Mark mark.Plus ∷ []) []
type_clash type_of.ConstructorTypes = never (shape.Mark mark.LeftParen ∷ []) []
type_clash type_of.ConstructorTypesRest = never [] []
type_clash type_of.ConstructorTypesMore = never [] []

abbrev statement_clash : StatementPart → Shape → Bool → Bool
statement_clash statement_of.Block = never [] []
statement_clash statement_of.Statements = never behind_statements behind_statements_within
statement_clash statement_of.MoreStatements = never behind_statements behind_statements_within
statement_clash statement_of.Statement = never (shape.Keyword keyword.Else ∷ shape.Mark mark.Dot ∷ []) behind_expression_within
statement_clash statement_of.Mutable = never (shape.Keyword keyword.Mut ∷ []) []
statement_clash statement_of.LetName = never [] []
statement_clash statement_of.LetType = never (shape.Mark mark.LeftBracket ∷ shape.Mark mark.Colon ∷ []) []
statement_clash statement_of.Expression = never (shape.Keyword keyword.Else ∷ shape.Mark mark.Dot ∷ []) behind_expression_within
statement_clash statement_of.Jump = never (shape.Keyword keyword.Else ∷ shape.Mark mark.Dot ∷ []) behind_expression_within
statement_clash statement_of.ReturnRest = never (shape.Keyword keyword.Else ∷ shape.Mark mark.Dot ∷ []) behind_expression_within
statement_clash statement_of.AfterOperand = never (shape.Keyword keyword.Else ∷ shape.Mark mark.Dot ∷ []) behind_expression_within
statement_clash statement_of.Chain = never (shape.Keyword keyword.Else ∷ shape.Mark mark.Dot ∷ []) behind_chain_within
statement_clash statement_of.ChainRest = never (shape.Keyword keyword.Else ∷ shape.Mark mark.Dot ∷ []) behind_chain_within
statement_clash statement_of.UnnamedExpression = never (shape.Keyword keyword.Else ∷ shape.Mark mark.Dot ∷ []) behind_expression_within
statement_clash statement_of.Conditional = never (shape.Keyword keyword.Else ∷ []) []
statement_clash statement_of.ElseRest = never (shape.Keyword keyword.Else ∷ []) []
statement_clash statement_of.ElseBranch = never (shape.Keyword keyword.Else ∷ []) []
statement_clash statement_of.Arms = never (shape.Keyword keyword.Case ∷ shape.Keyword keyword.Else ∷ shape.Mark mark.Dot ∷ []) behind_expression_within
statement_clash statement_of.Arm = never (shape.Keyword keyword.Else ∷ shape.Mark mark.Dot ∷ []) behind_expression_within
statement_clash statement_of.Guard = never (shape.Keyword keyword.Else ∷ shape.Keyword keyword.If ∷ shape.Mark mark.Dot ∷ []) behind_chain_within
statement_clash statement_of.ArmValue = never (shape.Keyword keyword.Else ∷ shape.Mark mark.Dot ∷ []) behind_expression_within

abbrev operand_clash : OperandPart → Shape → Bool → Bool
operand_clash operand_of.Operand = never (shape.Keyword keyword.Else ∷ shape.Mark mark.Dot ∷ []) (shape.Mark mark.LeftParen ∷ [])
operand_clash operand_of.UnnamedOperand = never (shape.Keyword keyword.Else ∷ shape.Mark mark.Dot ∷ []) (shape.Mark mark.LeftParen ∷ [])
operand_clash operand_of.RecoverRest = never (shape.Keyword keyword.Else ∷ shape.Mark mark.Dot ∷ []) (shape.Mark mark.LeftParen ∷ [])
operand_clash operand_of.NameRest = never [] (shape.Mark mark.LeftParen ∷ [])
operand_clash operand_of.Links = never (shape.Mark mark.Dot ∷ []) (shape.Mark mark.LeftParen ∷ [])
operand_clash operand_of.Link = never [] (shape.Mark mark.LeftParen ∷ [])
operand_clash operand_of.LinkRest = never [] (shape.Mark mark.LeftParen ∷ [])
operand_clash operand_of.ConstantRest = never (shape.Mark mark.Dot ∷ []) (shape.Mark mark.LeftParen ∷ [])
operand_clash operand_of.AfterConstant = never (shape.Mark mark.Dot ∷ []) (shape.Mark mark.LeftParen ∷ [])
operand_clash operand_of.QualifiedRest = never [] (shape.Mark mark.LeftParen ∷ [])
operand_clash operand_of.Primary = never (shape.Keyword keyword.Else ∷ []) []
operand_clash operand_of.TextRest = never [] []
operand_clash operand_of.ParenthesisRest = never [] []
operand_clash operand_of.TupleRest = never [] []
operand_clash operand_of.Items = never [] []
operand_clash operand_of.ItemsRest = never [] []
operand_clash operand_of.Arguments = never [] []
operand_clash operand_of.ArgumentsRest = never [] []
operand_clash operand_of.ConstructorArguments = never [] []
operand_clash operand_of.NamedOrNot = never [] []
operand_clash operand_of.NamedRest = never [] []
operand_clash operand_of.NamedMore = never [] []

abbrev pattern_clash : PatternPart → Shape → Bool → Bool
pattern_clash pattern_of.Pattern = never (shape.Keyword keyword.Or ∷ shape.Mark mark.LeftParen ∷ []) []
pattern_clash pattern_of.Alternative = never (shape.Mark mark.LeftParen ∷ []) []
pattern_clash pattern_of.PatternRest = never (shape.Keyword keyword.Or ∷ shape.Mark mark.LeftParen ∷ []) []
pattern_clash pattern_of.PatternTextRest = never [] []
pattern_clash pattern_of.ConstructorPatternRest = never (shape.Mark mark.LeftParen ∷ []) []
pattern_clash pattern_of.PatternsRest = never [] []
pattern_clash pattern_of.PatternsMore = never [] []
pattern_clash pattern_of.TuplePatternRest = never [] []
pattern_clash pattern_of.FieldPattern = never (shape.Keyword keyword.Or ∷ shape.Mark mark.LeftParen ∷ []) []
pattern_clash pattern_of.FieldPatternsRest = never [] []
pattern_clash pattern_of.FieldPatternsMore = never [] []

-- The tokens that never follow a part.
abbrev pub clash : Nonterminal → Shape → Bool → Bool
clash (part.Module n) = module_clash n
clash (part.Method n) = method_clash n
clash (part.Type n) = type_clash n
clash (part.Statement n) = statement_clash n
clash (part.Operand n) = operand_clash n
clash (part.Pattern n) = pattern_clash n

-- What a rule may be and may begin with is what its part may.
abbrev pub closed : Nonterminal → List Symbol → Bool
closed n r = implies (empties r) (may_be_empty n) && every (λ shape new_line. implies (opens r shape new_line) (begins n shape new_line))

-- A rule that a token begins is the first that goes on with it.
abbrev pub told : List (List Symbol) → Bool
told [] = true
told (r ∷ rs) = every (λ shape new_line. implies (opens r shape new_line) (goes r shape new_line))
    && all (λ q. every (λ shape new_line. implies (opens q shape new_line) (not (goes r shape new_line)))) rs
    && told rs

-- A rule that is no token is the first that goes on with what may follow its part.
abbrev pub told_empty : Nonterminal → List (List Symbol) → Bool
told_empty n [] = true
told_empty n (r ∷ rs) = implies (empties r) (ends r && every (λ shape new_line. goes r shape new_line))
    && all (λ q. implies (empties q) (not (ends r) && every (λ shape new_line. implies (goes r shape new_line) (clash n shape new_line)))) rs
    && told_empty n rs

-- No part is followed by what never follows it.
abbrev pub parted : Nonterminal → List Symbol → Bool
parted n [] = true
parted n (s.Part l m ∷ r) = strict l m
    && every (λ shape new_line. implies (clash m shape new_line) (not (opens r shape new_line)))
    && implies (empties r) (every (λ shape new_line. implies (clash m shape new_line) (clash n shape new_line)))
    && parted n r
parted n (s.Token l w ∷ r) = parted n r
parted n (s.Place w ∷ r) = parted n r
parted n (s.Do a ∷ r) = parted n r

abbrev pub has_no_place : List Symbol → Bool
has_no_place [] = true
has_no_place (s.Place w ∷ r) = false
has_no_place (s.Part l m ∷ r) = has_no_place r
has_no_place (s.Token l w ∷ r) = has_no_place r
has_no_place (s.Do a ∷ r) = has_no_place r

abbrev pub plain : List Symbol → Bool
plain [] = true
plain (x ∷ r) = has_no_place r

abbrev pub sound : Nonterminal → Bool
sound n = all (closed n) (rules n) && told (rules n) && told_empty n (rules n) && all (parted n) (rules n) && all plain (rules n)

module_is_sound : (n : ModulePart) → sound (part.Module n) ≡ true
module_is_sound module_of.Module = refl
module_is_sound module_of.Imports = refl
module_is_sound module_of.Import = refl
module_is_sound module_of.ImportPath = refl
module_is_sound module_of.ImportNames = refl
module_is_sound module_of.ImportName = refl
module_is_sound module_of.ImportNamesRest = refl
module_is_sound module_of.ImportNamesMore = refl
module_is_sound module_of.Declarations = refl
module_is_sound module_of.Declaration = refl
module_is_sound module_of.TypeForm = refl
module_is_sound module_of.ObjectForm = refl
module_is_sound module_of.ObjectMembers = refl
module_is_sound module_of.EnumMembers = refl
module_is_sound module_of.FieldDeclaration = refl
module_is_sound module_of.Constructor = refl
module_is_sound module_of.TraitMethods = refl
module_is_sound module_of.TraitMethod = refl
module_is_sound module_of.ImplementedTrait = refl

method_is_sound : (n : MethodPart) → sound (part.Method n) ≡ true
method_is_sound method_of.OptionalPub = refl
method_is_sound method_of.OptionalAsync = refl
method_is_sound method_of.OptionalMut = refl
method_is_sound method_of.MethodKind = refl
method_is_sound method_of.TraitMethodKind = refl
method_is_sound method_of.Methods = refl
method_is_sound method_of.Method = refl
method_is_sound method_of.Parameters = refl
method_is_sound method_of.ParametersMore = refl
method_is_sound method_of.ParametersRest = refl
method_is_sound method_of.Parameter = refl
method_is_sound method_of.MethodResult = refl

type_is_sound : (n : TypePart) → sound (part.Type n) ≡ true
type_is_sound type_of.FullType = refl
type_is_sound type_of.BareType = refl
type_is_sound type_of.TupleTypeRest = refl
type_is_sound type_of.TypeArguments = refl
type_is_sound type_of.TypeArgumentsRest = refl
type_is_sound type_of.TypeArgumentsMore = refl
type_is_sound type_of.TypeParameters = refl
type_is_sound type_of.TypeParametersRest = refl
type_is_sound type_of.TypeParametersMore = refl
type_is_sound type_of.TypeParameter = refl
type_is_sound type_of.Bounds = refl
type_is_sound type_of.BoundsRest = refl
type_is_sound type_of.ConstructorTypes = refl
type_is_sound type_of.ConstructorTypesRest = refl
type_is_sound type_of.ConstructorTypesMore = refl

statement_is_sound : (n : StatementPart) → sound (part.Statement n) ≡ true
statement_is_sound statement_of.Block = refl
statement_is_sound statement_of.Statements = refl
statement_is_sound statement_of.MoreStatements = refl
statement_is_sound statement_of.Statement = refl
statement_is_sound statement_of.Mutable = refl
statement_is_sound statement_of.LetName = refl
statement_is_sound statement_of.LetType = refl
statement_is_sound statement_of.Expression = refl
statement_is_sound statement_of.Jump = refl
statement_is_sound statement_of.ReturnRest = refl
statement_is_sound statement_of.AfterOperand = refl
statement_is_sound statement_of.Chain = refl
statement_is_sound statement_of.ChainRest = refl
statement_is_sound statement_of.UnnamedExpression = refl
statement_is_sound statement_of.Conditional = refl
statement_is_sound statement_of.ElseRest = refl
statement_is_sound statement_of.ElseBranch = refl
statement_is_sound statement_of.Arms = refl
statement_is_sound statement_of.Arm = refl
statement_is_sound statement_of.Guard = refl
statement_is_sound statement_of.ArmValue = refl

operand_is_sound : (n : OperandPart) → sound (part.Operand n) ≡ true
operand_is_sound operand_of.Operand = refl
operand_is_sound operand_of.UnnamedOperand = refl
operand_is_sound operand_of.RecoverRest = refl
operand_is_sound operand_of.NameRest = refl
operand_is_sound operand_of.Links = refl
operand_is_sound operand_of.Link = refl
operand_is_sound operand_of.LinkRest = refl
operand_is_sound operand_of.ConstantRest = refl
operand_is_sound operand_of.AfterConstant = refl
operand_is_sound operand_of.QualifiedRest = refl
operand_is_sound operand_of.Primary = refl
operand_is_sound operand_of.TextRest = refl
operand_is_sound operand_of.ParenthesisRest = refl
operand_is_sound operand_of.TupleRest = refl
operand_is_sound operand_of.Items = refl
operand_is_sound operand_of.ItemsRest = refl
operand_is_sound operand_of.Arguments = refl
operand_is_sound operand_of.ArgumentsRest = refl
operand_is_sound operand_of.ConstructorArguments = refl
operand_is_sound operand_of.NamedOrNot = refl
operand_is_sound operand_of.NamedRest = refl
operand_is_sound operand_of.NamedMore = refl

pattern_is_sound : (n : PatternPart) → sound (part.Pattern n) ≡ true
pattern_is_sound pattern_of.Pattern = refl
pattern_is_sound pattern_of.Alternative = refl
pattern_is_sound pattern_of.PatternRest = refl
pattern_is_sound pattern_of.PatternTextRest = refl
pattern_is_sound pattern_of.ConstructorPatternRest = refl
pattern_is_sound pattern_of.PatternsRest = refl
pattern_is_sound pattern_of.PatternsMore = refl
pattern_is_sound pattern_of.TuplePatternRest = refl
pattern_is_sound pattern_of.FieldPattern = refl
pattern_is_sound pattern_of.FieldPatternsRest = refl
pattern_is_sound pattern_of.FieldPatternsMore = refl

pub is_sound : (n : Nonterminal) → sound n ≡ true
is_sound (part.Module n) = module_is_sound n
is_sound (part.Method n) = method_is_sound n
is_sound (part.Type n) = type_is_sound n
is_sound (part.Statement n) = statement_is_sound n
is_sound (part.Operand n) = operand_is_sound n
is_sound (part.Pattern n) = pattern_is_sound n
