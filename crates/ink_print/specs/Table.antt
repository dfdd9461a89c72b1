-- What each form is printed as, step by step.
use Rattle.std.specs.Prelude.{List, [], ◌∷◌}
use Rattle.ink_grammar.specs.declared.tree.OneChild.{OneChild}
use Rattle.ink_grammar.specs.declared.tree.OneChild.TheVariants as one_of
use Rattle.ink_grammar.specs.declared.tree.TwoChildren.{TwoChildren}
use Rattle.ink_grammar.specs.declared.tree.TwoChildren.TheVariants as two_of
use Rattle.ink_grammar.specs.declared.tree.ThreeChildren.{ThreeChildren}
use Rattle.ink_grammar.specs.declared.tree.ThreeChildren.TheVariants as three_of
use Rattle.ink_grammar.specs.declared.tree.FourChildren.{FourChildren}
use Rattle.ink_grammar.specs.declared.tree.FourChildren.TheVariants as four_of
use Rattle.ink_grammar.specs.declared.tree.FiveChildren.{FiveChildren}
use Rattle.ink_grammar.specs.declared.tree.FiveChildren.TheVariants as five_of
use Rattle.ink_print.specs.declared.context.Context.{Context}
use Rattle.ink_print.specs.declared.context.Context.TheVariants as context
use Rattle.ink_print.specs.declared.step.Sign.{Sign}
use Rattle.ink_print.specs.declared.step.Sign.TheVariants as sign
use Rattle.ink_print.specs.declared.step.Slot.TheVariants as slot
use Rattle.ink_print.specs.declared.step.Step.{Step}
use Rattle.ink_print.specs.declared.step.Step.TheVariants as step

-- a sign
abbrev pub put : Sign → Step
put s = step.Sign s

-- the first child, at a context
abbrev pub first_as : Context → Step
first_as p = step.Child slot.First p

-- the second child, at a context
abbrev pub second_as : Context → Step
second_as p = step.Child slot.Second p

-- the third child, at a context
abbrev pub third_as : Context → Step
third_as p = step.Child slot.Third p

-- the fourth child, at a context
abbrev pub fourth_as : Context → Step
fourth_as p = step.Child slot.Fourth p

-- the fifth child, at a context
abbrev pub fifth_as : Context → Step
fifth_as p = step.Child slot.Fifth p

-- the first child, where each expression may stand
abbrev pub first : Step
first = first_as context.Expression

-- the second child, where each expression may stand
abbrev pub second : Step
second = second_as context.Expression

-- the third child, where each expression may stand
abbrev pub third : Step
third = third_as context.Expression

-- the fourth child, where each expression may stand
abbrev pub fourth : Step
fourth = fourth_as context.Expression

-- the fifth child, where each expression may stand
abbrev pub fifth : Step
fifth = fifth_as context.Expression

-- a statement, at its context
abbrev pub statement : Context → List Step
statement context.Chain = first_as context.Chain ∷ []
statement context.Operand = first_as context.Operand ∷ []
statement context.Base = first_as context.Base ∷ []
statement _ = first ∷ []

-- a list and one more item, at the context of the list
abbrev pub more : Context → List Step
more context.Lines = first_as context.Lines ∷ second ∷ put sign.Line ∷ []
more context.Dotted = first_as context.BeforeDot ∷ second ∷ []
more context.BeforeDot = first_as context.BeforeDot ∷ second ∷ put sign.Dot ∷ []
more context.Items = first_as context.BeforeComma ∷ second ∷ []
more context.BeforeComma = first_as context.BeforeComma ∷ second ∷ put sign.Comma ∷ []
more context.Bounds = first_as context.BeforePlus ∷ second ∷ []
more context.BeforePlus = first_as context.BeforePlus ∷ second ∷ put sign.Plus ∷ []
more context.TextParts = first_as context.TextParts ∷ second_as context.TextItem ∷ []
more _ = first_as context.Words ∷ second ∷ []

-- a form with two children, at its context
abbrev pub two : TwoChildren → Context → List Step
two two_of.More q = more q
two two_of.Module q = first_as context.Lines ∷ second_as context.Lines ∷ []
two two_of.TypeParameter q = first ∷ second_as context.Bounded ∷ []
two two_of.Parameter q = first ∷ put sign.Colon ∷ second ∷ []
two two_of.Return q = first ∷ second ∷ []
two two_of.Throw q = first ∷ second ∷ []
two two_of.Borrow q = first ∷ second_as context.Operand ∷ []
two two_of.Try q = first ∷ second_as context.Operand ∷ []
two two_of.Recover q = first ∷ second_as context.Operand ∷ []
two two_of.Call q = first ∷ put sign.LeftParen ∷ second_as context.Items ∷ put sign.RightParen ∷ []
two two_of.Construct q = first ∷ put sign.LeftParen ∷ second_as context.Items ∷ put sign.RightParen ∷ []
two two_of.Qualified q = first ∷ put sign.Dot ∷ second ∷ []
two two_of.Named q = first ∷ put sign.Colon ∷ second ∷ []
two two_of.Text q = first ∷ second_as context.TextParts ∷ first ∷ []
two two_of.Array q = put sign.LeftBracket ∷ second_as context.Items ∷ put sign.RightBracket ∷ []
two two_of.Loop q = first ∷ second ∷ []
two two_of.Member q = first_as context.Base ∷ put sign.Dot ∷ second_as context.Name ∷ []
two two_of.TupleItem q = first_as context.Base ∷ put sign.Dot ∷ second ∷ []
two two_of.Either q = first ∷ put sign.Or ∷ second ∷ []
two two_of.MutableName q = first ∷ second ∷ []
two two_of.ConstructorPattern q = first ∷ put sign.LeftParen ∷ second_as context.Items ∷ put sign.RightParen ∷ []
two two_of.FieldPattern q = first ∷ put sign.Equals ∷ second ∷ []
two two_of.FieldPatterns q = put sign.PatternOpening ∷ second_as context.Items ∷ put sign.PatternClosing ∷ []
two two_of.NamedType q = first ∷ second_as context.Bracketed ∷ []
two two_of.PrefixedType q = first ∷ second ∷ []

-- a form with three children
abbrev pub three : ThreeChildren → List Step
three three_of.Import = first ∷ second_as context.Dotted ∷ third_as context.ImportNames ∷ []
three three_of.Constructor = first ∷ second ∷ third_as context.Parenthesised ∷ []
three three_of.Block = put sign.BlockOpening ∷ second_as context.Body ∷ put sign.BlockClosing ∷ []
three three_of.Assign = first_as context.Base ∷ second ∷ third ∷ []
three three_of.Binary = first_as context.Chain ∷ second ∷ third_as context.Operand ∷ []
three three_of.While = first ∷ second_as context.Chain ∷ third ∷ []
three three_of.Match = first ∷ second_as context.Chain ∷ put sign.BlockOpening ∷ third_as context.Body ∷ put sign.BlockClosing ∷ []
three three_of.MemberCall = first_as context.Base ∷ put sign.Dot ∷ second_as context.Name ∷ put sign.LeftParen ∷ third_as context.Items ∷ put sign.RightParen ∷ []
three three_of.Pair = put sign.LeftParen ∷ second ∷ put sign.Comma ∷ third ∷ put sign.RightParen ∷ []
three three_of.PairPattern = put sign.LeftParen ∷ second ∷ put sign.Comma ∷ third ∷ put sign.RightParen ∷ []
three three_of.PairType = put sign.LeftParen ∷ second ∷ put sign.Comma ∷ third ∷ put sign.RightParen ∷ []

-- a form with four children
abbrev pub four : FourChildren → List Step
four four_of.FieldDeclaration = first ∷ second_as context.Words ∷ third ∷ put sign.Colon ∷ fourth ∷ []
four four_of.Signature = first ∷ second_as context.Bracketed ∷ third_as context.Parenthesised ∷ fourth_as context.Returned ∷ []
four four_of.Method = first ∷ second_as context.Words ∷ third ∷ fourth ∷ []
four four_of.Trait = first ∷ second_as context.Words ∷ third ∷ put sign.BlockOpening ∷ fourth_as context.Body ∷ put sign.BlockClosing ∷ []
four four_of.Implementation = first ∷ second ∷ third_as context.Implemented ∷ put sign.BlockOpening ∷ fourth_as context.Body ∷ put sign.BlockClosing ∷ []
four four_of.If = first ∷ second_as context.Chain ∷ third ∷ fourth_as context.Otherwise ∷ []
four four_of.Arm = first ∷ second ∷ third_as context.Guard ∷ put sign.Arrow ∷ fourth ∷ []
four four_of.Triple = put sign.LeftParen ∷ second ∷ put sign.Comma ∷ third ∷ put sign.Comma ∷ fourth ∷ put sign.RightParen ∷ []
four four_of.TriplePattern = put sign.LeftParen ∷ second ∷ put sign.Comma ∷ third ∷ put sign.Comma ∷ fourth ∷ put sign.RightParen ∷ []
four four_of.TripleType = put sign.LeftParen ∷ second ∷ put sign.Comma ∷ third ∷ put sign.Comma ∷ fourth ∷ put sign.RightParen ∷ []

-- a form with five children
abbrev pub five : FiveChildren → List Step
five five_of.TypeDeclaration = first ∷ second_as context.Words ∷ third ∷ fourth_as context.Bracketed ∷ put sign.BlockOpening ∷ fifth_as context.Body ∷ put sign.BlockClosing ∷ []
five five_of.EnumDeclaration = first ∷ second_as context.Words ∷ put sign.Enum ∷ third ∷ fourth_as context.Bracketed ∷ put sign.BlockOpening ∷ fifth_as context.Body ∷ put sign.BlockClosing ∷ []
five five_of.Let = first ∷ second ∷ third ∷ fourth_as context.Annotated ∷ put sign.Equals ∷ fifth ∷ []
five five_of.TraitMethod = first ∷ second_as context.Words ∷ third ∷ fourth_as context.Parenthesised ∷ fifth_as context.Returned ∷ []

-- a form with one child, at its context
abbrev pub one : OneChild → Context → List Step
one one_of.Statement q = statement q
