-- What stands round a part at its context.
use Rattle.std.specs.Prelude.{Bool, true, false, Option, Some, None, if◌then◌else◌}
use Rattle.ink_grammar.specs.declared.token.Keyword.TheVariants as keyword
use Rattle.ink_grammar.specs.declared.token.Shape.{Shape}
use Rattle.ink_grammar.specs.declared.token.Shape.TheVariants as shape
use Rattle.ink_grammar.specs.declared.tree.TwoChildren.{TwoChildren}
use Rattle.ink_grammar.specs.declared.tree.TwoChildren.TheVariants as two_of
use Rattle.ink_grammar.specs.declared.tree.ThreeChildren.{ThreeChildren}
use Rattle.ink_grammar.specs.declared.tree.ThreeChildren.TheVariants as three_of
use Rattle.ink_print.specs.declared.context.Context.{Context}
use Rattle.ink_print.specs.declared.context.Context.TheVariants as context
use Rattle.ink_print.specs.declared.context.Rank.{Rank}
use Rattle.ink_print.specs.declared.context.Rank.TheVariants as rank
use Rattle.ink_print.specs.declared.step.Sign.{Sign}
use Rattle.ink_print.specs.declared.step.Sign.TheVariants as sign

-- the rank of a token: `break` and `next` are no chains
abbrev pub rank_of_shape : Shape → Rank
rank_of_shape shape.TextPart = rank.TextPart
rank_of_shape (shape.Keyword keyword.Break) = rank.Expression
rank_of_shape (shape.Keyword keyword.Next) = rank.Expression
rank_of_shape _ = rank.Base

-- the rank of a form with two children
abbrev pub rank_of_two : TwoChildren → Rank
rank_of_two two_of.Return = rank.Expression
rank_of_two two_of.Throw = rank.Expression
rank_of_two two_of.Borrow = rank.Operand
rank_of_two two_of.Try = rank.Operand
rank_of_two two_of.Recover = rank.Operand
rank_of_two _ = rank.Base

-- the rank of a form with three children
abbrev pub rank_of_three : ThreeChildren → Rank
rank_of_three three_of.Assign = rank.Expression
rank_of_three three_of.Binary = rank.Chain
rank_of_three _ = rank.Base

-- whether the grammar doesn't derive it at its context without parentheses
abbrev pub needs_parentheses : Context → Rank → Bool
needs_parentheses context.Chain rank.Expression = true
needs_parentheses context.Operand rank.Expression = true
needs_parentheses context.Operand rank.Chain = true
needs_parentheses context.Base rank.Expression = true
needs_parentheses context.Base rank.Chain = true
needs_parentheses context.Base rank.Operand = true
needs_parentheses _ _ = false

-- the sign before a part, where there is a part at this context
abbrev pub introduction : Context → Rank → Option Sign
introduction context.Body rank.NoItems = None
introduction context.Body _ = Some sign.Line
introduction context.TextItem rank.TextPart = None
introduction context.TextItem _ = Some sign.TextOpening
introduction context.Bracketed _ = Some sign.LeftBracket
introduction context.Parenthesised _ = Some sign.LeftParen
introduction context.ImportNames _ = Some sign.ImportParen
introduction context.Bounded _ = Some sign.Colon
introduction context.Annotated _ = Some sign.Colon
introduction context.Returned _ = Some sign.Arrow
introduction context.Implemented _ = Some sign.For
introduction context.Otherwise _ = Some sign.Else
introduction context.Guard _ = Some sign.If
introduction _ _ = None

-- the sign behind a part, where there is a part at this context
abbrev pub conclusion : Context → Rank → Option Sign
conclusion context.TextItem rank.TextPart = None
conclusion context.TextItem _ = Some sign.TextClosing
conclusion context.Bracketed _ = Some sign.RightBracket
conclusion context.Parenthesised _ = Some sign.RightParen
conclusion context.ImportNames _ = Some sign.RightParen
conclusion _ _ = None

-- what stands before a part
abbrev pub opening : Context → Rank → Option Sign
opening p r = if needs_parentheses p r then Some sign.LeftParen else introduction p r

-- what stands behind a part
abbrev pub closing : Context → Rank → Option Sign
closing p r = if needs_parentheses p r then Some sign.RightParen else conclusion p r

-- the context between the two signs
abbrev pub inner : Context → Context
inner context.Body = context.Lines
inner context.TextItem = context.Expression
inner context.Bracketed = context.Items
inner context.Parenthesised = context.Items
inner context.ImportNames = context.Items
inner context.Bounded = context.Bounds
inner context.Annotated = context.Expression
inner context.Returned = context.Expression
inner context.Implemented = context.Expression
inner context.Otherwise = context.Expression
inner context.Guard = context.Chain
inner p = p
