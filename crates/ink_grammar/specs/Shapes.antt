-- Shapes of tokens, and which of them are wanted.
use Rattle.std.specs.Prelude.{ℕ, Bool, true, false, not, ◌||◌, ◌==◌}
use Rattle.ink_grammar.specs.declared.token.Keyword.{Keyword}
use Rattle.ink_grammar.specs.declared.token.Keyword.TheVariants as keyword
use Rattle.ink_grammar.specs.declared.token.Mark.{Mark}
use Rattle.ink_grammar.specs.declared.token.Mark.TheVariants as mark
use Rattle.ink_grammar.specs.declared.token.Shape.{Shape}
use Rattle.ink_grammar.specs.declared.token.Shape.TheVariants as shape
use Rattle.ink_grammar.specs.declared.symbol.Line.{Line}
use Rattle.ink_grammar.specs.declared.symbol.Line.TheVariants as line
use Rattle.ink_grammar.specs.declared.symbol.Wanted.{Wanted}
use Rattle.ink_grammar.specs.declared.symbol.Wanted.TheVariants as wanted

-- a number for each keyword, behind those of the plain shapes
abbrev pub keyword_number : Keyword → ℕ
keyword_number keyword.And = 10
keyword_number keyword.Async = 11
keyword_number keyword.Break = 12
keyword_number keyword.Case = 13
keyword_number keyword.Else = 14
keyword_number keyword.Enum = 15
keyword_number keyword.False = 16
keyword_number keyword.Fn = 17
keyword_number keyword.For = 18
keyword_number keyword.If = 19
keyword_number keyword.Impl = 20
keyword_number keyword.Import = 21
keyword_number keyword.Let = 22
keyword_number keyword.Loop = 23
keyword_number keyword.Match = 24
keyword_number keyword.Move = 25
keyword_number keyword.Mut = 26
keyword_number keyword.Next = 27
keyword_number keyword.Nil = 28
keyword_number keyword.Or = 29
keyword_number keyword.Pub = 30
keyword_number keyword.Recover = 31
keyword_number keyword.Ref = 32
keyword_number keyword.Return = 33
keyword_number keyword.SelfWord = 34
keyword_number keyword.Static = 35
keyword_number keyword.Throw = 36
keyword_number keyword.Trait = 37
keyword_number keyword.True = 38
keyword_number keyword.Try = 39
keyword_number keyword.Type = 40
keyword_number keyword.Uni = 41
keyword_number keyword.While = 42

-- a number for each mark, behind those of the keywords
abbrev pub mark_number : Mark → ℕ
mark_number mark.LeftParen = 43
mark_number mark.RightParen = 44
mark_number mark.LeftBracket = 45
mark_number mark.RightBracket = 46
mark_number mark.LeftBrace = 47
mark_number mark.RightBrace = 48
mark_number mark.Comma = 49
mark_number mark.Dot = 50
mark_number mark.Colon = 51
mark_number mark.Swap = 52
mark_number mark.Equals = 53
mark_number mark.Arrow = 54
mark_number mark.Plus = 55
mark_number mark.Operator = 56
mark_number mark.OperatorEquals = 57

-- the shapes by number
abbrev pub number : Shape → ℕ
number shape.Name = 0
number shape.Constant = 1
number shape.Field = 2
number shape.Integer = 3
number shape.Hexadecimal = 4
number shape.Underscore = 5
number shape.Quote = 6
number shape.TextPart = 7
number shape.Opening = 8
number shape.Closing = 9
number (shape.Keyword k) = keyword_number k
number (shape.Mark m) = mark_number m

-- whether the two are one shape
abbrev pub same : Shape → Shape → Bool
same a b = number a == number b

-- a token that is an expression
abbrev pub is_atom : Shape → Bool
is_atom x = same shape.Integer x || same shape.Hexadecimal x || same shape.Field x || same (shape.Keyword keyword.True) x || same (shape.Keyword keyword.False) x || same (shape.Keyword keyword.Nil) x || same (shape.Keyword keyword.SelfWord) x

-- a token that is a pattern
abbrev pub is_pattern_atom : Shape → Bool
is_pattern_atom x = same shape.Underscore x || same shape.Integer x || same shape.Hexadecimal x || same shape.Name x || same (shape.Keyword keyword.True) x || same (shape.Keyword keyword.False) x

-- what stands between two operands, but for `and` and `or`
abbrev pub is_operator : Shape → Bool
is_operator x = same (shape.Mark mark.Operator) x || same (shape.Mark mark.Plus) x

-- `and` or `or` between two operands, of which the right one counts as a statement
abbrev pub is_logical : Shape → Bool
is_logical x = same (shape.Keyword keyword.And) x || same (shape.Keyword keyword.Or) x

-- what stands behind a place that is set
abbrev pub is_setter : Shape → Bool
is_setter x = same (shape.Mark mark.Equals) x || same (shape.Mark mark.Swap) x || same (shape.Mark mark.OperatorEquals) x

-- a word that borrows
abbrev pub is_borrow_word : Shape → Bool
is_borrow_word x = same (shape.Keyword keyword.Ref) x || same (shape.Keyword keyword.Mut) x

-- a word before a type
abbrev pub is_type_prefix : Shape → Bool
is_type_prefix x = same (shape.Keyword keyword.Ref) x || same (shape.Keyword keyword.Mut) x || same (shape.Keyword keyword.Uni) x

-- a word that leaves a turn of a loop
abbrev pub is_loop_jump : Shape → Bool
is_loop_jump x = same (shape.Keyword keyword.Break) x || same (shape.Keyword keyword.Next) x

-- a name behind a `.`, where a keyword is one too
abbrev pub is_link_name : Shape → Bool
is_link_name shape.Name = true
is_link_name (shape.Keyword k) = true
is_link_name _ = false

-- whether a token of this shape is wanted
abbrev pub is : Wanted → Shape → Bool
is (wanted.Mark w) x = same w x
is (wanted.Word w) x = same w x
is wanted.Atom x = is_atom x
is wanted.PatternAtom x = is_pattern_atom x
is wanted.Operator x = is_operator x
is wanted.Logical x = is_logical x
is wanted.Setter x = is_setter x
is wanted.BorrowWord x = is_borrow_word x
is wanted.TypePrefix x = is_type_prefix x
is wanted.LoopJump x = is_loop_jump x
is wanted.LinkName x = is_link_name x

-- whether a token stands so
abbrev pub stands : Line → Bool → Bool
stands line.Any new_line = true
stands line.Same new_line = not new_line
stands line.Fresh new_line = new_line
