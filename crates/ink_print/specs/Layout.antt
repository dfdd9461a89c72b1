-- How pieces are laid out: where a line begins, and where a blank stands.
use Rattle.std.specs.Prelude.{ℕ, ◌+◌, ◌-◌, ◌*◌, nat_le, Bool, true, false, not, ◌&&◌, ◌||◌, if◌then◌else◌, List, [], ◌∷◌, ◌++◌, length, replicate, codes, slice_range}
use Rattle.ink_grammar.specs.declared.token.Mark.TheVariants as mark
use Rattle.ink_grammar.specs.declared.token.Shape.{Shape}
use Rattle.ink_grammar.specs.declared.token.Shape.TheVariants as shape
use Rattle.ink_grammar.specs.declared.token.Terminal.{Terminal}
use Rattle.ink_grammar.specs.Tree.{Tree}
use Rattle.ink_print.specs.declared.class.Class.{Class}
use Rattle.ink_print.specs.declared.class.Class.TheVariants as class
use Rattle.ink_print.specs.declared.step.Piece.{Piece}
use Rattle.ink_print.specs.declared.step.Piece.TheVariants as piece
use Rattle.ink_print.specs.declared.step.Sign.{Sign}
use Rattle.ink_print.specs.declared.step.Sign.TheVariants as sign
use Rattle.ink_print.specs.Printed.{pieces}

-- the class of a token
abbrev pub class_of_shape : Shape → Class
class_of_shape (shape.Keyword k) = class.Keyword
class_of_shape (shape.Mark mark.Swap) = class.Operator
class_of_shape (shape.Mark mark.Equals) = class.Operator
class_of_shape (shape.Mark mark.Arrow) = class.Operator
class_of_shape (shape.Mark mark.Plus) = class.Operator
class_of_shape (shape.Mark mark.Operator) = class.Operator
class_of_shape (shape.Mark mark.OperatorEquals) = class.Operator
class_of_shape _ = class.Word

-- the class of a sign
abbrev pub class_of_sign : Sign → Class
class_of_sign sign.Line = class.Line
class_of_sign sign.LeftParen = class.Opening
class_of_sign sign.RightParen = class.Closing
class_of_sign sign.ImportParen = class.ImportOpening
class_of_sign sign.LeftBracket = class.Opening
class_of_sign sign.RightBracket = class.Closing
class_of_sign sign.BlockOpening = class.BlockOpening
class_of_sign sign.BlockClosing = class.BlockClosing
class_of_sign sign.PatternOpening = class.PatternOpening
class_of_sign sign.PatternClosing = class.PatternClosing
class_of_sign sign.TextOpening = class.Opening
class_of_sign sign.TextClosing = class.Closing
class_of_sign sign.Comma = class.Separator
class_of_sign sign.Dot = class.Dot
class_of_sign sign.Colon = class.Separator
class_of_sign sign.Equals = class.Operator
class_of_sign sign.Arrow = class.Operator
class_of_sign sign.Plus = class.Operator
class_of_sign sign.Else = class.Keyword
class_of_sign sign.Enum = class.Keyword
class_of_sign sign.For = class.Keyword
class_of_sign sign.If = class.Keyword
class_of_sign sign.Or = class.Keyword

-- the class of a piece
abbrev pub class_of : Piece → Class
class_of (piece.Token t) = class_of_shape t.shape
class_of (piece.Name t) = class.Word
class_of (piece.Sign s) = class_of_sign s

-- whether no blank may stand behind it
abbrev pub is_tight_behind : Class → Bool
is_tight_behind class.Opening = true
is_tight_behind class.ImportOpening = true
is_tight_behind class.Dot = true
is_tight_behind _ = false

-- whether no blank may stand before it
abbrev pub is_tight_before : Class → Bool
is_tight_before class.Closing = true
is_tight_before class.Separator = true
is_tight_before class.Dot = true
is_tight_before _ = false

-- whether it asks for a blank behind it
abbrev pub asks_behind : Class → Bool
asks_behind class.Keyword = true
asks_behind class.Operator = true
asks_behind class.Separator = true
asks_behind class.BlockOpening = true
asks_behind class.PatternOpening = true
asks_behind _ = false

-- whether it asks for a blank before it
abbrev pub asks_before : Class → Bool
asks_before class.Keyword = true
asks_before class.Operator = true
asks_before class.BlockOpening = true
asks_before class.PatternClosing = true
asks_before class.ImportOpening = true
asks_before _ = false

-- whether a blank stands between two neighbours on a line
abbrev pub is_spaced : Class → Class → Bool
is_spaced a b = not (is_tight_behind a || is_tight_before b) && (asks_behind a || asks_before b)

-- a blank, if one is wanted
abbrev pub blank : Bool → List ℕ
blank is_wanted = if is_wanted then 32 ∷ [] else []

-- the blanks between two neighbours, among so many open blocks: a line begins with two for each, and ends with none
abbrev pub gap : ℕ → Class → Class → List ℕ
gap depth a class.Line = []
gap depth class.Line b = replicate (2 * depth) 32
gap depth a b = blank (is_spaced a b)

-- the blocks that are open where a piece stands: a closing brace stands outside of its block
abbrev pub depth_at : Class → ℕ → ℕ
depth_at class.BlockClosing depth = depth - 1
depth_at _ depth = depth

-- the blocks that are open behind a piece
abbrev pub depth_behind : Class → ℕ → ℕ
depth_behind class.BlockOpening depth = depth + 1
depth_behind _ depth = depth

-- the bytes of a sign
abbrev pub sign_text : Sign → List ℕ
sign_text sign.Line = 10 ∷ []
sign_text sign.LeftParen = codes "("
sign_text sign.RightParen = codes ")"
sign_text sign.ImportParen = codes "("
sign_text sign.LeftBracket = codes "["
sign_text sign.RightBracket = codes "]"
sign_text sign.BlockOpening = codes "{"
sign_text sign.BlockClosing = codes "}"
sign_text sign.PatternOpening = codes "{"
sign_text sign.PatternClosing = codes "}"
sign_text sign.TextOpening = codes "${"
sign_text sign.TextClosing = codes "}"
sign_text sign.Comma = codes ","
sign_text sign.Dot = codes "."
sign_text sign.Colon = codes ":"
sign_text sign.Equals = codes "="
sign_text sign.Arrow = codes "->"
sign_text sign.Plus = codes "+"
sign_text sign.Else = codes "else"
sign_text sign.Enum = codes "enum"
sign_text sign.For = codes "for"
sign_text sign.If = codes "if"
sign_text sign.Or = codes "or"

-- the bytes of a token: none where it isn't inside the source
abbrev pub token_text : List ℕ → Terminal → List ℕ
token_text source t = if nat_le t.start t.end && nat_le t.end (length source) then slice_range source t.start t.end else []

-- the bytes of a piece
abbrev pub piece_text : List ℕ → Piece → List ℕ
piece_text source (piece.Token t) = token_text source t
piece_text source (piece.Name t) = token_text source t
piece_text source (piece.Sign s) = sign_text s

-- the bytes of pieces, behind one of this class among so many open blocks
unfoldable pub laid : List ℕ → List Piece → ℕ → Class → List ℕ
laid source [] depth before = []
laid source (p ∷ ps) depth before =
    gap (depth_at (class_of p) depth) before (class_of p) ++ (piece_text source p ++ laid source ps (depth_behind (class_of p) (depth_at (class_of p) depth)) (class_of p))

-- the print of a module that was read from this source
abbrev pub print : List ℕ → Tree → List ℕ
print source tree = laid source (pieces tree) 0 class.Line
