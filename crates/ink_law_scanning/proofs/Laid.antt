-- Pieces that may follow one another are read as they are laid out.
use Rattle.std.proofs.Common.{◌≡◌, ℕ, Bool, true, false, cond, List, [], ◌∷◌, ◌++◌, map, refl, sym, ap, ◌∙◌, subst, Some, append_assoc}
use Rattle.ink_base.specs.declared.token.Token as scanned
use Rattle.ink_tokens.specs.declared.reading.Before.{Before}
use Rattle.ink_tokens.specs.declared.reading.Before.TheVariants as before
use Rattle.ink_tokens.specs.Found.{may_be_signed}
use Rattle.ink_tokens.specs.Lexes.{Lexes, AreTokens}
use Rattle.ink_tokens.specs.Scan.{begins_line}
use Rattle.ink_shapes.specs.Terminals.{terminal_of}
use Rattle.ink_grammar.specs.declared.token.Shape.{Shape}
use Rattle.ink_grammar.specs.declared.token.Terminal.{Terminal}
use Rattle.ink_print.specs.declared.class.Class.{Class}
use Rattle.ink_print.specs.declared.step.Piece.{Piece}
use Rattle.ink_print.specs.declared.step.Piece.TheVariants as piece
use Rattle.ink_print.specs.declared.step.Sign.{Sign}
use Rattle.ink_print.specs.Layout.{token_text, laid}
use Rattle.ink_law_categories.specs.Nested.{Level, Inside}
use Rattle.ink_law_categories.specs.Spells.{Spells, shape_of_sign}
use Rattle.ink_law_categories.specs.Spells as spells
use Rattle.ink_law_neighbours.specs.Follow.{is_begun}
use Rattle.ink_law_scanning.proofs.Advance.{nests, Advanced}
use Rattle.ink_law_scanning.proofs.Gaps.{IsTight}
use Rattle.ink_law_scanning.proofs.Steps.{At, state}

-- whether the place is the first
abbrev pub is_start : Before → Bool
is_start before.Start = true
is_start b = false

-- in a text, what stood before leaves no blank
abbrev pub Fits : List Level → Class → Type 0
Fits [] c = Unit {0}
Fits (Inside quote ends ∷ ls) c = IsTight c
Fits (l ∷ ls) c = Unit {0}

-- A scanner before pieces that are laid out.
pub record Here (source print : List ℕ) (levels : List Level) (free line : Bool) (c : Class) (ps : List Piece) (depth : ℕ) (ts : List scanned.Token) : Type 0 where
  pub b : Before
  pub place : ℕ
  pub opened : ℕ
  pub lexes : Lexes print (state place b (nests source levels opened) ts)
  pub here : At print place (laid source ps depth c)
  pub signed : free ≡ true → may_be_signed b ≡ true
  pub fits : Fits levels c
  pub begins : begins_line b ≡ line
  pub begun : is_start b ≡ true → is_begun ps ≡ true

-- The rest of the print is the tokens of these pieces.
pub record Lexed (source print : List ℕ) (line : Bool) (ps : List Piece) (ts : List scanned.Token) : Type 0 where
  pub tokens : List scanned.Token
  pub comes : AreTokens print (ts ++ tokens)
  pub end : Bool
  pub spelled : Spells source print line ps (map (terminal_of print) tokens) end

-- a token that ends an operand or doesn't begins no line
pub behind-line : (e : Bool) → begins_line (cond e before.Operand before.Other) ≡ false
unfolding begins_line
behind-line true = refl
behind-line false = refl

pub behind-start : (e : Bool) → is_start (cond e before.Operand before.Other) ≡ false
behind-start true = refl
behind-start false = refl

pub never : {P : Type 0} (b : Bool) → b ≡ false → b ≡ true → P
never true never_is is = let none : true ≡ false = never_is in cc
never false never_is is = let none : false ≡ true = is in cc

-- behind a token stand the next pieces
pub next : (source print : List ℕ) (x : Shape) (text : List ℕ) (line : Bool) (levels : List Level) (e free : Bool) (c : Class) (ps : List Piece) (depth : ℕ) (ts : List scanned.Token) →
    (read : Advanced source print x text line levels (cond e before.Operand before.Other) ts (laid source ps depth c)) →
    (free ≡ true → may_be_signed (cond e before.Operand before.Other) ≡ true) → Fits levels c →
    Here source print levels free false c ps depth (ts ++ read.token ∷ [])
next source print x text line levels e free c ps depth ts read signed fits = record {
  b = cond e before.Operand before.Other;
  place = read.place;
  opened = read.opened;
  lexes = read.lexes;
  here = read.here;
  signed = signed;
  fits = fits;
  begins = behind-line e;
  begun = never (is_start (cond e before.Operand before.Other)) (behind-start e);
}

-- one token more
pub more-tokens : (print : List ℕ) (ts tokens : List scanned.Token) (t : scanned.Token) → AreTokens print ((ts ++ t ∷ []) ++ tokens) → AreTokens print (ts ++ t ∷ tokens)
more-tokens print ts tokens t are = subst (AreTokens print) (append_assoc ts (t ∷ []) tokens) are

pub with-token : (source print : List ℕ) (t : Terminal) (x : Shape) (line : Bool) (levels : List Level) (b : Before) (ts : List scanned.Token) (rest : List ℕ) (ps : List Piece) →
    (read : Advanced source print x (token_text source t) line levels b ts rest) → x ≡ t.shape → Lexed source print false ps (ts ++ read.token ∷ []) → Lexed source print line (piece.Token t ∷ ps) ts
with-token source print t x line levels b ts rest ps read shown after = record {
  tokens = read.token ∷ after.tokens;
  comes = more-tokens print ts after.tokens read.token after.comes;
  end = after.end;
  spelled = spells.token read.line (record { shape = read.shape ∙ shown; text = read.text_is }) after.spelled;
}

pub with-name : (source print : List ℕ) (t : Terminal) (x : Shape) (line : Bool) (levels : List Level) (b : Before) (ts : List scanned.Token) (rest : List ℕ) (ps : List Piece) →
    (read : Advanced source print x (token_text source t) line levels b ts rest) → x ≡ t.shape → Lexed source print false ps (ts ++ read.token ∷ []) → Lexed source print line (piece.Name t ∷ ps) ts
with-name source print t x line levels b ts rest ps read shown after = record {
  tokens = read.token ∷ after.tokens;
  comes = more-tokens print ts after.tokens read.token after.comes;
  end = after.end;
  spelled = spells.name read.line (record { shape = read.shape ∙ shown; text = read.text_is }) after.spelled;
}

pub with-sign : (source print : List ℕ) (s : Sign) (x : Shape) (text : List ℕ) (line : Bool) (levels : List Level) (b : Before) (ts : List scanned.Token) (rest : List ℕ) (ps : List Piece) →
    (read : Advanced source print x text line levels b ts rest) → shape_of_sign s ≡ Some x → Lexed source print false ps (ts ++ read.token ∷ []) → Lexed source print line (piece.Sign s ∷ ps) ts
with-sign source print s x text line levels b ts rest ps read shown after = record {
  tokens = read.token ∷ after.tokens;
  comes = more-tokens print ts after.tokens read.token after.comes;
  end = after.end;
  spelled = spells.a_sign read.line (shown ∙ ap Some (sym read.shape)) after.spelled;
}
