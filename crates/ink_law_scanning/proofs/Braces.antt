-- How braces and the pieces of texts are read where they are laid out.
use Rattle.std.proofs.Common.{◌≡◌, ℕ, Bool, false, List, [], ◌∷◌, ◌++◌, refl, arith, subst, inr}
use Rattle.ink_base.specs.declared.token.TokenKind.TheVariants as kind
use Rattle.ink_base.specs.declared.token.Token as scanned
use Rattle.ink_tokens.specs.declared.reading.Before.{Before}
use Rattle.ink_tokens.specs.declared.reading.Before.TheVariants as before
use Rattle.ink_tokens.specs.Fault.{is_wide_integer}
use Rattle.ink_tokens.specs.Found.{may_be_signed, ends_operand, mark_at, brace_at}
use Rattle.ink_tokens.specs.Lexes.{Lexes}
use Rattle.ink_tokens.specs.Scan.{begins_line}
use Rattle.ink_tokens.specs.Spelling.{spelled_symbol}
use Rattle.ink_tokens.specs.Words.{is_single, ends_bracket}
use Rattle.ink_shapes.specs.Terminals.{shape_by}
use Rattle.ink_grammar.specs.declared.token.Shape.TheVariants as shape
use Rattle.ink_grammar.specs.declared.token.Terminal.{Terminal}
use Rattle.ink_print.specs.declared.class.Class.{Class}
use Rattle.ink_print.specs.Layout.{gap, token_text}
use Rattle.ink_law_categories.specs.Nested.{Level, Outside, Inside, Embedded, Braces, IsCode}
use Rattle.ink_law_categories.specs.Written.{IsQuote, quote_of}
use Rattle.ink_law_neighbours.specs.Follow.{within}
use Rattle.ink_law_scanning.proofs.Advance.{nests, Advanced, advance-quote}
use Rattle.ink_law_scanning.proofs.AdvanceParts.{advance-opened, advance-opened_again, advance-closed, advance-closing}
use Rattle.ink_law_scanning.proofs.Found.{last-lone}
use Rattle.ink_law_scanning.proofs.Gaps.{blanks-gap}
use Rattle.ink_law_scanning.proofs.Pieces.{flat-text}
use Rattle.ink_law_scanning.proofs.SignFacts.{lone-left, lone-right}
use Rattle.ink_law_scanning.proofs.Steps.{At, state, skip}

-- the bytes of one piece behind their gap
here-text : (print : List ℕ) (place : ℕ) (blanks text other rest : List ℕ) → text ≡ other → At print place (blanks ++ (text ++ rest)) → At print place (blanks ++ (other ++ rest))
here-text print place blanks text other rest same here = subst (λ text. At print place (blanks ++ (text ++ rest))) same here

-- a brace that opens
pub left-text : (source print : List ℕ) (l : Level) (ls : List Level) (opened place : ℕ) (b : Before) (line : Bool) (ts : List scanned.Token) (depth : ℕ) (c d : Class) (rest : List ℕ) →
    IsCode l → Lexes print (state place b (nests source (l ∷ ls) opened) ts) → At print place (gap depth c d ++ (123 ∷ rest)) → begins_line b ≡ line →
    Advanced source print (shape_by kind.Symbol (123 ∷ [])) (123 ∷ []) line (within l ls) before.Other ts rest
unfolding ends_operand ends_bracket is_single is_wide_integer mark_at brace_at
left-text source print Outside ls opened place b line ts depth c d rest code lexes here begins =
    flat-text source print Outside ls opened place b line ts depth c d (123 ∷ []) rest kind.Symbol code lexes here begins (omega arith)
    (spelled_symbol (inr (refl, refl))) refl (last-lone (may_be_signed b) 123 rest lone-left) refl refl refl
left-text source print (Inside quote ends) ls opened place b line ts depth c d rest code lexes here begins = absurd code
left-text source print Embedded ls opened place b line ts depth c d rest code lexes here begins =
    let at = skip source print Embedded ls opened b ts place (123 ∷ rest) (blanks-gap depth c d) code lexes here in
    advance-opened source print ls opened at.place b line ts rest at.lexes at.here begins
left-text source print Braces ls opened place b line ts depth c d rest code lexes here begins =
    let at = skip source print Braces ls opened b ts place (123 ∷ rest) (blanks-gap depth c d) code lexes here in
    advance-opened_again source print ls opened at.place b line ts rest at.lexes at.here begins

-- a brace that closes
pub right-text : (source print : List ℕ) (ls : List Level) (opened place : ℕ) (b : Before) (line : Bool) (ts : List scanned.Token) (depth : ℕ) (c d : Class) (rest : List ℕ) →
    Lexes print (state place b (nests source (Outside ∷ ls) opened) ts) → At print place (gap depth c d ++ (125 ∷ rest)) → begins_line b ≡ line →
    Advanced source print (shape_by kind.Symbol (125 ∷ [])) (125 ∷ []) line (Outside ∷ ls) before.Operand ts rest
unfolding ends_operand ends_bracket is_single is_wide_integer mark_at brace_at
right-text source print ls opened place b line ts depth c d rest lexes here begins =
    flat-text source print Outside ls opened place b line ts depth c d (125 ∷ []) rest kind.Symbol tt lexes here begins (omega arith)
    (spelled_symbol (inr (refl, refl))) refl (last-lone (may_be_signed b) 125 rest lone-right) refl refl refl

-- one that was opened within a `${`
pub closed-text : (source print : List ℕ) (ls : List Level) (opened place : ℕ) (b : Before) (line : Bool) (ts : List scanned.Token) (depth : ℕ) (c d : Class) (rest : List ℕ) →
    Lexes print (state place b (nests source (Braces ∷ ls) opened) ts) → At print place (gap depth c d ++ (125 ∷ rest)) → begins_line b ≡ line →
    Advanced source print (shape_by kind.Symbol (125 ∷ [])) (125 ∷ []) line ls before.Operand ts rest
closed-text source print ls opened place b line ts depth c d rest lexes here begins =
    let at = skip source print Braces ls opened b ts place (125 ∷ rest) (blanks-gap depth c d) tt lexes here in
    advance-closed source print ls opened at.place b line ts rest at.lexes at.here begins

-- the `}` of a `${`
pub closing-text : (source print : List ℕ) (ls : List Level) (opened place : ℕ) (b : Before) (line : Bool) (ts : List scanned.Token) (depth : ℕ) (c d : Class) (rest : List ℕ) →
    Lexes print (state place b (nests source (Embedded ∷ ls) opened) ts) → At print place (gap depth c d ++ (125 ∷ rest)) → begins_line b ≡ line →
    Advanced source print shape.Closing (125 ∷ []) line ls before.Other ts rest
closing-text source print ls opened place b line ts depth c d rest lexes here begins =
    let at = skip source print Embedded ls opened b ts place (125 ∷ rest) (blanks-gap depth c d) tt lexes here in
    advance-closing source print ls opened at.place b line ts rest at.lexes at.here begins

-- a quote that opens a text
pub quote-text : (source print : List ℕ) (l : Level) (ls : List Level) (t : Terminal) (opened place : ℕ) (b : Before) (line : Bool) (ts : List scanned.Token) (depth : ℕ) (c d : Class) (rest : List ℕ) →
    IsCode l → IsQuote source t → Lexes print (state place b (nests source (l ∷ ls) opened) ts) → At print place (gap depth c d ++ (token_text source t ++ rest)) → begins_line b ≡ line →
    Advanced source print shape.Quote (token_text source t) line (Inside t false ∷ l ∷ ls) before.Other ts rest
quote-text source print l ls t opened place b line ts depth c d rest code quoted lexes here begins =
    let at = skip source print l ls opened b ts place (token_text source t ++ rest) (blanks-gap depth c d) code lexes here in
    advance-quote source print l ls t opened at.place b line ts (token_text source t) rest (quote_of source t) code at.lexes at.here begins quoted.alone quoted.quote refl
