-- Pieces that may follow one another have their tokens where they are laid out.
use Rattle.std.proofs.Common.{◌≡◌, ℕ, ◌+◌, Bool, true, false, not, List, [], ◌∷◌, ◌++◌, map, length, length-drop, refl, arith, sym, ap, ◌∙◌, subst, append-nil}
use Rattle.ink_base.specs.declared.token.Token as scanned
use Rattle.ink_tokens.specs.declared.reading.Before.{Before}
use Rattle.ink_tokens.specs.declared.reading.Before.TheVariants as before
use Rattle.ink_tokens.specs.Fault.{end_fault}
use Rattle.ink_tokens.specs.Found.{may_be_signed, before_behind, ends_operand}
use Rattle.ink_tokens.specs.Lexes.{begins, end_outcome, AreTokens}
use Rattle.ink_tokens.specs.Scan.{begins_line, behind_line}
use Rattle.ink_tokens.proofs.LexesLemmas.{step_at-end}
use Rattle.ink_shapes.specs.Terminals.{shape_by, terminal_of}
use Rattle.ink_grammar.specs.declared.token.Shape.{Shape}
use Rattle.ink_grammar.specs.declared.token.Shape.TheVariants as shape
use Rattle.ink_grammar.specs.declared.token.Terminal.{Terminal}
use Rattle.ink_grammar.specs.Shapes.{is_link_name}
use Rattle.ink_print.specs.declared.class.Class.{Class}
use Rattle.ink_print.specs.declared.class.Class.TheVariants as class
use Rattle.ink_print.specs.declared.step.Piece.{Piece}
use Rattle.ink_print.specs.declared.step.Piece.TheVariants as piece
use Rattle.ink_print.specs.declared.step.Sign.{Sign}
use Rattle.ink_print.specs.declared.step.Sign.TheVariants as sign
use Rattle.ink_print.specs.Layout.{class_of_shape, class_of_sign, gap, depth_at, depth_behind, sign_text, token_text, laid}
use Rattle.ink_law_categories.specs.Nested.{Level, Outside, Inside, Embedded, Braces, IsCode}
use Rattle.ink_law_categories.specs.Spells.{Spells, shape_of_sign}
use Rattle.ink_law_categories.specs.Spells as spells
use Rattle.ink_law_categories.specs.Written.{quote_of}
use Rattle.ink_law_neighbours.specs.Follow.{is_word, is_value, is_closing, is_right_brace, within, is_begun, Follow, nothing, ends_line, a_word, a_keyword, an_operator, a_name, a_sign, left_brace, right_brace, closes_braces, opens_text, closes_text, a_part, opens_value, closes_value}
use Rattle.ink_law_scanning.proofs.Advance.{nests, advance-closing_quote}
use Rattle.ink_law_scanning.proofs.AdvanceParts.{advance-opening, advance-part}
use Rattle.ink_law_scanning.proofs.Gaps.{word, keyword, operator, tight-word, tight-opening, word-tight, closing-tight, brace-tight, part-stops, word-class}
use Rattle.ink_law_scanning.proofs.Laid.{is_start, Fits, Here, Lexed, next, with-token, with-name, with-sign, never}
use Rattle.ink_law_scanning.proofs.Pieces.{code-fits, word-text, keyword-text_of, operator-text, sign-text_of}
use Rattle.ink_law_scanning.proofs.SignFacts.{sign-facts, left-facts, right-facts}
use Rattle.ink_law_scanning.proofs.Steps.{At, state, feed, moved}
use Rattle.ink_law_scanning.proofs.TokenKinds.{not_symbol, keyword-kind, keyword-signed, operator-kind, operator-lead, operator-signed, symbol-of}
use Rattle.ink_law_scanning.proofs.Braces.{left-text, right-text, closed-text, closing-text, quote-text}

-- the class and the shape of a token
shaped-bytes : (source : List ℕ) (t : Terminal) (ps : List Piece) (depth : ℕ) (c : Class) (x : Shape) → t.shape ≡ x →
    laid source (piece.Token t ∷ ps) depth c ≡ gap (depth_at (class_of_shape x) depth) c (class_of_shape x) ++ (token_text source t ++ laid source ps (depth_behind (class_of_shape x) (depth_at (class_of_shape x) depth)) (class_of_shape x))
unfolding laid
shaped-bytes source t ps depth c x is =
    ap (λ d. gap (depth_at d depth) c d ++ (token_text source t ++ laid source ps (depth_behind d (depth_at d depth)) d)) (ap class_of_shape is)

classed-bytes : (source : List ℕ) (t : Terminal) (ps : List Piece) (depth : ℕ) (c d : Class) → class_of_shape t.shape ≡ d →
    laid source (piece.Token t ∷ ps) depth c ≡ gap (depth_at d depth) c d ++ (token_text source t ++ laid source ps (depth_behind d (depth_at d depth)) d)
unfolding laid
classed-bytes source t ps depth c d is = ap (λ d. gap (depth_at d depth) c d ++ (token_text source t ++ laid source ps (depth_behind d (depth_at d depth)) d)) is

-- at the end nothing is open
ended : (source print : List ℕ) (line : Bool) (free : Bool) (c : Class) (depth : ℕ) (ts : List scanned.Token) → Here source print (Outside ∷ []) free line c [] depth ts → Lexed source print line [] ts
unfolding laid end_outcome end_fault
ended source print line free c depth ts h = record {
  tokens = [];
  comes = subst (AreTokens print) (sym (append-nil ts)) (record {
    scan = state h.place h.b (nests source (Outside ∷ []) h.opened) ts;
    lexes = h.lexes;
    ends = step_at-end print (state h.place h.b (nests source (Outside ∷ []) h.opened) ts) (omega (arith, length-drop h.place print, ap length h.here.rest));
  });
  end = line;
  spelled = spells.nothing;
}

-- what stands before a line feed
feed-line : (b : Before) → (is_start b ≡ true → false ≡ true) → (begins_line (behind_line b) ≡ true) × (is_start (behind_line b) ≡ false) × (may_be_signed (behind_line b) ≡ true)
unfolding behind_line begins_line may_be_signed
feed-line before.Start begun = let none : false ≡ true = begun refl in cc
feed-line before.LineFeed begun = (refl, refl, refl)
feed-line before.Operand begun = (refl, refl, refl)
feed-line before.Other begun = (refl, refl, refl)

-- a line ends
line-ends : (source print : List ℕ) (l : Level) (ls : List Level) (free line : Bool) (c : Class) (ps : List Piece) (depth : ℕ) (ts : List scanned.Token) → IsCode l →
    Here source print (l ∷ ls) free line c (piece.Sign sign.Line ∷ ps) depth ts → Here source print (l ∷ ls) true true class.Line ps depth ts
unfolding laid
line-ends source print l ls free line c ps depth ts code h =
    let told = feed-line h.b h.begun in
    record {
      b = behind_line h.b;
      place = h.place + 1;
      opened = h.opened;
      lexes = feed source print l ls h.opened h.b ts h.place (laid source ps depth class.Line) code h.lexes h.here;
      here = moved print h.place (10 ∷ []) (laid source ps depth class.Line) h.here;
      signed = λ is. told.2;
      fits = code-fits l ls class.Line code;
      begins = told.0;
      begun = never (is_start (behind_line h.b)) told.1;
    }

with-line : (source print : List ℕ) (line : Bool) (ps : List Piece) (ts : List scanned.Token) → Lexed source print true ps ts → Lexed source print line (piece.Sign sign.Line ∷ ps) ts
with-line source print line ps ts after = record { tokens = after.tokens; comes = after.comes; end = after.end; spelled = spells.ends_line after.spelled }

-- no word is free to follow
none-free : {P : Type 0} → false ≡ true → P
none-free is = let none : false ≡ true = is in cc

-- behind a token of a text nothing leaves a blank
fits-word : (ls : List Level) → Fits ls class.Word
fits-word [] = tt
fits-word (Outside ∷ ls) = tt
fits-word (Inside quote ends ∷ ls) = word-tight
fits-word (Embedded ∷ ls) = tt
fits-word (Braces ∷ ls) = tt

fits-closing : (ls : List Level) → Fits ls class.Closing
fits-closing [] = tt
fits-closing (Outside ∷ ls) = tt
fits-closing (Inside quote ends ∷ ls) = closing-tight
fits-closing (Embedded ∷ ls) = tt
fits-closing (Braces ∷ ls) = tt

fits-brace : (ls : List Level) (s : Sign) → is_right_brace s ≡ true → Fits ls (class_of_sign s)
fits-brace [] s is = tt
fits-brace (Outside ∷ ls) s is = tt
fits-brace (Inside quote ends ∷ ls) s is = brace-tight s is
fits-brace (Embedded ∷ ls) s is = tt
fits-brace (Braces ∷ ls) s is = tt

fits-within : (l : Level) (ls : List Level) (c : Class) → IsCode l → Fits (within l ls) c
fits-within Outside ls c code = tt
fits-within (Inside quote ends) ls c code = absurd code
fits-within Embedded ls c code = tt
fits-within Braces ls c code = tt

-- pieces that may follow one another have their tokens
pub pieces-lexed : (source print : List ℕ) (levels : List Level) (free line : Bool) (c : Class) (ps : List Piece) (depth : ℕ) (ts : List scanned.Token) →
    Follow source levels free ps → Here source print levels free line c ps depth ts → Lexed source print line ps ts
unfolding laid before_behind ends_operand may_be_signed
pieces-lexed source print _ free line c _ depth ts nothing h = ended source print line free c depth ts h
pieces-lexed source print _ free line c _ depth ts (ends_line {l = l} {ls = ls} {ps = ps} code follow) h =
    with-line source print line ps ts (pieces-lexed source print (l ∷ ls) true true class.Line ps depth ts follow (line-ends source print l ls free line c ps depth ts code h))
pieces-lexed source print _ free line c _ depth ts (a_word {l = l} {ls = ls} {t = t} {ps = ps} code is worded follow) h =
    let d = word-class t.shape is in
    let read = word-text source print l ls line c class.Word (piece.Token t) ps depth depth depth ts t h code worded
    (not_symbol is_word worded.kind (token_text source t) (λ m. refl) (ap is_word worded.shape ∙ is)) word (classed-bytes source t ps depth c class.Word d) follow in
    with-token source print t _ line (l ∷ ls) _ ts _ ps read worded.shape
    (pieces-lexed source print (l ∷ ls) false false class.Word ps depth (ts ++ read.token ∷ []) follow
    (next source print _ (token_text source t) line (l ∷ ls) (ends_operand worded.kind (token_text source t)) false class.Word ps depth ts read none-free (code-fits l ls class.Word code)))
pieces-lexed source print _ free line c _ depth ts (a_keyword {l = l} {ls = ls} {t = t} {k = w} {ps = ps} code is worded follow) h =
    let kinds = keyword-kind worded.kind (token_text source t) w (worded.shape ∙ is) in
    let read = keyword-text_of source print l ls free line c class.Keyword (piece.Token t) ps depth depth depth ts t w h code worded kinds.0 keyword
    (shaped-bytes source t ps depth c (shape.Keyword w) is) follow in
    with-token source print t _ line (l ∷ ls) _ ts _ ps read worded.shape
    (pieces-lexed source print (l ∷ ls) (not (is_value w)) false class.Keyword ps depth (ts ++ read.token ∷ []) follow
    (next source print _ (token_text source t) line (l ∷ ls) (ends_operand worded.kind (token_text source t)) (not (is_value w)) class.Keyword ps depth ts read
    (λ other. subst (λ k. may_be_signed (before_behind k (token_text source t)) ≡ true) (sym kinds.0) (keyword-signed (token_text source t) w kinds.1 other))
    (code-fits l ls class.Keyword code)))
pieces-lexed source print _ free line c _ depth ts (an_operator {l = l} {ls = ls} {t = t} {ps = ps} code is worded follow) h =
    let text = token_text source t in
    let symbolic = operator-kind worded.kind text (ap class_of_shape worded.shape ∙ is) in
    let symbol = symbol-of true text worded.kind worded.spelled symbolic in
    let lead = operator-lead text symbol (sym (ap (λ k. class_of_shape (shape_by k text)) symbolic) ∙ ap class_of_shape worded.shape ∙ is) in
    let read = operator-text source print l ls free line c class.Operator (piece.Token t) ps depth depth depth ts t h code worded symbolic is operator
    (classed-bytes source t ps depth c class.Operator is) follow in
    with-token source print t _ line (l ∷ ls) _ ts _ ps read worded.shape
    (pieces-lexed source print (l ∷ ls) true false class.Operator ps depth (ts ++ read.token ∷ []) follow
    (next source print _ text line (l ∷ ls) (ends_operand worded.kind text) true class.Operator ps depth ts read
    (λ any. subst (λ k. may_be_signed (before_behind k text) ≡ true) (sym symbolic) (operator-signed text lead.2))
    (code-fits l ls class.Operator code)))
pieces-lexed source print _ free line c _ depth ts (a_name {l = l} {ls = ls} {t = t} {ps = ps} code is worded follow) h =
    let read = word-text source print l ls line c class.Word (piece.Name t) ps depth depth depth ts t h code worded
    (not_symbol is_link_name worded.kind (token_text source t) (λ m. refl) (ap is_link_name worded.shape ∙ is)) word refl follow in
    with-name source print t _ line (l ∷ ls) _ ts _ ps read worded.shape
    (pieces-lexed source print (l ∷ ls) false false class.Word ps depth (ts ++ read.token ∷ []) follow
    (next source print _ (token_text source t) line (l ∷ ls) (ends_operand worded.kind (token_text source t)) false class.Word ps depth ts read none-free (code-fits l ls class.Word code)))
pieces-lexed source print _ free line c _ depth ts (a_sign {l = l} {ls = ls} {s = s} {ps = ps} code is follow) h =
    let facts = sign-facts s is in
    let d = class_of_sign s in
    let behind_depth = depth_behind d (depth_at d depth) in
    let read = sign-text_of source print l ls free line c ps depth ts s h code facts follow in
    with-sign source print s _ (sign_text s) line (l ∷ ls) _ ts _ ps read facts.shape
    (pieces-lexed source print (l ∷ ls) (not (is_closing s)) false d ps behind_depth (ts ++ read.token ∷ []) follow
    (next source print _ (sign_text s) line (l ∷ ls) (ends_operand facts.kind (sign_text s)) (not (is_closing s)) d ps behind_depth ts read facts.signed (code-fits l ls d code)))
pieces-lexed source print _ free line c _ depth ts (left_brace {l = l} {ls = ls} {s = s} {ps = ps} code is follow) h =
    let facts = left-facts s is in
    let d = class_of_sign s in
    let behind_depth = depth_behind d (depth_at d depth) in
    let rest = laid source ps behind_depth d in
    let read = left-text source print l ls h.opened h.place h.b line ts (depth_at d depth) c d rest code h.lexes
    (subst (λ text. At print h.place (gap (depth_at d depth) c d ++ (text ++ rest))) facts.text h.here) h.begins in
    with-sign source print s _ (123 ∷ []) line (within l ls) _ ts _ ps read facts.shape
    (pieces-lexed source print (within l ls) true false d ps behind_depth (ts ++ read.token ∷ []) follow
    (next source print _ (123 ∷ []) line (within l ls) false true d ps behind_depth ts read (λ any. refl) (fits-within l ls d code)))
pieces-lexed source print _ free line c _ depth ts (right_brace {ls = ls} {s = s} {ps = ps} is follow) h =
    let facts = right-facts s is in
    let d = class_of_sign s in
    let behind_depth = depth_behind d (depth_at d depth) in
    let rest = laid source ps behind_depth d in
    let read = right-text source print ls h.opened h.place h.b line ts (depth_at d depth) c d rest h.lexes
    (subst (λ text. At print h.place (gap (depth_at d depth) c d ++ (text ++ rest))) facts.text h.here) h.begins in
    with-sign source print s _ (125 ∷ []) line (Outside ∷ ls) _ ts _ ps read facts.shape
    (pieces-lexed source print (Outside ∷ ls) false false d ps behind_depth (ts ++ read.token ∷ []) follow
    (next source print _ (125 ∷ []) line (Outside ∷ ls) true false d ps behind_depth ts read none-free tt))
pieces-lexed source print _ free line c _ depth ts (closes_braces {ls = ls} {s = s} {ps = ps} is follow) h =
    let facts = right-facts s is in
    let d = class_of_sign s in
    let behind_depth = depth_behind d (depth_at d depth) in
    let rest = laid source ps behind_depth d in
    let read = closed-text source print ls h.opened h.place h.b line ts (depth_at d depth) c d rest h.lexes
    (subst (λ text. At print h.place (gap (depth_at d depth) c d ++ (text ++ rest))) facts.text h.here) h.begins in
    with-sign source print s _ (125 ∷ []) line ls _ ts _ ps read facts.shape
    (pieces-lexed source print ls false false d ps behind_depth (ts ++ read.token ∷ []) follow
    (next source print _ (125 ∷ []) line ls true false d ps behind_depth ts read none-free (fits-brace ls s is)))
pieces-lexed source print _ free line c _ depth ts (opens_text {l = l} {ls = ls} {t = t} {ps = ps} code is quoted follow) h =
    let read = quote-text source print l ls t h.opened h.place h.b line ts depth c class.Word (laid source ps depth class.Word) code quoted h.lexes
    (subst (At print h.place) (shaped-bytes source t ps depth c shape.Quote is) h.here) h.begins in
    with-token source print t _ line (Inside t false ∷ l ∷ ls) _ ts _ ps read (sym is)
    (pieces-lexed source print (Inside t false ∷ l ∷ ls) true false class.Word ps depth (ts ++ read.token ∷ []) follow
    (next source print _ (token_text source t) line (Inside t false ∷ l ∷ ls) false true class.Word ps depth ts read (λ any. refl) (word-tight)))
pieces-lexed source print _ free line c _ depth ts (closes_text {ends = ends} {ls = ls} {t = t} {ps = ps} is quoted follow) h =
    let rest = laid source ps depth class.Word in
    let read = advance-closing_quote source print t ends ls h.opened h.place h.b line ts (token_text source t) rest (quote_of source t) h.lexes
    (subst (At print h.place) (shaped-bytes source t ps depth c shape.Quote is ∙ ap (λ blanks. blanks ++ (token_text source t ++ rest)) (tight-word c depth h.fits)) h.here) h.begins quoted.alone refl in
    with-token source print t _ line ls _ ts _ ps read (sym is)
    (pieces-lexed source print ls false false class.Word ps depth (ts ++ read.token ∷ []) follow
    (next source print _ (token_text source t) line ls true false class.Word ps depth ts read none-free (fits-word ls)))
pieces-lexed source print _ free line c _ depth ts (a_part {ls = ls} {quote = quote} {t = t} {ps = ps} of_quote is part follow) h =
    let rest = laid source ps depth class.Word in
    let read = advance-part source print quote ls h.opened h.place h.b line ts (token_text source t) rest of_quote.quote
    (part-stops source depth class.Word (word-tight) follow) part.some part.whole h.lexes
    (subst (At print h.place) (shaped-bytes source t ps depth c shape.TextPart is ∙ ap (λ blanks. blanks ++ (token_text source t ++ rest)) (tight-word c depth h.fits)) h.here) h.begins in
    with-token source print t _ line (Inside quote true ∷ ls) _ ts _ ps read (sym is)
    (pieces-lexed source print (Inside quote true ∷ ls) true false class.Word ps depth (ts ++ read.token ∷ []) follow
    (next source print _ (token_text source t) line (Inside quote true ∷ ls) false true class.Word ps depth ts read (λ any. refl) (word-tight)))
pieces-lexed source print _ free line c _ depth ts (opens_value {ends = ends} {ls = ls} {quote = quote} {ps = ps} of_quote follow) h =
    let rest = laid source ps depth class.Opening in
    let read = advance-opening source print quote ends ls h.opened h.place h.b line ts rest of_quote.quote h.lexes
    (subst (At print h.place) (ap (λ blanks. blanks ++ (36 ∷ 123 ∷ rest)) (tight-opening c depth h.fits)) h.here) h.begins in
    with-sign source print sign.TextOpening _ (36 ∷ 123 ∷ []) line (Embedded ∷ Inside quote false ∷ ls) _ ts _ ps read refl
    (pieces-lexed source print (Embedded ∷ Inside quote false ∷ ls) true false class.Opening ps depth (ts ++ read.token ∷ []) follow
    (next source print _ (36 ∷ 123 ∷ []) line (Embedded ∷ Inside quote false ∷ ls) false true class.Opening ps depth ts read (λ any. refl) tt))
pieces-lexed source print _ free line c _ depth ts (closes_value {ls = ls} {ps = ps} follow) h =
    let rest = laid source ps depth class.Closing in
    let read = closing-text source print ls h.opened h.place h.b line ts depth c class.Closing rest h.lexes h.here h.begins in
    with-sign source print sign.TextClosing _ (125 ∷ []) line ls _ ts _ ps read refl
    (pieces-lexed source print ls true false class.Closing ps depth (ts ++ read.token ∷ []) follow
    (next source print _ (125 ∷ []) line ls false true class.Closing ps depth ts read (λ any. refl) (fits-closing ls)))

-- a print of pieces has their tokens
pub pieces-lex : (source : List ℕ) (ps : List Piece) → is_begun ps ≡ true → Follow source (Outside ∷ []) true ps →
    (tokens : List scanned.Token) × AreTokens (laid source ps 0 class.Line) tokens × (end : Bool) × Spells source (laid source ps 0 class.Line) false ps (map (terminal_of (laid source ps 0 class.Line)) tokens) end
unfolding begins_line may_be_signed
pieces-lex source ps begun follow =
    let print = laid source ps 0 class.Line in
    let all = pieces-lexed source print (Outside ∷ []) true false class.Line ps 0 [] follow (record {
      b = before.Start;
      place = 0;
      opened = 0;
      lexes = begins;
      here = record { rest = refl; inside = omega arith };
      signed = λ any. refl;
      fits = tt;
      begins = refl;
      begun = λ is. begun;
    }) in
    (all.tokens, all.comes, all.end, all.spelled)
