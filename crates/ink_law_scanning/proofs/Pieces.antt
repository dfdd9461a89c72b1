-- How each kind of piece is read where it is laid out.
use Rattle.std.proofs.Common.{◌≡◌, ◌≢◌, ℕ, ◌<◌, Bool, true, false, cond, not, ◌==◌, List, [], ◌∷◌, ◌++◌, length, refl, sym, ap, ◌∙◌, subst, inl, inr, ◌⊎◌, None}
use Rattle.std.specs.Prelude.{slice_index}
use Rattle.ink_base.specs.declared.token.TokenKind.{TokenKind}
use Rattle.ink_base.specs.declared.token.TokenKind.TheVariants as kind
use Rattle.ink_base.specs.declared.token.Token as scanned
use Rattle.ink_tokens.specs.declared.reading.Before.{Before}
use Rattle.ink_tokens.specs.declared.reading.Before.TheVariants as before
use Rattle.ink_tokens.specs.Fault.{is_wide_integer}
use Rattle.ink_tokens.specs.Found.{may_be_signed, before_behind, ends_operand, mark_at}
use Rattle.ink_tokens.specs.Gap.{is_blank}
use Rattle.ink_tokens.specs.Lexes.{Lexes}
use Rattle.ink_tokens.specs.Scan.{begins_line}
use Rattle.ink_tokens.specs.Spelling.{IsSpelled}
use Rattle.ink_shapes.specs.Terminals.{shape_by}
use Rattle.ink_grammar.specs.declared.token.Keyword.{Keyword}
use Rattle.ink_grammar.specs.declared.token.Terminal.{Terminal}
use Rattle.ink_print.specs.declared.class.Class.{Class}
use Rattle.ink_print.specs.declared.class.Class.TheVariants as class
use Rattle.ink_print.specs.declared.step.Piece.{Piece}
use Rattle.ink_print.specs.declared.step.Piece.TheVariants as piece
use Rattle.ink_print.specs.declared.step.Sign.{Sign}
use Rattle.ink_print.specs.Layout.{class_of_shape, class_of_sign, gap, depth_at, depth_behind, sign_text, token_text, laid}
use Rattle.ink_law_categories.specs.Nested.{Level, Outside, Inside, Embedded, Braces, IsCode}
use Rattle.ink_law_categories.specs.Written.{IsWorded}
use Rattle.ink_law_neighbours.specs.Follow.{is_value, is_closing, Follow}
use Rattle.ink_law_scanning.proofs.Advance.{nests, Advanced, advance-flat, first-of}
use Rattle.ink_law_scanning.proofs.Found.{IsLast, IsLone, last-by_byte, last-lone, separator-none, mark-none}
use Rattle.ink_law_scanning.proofs.Gaps.{blanks-gap, Solid, stops}
use Rattle.ink_law_scanning.proofs.Laid.{Fits, Here}
use Rattle.ink_law_scanning.proofs.Leads.{symbol-facts}
use Rattle.ink_law_scanning.proofs.SignFacts.{SignFacts}
use Rattle.ink_law_scanning.proofs.Steps.{At, level_of, state, skip}
use Rattle.ink_law_scanning.proofs.TokenKinds.{spelled-some, spelled-lead, respelled, operator-lead, symbol-of}

-- code has no text around it
pub code-fits : (l : Level) (ls : List Level) (c : Class) → IsCode l → Fits (l ∷ ls) c
code-fits Outside ls c code = tt
code-fits (Inside quote ends) ls c code = absurd code
code-fits Embedded ls c code = tt
code-fits Braces ls c code = tt

-- a token of code behind its gap
pub flat-text : (source print : List ℕ) (l : Level) (ls : List Level) (opened place : ℕ) (b : Before) (line : Bool) (ts : List scanned.Token) (depth : ℕ) (c d : Class) (text rest : List ℕ) (k : TokenKind) →
    IsCode l → Lexes print (state place b (nests source (l ∷ ls) opened) ts) → At print place (gap depth c d ++ (text ++ rest)) → begins_line b ≡ line →
    0 < length text → IsSpelled (may_be_signed b) text k → is_wide_integer k text ≡ false → IsLast (may_be_signed b) text rest →
    is_blank (slice_index text 0) ≡ false → (slice_index text 0 == 35) ≡ false → mark_at (level_of source l) (slice_index text 0) ≡ None →
    Advanced source print (shape_by k text) text line (l ∷ ls) (cond (ends_operand k text) before.Operand before.Other) ts rest
unfolding before_behind
flat-text source print l ls opened place b line ts depth c d text rest k code lexes here begins some spelled narrow last no_blank no_hash mark =
    let at = skip source print l ls opened b ts place (text ++ rest) (blanks-gap depth c d) code lexes here in
    let first : slice_index text 0 ≡ slice_index (text ++ rest) 0 = sym (first-of text rest some) in
    advance-flat source print l ls opened at.place b line ts text rest (shape_by k text) k code at.lexes at.here begins some spelled narrow last
    (separator-none (text ++ rest) (subst (λ byte. is_blank byte ≡ false) first no_blank) (subst (λ byte. (byte == 35) ≡ false) first no_hash))
    (subst (λ byte. mark_at (level_of source l) byte ≡ None) first mark) refl

-- a word or a name: it is no symbol, and stands where a - would be a sign
pub word-text : (source print : List ℕ) (l : Level) (ls : List Level) (line : Bool) (c d : Class) (p : Piece) (ps : List Piece) (depth gap_depth behind_depth : ℕ) (ts : List scanned.Token) (t : Terminal) →
    (h : Here source print (l ∷ ls) true line c (p ∷ ps) depth ts) → IsCode l → (worded : IsWorded source t) → worded.kind ≢ kind.Symbol → Solid d false →
    laid source (p ∷ ps) depth c ≡ gap gap_depth c d ++ (token_text source t ++ laid source ps behind_depth d) → Follow source (l ∷ ls) false ps →
    Advanced source print (shape_by worded.kind (token_text source t)) (token_text source t) line (l ∷ ls) (cond (ends_operand worded.kind (token_text source t)) before.Operand before.Other) ts (laid source ps behind_depth d)
word-text source print l ls line c d p ps depth gap_depth behind_depth ts t h code worded other solid bytes follow =
    let text = token_text source t in
    let some = spelled-some true text worded.kind worded.spelled in
    let lead = spelled-lead true text worded.kind worded.spelled other in
    flat-text source print l ls h.opened h.place h.b line ts gap_depth c d text (laid source ps behind_depth d) worded.kind code h.lexes (subst (At print h.place) bytes h.here) h.begins some
    (subst (λ m. IsSpelled m text worded.kind) (sym (h.signed refl)) worded.spelled) worded.narrow
    (last-by_byte (may_be_signed h.b) text (laid source ps behind_depth d) some (stops source behind_depth solid code follow))
    lead.1 lead.2 (mark-none (level_of source l) (slice_index text 0) lead.0 lead.3 lead.4)

-- a keyword
pub keyword-text_of : (source print : List ℕ) (l : Level) (ls : List Level) (free line : Bool) (c d : Class) (p : Piece) (ps : List Piece) (depth gap_depth behind_depth : ℕ) (ts : List scanned.Token) (t : Terminal) (w : Keyword) →
    (h : Here source print (l ∷ ls) free line c (p ∷ ps) depth ts) → IsCode l → (worded : IsWorded source t) → worded.kind ≡ kind.Keyword → Solid d (not (is_value w)) →
    laid source (p ∷ ps) depth c ≡ gap gap_depth c d ++ (token_text source t ++ laid source ps behind_depth d) → Follow source (l ∷ ls) (not (is_value w)) ps →
    Advanced source print (shape_by worded.kind (token_text source t)) (token_text source t) line (l ∷ ls) (cond (ends_operand worded.kind (token_text source t)) before.Operand before.Other) ts (laid source ps behind_depth d)
keyword-text_of source print l ls free line c d p ps depth gap_depth behind_depth ts t w h code worded is solid bytes follow =
    let text = token_text source t in
    let some = spelled-some true text worded.kind worded.spelled in
    let lead = spelled-lead true text worded.kind worded.spelled (λ symbol. let none : kind.Keyword ≡ kind.Symbol = sym is ∙ symbol in cc) in
    flat-text source print l ls h.opened h.place h.b line ts gap_depth c d text (laid source ps behind_depth d) worded.kind code h.lexes (subst (At print h.place) bytes h.here) h.begins some
    (respelled (may_be_signed h.b) text worded.kind worded.spelled (λ integer. let none : kind.Keyword ≡ kind.Int = sym is ∙ integer in cc)) worded.narrow
    (last-by_byte (may_be_signed h.b) text (laid source ps behind_depth d) some (stops source behind_depth solid code follow))
    lead.1 lead.2 (mark-none (level_of source l) (slice_index text 0) lead.0 lead.3 lead.4)

-- an operator
pub operator-text : (source print : List ℕ) (l : Level) (ls : List Level) (free line : Bool) (c d : Class) (p : Piece) (ps : List Piece) (depth gap_depth behind_depth : ℕ) (ts : List scanned.Token) (t : Terminal) →
    (h : Here source print (l ∷ ls) free line c (p ∷ ps) depth ts) → IsCode l → (worded : IsWorded source t) → worded.kind ≡ kind.Symbol → class_of_shape t.shape ≡ class.Operator → Solid d true →
    laid source (p ∷ ps) depth c ≡ gap gap_depth c d ++ (token_text source t ++ laid source ps behind_depth d) → Follow source (l ∷ ls) true ps →
    Advanced source print (shape_by worded.kind (token_text source t)) (token_text source t) line (l ∷ ls) (cond (ends_operand worded.kind (token_text source t)) before.Operand before.Other) ts (laid source ps behind_depth d)
operator-text source print l ls free line c d p ps depth gap_depth behind_depth ts t h code worded is operates solid bytes follow =
    let text = token_text source t in
    let some = spelled-some true text worded.kind worded.spelled in
    let symbol = symbol-of true text worded.kind worded.spelled is in
    let facts = symbol-facts text symbol in
    let lead = operator-lead text symbol (sym (ap (λ k. class_of_shape (shape_by k text)) is) ∙ ap class_of_shape worded.shape ∙ operates) in
    flat-text source print l ls h.opened h.place h.b line ts gap_depth c d text (laid source ps behind_depth d) worded.kind code h.lexes (subst (At print h.place) bytes h.here) h.begins some
    (respelled (may_be_signed h.b) text worded.kind worded.spelled (λ integer. let none : kind.Symbol ≡ kind.Int = sym is ∙ integer in cc)) worded.narrow
    (last-by_byte (may_be_signed h.b) text (laid source ps behind_depth d) some (stops source behind_depth solid code follow))
    facts.5 facts.6 (mark-none (level_of source l) (slice_index text 0) facts.4 lead.0 lead.1)

-- what may stand behind a sign
sign-last : (m : Bool) (source : List ℕ) (l : Level) (ls : List Level) (ps : List Piece) (behind_depth : ℕ) (s : Sign) → IsCode l → SignFacts s → Follow source (l ∷ ls) (not (is_closing s)) ps →
    ((b : ℕ) × (sign_text s ≡ b ∷ []) × IsLone b) ⊎ Solid (class_of_sign s) (not (is_closing s)) → IsLast m (sign_text s) (laid source ps behind_depth (class_of_sign s))
sign-last m source l ls ps behind_depth s code facts follow (inl (b, alone, lone)) =
    subst (λ text. IsLast m text (laid source ps behind_depth (class_of_sign s))) (sym alone) (last-lone m b (laid source ps behind_depth (class_of_sign s)) lone)
sign-last m source l ls ps behind_depth s code facts follow (inr solid) =
    last-by_byte m (sign_text s) (laid source ps behind_depth (class_of_sign s)) facts.some (stops source behind_depth solid code follow)

-- a sign
pub sign-text_of : (source print : List ℕ) (l : Level) (ls : List Level) (free line : Bool) (c : Class) (ps : List Piece) (depth : ℕ) (ts : List scanned.Token) (s : Sign) →
    (h : Here source print (l ∷ ls) free line c (piece.Sign s ∷ ps) depth ts) → IsCode l → (facts : SignFacts s) → Follow source (l ∷ ls) (not (is_closing s)) ps →
    Advanced source print (shape_by facts.kind (sign_text s)) (sign_text s) line (l ∷ ls) (cond (ends_operand facts.kind (sign_text s)) before.Operand before.Other) ts
    (laid source ps (depth_behind (class_of_sign s) (depth_at (class_of_sign s) depth)) (class_of_sign s))
unfolding laid
sign-text_of source print l ls free line c ps depth ts s h code facts follow =
    let d = class_of_sign s in
    let behind_depth = depth_behind d (depth_at d depth) in
    flat-text source print l ls h.opened h.place h.b line ts (depth_at d depth) c d (sign_text s) (laid source ps behind_depth d) facts.kind code h.lexes h.here h.begins facts.some
    (facts.spelled (may_be_signed h.b)) facts.narrow
    (sign-last (may_be_signed h.b) source l ls ps behind_depth s code facts follow facts.behind)
    facts.lead.1 facts.lead.2 (mark-none (level_of source l) (slice_index (sign_text s) 0) facts.lead.0 facts.lead.3 facts.lead.4)
