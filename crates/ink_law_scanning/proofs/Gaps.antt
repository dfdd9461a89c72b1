-- The blanks between pieces, and what stands behind one that could go on.
use Rattle.std.proofs.Common.{◌≡◌, ℕ, zero, suc, ◌*◌, Bool, true, false, List, [], ◌∷◌, ◌++◌, replicate, refl, arith, ap, ◌∙◌, inl, inr, ◌⊎◌}
use Rattle.std.specs.Prelude.{slice_index}
use Rattle.std.proofs.lemmas.Bool.Decides.{nat_tests}
use Rattle.ink_tokens.specs.Bytes.{is_quote}
use Rattle.ink_tokens.specs.Part.{begins_opening}
use Rattle.ink_grammar.specs.declared.token.Shape.{Shape}
use Rattle.ink_grammar.specs.declared.token.Shape.TheVariants as shape
use Rattle.ink_grammar.specs.declared.token.Terminal.{Terminal}
use Rattle.ink_print.specs.declared.class.Class.{Class}
use Rattle.ink_print.specs.declared.class.Class.TheVariants as class
use Rattle.ink_print.specs.declared.step.Piece.{Piece}
use Rattle.ink_print.specs.declared.step.Sign.{Sign}
use Rattle.ink_print.specs.declared.step.Sign.TheVariants as sign
use Rattle.ink_print.specs.Layout.{class_of_shape, class_of_sign, is_spaced, blank, gap, depth_at, depth_behind, sign_text, token_text, laid}
use Rattle.ink_law_categories.specs.Nested.{Level, Inside, IsCode}
use Rattle.ink_law_categories.specs.Written.{quote_of}
use Rattle.ink_law_neighbours.specs.Follow.{is_word, is_right_brace, Follow, nothing, ends_line, a_word, a_keyword, an_operator, a_name, a_sign, left_brace, right_brace, closes_braces, opens_text, closes_text, a_part, opens_value, closes_value}
use Rattle.ink_law_scanning.proofs.Leads.{extends}
use Rattle.ink_law_scanning.proofs.Steps.{Blanks, no_blank, blank_more}

-- gaps are blanks
blanks-replicate : (n : ℕ) → Blanks (replicate n 32)
blanks-replicate zero = no_blank
blanks-replicate (suc n) = blank_more (blanks-replicate n)

blanks-blank : (b : Bool) → Blanks (blank b)
blanks-blank true = blank_more no_blank
blanks-blank false = no_blank

pub blanks-gap : (depth : ℕ) (a b : Class) → Blanks (gap depth a b)
blanks-gap depth a class.Line = no_blank
blanks-gap depth class.Line b = blanks-replicate (2 * depth)
blanks-gap depth a b = blanks-blank (is_spaced a b)

-- a class whose text would go on with a word, and whether a word may stand behind it
pub data Solid : Class → Bool → Type 0 where
  word : Solid class.Word false
  keyword : {free : Bool} → Solid class.Keyword free
  operator : {free : Bool} → Solid class.Operator free
  separator : {free : Bool} → Solid class.Separator free

-- a sign behind it
stops-sign : {c : Class} {free : Bool} → Solid c free → (s : Sign) (depth : ℕ) (more : List ℕ) →
    extends (slice_index (gap depth c (class_of_sign s) ++ (sign_text s ++ more)) 0) ≡ false
stops-sign word sign.Line depth more = refl
stops-sign word s depth more = refl
stops-sign keyword sign.Line depth more = refl
stops-sign keyword s depth more = refl
stops-sign operator sign.Line depth more = refl
stops-sign operator s depth more = refl
stops-sign separator sign.Line depth more = refl
stops-sign separator s depth more = refl

-- what asks for a blank before it
keyword-spaced : {c : Class} {free : Bool} → Solid c free → (depth : ℕ) → gap depth c class.Keyword ≡ 32 ∷ []
keyword-spaced word depth = refl
keyword-spaced keyword depth = refl
keyword-spaced operator depth = refl
keyword-spaced separator depth = refl

operator-spaced : {c : Class} {free : Bool} → Solid c free → (depth : ℕ) → gap depth c class.Operator ≡ 32 ∷ []
operator-spaced word depth = refl
operator-spaced keyword depth = refl
operator-spaced operator depth = refl
operator-spaced separator depth = refl

-- a word where one may stand
word-spaced : {c : Class} → Solid c true → (depth : ℕ) → gap depth c class.Word ≡ 32 ∷ []
word-spaced keyword depth = refl
word-spaced operator depth = refl
word-spaced separator depth = refl

stops-blank : (blanks bytes : List ℕ) → blanks ≡ 32 ∷ [] → extends (slice_index (blanks ++ bytes) 0) ≡ false
stops-blank blanks bytes is = ap (λ blanks. extends (slice_index (blanks ++ bytes) 0)) is

-- no quote extends a token
quote-stops : (byte : ℕ) → is_quote byte ≡ true → extends byte ≡ false
quote-stops byte is = grind (arith, nat_tests)

stops-quote : {c : Class} {free : Bool} → Solid c free → (depth : ℕ) (byte : ℕ) (text more : List ℕ) → text ≡ byte ∷ [] → is_quote byte ≡ true →
    extends (slice_index (gap depth c class.Word ++ (text ++ more)) 0) ≡ false
stops-quote word depth byte text more alone is = ap (λ text. extends (slice_index (text ++ more) 0)) alone ∙ quote-stops byte is
stops-quote keyword depth byte text more alone is = refl
stops-quote operator depth byte text more alone is = refl
stops-quote separator depth byte text more alone is = refl

-- the class of a word
pub word-class : (x : Shape) → is_word x ≡ true → class_of_shape x ≡ class.Word
word-class shape.Name is = refl
word-class shape.Constant is = refl
word-class shape.Field is = refl
word-class shape.Integer is = refl
word-class shape.Hexadecimal is = refl
word-class shape.Underscore is = refl
word-class x is = let none : false ≡ true = is in cc

-- behind what could go on stands nothing that it would go on with
pub stops : (source : List ℕ) (depth : ℕ) {c : Class} {free : Bool} {l : Level} {ls : List Level} {ps : List Piece} → Solid c free → IsCode l → Follow source (l ∷ ls) free ps →
    extends (slice_index (laid source ps depth c) 0) ≡ false
unfolding laid
stops source depth solid code nothing = refl
stops source depth {c} solid code (ends_line {ps = ps} at_code next) = stops-sign solid sign.Line depth (laid source ps depth class.Line)
stops source depth {c} solid code (a_word {t = t} at_code is worded next) =
    stops-blank _ _ (ap (λ b. gap (depth_at b depth) c b) (word-class t.shape is) ∙ word-spaced solid depth)
stops source depth {c} solid code (a_keyword {t = t} at_code is worded next) =
    stops-blank _ _ (ap (λ x. gap (depth_at (class_of_shape x) depth) c (class_of_shape x)) is ∙ keyword-spaced solid depth)
stops source depth {c} solid code (an_operator {t = t} at_code is worded next) =
    stops-blank _ _ (ap (λ b. gap (depth_at b depth) c b) is ∙ operator-spaced solid depth)
stops source depth {c} solid code (a_name {t = t} at_code is worded next) = stops-blank _ _ (word-spaced solid depth)
stops source depth {c} solid code (a_sign {s = s} at_code is next) = stops-sign solid s (depth_at (class_of_sign s) depth) _
stops source depth {c} solid code (left_brace {s = s} at_code is next) = stops-sign solid s (depth_at (class_of_sign s) depth) _
stops source depth {c} solid code (right_brace {s = s} is next) = stops-sign solid s (depth_at (class_of_sign s) depth) _
stops source depth {c} solid code (closes_braces {s = s} is next) = stops-sign solid s (depth_at (class_of_sign s) depth) _
stops source depth {c} solid code (opens_text {t = t} {ps = ps} at_code is quoted next) =
    let B : Class → List ℕ = λ b. gap (depth_at b depth) c b ++ (token_text source t ++ laid source ps (depth_behind (class_of_shape t.shape) (depth_at (class_of_shape t.shape) depth)) (class_of_shape t.shape)) in
    ap (λ x. extends (slice_index (B (class_of_shape x)) 0)) is
    ∙ stops-quote solid depth (quote_of source t) (token_text source t) _ quoted.alone quoted.quote
stops source depth solid code (closes_text is quoted next) = absurd code
stops source depth solid code (a_part of_quote is part next) = absurd code
stops source depth solid code (opens_value of_quote next) = absurd code
stops source depth {c} solid code (closes_value next) = stops-sign solid sign.TextClosing depth _

-- the class of what may stand before something in a text: no blank comes behind it there
abbrev pub IsTight : Class → Type 0
IsTight c = ((depth : ℕ) → gap depth c class.Word ≡ []) × ((depth : ℕ) → gap depth c class.Opening ≡ [])

pub tight-word : (c : Class) (depth : ℕ) → IsTight c → gap depth c class.Word ≡ []
tight-word c depth tight = tight.0 depth

pub tight-opening : (c : Class) (depth : ℕ) → IsTight c → gap depth c class.Opening ≡ []
tight-opening c depth tight = tight.1 depth

pub word-tight : IsTight class.Word
word-tight = (λ depth. refl, λ depth. refl)

pub closing-tight : IsTight class.Closing
closing-tight = (λ depth. refl, λ depth. refl)

pub brace-tight : (s : Sign) → is_right_brace s ≡ true → IsTight (class_of_sign s)
brace-tight sign.BlockClosing is = (λ depth. refl, λ depth. refl)
brace-tight sign.PatternClosing is = (λ depth. refl, λ depth. refl)
brace-tight s is = let none : false ≡ true = is in cc

-- behind a part stands its quote or a `${`
pub part-stops : (source : List ℕ) (depth : ℕ) (c : Class) {free : Bool} {quote : Terminal} {ls : List Level} {ps : List Piece} → IsTight c →
    Follow source (Inside quote true ∷ ls) free ps →
    (slice_index (laid source ps depth c) 0 ≡ quote_of source quote) ⊎ (begins_opening (laid source ps depth c) ≡ true)
unfolding laid
part-stops source depth c tight (ends_line code next) = absurd code
part-stops source depth c tight (a_word code is worded next) = absurd code
part-stops source depth c tight (a_keyword code is worded next) = absurd code
part-stops source depth c tight (an_operator code is worded next) = absurd code
part-stops source depth c tight (a_name code is worded next) = absurd code
part-stops source depth c tight (a_sign code is next) = absurd code
part-stops source depth c tight (left_brace code is next) = absurd code
part-stops source depth c tight (opens_text code is quoted next) = absurd code
part-stops source depth c tight (closes_text {t = t} {ps = ps} is quoted next) =
    let more = laid source ps (depth_behind (class_of_shape t.shape) (depth_at (class_of_shape t.shape) depth)) (class_of_shape t.shape) in
    inl (
    ap (λ x. slice_index (gap (depth_at (class_of_shape x) depth) c (class_of_shape x) ++ (token_text source t ++ more)) 0) is
    ∙ ap (λ blanks. slice_index (blanks ++ (token_text source t ++ more)) 0) (tight-word c depth tight)
    ∙ ap (λ text. slice_index (text ++ more) 0) quoted.alone
    )
part-stops source depth c tight (opens_value {ps = ps} of_quote next) =
    let more = laid source ps depth class.Opening in
    inr (ap (λ blanks. begins_opening (blanks ++ (36 ∷ 123 ∷ more))) (tight-opening c depth tight))
