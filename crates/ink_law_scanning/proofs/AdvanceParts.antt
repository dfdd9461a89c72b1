-- How a scanner passes braces, and the parts of a text.
use Rattle.std.proofs.Common.{◌≡◌, ℕ, suc, ◌+◌, ◌<◌, Bool, true, false, cond, ◌&&◌, ◌||◌, ◌==◌, List, [], ◌∷◌, ◌++◌, length, refl, arith, ap, ◌∙◌, inl, inr, ◌⊎◌, eq-eqb, eqb-true}
use Rattle.std.specs.Prelude.{slice_index}
use Rattle.std.proofs.lemmas.Bool.Decides.{nat_tests}
use Rattle.ink_base.specs.declared.token.TokenKind.TheVariants as kind
use Rattle.ink_base.specs.declared.token.Token as scanned
use Rattle.ink_tokens.specs.declared.reading.Before.{Before}
use Rattle.ink_tokens.specs.declared.reading.Before.TheVariants.{Operand, Other}
use Rattle.ink_tokens.specs.declared.reading.Found.TheVariants as found
use Rattle.ink_tokens.specs.declared.reading.Level.TheVariants as level
use Rattle.ink_tokens.specs.Bytes.{is_quote}
use Rattle.ink_tokens.specs.Gap.{separator_length}
use Rattle.ink_tokens.specs.Fault.{is_wide_integer}
use Rattle.ink_tokens.specs.Found.{found_at, text_found, mark_at, brace_at, opened_brace, closed_brace, closing, opening, part_of}
use Rattle.ink_tokens.specs.Nest.{changed, opened_behind}
use Rattle.ink_tokens.specs.Part.{begins_opening, part_length}
use Rattle.ink_tokens.specs.Bytes.{is_escaped}
use Rattle.ink_tokens.specs.Scan.{begins_line}
use Rattle.ink_tokens.specs.Lexes.{Lexes}
use Rattle.ink_shapes.specs.Terminals.{shape_by}
use Rattle.ink_grammar.specs.declared.token.Shape.TheVariants as shape
use Rattle.ink_grammar.specs.declared.token.Terminal.{Terminal}
use Rattle.ink_law_categories.specs.Written.{quote_of}
use Rattle.ink_law_categories.specs.Nested.{Level, Inside, Embedded, Braces}
use Rattle.ink_tokens.proofs.Choices.{both-one, both-other}
use Rattle.ink_law_scanning.proofs.Advance.{nests, left-nests, Advanced, advance, mark-found}
use Rattle.ink_law_scanning.proofs.Steps.{At, state}

-- a `{` within a `${`
pub advance-opened : (source print : List ℕ) (ls : List Level) (opened at : ℕ) (b : Before) (new_line : Bool) (ts : List scanned.Token) (rest : List ℕ) →
    Lexes print (state at b (nests source (Embedded ∷ ls) opened) ts) → At print at (123 ∷ rest) → begins_line b ≡ new_line →
    Advanced source print (shape_by kind.Symbol (123 ∷ [])) (123 ∷ []) new_line (Braces ∷ Embedded ∷ ls) Other ts rest
unfolding changed shape_by is_wide_integer found_at mark_at brace_at separator_length opened_behind
advance-opened source print ls opened at b new_line ts rest lexes here line =
    advance source print Embedded ls (Braces ∷ Embedded ∷ ls) opened opened at b new_line ts (123 ∷ []) rest (shape_by kind.Symbol (123 ∷ [])) opened_brace lexes here line
    (omega arith) refl refl (mark-found level.Embedded b (123 ∷ rest) opened_brace refl refl) refl refl

-- a `{` within another
pub advance-opened_again : (source print : List ℕ) (ls : List Level) (opened at : ℕ) (b : Before) (new_line : Bool) (ts : List scanned.Token) (rest : List ℕ) →
    Lexes print (state at b (nests source (Braces ∷ ls) opened) ts) → At print at (123 ∷ rest) → begins_line b ≡ new_line →
    Advanced source print (shape_by kind.Symbol (123 ∷ [])) (123 ∷ []) new_line (Braces ∷ Braces ∷ ls) Other ts rest
unfolding changed shape_by is_wide_integer found_at mark_at brace_at separator_length opened_behind
advance-opened_again source print ls opened at b new_line ts rest lexes here line =
    advance source print Braces ls (Braces ∷ Braces ∷ ls) opened opened at b new_line ts (123 ∷ []) rest (shape_by kind.Symbol (123 ∷ [])) opened_brace lexes here line
    (omega arith) refl refl (mark-found level.Braces b (123 ∷ rest) opened_brace refl refl) refl refl

-- its `}`
pub advance-closed : (source print : List ℕ) (ls : List Level) (opened at : ℕ) (b : Before) (new_line : Bool) (ts : List scanned.Token) (rest : List ℕ) →
    Lexes print (state at b (nests source (Braces ∷ ls) opened) ts) → At print at (125 ∷ rest) → begins_line b ≡ new_line →
    Advanced source print (shape_by kind.Symbol (125 ∷ [])) (125 ∷ []) new_line ls Operand ts rest
unfolding changed shape_by is_wide_integer found_at mark_at brace_at separator_length
advance-closed source print ls opened at b new_line ts rest lexes here line =
    advance source print Braces ls ls opened opened at b new_line ts (125 ∷ []) rest (shape_by kind.Symbol (125 ∷ [])) closed_brace lexes here line
    (omega arith) refl refl (mark-found level.Braces b (125 ∷ rest) closed_brace refl refl) refl (left-nests source ls opened)

-- the `}` of a `${`
pub advance-closing : (source print : List ℕ) (ls : List Level) (opened at : ℕ) (b : Before) (new_line : Bool) (ts : List scanned.Token) (rest : List ℕ) →
    Lexes print (state at b (nests source (Embedded ∷ ls) opened) ts) → At print at (125 ∷ rest) → begins_line b ≡ new_line →
    Advanced source print shape.Closing (125 ∷ []) new_line ls Other ts rest
unfolding changed shape_by is_wide_integer found_at mark_at brace_at separator_length
advance-closing source print ls opened at b new_line ts rest lexes here line =
    advance source print Embedded ls ls opened opened at b new_line ts (125 ∷ []) rest shape.Closing closing lexes here line
    (omega arith) refl refl (mark-found level.Embedded b (125 ∷ rest) closing refl refl) refl (left-nests source ls opened)

-- a quote is no $ and no {
no_dollar : (byte : ℕ) → is_quote byte ≡ true → (36 == byte) ≡ false
no_dollar byte is = grind (arith, nat_tests)

pub no_brace : (byte : ℕ) → is_quote byte ≡ true → (byte == 123) ≡ false
no_brace byte is = grind (arith, nat_tests)

-- a `${`
pub advance-opening : (source print : List ℕ) (quote : Terminal) (ends : Bool) (ls : List Level) (opened at : ℕ) (b : Before) (new_line : Bool) (ts : List scanned.Token) (rest : List ℕ) →
    is_quote (quote_of source quote) ≡ true →
    Lexes print (state at b (nests source (Inside quote ends ∷ ls) opened) ts) → At print at (36 ∷ 123 ∷ rest) → begins_line b ≡ new_line →
    Advanced source print shape.Opening (36 ∷ 123 ∷ []) new_line (Embedded ∷ Inside quote false ∷ ls) Other ts rest
unfolding changed shape_by is_wide_integer found_at text_found opened_behind
advance-opening source print quote ends ls opened at b new_line ts rest quoted lexes here line =
    advance source print (Inside quote ends) ls (Embedded ∷ Inside quote false ∷ ls) opened opened at b new_line ts (36 ∷ 123 ∷ []) rest shape.Opening opening lexes here line
    (omega arith) refl refl (rw (no_dollar (quote_of source quote) quoted) refl) refl refl

-- what ends a part
abbrev pub Stops : ℕ → List ℕ → Type 0
Stops quote rest = (slice_index rest 0 ≡ quote) ⊎ (begins_opening rest ≡ true)

-- a choice that takes bytes failed its tests
chosen-none : (b c : Bool) (n : ℕ) → 0 < cond (b || c) 0 n → (b ≡ false) × (c ≡ false)
chosen-none true c n some = absurd (omega arith)
chosen-none false true n some = absurd (omega arith)
chosen-none false false n some = (refl, refl)

both-false : (b : Bool) → (b && false) ≡ false
both-false true = refl
both-false false = refl

-- a part begins with no quote and no `${`
part-front : (quote : ℕ) (bytes : List ℕ) → 0 < part_length quote bytes → ((slice_index bytes 0 == quote) ≡ false) × (begins_opening bytes ≡ false)
unfolding part_length
part-front quote [] some = absurd (omega arith)
part-front quote (x ∷ []) some = ((chosen-none (x == quote) (x == 92) 1 some).0, both-false (x == 36))
part-front quote (x ∷ y ∷ bytes) some = chosen-none (x == quote) (x == 36 && y == 123) _ some

none-chosen : (b : Bool) (n : ℕ) → cond (b || true) 0 n ≡ 0
none-chosen true n = refl
none-chosen false n = refl

-- where a part ends, none begins
part-none : (quote : ℕ) (rest : List ℕ) → Stops quote rest → part_length quote rest ≡ 0
unfolding part_length
part-none quote [] stops = refl
part-none quote (x ∷ []) (inl is) = rw (eq-eqb x quote is) refl
part-none quote (x ∷ []) (inr is) = let none : false ≡ true = both-other (x == 36) false is in cc
part-none quote (x ∷ y ∷ rest) (inl is) = rw (eq-eqb x quote is) refl
part-none quote (x ∷ y ∷ rest) (inr is) = rw is (none-chosen (x == quote) _)

-- behind a byte of a part that ends, no `${` begins
no_opening : (quote x : ℕ) (rest : List ℕ) → is_quote quote ≡ true → Stops quote rest → (x == 36 && slice_index rest 0 == 123) ≡ false
no_opening quote x rest quoted (inl is) = ap (λ b. x == 36 && b == 123) is ∙ ap (λ b. x == 36 && b) (no_brace quote quoted) ∙ both-false (x == 36)
no_opening quote x rest quoted (inr is) =
    let first : slice_index rest 0 ≡ 36 = eqb-true (slice_index rest 0) 36 (both-one (slice_index rest 0 == 36) (slice_index rest 1 == 123) is) in
    ap (λ b. x == 36 && b == 123) first ∙ both-false (x == 36)

-- a part of one byte goes no further
last-byte : (b c d e : Bool) (m n : ℕ) → ◌≡◌ {A = ℕ} (cond (b || d) 0 1) 1 → c ≡ false → n ≡ 0 → cond (b || c) 0 (cond d (cond e (2 + m) 0) (1 + n)) ≡ 1
last-byte true c d e m n is no_c none = is
last-byte false c true e m n is no_c none = let zero : ◌≡◌ {A = ℕ} 0 1 = is in absurd (omega (arith, zero))
last-byte false c false e m n is no_c none = rw no_c (omega (arith, none))

-- one byte or escape more
part-step : (b d e : Bool) (m n more rest size : ℕ) → cond b 0 (cond d (cond e (2 + m) 0) (1 + n)) ≡ suc (suc size) → (m ≡ size → more ≡ size) → (n ≡ suc size → rest ≡ suc size) →
    cond b 0 (cond d (cond e (2 + more) 0) (1 + rest)) ≡ suc (suc size)
part-step true d e m n more rest size is one other = is
part-step false true true m n more rest size is one other = omega (arith, one (omega (arith, is)))
part-step false true false m n more rest size is one other = is
part-step false false e m n more rest size is one other = omega (arith, other (omega (arith, is)))

-- a part goes on to where it ends
pub part-goes : (quote : ℕ) (text rest : List ℕ) → is_quote quote ≡ true → Stops quote rest → part_length quote text ≡ length text → part_length quote (text ++ rest) ≡ length text
unfolding part_length
part-goes quote [] rest quoted stops whole = part-none quote rest stops
part-goes quote (x ∷ []) [] quoted stops whole = whole
part-goes quote (x ∷ []) (y ∷ rest) quoted stops whole =
    last-byte (x == quote) (x == 36 && y == 123) (x == 92) (is_escaped y) _ _ whole (no_opening quote x (y ∷ rest) quoted stops) (part-none quote (y ∷ rest) stops)
part-goes quote (x ∷ y ∷ text) rest quoted stops whole =
    part-step (x == quote || (x == 36 && y == 123)) (x == 92) (is_escaped y) (part_length quote text) (part_length quote (y ∷ text)) (part_length quote (text ++ rest)) (part_length quote (y ∷ (text ++ rest))) (length text) whole
    (part-goes quote text rest quoted stops) (part-goes quote (y ∷ text) rest quoted stops)

-- a number that isn't 0
not_zero : (n : ℕ) → 0 < n → (n == 0) ≡ false
not_zero n some = grind (arith, nat_tests)

-- a part is found
part-found : (quote : ℕ) (text rest : List ℕ) → is_quote quote ≡ true → Stops quote rest → 0 < length text → part_length quote text ≡ length text →
    text_found quote (text ++ rest) ≡ found.Token (part_of (length text))
unfolding text_found
part-found quote text rest quoted stops some whole =
    let goes = part-goes quote text rest quoted stops whole in
    let front = part-front quote (text ++ rest) (omega (arith, goes)) in
    rw front.0 (rw front.1 (rw goes (rw (not_zero (length text) some) refl)))

-- a part of a text
pub advance-part : (source print : List ℕ) (quote : Terminal) (ls : List Level) (opened at : ℕ) (b : Before) (new_line : Bool) (ts : List scanned.Token) (text rest : List ℕ) →
    is_quote (quote_of source quote) ≡ true → Stops (quote_of source quote) rest → 0 < length text → part_length (quote_of source quote) text ≡ length text →
    Lexes print (state at b (nests source (Inside quote false ∷ ls) opened) ts) → At print at (text ++ rest) → begins_line b ≡ new_line →
    Advanced source print shape.TextPart text new_line (Inside quote true ∷ ls) Other ts rest
unfolding changed shape_by is_wide_integer found_at
advance-part source print quote ls opened at b new_line ts text rest quoted stops some whole lexes here line =
    advance source print (Inside quote false) ls (Inside quote true ∷ ls) opened opened at b new_line ts text rest shape.TextPart (part_of (length text)) lexes here line
    some refl refl (part-found (quote_of source quote) text rest quoted stops some whole) refl refl
