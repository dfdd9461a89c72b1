-- How a scanner passes one token of a print.
use Rattle.std.proofs.Common.{◌≡◌, ℕ, ◌+◌, ◌<◌, ◌≤◌, Bool, true, false, cond, ◌&&◌, ◌==◌, List, [], ◌∷◌, ◌++◌, map, length, refl, arith, sym, ap, ◌∙◌, subst, eq-eqb, le-leb, nat_le, None, Some}
use Rattle.std.specs.Prelude.{slice_index, slice_range}
use Rattle.std.proofs.lemmas.Bool.Decides.{nat_tests}
use Rattle.ink_base.specs.declared.token.TokenKind.{TokenKind}
use Rattle.ink_base.specs.declared.token.Token as scanned
use Rattle.ink_tokens.specs.declared.reading.Before.{Before}
use Rattle.ink_tokens.specs.declared.reading.Before.TheVariants.{Operand, Other}
use Rattle.ink_tokens.specs.declared.reading.Change.TheVariants.{Enter}
use Rattle.ink_tokens.specs.declared.reading.Found.TheVariants as found
use Rattle.ink_tokens.specs.declared.reading.Level as scan_level
use Rattle.ink_tokens.specs.declared.reading.Level.TheVariants as level
use Rattle.ink_tokens.specs.declared.reading.Read.{Read}
use Rattle.ink_tokens.specs.Bytes.{is_quote}
use Rattle.ink_tokens.specs.Gap.{is_blank, separator_length}
use Rattle.ink_tokens.specs.Fault.{is_wide_integer}
use Rattle.ink_tokens.specs.Found.{found_at, code_found, text_found, token_found, mark_at, may_be_signed, before_behind, opening_quote, closing_quote}
use Rattle.ink_tokens.specs.Nest.{Nest, changed, left}
use Rattle.ink_tokens.specs.Scan.{begins_line}
use Rattle.ink_tokens.specs.Lexes.{Lexes}
use Rattle.ink_tokens.specs.Spelling.{IsSpelled}
use Rattle.ink_shapes.specs.Terminals.{shape_by, terminal_of}
use Rattle.ink_grammar.specs.declared.token.Shape.{Shape}
use Rattle.ink_grammar.specs.declared.token.Shape.TheVariants as shape
use Rattle.ink_grammar.specs.declared.token.Terminal.{Terminal}
use Rattle.ink_print.specs.Layout.{token_text}
use Rattle.ink_law_categories.specs.Nested.{Level, Inside, IsCode}
use Rattle.ink_law_scanning.proofs.Found.{IsLast, token-found, separator-none, read_of}
use Rattle.ink_law_scanning.proofs.Steps.{At, moved, range-at, level_of, state, found-code, token_of, token-step}

-- what is open, as a scanner has it
abbrev pub nests : List ℕ → List Level → ℕ → Nest
nests source [] opened = record { level = level.Outside; outer = []; opened = opened }
nests source (l ∷ ls) opened = record { level = level_of source l; outer = map (level_of source) ls; opened = opened }

-- what is open once the innermost is closed
pub left-nests : (source : List ℕ) (ls : List Level) (opened : ℕ) → left (map (level_of source) ls) opened ≡ nests source ls opened
left-nests source [] opened = refl
left-nests source (l ∷ ls) opened = refl

-- a token that was read, and the place behind it
pub record Advanced (source print : List ℕ) (x : Shape) (text : List ℕ) (new_line : Bool) (levels : List Level) (b : Before) (ts : List scanned.Token) (rest : List ℕ) : Type 0 where
  pub token : scanned.Token
  pub line : token.new_line ≡ new_line
  pub shape : (terminal_of print token).shape ≡ x
  pub text_is : token_text print (terminal_of print token) ≡ text
  pub place : ℕ
  pub opened : ℕ
  pub lexes : Lexes print (state place b (nests source levels opened) (ts ++ token ∷ []))
  pub here : At print place rest

-- the text of a token that was read
range-text : (print : List ℕ) (u : Terminal) (text : List ℕ) → u.start ≤ u.end → u.end ≤ length print → slice_range print u.start u.end ≡ text → token_text print u ≡ text
range-text print u text forward inside is =
    ap (λ b. cond (b && nat_le u.end (length print)) (slice_range print u.start u.end) []) (le-leb u.start u.end forward)
    ∙ ap (λ b. cond b (slice_range print u.start u.end) []) (le-leb u.end (length print) inside)
    ∙ is

-- a token that is found is passed
pub advance : (source print : List ℕ) (l : Level) (ls levels : List Level) (opened behind at : ℕ) (b : Before) (new_line : Bool) (ts : List scanned.Token) (text rest : List ℕ) (x : Shape) (read : Read) →
    Lexes print (state at b (nests source (l ∷ ls) opened) ts) → At print at (text ++ rest) → begins_line b ≡ new_line → 0 < length text →
    read.length ≡ length text → is_wide_integer read.kind text ≡ false → found_at (level_of source l) b (text ++ rest) ≡ found.Token read →
    shape_by read.kind text ≡ x → changed (nests source (l ∷ ls) opened) read.change at ≡ nests source levels behind →
    Advanced source print x text new_line levels read.before ts rest
advance source print l ls levels opened behind at b new_line ts text rest x read lexes here line some size narrow is shown nest =
    let range = range-at print at text rest here in
    let next = moved print at text rest here in
    record {
      token = token_of at b read.kind (length text);
      line = line;
      shape = ap (shape_by read.kind) range ∙ shown;
      text_is = range-text print (terminal_of print (token_of at b read.kind (length text))) text (omega arith) next.inside range;
      place = at + length text;
      opened = behind;
      lexes = subst (λ n. Lexes print (state (at + length text) read.before n (ts ++ token_of at b read.kind (length text) ∷ []))) nest
          (token-step print at b (nests source (l ∷ ls) opened) ts text rest read lexes here some size narrow is);
      here = next;
    }

-- a token of code that leaves what is open
pub advance-flat : (source print : List ℕ) (l : Level) (ls : List Level) (opened at : ℕ) (b : Before) (new_line : Bool) (ts : List scanned.Token) (text rest : List ℕ) (x : Shape) (k : TokenKind) →
    IsCode l → Lexes print (state at b (nests source (l ∷ ls) opened) ts) → At print at (text ++ rest) → begins_line b ≡ new_line → 0 < length text →
    IsSpelled (may_be_signed b) text k → is_wide_integer k text ≡ false → IsLast (may_be_signed b) text rest → separator_length (text ++ rest) ≡ 0 →
    mark_at (level_of source l) (slice_index (text ++ rest) 0) ≡ None → shape_by k text ≡ x →
    Advanced source print x text new_line (l ∷ ls) (before_behind k text) ts rest
unfolding changed
advance-flat source print l ls opened at b new_line ts text rest x k code lexes here line some spelled narrow last separator mark shown =
    advance source print l ls (l ∷ ls) opened opened at b new_line ts text rest x (read_of k text) lexes here line some refl narrow
    (found-code source l b (text ++ rest) code ∙ token-found (level_of source l) b text rest k some spelled last separator mark) shown refl

-- the first byte of a text with more behind it
pub first-of : (text rest : List ℕ) → 0 < length text → slice_index (text ++ rest) 0 ≡ slice_index text 0
first-of [] rest some = absurd (omega arith)
first-of (x ∷ text) rest some = refl

-- a quote begins no gap
quote_no_blank : (byte : ℕ) → is_quote byte ≡ true → is_blank byte ≡ false
quote_no_blank byte is = grind (arith, nat_tests)

quote_no_hash : (byte : ℕ) → is_quote byte ≡ true → (byte == 35) ≡ false
quote_no_hash byte is = grind (arith, nat_tests)

quote-mark : (l : scan_level.Level) (byte : ℕ) → is_quote byte ≡ true → mark_at l byte ≡ Some (opening_quote byte)
unfolding mark_at
quote-mark l byte is = rw is refl

pub mark-found : (l : scan_level.Level) (b : Before) (bytes : List ℕ) (read : Read) → separator_length bytes ≡ 0 → mark_at l (slice_index bytes 0) ≡ Some read → code_found l b bytes ≡ found.Token read
unfolding code_found token_found
mark-found l b bytes read separator mark = rw separator (rw mark refl)

-- a quote that opens a text
pub advance-quote : (source print : List ℕ) (l : Level) (ls : List Level) (t : Terminal) (opened at : ℕ) (b : Before) (new_line : Bool) (ts : List scanned.Token) (text rest : List ℕ) (byte : ℕ) →
    IsCode l → Lexes print (state at b (nests source (l ∷ ls) opened) ts) → At print at (text ++ rest) → begins_line b ≡ new_line →
    text ≡ byte ∷ [] → is_quote byte ≡ true → level_of source (Inside t false) ≡ level.Text byte →
    Advanced source print shape.Quote text new_line (Inside t false ∷ l ∷ ls) Other ts rest
unfolding changed shape_by is_wide_integer
advance-quote source print l ls t opened at b new_line ts text rest byte code lexes here line alone quoted inner =
    let alone-found : found_at (level_of source l) b (byte ∷ rest) ≡ found.Token (opening_quote byte) =
    found-code source l b (byte ∷ rest) code
    ∙ mark-found (level_of source l) b (byte ∷ rest) (opening_quote byte) (separator-none (byte ∷ rest) (quote_no_blank byte quoted) (quote_no_hash byte quoted)) (quote-mark (level_of source l) byte quoted) in
    advance source print l ls (Inside t false ∷ l ∷ ls) opened (changed (nests source (l ∷ ls) opened) (Enter (level.Text byte)) at).opened at b new_line ts text rest shape.Quote (opening_quote byte) lexes here line
    (subst (λ t. 0 < length t) (sym alone) (omega arith)) (sym (ap length alone)) refl
    (ap (λ t. found_at (level_of source l) b (t ++ rest)) alone ∙ alone-found) refl
    (ap (λ inner. record { level = inner; outer = level_of source l ∷ map (level_of source) ls; opened = (changed (nests source (l ∷ ls) opened) (Enter (level.Text byte)) at).opened }) (sym inner))

-- a number is itself
same_number : (n : ℕ) → (n == n) ≡ true
same_number n = eq-eqb n n refl

-- the quote that closes a text
pub advance-closing_quote : (source print : List ℕ) (t : Terminal) (ends : Bool) (ls : List Level) (opened at : ℕ) (b : Before) (new_line : Bool) (ts : List scanned.Token) (text rest : List ℕ) (byte : ℕ) →
    Lexes print (state at b (nests source (Inside t ends ∷ ls) opened) ts) → At print at (text ++ rest) → begins_line b ≡ new_line →
    text ≡ byte ∷ [] → level_of source (Inside t ends) ≡ level.Text byte →
    Advanced source print shape.Quote text new_line ls Operand ts rest
unfolding changed shape_by is_wide_integer found_at text_found
advance-closing_quote source print t ends ls opened at b new_line ts text rest byte lexes here line alone inner =
    let alone-found : found_at (level.Text byte) b (byte ∷ rest) ≡ found.Token closing_quote = rw (same_number byte) refl in
    advance source print (Inside t ends) ls ls opened opened at b new_line ts text rest shape.Quote closing_quote lexes here line
    (subst (λ t. 0 < length t) (sym alone) (omega arith)) (sym (ap length alone)) refl
    (ap (λ bytes. found_at (level_of source (Inside t ends)) b (bytes ++ rest)) alone ∙ ap (λ l. found_at l b (byte ∷ rest)) inner ∙ alone-found) refl
    (left-nests source ls opened)
