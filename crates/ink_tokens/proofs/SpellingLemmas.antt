-- No text at the front that is spelled as a token of a kind is longer than the match of that kind.
use Rattle.std.proofs.Common.{◌≡◌, ℕ, zero, suc, ◌+◌, ◌-◌, ◌<◌, ◌≤◌, Bool, true, false, cond, ◌&&◌, ◌||◌, ◌==◌, List, [], ◌∷◌, length, take, drop, refl, arith, sym, ap, ◌∙◌, subst, ⊎_elim, inl, inr, eq-eqb, eqb-true, le-leb, nat_le, get_or-take, length-take-le}
use Rattle.std.proofs.lemmas.List.{take-take}
use Rattle.std.proofs.str.Laws.{order}
use Rattle.std.specs.Prelude.{slice_index}
use Rattle.std.specs.List.{list_all, list_any, prefix_len}
use Rattle.std.proofs.lemmas.Bool.Decides.{nat_tests}
use Rattle.std.specs.Char.{is_ascii_digit, is_ascii_hexdigit, is_ascii_uppercase}
use Rattle.ink_tokens.specs.declared.bytes.Class.TheVariants.{Word, Decimal, Hexadecimal}
use Rattle.ink_tokens.specs.Bytes.{is_of, begins_name}
use Rattle.ink_base.specs.declared.token.TokenKind.{TokenKind}
use Rattle.ink_base.specs.declared.token.TokenKind.TheVariants as kind
use Rattle.ink_tokens.specs.declared.reading.Match.{Match}
use Rattle.ink_tokens.specs.Found.{longer, name_match, match_at}
use Rattle.ink_tokens.specs.Words.{name_length, const_length, field_length, symbol_length, is_pair, is_single, word_run}
use Rattle.ink_tokens.specs.Integer.{decimal_length, begins_hexadecimal, hexadecimal_length, hexadecimal_run, unsigned_length, begins_signed, integer_length}
use Rattle.ink_tokens.specs.Spelling.{IsName, IsConst, IsField, IsDecimal, IsHexadecimal, IsUnsigned, IsNameTail, IsSigned, IsInteger, IsSymbol, IsSpelled, spelled_name, spelled_const, spelled_field, spelled_integer, spelled_symbol}
use Rattle.ink_tokens.proofs.Choices.{both}

-- one byte more of a run
run-more : (first : Bool) (rest : Bool) (n run : ℕ) → (first && rest) ≡ true → (rest ≡ true → n ≤ run) → suc n ≤ cond first (1 + run) 0
run-more true rest n run both more = omega (arith, more both)
run-more false rest n run both more = cc

-- bytes of one class at the front are no more than their run
run-longest : (p : ℕ → Bool) (n : ℕ) (bytes : List ℕ) → n ≤ length bytes → list_all p (take n bytes) ≡ true → n ≤ prefix_len p bytes
run-longest p zero bytes inside all = omega arith
run-longest p (suc n) [] inside all = absurd (omega arith)
run-longest p (suc n) (byte ∷ bytes) inside all =
    run-more (p byte) (list_all p (take n bytes)) n (prefix_len p bytes) all
    (λ rest. run-longest p n bytes (omega arith) rest)

-- the first byte of what stands at the front
pub first_byte : (n : ℕ) (bytes : List ℕ) → 0 < n → slice_index (take n bytes) 0 ≡ slice_index bytes 0
first_byte zero bytes some = absurd (omega arith)
first_byte (suc n) [] some = refl
first_byte (suc n) (byte ∷ bytes) some = refl

-- a test that passes chooses the first
chosen : (b : Bool) (n run : ℕ) → b ≡ true → n ≤ run → n ≤ cond b run 0
chosen true n run is le = le
chosen false n run is le = cc

-- the run of a class, where the first byte passes a test
run-chosen : (test p : ℕ → Bool) (n : ℕ) (bytes : List ℕ) → n ≤ length bytes → test (slice_index (take n bytes) 0) ≡ true →
    list_all p (take n bytes) ≡ true → n ≤ cond (test (slice_index bytes 0)) (prefix_len p bytes) 0
run-chosen test p zero bytes inside first all = omega arith
run-chosen test p (suc n) bytes inside first all =
    chosen (test (slice_index bytes 0)) (suc n) (prefix_len p bytes)
    (sym (ap test (first_byte (suc n) bytes (omega arith))) ∙ first) (run-longest p (suc n) bytes inside all)

-- no CONST is longer
pub const-longest : (n : ℕ) (bytes : List ℕ) → n ≤ length bytes → IsConst (take n bytes) → n ≤ const_length bytes
unfolding const_length
const-longest n bytes inside spelled =
    run-chosen is_ascii_uppercase (is_of Word) n bytes inside spelled.0 spelled.1

-- no decimal integer is longer
pub decimal-longest : (n : ℕ) (bytes : List ℕ) → n ≤ length bytes → IsDecimal (take n bytes) → n ≤ decimal_length bytes
unfolding decimal_length
decimal-longest n bytes inside spelled =
    run-chosen is_ascii_digit (is_of Decimal) n bytes inside spelled.0 spelled.1

-- what is chosen by a test that passes
chosen-more : (b : Bool) (n more run : ℕ) → b ≡ true → n ≤ run → more + n ≤ cond b (more + run) 0
chosen-more true n more run is le = omega arith
chosen-more false n more run is le = cc

-- the first passes, or one of the rest does
any-first : (first rest other : Bool) → (first || rest) ≡ true → (rest ≡ true → other ≡ true) → (first || other) ≡ true
any-first true rest other some more = refl
any-first false rest other some more = more some

-- a test that some byte passes
any-more : (p : ℕ → Bool) (n m : ℕ) (bytes : List ℕ) → n ≤ m → list_any p (take n bytes) ≡ true → list_any p (take m bytes) ≡ true
any-more p zero m bytes le some = cc
any-more p (suc n) zero bytes le some = absurd (omega arith)
any-more p (suc n) (suc m) [] le some = some
any-more p (suc n) (suc m) (byte ∷ bytes) le some =
    any-first (p byte) (list_any p (take n bytes)) (list_any p (take m bytes)) some
    (λ rest. any-more p n m bytes (omega arith) rest)

-- no FIELD is longer
pub field-longest : (n : ℕ) (bytes : List ℕ) → n ≤ length bytes → IsField (take n bytes) → n ≤ field_length bytes
unfolding field_length
field-longest zero bytes inside spelled = omega arith
field-longest (suc zero) [] inside spelled = absurd (omega arith)
field-longest (suc zero) (first ∷ bytes) inside spelled = let none : false ≡ true = spelled.1 in cc
field-longest (suc (suc n)) [] inside spelled = absurd (omega arith)
field-longest (suc (suc n)) (first ∷ []) inside spelled = absurd (omega arith)
field-longest (suc (suc n)) (first ∷ second ∷ bytes) inside spelled =
    let run = run-longest (is_of Word) (suc n) (second ∷ bytes) (omega arith) spelled.2 in
    chosen (first == 64 && begins_name second) (suc (suc n)) (1 + word_run (second ∷ bytes))
    (both (first == 64) (begins_name second) (eq-eqb first 64 spelled.0) spelled.1) (omega (arith, run))

-- no byte is no x
no_x : (byte : ℕ) → byte ≡ 0 → byte ≡ 120 → ⊥
no_x byte none is = omega arith

-- no hexadecimal integer is longer
pub hexadecimal-longest : (n : ℕ) (bytes : List ℕ) → n ≤ length bytes → IsHexadecimal (take n bytes) → n ≤ hexadecimal_length bytes
unfolding hexadecimal_length begins_hexadecimal
hexadecimal-longest zero bytes inside spelled = omega arith
hexadecimal-longest (suc zero) [] inside spelled = absurd (omega arith)
hexadecimal-longest (suc zero) (first ∷ bytes) inside (is_first, is_second, all, some) =
    absurd (no_x 0 refl is_second)
hexadecimal-longest (suc (suc n)) [] inside spelled = absurd (omega arith)
hexadecimal-longest (suc (suc n)) (first ∷ []) inside spelled = absurd (omega arith)
hexadecimal-longest (suc (suc n)) (first ∷ second ∷ bytes) inside spelled =
    let run = run-longest (is_of Hexadecimal) n bytes (omega arith) spelled.2 in
    let digit = any-more is_ascii_hexdigit n (hexadecimal_run bytes) bytes run spelled.3 in
    let begins = both (first == 48) (second == 120) (eq-eqb first 48 spelled.0) (eq-eqb second 120 spelled.1) in
    let inner = chosen-more (list_any is_ascii_hexdigit (take (hexadecimal_run bytes) bytes)) n 2 (hexadecimal_run bytes) digit run in
    chosen (first == 48 && second == 120) (suc (suc n)) _ begins (omega (arith, inner))

-- a run that takes a byte begins with its class, and goes on behind it
some-first : (b : Bool) (run k : ℕ) → k < cond b (1 + run) 0 → b ≡ true
some-first true run k below = refl
some-first false run k below = absurd (omega arith)

-- and its rest is one shorter
some-rest : (b : Bool) (run k : ℕ) → suc k < cond b (1 + run) 0 → k < run
some-rest true run k below = omega arith
some-rest false run k below = absurd (omega arith)

-- what is chosen by a test that passes, or by any test
chosen-or : (b : Bool) (n more run : ℕ) → b ≡ true → n ≤ more → n ≤ cond b more run
chosen-or true n more run is le = le
chosen-or false n more run is le = cc

-- a ? behind a run makes it no shorter
not_less : (b : Bool) (n run : ℕ) → n ≤ run → n ≤ cond b (run + 1) run
not_less true n run le = omega arith
not_less false n run le = le

-- a byte of a run is of its class
run-byte : (p : ℕ → Bool) (k : ℕ) (bytes : List ℕ) → k < prefix_len p bytes → p (slice_index bytes k) ≡ true
run-byte p k [] below = absurd (omega arith)
run-byte p zero (byte ∷ bytes) below = some-first (p byte) (prefix_len p bytes) 0 below
run-byte p (suc k) (byte ∷ bytes) below = run-byte p k bytes (some-rest (p byte) (prefix_len p bytes) k below)

-- a run with a ? behind it
marked : (run m byte : ℕ) → run ≡ m → byte ≡ 63 → suc m ≤ cond (byte == 63) (run + 1) run
marked run m byte same is =
    chosen-or (byte == 63) (suc m) (run + 1) run (eq-eqb byte 63 is) (omega arith)

-- no rest of a name is longer
name-tail : (n : ℕ) (bytes : List ℕ) → suc n ≤ length bytes → IsNameTail (take (suc n) bytes) →
    suc n ≤ cond (slice_index bytes (word_run bytes) == 63) (word_run bytes + 1) (word_run bytes)
name-tail n bytes inside (inl all) =
    not_less (slice_index bytes (word_run bytes) == 63) (suc n) (word_run bytes) (run-longest (is_of Word) (suc n) bytes inside all)
name-tail n bytes inside (inr tail) =
    let size : length (take (suc n) bytes) - 1 ≡ n = omega (arith, length-take-le (suc n) bytes inside) in
    let front : list_all (is_of Word) (take n (take (suc n) bytes)) ≡ true =
    subst (λ k. list_all (is_of Word) (take k (take (suc n) bytes)) ≡ true) size tail.0 in
    let all : list_all (is_of Word) (take n bytes) ≡ true =
    subst (λ text. list_all (is_of Word) text ≡ true) (take-take n (suc n) bytes (omega arith)) front in
    let mark : slice_index bytes n ≡ 63 =
    sym (get_or-take (suc n) bytes n 0 (omega arith))
    ∙ subst (λ k. slice_index (take (suc n) bytes) k ≡ 63) size tail.1 in
    let run = run-longest (is_of Word) n bytes (omega arith) all in
    ⊎_elim
    (λ below.
    let word : is_of Word 63 ≡ true = subst (λ byte. is_of Word byte ≡ true) mark (run-byte (is_of Word) n bytes below) in
    let none : false ≡ true = word in cc)
    (λ above.
    let same : word_run bytes ≡ n = omega (arith, run) in
    marked (word_run bytes) n (slice_index bytes (word_run bytes)) same (ap (slice_index bytes) same ∙ mark))
    (order n (word_run bytes))

-- no integer without a sign is longer
pub unsigned-longest : (n : ℕ) (bytes : List ℕ) → n ≤ length bytes → IsUnsigned (take n bytes) → n ≤ unsigned_length bytes
unfolding unsigned_length
unsigned-longest n bytes inside (inl spelled) = omega (arith, decimal-longest n bytes inside spelled)
unsigned-longest n bytes inside (inr spelled) = omega (arith, hexadecimal-longest n bytes inside spelled)

-- what is chosen by a test that fails
chosen-other : (b : Bool) (n more less : ℕ) → (b ≡ true → ⊥) → n ≤ less → n ≤ cond b more less
chosen-other true n more less never le = absurd (never refl)
chosen-other false n more less never le = le

-- the second of three tests that pass
second_of : (a b c : Bool) → (a && (b && c)) ≡ true → b ≡ true
second_of true true c all = refl
second_of true false c all = all
second_of false b c all = cc

-- an integer without a sign begins with a digit
first_digit : (text : List ℕ) → IsUnsigned text → is_ascii_digit (slice_index text 0) ≡ true
first_digit text (inl spelled) = spelled.0
first_digit text (inr spelled) = subst (λ byte. is_ascii_digit byte ≡ true) (sym spelled.0) refl

-- a - is no digit
no_sign : (n : ℕ) (bytes : List ℕ) → 0 < n → IsUnsigned (take n bytes) → (slice_index bytes 0 == 45) ≡ true → ⊥
no_sign n bytes some spelled is =
    let first : slice_index (take n bytes) 0 ≡ 45 = first_byte n bytes some ∙ eqb-true (slice_index bytes 0) 45 is in
    let none : false ≡ true = subst (λ byte. is_ascii_digit byte ≡ true) first (first_digit (take n bytes) spelled) in
    cc

-- nor one where a sign might stand
integer-unsigned : (may_be_signed : Bool) (n : ℕ) (bytes : List ℕ) → n ≤ length bytes → IsUnsigned (take n bytes) →
    n ≤ integer_length may_be_signed bytes
unfolding integer_length begins_signed
integer-unsigned may_be_signed zero bytes inside spelled = omega arith
integer-unsigned may_be_signed (suc n) bytes inside spelled =
    chosen-other (may_be_signed && (slice_index bytes 0 == 45 && is_ascii_digit (slice_index bytes 1))) (suc n)
    (1 + unsigned_length (drop 1 bytes)) (unsigned_length bytes)
    (λ all. no_sign (suc n) bytes (omega arith) spelled
    (second_of may_be_signed (slice_index bytes 0 == 45) (is_ascii_digit (slice_index bytes 1)) all))
    (unsigned-longest (suc n) bytes inside spelled)

-- no integer with a sign is longer
integer-signed : (may_be_signed : Bool) (n : ℕ) (bytes : List ℕ) → n ≤ length bytes → IsSigned may_be_signed (take n bytes) →
    n ≤ integer_length may_be_signed bytes
unfolding integer_length begins_signed
integer-signed may_be_signed zero bytes inside spelled = omega arith
integer-signed may_be_signed (suc zero) [] inside spelled = absurd (omega arith)
integer-signed may_be_signed (suc zero) (first ∷ bytes) inside spelled = let none : false ≡ true = spelled.2 in cc
integer-signed may_be_signed (suc (suc n)) [] inside spelled = absurd (omega arith)
integer-signed may_be_signed (suc (suc n)) (first ∷ []) inside spelled = absurd (omega arith)
integer-signed may_be_signed (suc (suc n)) (first ∷ second ∷ bytes) inside spelled =
    chosen-or (may_be_signed && (first == 45 && is_ascii_digit second)) (suc (suc n))
    (1 + unsigned_length (second ∷ bytes)) (unsigned_length (first ∷ second ∷ bytes))
    (both may_be_signed (first == 45 && is_ascii_digit second) spelled.0
    (both (first == 45) (is_ascii_digit second) (eq-eqb first 45 spelled.1) spelled.2))
    (omega (arith, unsigned-longest (suc n) (second ∷ bytes) (omega arith) spelled.3))

-- no integer is longer
pub integer-longest : (may_be_signed : Bool) (n : ℕ) (bytes : List ℕ) → n ≤ length bytes → IsInteger may_be_signed (take n bytes) →
    n ≤ integer_length may_be_signed bytes
integer-longest may_be_signed n bytes inside (inl spelled) = integer-unsigned may_be_signed n bytes inside spelled
integer-longest may_be_signed n bytes inside (inr spelled) = integer-signed may_be_signed n bytes inside spelled

-- one of two is chosen
either : (b : Bool) (n one other : ℕ) → n ≤ one → n ≤ other → n ≤ cond b one other
either true n one other le also = le
either false n one other le also = also

-- no symbol is longer
pub symbol-longest : (n : ℕ) (bytes : List ℕ) → n ≤ length bytes → IsSymbol (take n bytes) → n ≤ symbol_length bytes
unfolding symbol_length
symbol-longest n bytes inside (inl pair) =
    let two : n ≡ 2 = omega (arith, length-take-le n bytes inside, pair.0) in
    let is : is_pair (take 2 bytes) ≡ true = subst (λ k. is_pair (take k bytes) ≡ true) two pair.1 in
    chosen-or (nat_le 2 (length bytes) && is_pair (take 2 bytes)) n 2 (cond (is_single (slice_index bytes 0)) 1 0)
    (both (nat_le 2 (length bytes)) (is_pair (take 2 bytes)) (le-leb 2 (length bytes) (omega arith)) is) (omega arith)
symbol-longest n bytes inside (inr single) =
    let one : n ≡ 1 = omega (arith, length-take-le n bytes inside, single.0) in
    let is : is_single (slice_index bytes 0) ≡ true =
    sym (ap is_single (first_byte n bytes (omega arith))) ∙ single.1 in
    either (nat_le 2 (length bytes) && is_pair (take 2 bytes)) n 2 (cond (is_single (slice_index bytes 0)) 1 0) (omega arith)
    (chosen (is_single (slice_index bytes 0)) n 1 is (omega arith))

-- no word that begins as a name does is longer
pub name-longest : (n : ℕ) (bytes : List ℕ) → n ≤ length bytes → IsName (take n bytes) → n ≤ name_length bytes
unfolding name_length
name-longest zero bytes inside spelled = omega arith
name-longest (suc n) bytes inside spelled =
    chosen (begins_name (slice_index bytes 0)) (suc n) _
    (sym (ap begins_name (first_byte (suc n) bytes (omega arith))) ∙ spelled.0) (name-tail n bytes inside spelled.1)

-- the longer of two matches is no shorter than either
longer-one : (one other : Match) → one.length ≤ (longer one other).length
unfolding longer
longer-one one other = grind (arith, nat_tests)

-- nor than the other
longer-other : (one other : Match) → other.length ≤ (longer one other).length
unfolding longer
longer-other one other = grind (arith, nat_tests)

-- how far a word goes as a match
name_match-length : (bytes : List ℕ) → (name_match bytes).length ≡ name_length bytes
unfolding name_match
name_match-length bytes = refl

-- the matches from which the longest is chosen
abbrev pub capital_match : List ℕ → Match
capital_match bytes = record { kind = kind.Const; length = const_length bytes }

abbrev pub field_match : List ℕ → Match
field_match bytes = record { kind = kind.Field; length = field_length bytes }

abbrev pub integer_match : Bool → List ℕ → Match
integer_match may_be_signed bytes = record { kind = kind.Int; length = integer_length may_be_signed bytes }

abbrev pub symbol_match : List ℕ → Match
symbol_match bytes = record { kind = kind.Symbol; length = symbol_length bytes }

abbrev pub word_match : List ℕ → Match
word_match bytes = longer (name_match bytes) (longer (capital_match bytes) (field_match bytes))

abbrev pub other_match : Bool → List ℕ → Match
other_match may_be_signed bytes = longer (integer_match may_be_signed bytes) (symbol_match bytes)

-- none of them is longer than the one that is chosen
word-one : (bytes : List ℕ) → (name_match bytes).length ≤ (word_match bytes).length
word-one bytes = longer-one (name_match bytes) (longer (capital_match bytes) (field_match bytes))

word-other : (bytes : List ℕ) → (longer (capital_match bytes) (field_match bytes)).length ≤ (word_match bytes).length
word-other bytes = longer-other (name_match bytes) (longer (capital_match bytes) (field_match bytes))

all-one : (may_be_signed : Bool) (bytes : List ℕ) →
    (word_match bytes).length ≤ (longer (word_match bytes) (other_match may_be_signed bytes)).length
all-one may_be_signed bytes = longer-one (word_match bytes) (other_match may_be_signed bytes)

all-other : (may_be_signed : Bool) (bytes : List ℕ) →
    (other_match may_be_signed bytes).length ≤ (longer (word_match bytes) (other_match may_be_signed bytes)).length
all-other may_be_signed bytes = longer-other (word_match bytes) (other_match may_be_signed bytes)

-- no text at the front that is spelled as a token is longer than the match that is found there
pub match_at-longest : (may_be_signed : Bool) (n : ℕ) (bytes : List ℕ) (spelled_kind : TokenKind) → n ≤ length bytes →
    IsSpelled may_be_signed (take n bytes) spelled_kind → n ≤ (match_at may_be_signed bytes).length
unfolding match_at
match_at-longest may_be_signed n bytes _ inside (spelled_name spelled) =
    let name = name-longest n bytes inside spelled in
    omega (arith, name, name_match-length bytes, word-one bytes, all-one may_be_signed bytes)
match_at-longest may_be_signed n bytes _ inside (spelled_const spelled) =
    let capital = const-longest n bytes inside spelled in
    omega (arith, capital, longer-one (capital_match bytes) (field_match bytes), word-other bytes, all-one may_be_signed bytes)
match_at-longest may_be_signed n bytes _ inside (spelled_field spelled) =
    let field = field-longest n bytes inside spelled in
    omega (arith, field, longer-other (capital_match bytes) (field_match bytes), word-other bytes, all-one may_be_signed bytes)
match_at-longest may_be_signed n bytes _ inside (spelled_integer spelled) =
    let integer = integer-longest may_be_signed n bytes inside spelled in
    omega (arith, integer, longer-one (integer_match may_be_signed bytes) (symbol_match bytes), all-other may_be_signed bytes)
match_at-longest may_be_signed n bytes _ inside (spelled_symbol spelled) =
    let symbol = symbol-longest n bytes inside spelled in
    omega (arith, symbol, longer-other (integer_match may_be_signed bytes) (symbol_match bytes), all-other may_be_signed bytes)
