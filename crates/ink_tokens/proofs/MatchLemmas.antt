-- What a match takes at the front is spelled so.
use Rattle.std.proofs.Common.{◌≡◌, ℕ, zero, suc, ◌+◌, ◌-◌, ◌<◌, max, Bool, true, false, cond, ◌&&◌, ◌||◌, ◌==◌, List, [], ◌∷◌, length, take, drop, refl, arith, sym, ap, ◌∙◌, subst, ⊎_elim, inl, inr, eqb-true, leb-true, nat_le, nat_lt, get_or-take, length-take-le}
use Rattle.std.specs.Prelude.{slice_index}
use Rattle.std.proofs.str.Laws.{order}
use Rattle.std.proofs.lemmas.List.{take-take}
use Rattle.std.specs.List.{list_all, list_any, prefix_len}
use Rattle.std.specs.Int.{is_in_range}
use Rattle.std.specs.Char.{is_ascii_digit, is_ascii_hexdigit, is_ascii_uppercase, is_ascii_lowercase}
use Rattle.ink_tokens.specs.declared.bytes.Class.TheVariants.{Word, Decimal, Hexadecimal}
use Rattle.ink_tokens.specs.Bytes.{is_of, begins_name}
use Rattle.ink_tokens.specs.declared.reading.Match.{Match}
use Rattle.ink_tokens.specs.Found.{longer, name_match, match_at}
use Rattle.ink_tokens.specs.Words.{name_length, const_length, field_length, symbol_length, is_pair, is_single, word_run}
use Rattle.ink_tokens.specs.Integer.{decimal_length, begins_hexadecimal, hexadecimal_length, hexadecimal_run, unsigned_length, begins_signed, integer_length}
use Rattle.ink_tokens.specs.Spelling.{IsName, IsConst, IsField, IsDecimal, IsHexadecimal, IsUnsigned, IsInteger, IsSymbol, IsSpelled, spelled_name, spelled_const, spelled_field, spelled_integer, spelled_symbol}
use Rattle.ink_tokens.proofs.SpellingLemmas.{first_byte, capital_match, field_match, integer_match, symbol_match, word_match, other_match}
use Rattle.ink_tokens.proofs.Choices.{both-one, both-other, both, one_more, two_more, chosen-keeps}

-- a choice that takes a byte passed its test
passed : (b : Bool) (run : ℕ) → 0 < cond b run 0 → b ≡ true
passed true run some = refl
passed false run some = absurd (omega arith)

-- a run with one byte more in front of it
run-passes-step : (p : ℕ → Bool) (byte : ℕ) (bytes : List ℕ) (b : Bool) → p byte ≡ b →
    list_all p (take (prefix_len p bytes) bytes) ≡ true → list_all p (take (cond b (1 + prefix_len p bytes) 0) (byte ∷ bytes)) ≡ true
run-passes-step p byte bytes true is all =
    subst (λ k. list_all p (take k (byte ∷ bytes)) ≡ true) (one_more (prefix_len p bytes))
    (both (p byte) (list_all p (take (prefix_len p bytes) bytes)) is all)
run-passes-step p byte bytes false is all = refl

-- each byte of a run is of its class
run-passes : (p : ℕ → Bool) (bytes : List ℕ) → list_all p (take (prefix_len p bytes) bytes) ≡ true
run-passes p [] = refl
run-passes p (byte ∷ bytes) = run-passes-step p byte bytes (p byte) refl (run-passes p bytes)

-- a run whose first byte passes a test
run-spelled : (test p : ℕ → Bool) (bytes : List ℕ) → 0 < cond (test (slice_index bytes 0)) (prefix_len p bytes) 0 →
    (test (slice_index (take (cond (test (slice_index bytes 0)) (prefix_len p bytes) 0) bytes) 0) ≡ true)
    × (list_all p (take (cond (test (slice_index bytes 0)) (prefix_len p bytes) 0) bytes) ≡ true)
run-spelled test p bytes some =
    let run = prefix_len p bytes in
    let is = passed (test (slice_index bytes 0)) run some in
    let same : cond (test (slice_index bytes 0)) run 0 ≡ run = ap (λ b. cond b run 0) is in
    let positive : 0 < run = subst (λ k. 0 < k) same some in
    subst (λ k. (test (slice_index (take k bytes) 0) ≡ true) × (list_all p (take k bytes) ≡ true)) (sym same)
    (ap test (first_byte run bytes positive) ∙ is, run-passes p bytes)

-- a CONST
pub const-spelled : (bytes : List ℕ) → 0 < const_length bytes → IsConst (take (const_length bytes) bytes)
unfolding const_length
const-spelled bytes some = run-spelled is_ascii_uppercase (is_of Word) bytes some

-- a decimal integer
pub decimal-spelled : (bytes : List ℕ) → 0 < decimal_length bytes → IsDecimal (take (decimal_length bytes) bytes)
unfolding decimal_length
decimal-spelled bytes some = run-spelled is_ascii_digit (is_of Decimal) bytes some

-- of four tests, one of the last two passes
one_of : (d c l u : Bool) → (l || u) ≡ true → (((d || c) || l) || u) ≡ true
one_of true c l u some = refl
one_of false true l u some = refl
one_of false false l u some = some

-- what begins a name is a byte of a word
begins_word : (byte : ℕ) → begins_name byte ≡ true → is_of Word byte ≡ true
begins_word byte begins = one_of (is_in_range 48 57 byte) (is_in_range 65 90 byte) (is_ascii_lowercase byte) (byte == 95) begins

-- so a name has a run
begins_run : (bytes : List ℕ) → begins_name (slice_index bytes 0) ≡ true → 0 < word_run bytes
begins_run [] begins = let none : false ≡ true = begins in cc
begins_run (byte ∷ bytes) begins =
    subst (λ b. 0 < cond b (1 + word_run bytes) 0) (sym (begins_word byte begins)) (omega arith)

-- a FIELD
pub field-spelled : (bytes : List ℕ) → 0 < field_length bytes → IsField (take (field_length bytes) bytes)
unfolding field_length
field-spelled [] some = absurd (omega arith)
field-spelled (first ∷ rest) some =
    let test = first == 64 && begins_name (slice_index rest 0) in
    let run = word_run rest in
    let is = passed test (1 + run) some in
    let at = eqb-true first 64 (both-one (first == 64) (begins_name (slice_index rest 0)) is) in
    let begins = both-other (first == 64) (begins_name (slice_index rest 0)) is in
    let same : suc run ≡ cond test (1 + run) 0 = one_more run ∙ sym (ap (λ b. cond b (1 + run) 0) is) in
    subst (λ k. IsField (take k (first ∷ rest))) same
    (at, ap begins_name (first_byte run rest (begins_run rest begins)) ∙ begins, run-passes (is_of Word) rest)

-- a choice that can't be
more_of : (b : Bool) → 0 < cond (b && false) (cond false 2 0) 0 → 0 < cond (b && false) 0 0
more_of true some = some
more_of false some = some

-- a hexadecimal integer
pub hexadecimal-spelled : (bytes : List ℕ) → 0 < hexadecimal_length bytes → IsHexadecimal (take (hexadecimal_length bytes) bytes)
unfolding hexadecimal_length begins_hexadecimal
hexadecimal-spelled [] some = absurd (omega arith)
hexadecimal-spelled (first ∷ []) some =
    let is = passed (first == 48 && false) 0 (more_of (first == 48) some) in
    let none : false ≡ true = both-other (first == 48) false is in cc
hexadecimal-spelled (first ∷ second ∷ rest) some =
    let test = first == 48 && second == 120 in
    let run = hexadecimal_run rest in
    let digit = list_any is_ascii_hexdigit (take run rest) in
    let is = passed test (cond digit (2 + run) 0) some in
    let inner : cond test (cond digit (2 + run) 0) 0 ≡ cond digit (2 + run) 0 = ap (λ b. cond b (cond digit (2 + run) 0) 0) is in
    let has = passed digit (2 + run) (subst (λ k. 0 < k) inner some) in
    let same : suc (suc run) ≡ cond test (cond digit (2 + run) 0) 0 =
    two_more run ∙ sym (inner ∙ ap (λ b. cond b (2 + run) 0) has) in
    subst (λ k. IsHexadecimal (take k (first ∷ second ∷ rest))) same (
      eqb-true first 48 (both-one (first == 48) (second == 120) is),
      eqb-true second 120 (both-other (first == 48) (second == 120) is),
      run-passes (is_of Hexadecimal) rest,
      has,
    )

-- the greater of two numbers is one of them
greater : (P : ℕ → Type 0) (a b : ℕ) → 0 < max a b → (0 < a → P a) → (0 < b → P b) → P (max a b)
greater P a b some one other =
    ⊎_elim
    (λ less. let e : b ≡ max a b = omega arith in subst P e (other (omega arith)))
    (λ more. let e : a ≡ max a b = omega arith in subst P e (one (omega arith)))
    (order a b)

-- an integer without a sign
pub unsigned-spelled : (bytes : List ℕ) → 0 < unsigned_length bytes → IsUnsigned (take (unsigned_length bytes) bytes)
unfolding unsigned_length
unsigned-spelled bytes some =
    greater (λ k. IsUnsigned (take k bytes)) (decimal_length bytes) (hexadecimal_length bytes) some
    (λ is. inl (decimal-spelled bytes is)) (λ is. inr (hexadecimal-spelled bytes is))

-- digits make an integer
digit_run : (bytes : List ℕ) → is_ascii_digit (slice_index bytes 0) ≡ true → 0 < unsigned_length bytes
unfolding unsigned_length decimal_length
digit_run [] digit = let none : false ≡ true = digit in cc
digit_run (first ∷ rest) digit =
    subst
    (λ b. 0 < max (cond b (cond (b || first == 95) (1 + prefix_len (is_of Decimal) rest) 0) 0) (hexadecimal_length (first ∷ rest)))
    (sym digit) (omega arith)

-- an integer, by whether it has a sign
integer-choice : (b : Bool) (may_be_signed : Bool) (bytes : List ℕ) →
    b ≡ (may_be_signed && begins_signed bytes) →
    0 < cond b (1 + unsigned_length (drop 1 bytes)) (unsigned_length bytes) →
    IsInteger may_be_signed (take (cond b (1 + unsigned_length (drop 1 bytes)) (unsigned_length bytes)) bytes)
unfolding begins_signed
integer-choice false may_be_signed bytes is some = inl (unsigned-spelled bytes some)
integer-choice true may_be_signed [] is some =
    let none : false ≡ true = both-other may_be_signed false (sym is) in cc
integer-choice true may_be_signed (first ∷ rest) is some =
    let may = both-one may_be_signed (first == 45 && is_ascii_digit (slice_index rest 0)) (sym is) in
    let signed = both-other may_be_signed (first == 45 && is_ascii_digit (slice_index rest 0)) (sym is) in
    let minus = eqb-true first 45 (both-one (first == 45) (is_ascii_digit (slice_index rest 0)) signed) in
    let digit = both-other (first == 45) (is_ascii_digit (slice_index rest 0)) signed in
    let count = unsigned_length rest in
    let positive = digit_run rest digit in
    subst (λ k. IsInteger may_be_signed (take k (first ∷ rest))) (one_more count)
    (inr (may, minus, ap is_ascii_digit (first_byte count rest positive) ∙ digit, unsigned-spelled rest positive))

-- an integer
pub integer-spelled : (may_be_signed : Bool) (bytes : List ℕ) → 0 < integer_length may_be_signed bytes →
    IsInteger may_be_signed (take (integer_length may_be_signed bytes) bytes)
unfolding integer_length
integer-spelled may_be_signed bytes some = integer-choice (may_be_signed && begins_signed bytes) may_be_signed bytes refl some

-- a byte that isn't 0 stands within
stands : (bytes : List ℕ) (k : ℕ) → 0 < slice_index bytes k → k < length bytes
stands [] k some = absurd (omega arith)
stands (byte ∷ bytes) zero some = omega arith
stands (byte ∷ bytes) (suc k) some = omega (arith, stands bytes k some)

-- a symbol of one byte isn't 0
single_some : (byte : ℕ) → is_single byte ≡ true → 0 < byte
unfolding is_single
single_some zero is = let none : false ≡ true = is in cc
single_some (suc byte) is = omega arith

-- a symbol, by how many bytes it has
symbol-choice : (b c : Bool) (bytes : List ℕ) → b ≡ (nat_le 2 (length bytes) && is_pair (take 2 bytes)) →
    c ≡ is_single (slice_index bytes 0) → 0 < cond b 2 (cond c 1 0) → IsSymbol (take (cond b 2 (cond c 1 0)) bytes)
symbol-choice true c bytes pair single some =
    let within = leb-true 2 (length bytes) (both-one (nat_le 2 (length bytes)) (is_pair (take 2 bytes)) (sym pair)) in
    inl (length-take-le 2 bytes within, both-other (nat_le 2 (length bytes)) (is_pair (take 2 bytes)) (sym pair))
symbol-choice false true bytes pair single some =
    let within = stands bytes 0 (single_some (slice_index bytes 0) (sym single)) in
    inr (length-take-le 1 bytes (omega arith), ap is_single (first_byte 1 bytes (omega arith)) ∙ sym single)
symbol-choice false false bytes pair single some = absurd (omega arith)

-- a symbol
pub symbol-spelled : (bytes : List ℕ) → 0 < symbol_length bytes → IsSymbol (take (symbol_length bytes) bytes)
unfolding symbol_length
symbol-spelled bytes some =
    symbol-choice (nat_le 2 (length bytes) && is_pair (take 2 bytes)) (is_single (slice_index bytes 0)) bytes refl refl some

-- a name, by whether it ends with a ?
name-choice : (b : Bool) (bytes : List ℕ) → begins_name (slice_index bytes 0) ≡ true →
    b ≡ (slice_index bytes (word_run bytes) == 63) →
    IsName (take (cond b (word_run bytes + 1) (word_run bytes)) bytes)
name-choice false bytes begins is =
    (ap begins_name (first_byte (word_run bytes) bytes (begins_run bytes begins)) ∙ begins, inl (run-passes (is_of Word) bytes))
name-choice true bytes begins is =
    let run = word_run bytes in
    let text = take (run + 1) bytes in
    let mark : slice_index bytes run ≡ 63 = eqb-true (slice_index bytes run) 63 (sym is) in
    let within = stands bytes run (omega arith) in
    let size : run ≡ length text - 1 = omega (arith, length-take-le (run + 1) bytes (omega arith)) in
    let all : list_all (is_of Word) (take run text) ≡ true =
    subst (λ front. list_all (is_of Word) front ≡ true) (sym (take-take run (run + 1) bytes (omega arith)))
    (run-passes (is_of Word) bytes) in
    let last : slice_index text run ≡ 63 = get_or-take (run + 1) bytes run 0 (omega arith) ∙ mark in (
      ap begins_name (first_byte (run + 1) bytes (omega arith)) ∙ begins,
      inr (subst (λ k. list_all (is_of Word) (take k text) ≡ true) size all, subst (λ k. slice_index text k ≡ 63) size last),
    )

-- a word that begins as a name does
pub name-spelled : (bytes : List ℕ) → 0 < name_length bytes → IsName (take (name_length bytes) bytes)
unfolding name_length
name-spelled bytes some =
    let begins = passed (begins_name (slice_index bytes 0)) _ some in
    let inner = cond (slice_index bytes (word_run bytes) == 63) (word_run bytes + 1) (word_run bytes) in
    let same : cond (begins_name (slice_index bytes 0)) inner 0 ≡ inner = ap (λ b. cond b inner 0) begins in
    subst (λ k. IsName (take k bytes)) (sym same) (name-choice (slice_index bytes (word_run bytes) == 63) bytes begins refl)

-- what holds of two matches holds of the longer
longer-keeps : (P : Match → Type 0) (one other : Match) → P one → P other → P (longer one other)
unfolding longer
longer-keeps P one other of_one of_other = chosen-keeps P (nat_lt one.length other.length) other one of_other of_one

-- what the match that is found takes at the front is spelled as a token
pub match_at-spelled : (may_be_signed : Bool) (bytes : List ℕ) → 0 < (match_at may_be_signed bytes).length →
    IsSpelled may_be_signed (take (match_at may_be_signed bytes).length bytes) (match_at may_be_signed bytes).kind
unfolding match_at name_match
match_at-spelled may_be_signed bytes =
    let P : Match → Type 0 = λ found. 0 < found.length → IsSpelled may_be_signed (take found.length bytes) found.kind in
    let capital : P (capital_match bytes) = λ some. spelled_const (const-spelled bytes some) in
    let field : P (field_match bytes) = λ some. spelled_field (field-spelled bytes some) in
    let integer : P (integer_match may_be_signed bytes) = λ some. spelled_integer (integer-spelled may_be_signed bytes some) in
    let symbol : P (symbol_match bytes) = λ some. spelled_symbol (symbol-spelled bytes some) in
    let name : P (name_match bytes) = λ some. spelled_name (name-spelled bytes some) in
    longer-keeps P (word_match bytes) (other_match may_be_signed bytes)
    (longer-keeps P (name_match bytes) (longer (capital_match bytes) (field_match bytes)) name
    (longer-keeps P (capital_match bytes) (field_match bytes) capital field))
    (longer-keeps P (integer_match may_be_signed bytes) (symbol_match bytes) integer symbol)
