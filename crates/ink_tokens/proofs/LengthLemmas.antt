-- How long the match at the front is.
use Rattle.std.proofs.Common.{◌≡◌, ℕ, zero, suc, ◌+◌, ◌<◌, ◌≤◌, Bool, true, false, cond, ◌&&◌, ◌==◌, List, [], ◌∷◌, length, take, drop, refl, arith, eqb-true, leb-true, nat_le, nat_lt}
use Rattle.std.specs.Prelude.{slice_index}
use Rattle.std.proofs.lemmas.List.Sums.{prefix_len-le-length}
use Rattle.std.proofs.lemmas.List.{length-drop}
use Rattle.ink_tokens.specs.declared.bytes.Class.TheVariants.{Word, Decimal, Hexadecimal}
use Rattle.ink_tokens.specs.Bytes.{is_of, begins_name}
use Rattle.ink_tokens.specs.declared.reading.Match.{Match}
use Rattle.ink_tokens.specs.Found.{longer, name_match, match_at}
use Rattle.ink_tokens.specs.Words.{name_length, const_length, field_length, symbol_length, is_pair, is_single, word_run}
use Rattle.ink_tokens.specs.Integer.{decimal_length, begins_hexadecimal, hexadecimal_length, hexadecimal_run, unsigned_length, begins_signed, integer_length}
use Rattle.ink_tokens.proofs.Choices.{both-one, both-other}

-- what a test chooses is within what either choice is
chosen-within : (b : Bool) (one other n : ℕ) → (b ≡ true → one ≤ n) → other ≤ n → cond b one other ≤ n
chosen-within true one other n first second = first refl
chosen-within false one other n first second = second

-- a byte that isn't 0 is there
there : (bytes : List ℕ) (k : ℕ) → (slice_index bytes k ≡ 0 → ⊥) → k < length bytes
there [] k some = absurd (some refl)
there (byte ∷ bytes) zero some = omega arith
there (byte ∷ bytes) (suc k) some = let rest : k < length bytes = there bytes k some in omega arith

-- a byte that is found equal to another
is-there : (bytes : List ℕ) (k byte : ℕ) → (slice_index bytes k == byte) ≡ true → 0 < byte → k < length bytes
is-there bytes k byte same some =
    there bytes k (λ none. let is : slice_index bytes k ≡ byte = eqb-true (slice_index bytes k) byte same in omega arith)

name-within : (bytes : List ℕ) → name_length bytes ≤ length bytes
unfolding name_length
name-within bytes =
    let run : word_run bytes ≤ length bytes = prefix_len-le-length (is_of Word) bytes in
    chosen-within (begins_name (slice_index bytes 0)) _ 0 (length bytes)
    (λ is. chosen-within (slice_index bytes (word_run bytes) == 63) (word_run bytes + 1) (word_run bytes) (length bytes)
    (λ mark. let at = is-there bytes (word_run bytes) 63 mark (omega arith) in omega arith) run)
    (omega arith)

const-within : (bytes : List ℕ) → const_length bytes ≤ length bytes
unfolding const_length
const-within bytes = chosen-within _ _ 0 (length bytes) (λ is. prefix_len-le-length (is_of Word) bytes) (omega arith)

-- behind its first bytes a run is within
behind-within : (n run : ℕ) (bytes : List ℕ) → n ≤ length bytes → run ≤ length (drop n bytes) → n + run ≤ length bytes
behind-within n run bytes inside le = omega (arith, length-drop n bytes)

field-within : (bytes : List ℕ) → field_length bytes ≤ length bytes
unfolding field_length
field-within bytes =
    chosen-within (slice_index bytes 0 == 64 && begins_name (slice_index bytes 1)) (1 + word_run (drop 1 bytes)) 0 (length bytes)
    (λ is. let first = is-there bytes 0 64 (both-one (slice_index bytes 0 == 64) _ is) (omega arith) in
    behind-within 1 (word_run (drop 1 bytes)) bytes (omega arith) (prefix_len-le-length (is_of Word) (drop 1 bytes)))
    (omega arith)

decimal-within : (bytes : List ℕ) → decimal_length bytes ≤ length bytes
unfolding decimal_length
decimal-within bytes = chosen-within _ _ 0 (length bytes) (λ is. prefix_len-le-length (is_of Decimal) bytes) (omega arith)

hexadecimal-within : (bytes : List ℕ) → hexadecimal_length bytes ≤ length bytes
unfolding hexadecimal_length begins_hexadecimal
hexadecimal-within bytes =
    chosen-within (slice_index bytes 0 == 48 && slice_index bytes 1 == 120) _ 0 (length bytes)
    (λ is. let second = is-there bytes 1 120 (both-other (slice_index bytes 0 == 48) (slice_index bytes 1 == 120) is) (omega arith) in
    chosen-within _ _ 0 (length bytes)
    (λ some. behind-within 2 (hexadecimal_run (drop 2 bytes)) bytes (omega arith) (prefix_len-le-length (is_of Hexadecimal) (drop 2 bytes)))
    (omega arith))
    (omega arith)

unsigned-within : (bytes : List ℕ) → unsigned_length bytes ≤ length bytes
unfolding unsigned_length
unsigned-within bytes = omega (arith, decimal-within bytes, hexadecimal-within bytes)

integer-within : (flag : Bool) (bytes : List ℕ) → integer_length flag bytes ≤ length bytes
unfolding integer_length begins_signed
integer-within flag bytes =
    let plain = unsigned-within bytes in
    let behind = unsigned-within (drop 1 bytes) in
    let size = length-drop 1 bytes in
    chosen-within (flag && begins_signed bytes) (1 + unsigned_length (drop 1 bytes)) (unsigned_length bytes) (length bytes)
    (λ is. let sign = is-there bytes 0 45 (both-one (slice_index bytes 0 == 45) _ (both-other flag _ is)) (omega arith) in omega arith)
    plain

-- no byte is no symbol
single-there : (bytes : List ℕ) → is_single (slice_index bytes 0) ≡ true → 1 ≤ length bytes
unfolding is_single
single-there [] single = let none : false ≡ true = single in cc
single-there (byte ∷ bytes) single = omega arith

symbol-within : (bytes : List ℕ) → symbol_length bytes ≤ length bytes
unfolding symbol_length
symbol-within bytes =
    chosen-within (nat_le 2 (length bytes) && is_pair (take 2 bytes)) 2 _ (length bytes)
    (λ is. leb-true 2 (length bytes) (both-one (nat_le 2 (length bytes)) _ is))
    (chosen-within (is_single (slice_index bytes 0)) 1 0 (length bytes) (λ single. single-there bytes single) (omega arith))

-- either of two matches
either-within : (b : Bool) (one other : Match) (n : ℕ) → one.length ≤ n → other.length ≤ n → (cond b other one).length ≤ n
either-within true one other n first second = second
either-within false one other n first second = first

-- the longer of two matches is one of them
longer-within : (one other : Match) (n : ℕ) → one.length ≤ n → other.length ≤ n → (longer one other).length ≤ n
unfolding longer
longer-within one other n first second = either-within (nat_lt one.length other.length) one other n first second

-- no match takes more than there is
pub match-within : (flag : Bool) (bytes : List ℕ) → (match_at flag bytes).length ≤ length bytes
unfolding match_at name_match
match-within flag bytes =
    longer-within _ _ (length bytes)
    (longer-within _ _ (length bytes) (name-within bytes) (longer-within _ _ (length bytes) (const-within bytes) (field-within bytes)))
    (longer-within _ _ (length bytes) (integer-within flag bytes) (symbol-within bytes))
