-- The match that is found at the front of a token's bytes is that token's.
use Rattle.std.proofs.Common.{◌≡◌, ℕ, zero, suc, ◌+◌, ◌-◌, ◌<◌, ◌≤◌, Bool, true, false, cond, ◌&&◌, ◌||◌, ◌==◌, List, [], ◌∷◌, length, take, refl, arith, sym, ap, ◌∙◌, subst, ⊎_elim, inl, inr, eq-eqb, eqb-true, get_or-take, length-take-le, leb-true, nat_le, nat_lt}
use Rattle.std.specs.Prelude.{slice_index}
use Rattle.std.specs.List.{list_all, list_any, prefix_len}
use Rattle.std.proofs.str.Laws.{order}
use Rattle.std.proofs.lemmas.Bool.Decides.{nat_tests}
use Rattle.std.specs.Char.{is_ascii_digit, is_ascii_hexdigit, is_ascii_uppercase}
use Rattle.ink_base.specs.declared.token.TokenKind.{TokenKind}
use Rattle.ink_base.specs.declared.token.TokenKind.TheVariants as kind
use Rattle.ink_tokens.specs.declared.reading.Match.{Match}
use Rattle.ink_tokens.specs.Bytes.{is_of, begins_name}
use Rattle.ink_tokens.specs.Found.{longer, name_match, match_at}
use Rattle.ink_tokens.specs.Words.{is_single, is_pair, word_kind, word_run, name_length, const_length, field_length, symbol_length}
use Rattle.ink_tokens.specs.Integer.{decimal_length, begins_hexadecimal, hexadecimal_length, hexadecimal_run, unsigned_length, begins_signed, integer_length}
use Rattle.ink_tokens.specs.Spelling.{IsUnsigned, IsSpelled, spelled_name, spelled_const, spelled_field, spelled_integer, spelled_symbol}
use Rattle.ink_tokens.specs.declared.bytes.Class.TheVariants.{Word, Decimal, Hexadecimal}
use Rattle.ink_law_scanning.proofs.Leads.{or-one, extends, symbol-facts, pair-extends, capital-no_name, digit-no_name, digit-no_capital, digit-no_at}
use Rattle.ink_tokens.proofs.Choices.{both-one, both-other}

-- the kind that is told by the first bytes
pick : Bool → Bool → Bool → Bool → TokenKind → TokenKind
pick true capital at digit word = word
pick false true at digit word = kind.Const
pick false false true digit word = kind.Field
pick false false false true word = kind.Int
pick false false false false word = kind.Symbol

pick-word : (b c a d : Bool) (word : TokenKind) → b ≡ true → word ≡ pick b c a d word
unfolding pick
pick-word b c a d word is_b = rw is_b refl

pick-capital : (b c a d : Bool) (word : TokenKind) → b ≡ false → c ≡ true → kind.Const ≡ pick b c a d word
unfolding pick
pick-capital b c a d word is_b is_c = rw is_b (rw is_c refl)

pick-field : (b c a d : Bool) (word : TokenKind) → b ≡ false → c ≡ false → a ≡ true → kind.Field ≡ pick b c a d word
unfolding pick
pick-field b c a d word is_b is_c is_a = rw is_b (rw is_c (rw is_a refl))

pick-integer : (b c a d : Bool) (word : TokenKind) → b ≡ false → c ≡ false → a ≡ false → d ≡ true → kind.Int ≡ pick b c a d word
unfolding pick
pick-integer b c a d word is_b is_c is_a is_d = rw is_b (rw is_c (rw is_a (rw is_d refl)))

pick-symbol : (b c a d : Bool) (word : TokenKind) → b ≡ false → c ≡ false → a ≡ false → d ≡ false → kind.Symbol ≡ pick b c a d word
unfolding pick
pick-symbol b c a d word is_b is_c is_a is_d = rw is_b (rw is_c (rw is_a (rw is_d refl)))

-- whether an integer begins with these two bytes
abbrev begins_integer : ℕ → ℕ → Bool
begins_integer first second = is_ascii_digit first || (first == 45 && is_ascii_digit second)

abbrev kind_by : List ℕ → TokenKind
kind_by text = pick (begins_name (slice_index text 0)) (is_ascii_uppercase (slice_index text 0)) (slice_index text 0 == 64) (begins_integer (slice_index text 0) (slice_index text 1)) (word_kind text)

-- an integer by its digits
pub first_digit : (text : List ℕ) → IsUnsigned text → is_ascii_digit (slice_index text 0) ≡ true
first_digit text (inl spelled) = spelled.0
first_digit text (inr spelled) = subst (λ byte. is_ascii_digit byte ≡ true) (sym spelled.0) refl

both_false : (b : Bool) → (b && false) ≡ false
both_false true = refl
both_false false = refl

-- no symbol begins as an integer does
no_integer : (first second : ℕ) → is_ascii_digit first ≡ false → is_ascii_digit second ≡ false → begins_integer first second ≡ false
no_integer first second no_first no_second = rw no_first (rw no_second (both_false (first == 45)))

-- the kind of what is spelled is told by its first bytes
told_kind : (m : Bool) (text : List ℕ) (k : TokenKind) → IsSpelled m text k → k ≡ kind_by text
told_kind m text _ (spelled_name spelled) = pick-word _ _ _ _ _ spelled.0
told_kind m text _ (spelled_const spelled) = pick-capital _ _ _ _ _ (capital-no_name (slice_index text 0) spelled.0) spelled.0
told_kind m text _ (spelled_field spelled) =
    pick-field _ _ _ _ _ (subst (λ b. begins_name b ≡ false) (sym spelled.0) refl) (subst (λ b. is_ascii_uppercase b ≡ false) (sym spelled.0) refl)
    (eq-eqb (slice_index text 0) 64 spelled.0)
told_kind m text _ (spelled_integer (inl spelled)) =
    let digit = first_digit text spelled in
    pick-integer _ _ _ _ _ (digit-no_name (slice_index text 0) digit) (digit-no_capital (slice_index text 0) digit) (digit-no_at (slice_index text 0) digit)
    (or-one (is_ascii_digit (slice_index text 0)) _ digit)
told_kind m text _ (spelled_integer (inr spelled)) =
    pick-integer _ _ _ _ _ (subst (λ b. begins_name b ≡ false) (sym spelled.1) refl) (subst (λ b. is_ascii_uppercase b ≡ false) (sym spelled.1) refl)
    (subst (λ b. (b == 64) ≡ false) (sym spelled.1) refl) (subst (λ b. begins_integer b (slice_index text 1) ≡ true) (sym spelled.1) spelled.2)
told_kind m text _ (spelled_symbol spelled) =
    let facts = symbol-facts text spelled in
    pick-symbol _ _ _ _ _ facts.0 facts.1 facts.2 (no_integer (slice_index text 0) (slice_index text 1) facts.3 facts.7)

-- a text is spelled as a token of one kind
pub one_kind : (m : Bool) (text : List ℕ) (j k : TokenKind) → IsSpelled m text j → IsSpelled m text k → j ≡ k
one_kind m text j k one other = told_kind m text j one ∙ sym (told_kind m text k other)

-- each byte of a text passes
all-at : (p : ℕ → Bool) (text : List ℕ) (i : ℕ) → i < length text → list_all p text ≡ true → p (slice_index text i) ≡ true
all-at p [] i below all = absurd (omega arith)
all-at p (x ∷ text) zero below all = both-one (p x) (list_all p text) all
all-at p (x ∷ text) (suc i) below all = all-at p text i (omega arith) (both-other (p x) (list_all p text) all)

decimal-word : (byte : ℕ) → is_of Decimal byte ≡ true → is_of Word byte ≡ true
decimal-word byte is = grind (arith, nat_tests)

hexadecimal-word : (byte : ℕ) → is_of Hexadecimal byte ≡ true → is_of Word byte ≡ true
hexadecimal-word byte is = grind (arith, nat_tests)

word-extends : (byte : ℕ) → is_of Word byte ≡ true → extends byte ≡ true
word-extends byte is = or-one (is_of Word byte) _ is

-- each byte of an integer is one of a word
unsigned-at : (text : List ℕ) (i : ℕ) → i < length text → IsUnsigned text → is_of Word (slice_index text i) ≡ true
unsigned-at text i below (inl spelled) = decimal-word (slice_index text i) (all-at (is_of Decimal) text i below spelled.1)
unsigned-at text zero below (inr spelled) = subst (λ b. is_of Word b ≡ true) (sym spelled.0) refl
unsigned-at text (suc zero) below (inr spelled) = subst (λ b. is_of Word b ≡ true) (sym spelled.1) refl
unsigned-at [] (suc (suc i)) below (inr spelled) = absurd (omega arith)
unsigned-at (x ∷ []) (suc (suc i)) below (inr spelled) = absurd (omega arith)
unsigned-at (x ∷ y ∷ text) (suc (suc i)) below (inr spelled) =
    hexadecimal-word (slice_index text i) (all-at (is_of Hexadecimal) text i (omega arith) spelled.2)

-- a name's last byte, or one before
tail-at : (text : List ℕ) (i : ℕ) → i < length text → list_all (is_of Word) (take (length text - 1) text) ≡ true →
    slice_index text (length text - 1) ≡ 63 → extends (slice_index text i) ≡ true
tail-at text i below all last =
    ⊎_elim
    (λ before.
    let size : length (take (length text - 1) text) ≡ length text - 1 = length-take-le (length text - 1) text (omega arith) in
    word-extends (slice_index text i)
    (subst (λ b. is_of Word b ≡ true) (get_or-take (length text - 1) text i 0 before)
    (all-at (is_of Word) (take (length text - 1) text) i (omega (arith, size)) all)))
    (λ end. let same : length text - 1 ≡ i = omega arith in
    subst (λ b. extends b ≡ true) (sym (sym (ap (slice_index text) same) ∙ last)) refl)
    (order i (length text - 1))

-- bytes behind the first of what is spelled extend it
pub inner-extends : (m : Bool) (text : List ℕ) (k : TokenKind) (i : ℕ) → 0 < i → i < length text → IsSpelled m text k →
    extends (slice_index text i) ≡ true
inner-extends m text _ i some below (spelled_name (lead, inl all)) = word-extends (slice_index text i) (all-at (is_of Word) text i below all)
inner-extends m text _ i some below (spelled_name (lead, inr tail)) = tail-at text i below tail.0 tail.1
inner-extends m text _ i some below (spelled_const spelled) = word-extends (slice_index text i) (all-at (is_of Word) text i below spelled.1)
inner-extends m [] _ i some below (spelled_field spelled) = absurd (omega arith)
inner-extends m (x ∷ text) _ zero some below (spelled_field spelled) = absurd (omega arith)
inner-extends m (x ∷ text) _ (suc i) some below (spelled_field spelled) =
    word-extends (slice_index text i) (all-at (is_of Word) text i (omega arith) spelled.2)
inner-extends m text _ i some below (spelled_integer (inl spelled)) = word-extends (slice_index text i) (unsigned-at text i below spelled)
inner-extends m [] _ i some below (spelled_integer (inr spelled)) = absurd (omega arith)
inner-extends m (x ∷ text) _ zero some below (spelled_integer (inr spelled)) = absurd (omega arith)
inner-extends m (x ∷ text) _ (suc i) some below (spelled_integer (inr spelled)) =
    word-extends (slice_index text i) (unsigned-at text i (omega arith) spelled.3)
inner-extends m text _ i some below (spelled_symbol (inl pair)) =
    let one : i ≡ 1 = omega (arith, pair.0) in
    subst (λ i. extends (slice_index text i) ≡ true) (sym one) (pair-extends text pair.1)
inner-extends m text _ i some below (spelled_symbol (inr single)) = absurd (omega (arith, single.0))
