-- What bytes a token may begin with, and what bytes may stand within.
use Rattle.std.proofs.Common.{◌≡◌, ℕ, Bool, true, false, ◌&&◌, ◌||◌, ◌==◌, List, [], ◌∷◌, length, refl, arith, sym, subst, ⊎_elim, inl, inr, ◌⊎◌, eqb-true}
use Rattle.std.specs.Prelude.{slice_index}
use Rattle.std.specs.List.{list_any}
use Rattle.std.specs.Str.{bytes_eq}
use Rattle.std.proofs.lemmas.Bool.Decides.{nat_tests}
use Rattle.std.proofs.lemmas.Slice.Eq.{bytes_eq-Decides}
use Rattle.std.specs.Char.{is_ascii_digit, is_ascii_uppercase}
use Rattle.ink_tokens.specs.Bytes.{is_of, begins_name, is_quote}
use Rattle.ink_tokens.specs.Gap.{is_blank}
use Rattle.ink_tokens.specs.Words.{is_single, singles, is_pair, pairs}
use Rattle.ink_tokens.specs.Spelling.{IsSymbol}
use Rattle.ink_tokens.specs.declared.bytes.Class.TheVariants.{Word}
use Rattle.ink_tokens.proofs.Choices.{both-one, both-other}

-- what holds of each of some bytes
abbrev pub Each : (ℕ → Type 0) → List ℕ → Type 0
Each P [] = Unit {0}
Each P (x ∷ xs) = P x × Each P xs

-- and of each of some texts
abbrev pub EachText : (List ℕ → Type 0) → List (List ℕ) → Type 0
EachText P [] = Unit {0}
EachText P (x ∷ xs) = P x × EachText P xs

-- one of two tests passes
pub or-cases : (a b : Bool) → (a || b) ≡ true → (a ≡ true) ⊎ (b ≡ true)
or-cases true b is = inl refl
or-cases false b is = inr is

-- the first of two tests passes
pub or-one : (a b : Bool) → a ≡ true → (a || b) ≡ true
or-one true b is = refl
or-one false b is = cc

-- it holds of a byte that is one of them
pub each-any : (P : ℕ → Type 0) (xs : List ℕ) (byte : ℕ) → Each P xs → list_any (λ x. x == byte) xs ≡ true → P byte
each-any P [] byte each is = let none : false ≡ true = is in cc
each-any P (x ∷ xs) byte each is =
    ⊎_elim (λ same. subst P (eqb-true x byte same) each.0) (λ other. each-any P xs byte each.1 other)
    (or-cases (x == byte) (list_any (λ x. x == byte) xs) is)

-- two texts that are told to be one are one
pub same-text : (one other : List ℕ) → bytes_eq one other ≡ true → one ≡ other
same-text one other is = (bytes_eq-Decides one other).0 is

-- it holds of a text that is one of them
pub each-text : (P : List ℕ → Type 0) (xs : List (List ℕ)) (text : List ℕ) → EachText P xs → list_any (λ x. bytes_eq x text) xs ≡ true → P text
each-text P [] text each is = let none : false ≡ true = is in cc
each-text P (x ∷ xs) text each is =
    ⊎_elim (λ same. subst P (same-text x text same) each.0) (λ other. each-text P xs text each.1 other)
    (or-cases (bytes_eq x text) (list_any (λ x. bytes_eq x text) xs) is)

-- a text of one byte
one-byte : (text : List ℕ) → length text ≡ 1 → text ≡ slice_index text 0 ∷ []
one-byte [] one = absurd (omega arith)
one-byte (x ∷ []) one = refl
one-byte (x ∷ y ∷ text) one = absurd (omega arith)

-- what holds of the symbols
pub each-symbol : (P : List ℕ → Type 0) → Each (λ byte. P (byte ∷ [])) singles → EachText P pairs → (text : List ℕ) → IsSymbol text → P text
unfolding is_pair is_single
each-symbol P of_singles of_pairs text (inl pair) = each-text P pairs text of_pairs pair.1
each-symbol P of_singles of_pairs text (inr single) =
    subst P (sym (one-byte text single.0)) (each-any (λ byte. P (byte ∷ [])) singles (slice_index text 0) of_singles single.1)

-- whether a byte may stand in a token behind its first byte
abbrev pub extends : ℕ → Bool
extends byte = is_of Word byte || (byte == 63 || (byte == 61 || (byte == 60 || byte == 62)))

-- of how symbols begin
abbrev pub SymbolFacts : List ℕ → Type 0
SymbolFacts text =
    (begins_name (slice_index text 0) ≡ false) × (is_ascii_uppercase (slice_index text 0) ≡ false) × ((slice_index text 0 == 64) ≡ false)
    × (is_ascii_digit (slice_index text 0) ≡ false) × (is_quote (slice_index text 0) ≡ false) × (is_blank (slice_index text 0) ≡ false)
    × ((slice_index text 0 == 35) ≡ false) × (is_ascii_digit (slice_index text 1) ≡ false)

-- how symbols begin
pub symbol-facts : (text : List ℕ) → IsSymbol text → SymbolFacts text
symbol-facts text spelled =
    each-symbol SymbolFacts
    ((refl, refl, refl, refl, refl, refl, refl, refl), ((refl, refl, refl, refl, refl, refl, refl, refl), ((refl, refl, refl, refl, refl, refl, refl, refl), ((refl, refl, refl, refl, refl, refl, refl, refl), ((refl, refl, refl, refl, refl, refl, refl, refl), ((refl, refl, refl, refl, refl, refl, refl, refl), ((refl, refl, refl, refl, refl, refl, refl, refl), ((refl, refl, refl, refl, refl, refl, refl, refl), ((refl, refl, refl, refl, refl, refl, refl, refl), ((refl, refl, refl, refl, refl, refl, refl, refl), ((refl, refl, refl, refl, refl, refl, refl, refl), ((refl, refl, refl, refl, refl, refl, refl, refl), ((refl, refl, refl, refl, refl, refl, refl, refl), ((refl, refl, refl, refl, refl, refl, refl, refl), ((refl, refl, refl, refl, refl, refl, refl, refl), ((refl, refl, refl, refl, refl, refl, refl, refl), ((refl, refl, refl, refl, refl, refl, refl, refl), ((refl, refl, refl, refl, refl, refl, refl, refl), ((refl, refl, refl, refl, refl, refl, refl, refl), ((refl, refl, refl, refl, refl, refl, refl, refl), tt))))))))))))))))))))
    ((refl, refl, refl, refl, refl, refl, refl, refl), ((refl, refl, refl, refl, refl, refl, refl, refl), ((refl, refl, refl, refl, refl, refl, refl, refl), ((refl, refl, refl, refl, refl, refl, refl, refl), ((refl, refl, refl, refl, refl, refl, refl, refl), ((refl, refl, refl, refl, refl, refl, refl, refl), ((refl, refl, refl, refl, refl, refl, refl, refl), ((refl, refl, refl, refl, refl, refl, refl, refl), ((refl, refl, refl, refl, refl, refl, refl, refl), ((refl, refl, refl, refl, refl, refl, refl, refl), ((refl, refl, refl, refl, refl, refl, refl, refl), ((refl, refl, refl, refl, refl, refl, refl, refl), ((refl, refl, refl, refl, refl, refl, refl, refl), tt)))))))))))))
    text spelled

-- the second byte of a pair extends
pub pair-extends : (text : List ℕ) → is_pair text ≡ true → extends (slice_index text 1) ≡ true
unfolding is_pair
pair-extends text is =
    each-text (λ text. extends (slice_index text 1) ≡ true) pairs text
    (refl, (refl, (refl, (refl, (refl, (refl, (refl, (refl, (refl, (refl, (refl, (refl, (refl, tt))))))))))))) is

-- of how other tokens begin
abbrev pub LeadFacts : ℕ → Type 0
LeadFacts byte = (is_quote byte ≡ false) × (is_blank byte ≡ false) × ((byte == 35) ≡ false) × ((byte == 123) ≡ false) × ((byte == 125) ≡ false)

pub name-lead : (byte : ℕ) → begins_name byte ≡ true → LeadFacts byte
name-lead byte is = (grind (arith, nat_tests), grind (arith, nat_tests), grind (arith, nat_tests), grind (arith, nat_tests), grind (arith, nat_tests))

pub capital-lead : (byte : ℕ) → is_ascii_uppercase byte ≡ true → LeadFacts byte
capital-lead byte is = (grind (arith, nat_tests), grind (arith, nat_tests), grind (arith, nat_tests), grind (arith, nat_tests), grind (arith, nat_tests))

pub digit-lead : (byte : ℕ) → is_ascii_digit byte ≡ true → LeadFacts byte
digit-lead byte is = (grind (arith, nat_tests), grind (arith, nat_tests), grind (arith, nat_tests), grind (arith, nat_tests), grind (arith, nat_tests))

-- no byte begins two of these
pub capital-no_name : (byte : ℕ) → is_ascii_uppercase byte ≡ true → begins_name byte ≡ false
capital-no_name byte is = grind (arith, nat_tests)

pub digit-no_name : (byte : ℕ) → is_ascii_digit byte ≡ true → begins_name byte ≡ false
digit-no_name byte is = grind (arith, nat_tests)

pub digit-no_capital : (byte : ℕ) → is_ascii_digit byte ≡ true → is_ascii_uppercase byte ≡ false
digit-no_capital byte is = grind (arith, nat_tests)

pub digit-no_at : (byte : ℕ) → is_ascii_digit byte ≡ true → (byte == 64) ≡ false
digit-no_at byte is = grind (arith, nat_tests)
