-- What is found where a token's bytes stand.
use Rattle.std.proofs.Common.{◌≡◌, ℕ, zero, suc, ◌<◌, ◌≤◌, Bool, true, false, cond, ◌==◌, List, [], ◌∷◌, ◌++◌, length, take, refl, arith, sym, ap, ◌∙◌, subst, ⊎_elim, inl, inr, eq-eqb, get_or-take, length-append, length-take-le, None}
use Rattle.std.specs.Prelude.{slice_index, nat_lt}
use Rattle.std.proofs.Math.Seq.{take-append_seam}
use Rattle.std.proofs.str.Laws.{order}
use Rattle.std.proofs.lemmas.Bool.Decides.{nat_tests}
use Rattle.std.specs.Char.{is_ascii_digit, is_ascii_uppercase}
use Rattle.ink_base.specs.declared.token.TokenKind.{TokenKind}
use Rattle.ink_tokens.specs.declared.reading.Before.{Before}
use Rattle.ink_tokens.specs.declared.reading.Change.TheVariants.{Stay}
use Rattle.ink_tokens.specs.declared.reading.Match.{Match}
use Rattle.ink_tokens.specs.declared.reading.Found.TheVariants as found
use Rattle.ink_tokens.specs.declared.reading.Level.{Level}
use Rattle.ink_tokens.specs.declared.reading.Level.TheVariants as level
use Rattle.ink_tokens.specs.declared.reading.Read.{Read}
use Rattle.ink_tokens.specs.Bytes.{begins_name, is_quote}
use Rattle.ink_tokens.specs.Gap.{is_blank, separator_length}
use Rattle.ink_tokens.specs.Found.{match_at, match_found, token_found, code_found, mark_at, brace_at, may_be_signed, before_behind}
use Rattle.ink_tokens.specs.Words.{is_pair}
use Rattle.ink_tokens.specs.Spelling.{IsSpelled, spelled_name, spelled_const, spelled_field, spelled_integer, spelled_symbol}
use Rattle.ink_tokens.proofs.MatchLemmas.{match_at-spelled}
use Rattle.ink_tokens.proofs.SpellingLemmas.{match_at-longest}
use Rattle.ink_law_scanning.proofs.Leads.{extends}
use Rattle.ink_tokens.proofs.LengthLemmas.{match-within}
use Rattle.ink_law_scanning.proofs.Matches.{one_kind, inner-extends, first_digit}

-- no longer text at the front is spelled as a token
abbrev pub IsLast : Bool → List ℕ → List ℕ → Type 0
IsLast m text rest = (n : ℕ) (k : TokenKind) → length text < n → n ≤ length (text ++ rest) → IsSpelled m (take n (text ++ rest)) k → ⊥

-- the byte behind a text
after : (text rest : List ℕ) → slice_index (text ++ rest) (length text) ≡ slice_index rest 0
after [] rest = refl
after (x ∷ text) rest = after text rest

-- a byte that extends no token ends it
pub last-by_byte : (m : Bool) (text rest : List ℕ) → 0 < length text → extends (slice_index rest 0) ≡ false → IsLast m text rest
last-by_byte m text rest some stops n k more inside spelled =
    let size = length-take-le n (text ++ rest) inside in
    let inner : extends (slice_index (take n (text ++ rest)) (length text)) ≡ true =
    inner-extends m (take n (text ++ rest)) k (length text) some (omega (arith, size)) spelled in
    let byte : slice_index (take n (text ++ rest)) (length text) ≡ slice_index rest 0 =
    get_or-take n (text ++ rest) (length text) 0 more ∙ after text rest in
    let none : false ≡ true = sym stops ∙ sym (ap extends byte) ∙ inner in cc

-- a byte that alone is a token
pub record IsLone (b : ℕ) : Type 0 where
  pub name : begins_name b ≡ false
  pub capital : is_ascii_uppercase b ≡ false
  pub at : (b == 64) ≡ false
  pub digit : is_ascii_digit b ≡ false
  pub minus : (b == 45) ≡ false
  pub pair : (text : List ℕ) → is_pair (b ∷ text) ≡ false

-- the bytes behind it
lone-take : (b : ℕ) (rest : List ℕ) (n : ℕ) → 1 < n → n ≤ suc (length rest) → (more : List ℕ) × (take n (b ∷ rest) ≡ b ∷ more) × (0 < length more)
lone-take b rest zero more inside = absurd (omega arith)
lone-take b rest (suc n) more inside = (take n rest, refl, omega (arith, length-take-le n rest (omega arith)))

lone-spelled : (m : Bool) (b : ℕ) (more : List ℕ) (k : TokenKind) → IsLone b → 0 < length more → IsSpelled m (b ∷ more) k → ⊥
lone-spelled m b more _ lone some (spelled_name spelled) = let none : false ≡ true = sym lone.name ∙ spelled.0 in cc
lone-spelled m b more _ lone some (spelled_const spelled) = let none : false ≡ true = sym lone.capital ∙ spelled.0 in cc
lone-spelled m b more _ lone some (spelled_field spelled) = let none : false ≡ true = sym lone.at ∙ eq-eqb b 64 spelled.0 in cc
lone-spelled m b more _ lone some (spelled_integer (inl spelled)) = let none : false ≡ true = sym lone.digit ∙ first_digit (b ∷ more) spelled in cc
lone-spelled m b more _ lone some (spelled_integer (inr spelled)) = let none : false ≡ true = sym lone.minus ∙ eq-eqb b 45 spelled.1 in cc
lone-spelled m b more _ lone some (spelled_symbol (inl pair)) = let none : false ≡ true = sym (lone.pair more) ∙ pair.1 in cc
lone-spelled m b more _ lone some (spelled_symbol (inr single)) = absurd (omega (arith, single.0))

-- whatever stands behind it, it is a token alone
pub last-lone : (m : Bool) (b : ℕ) (rest : List ℕ) → IsLone b → IsLast m (b ∷ []) rest
last-lone m b rest lone n k more inside spelled =
    let front = lone-take b rest n more inside in
    lone-spelled m b front.0 k lone front.2 (subst (λ text. IsSpelled m text k) front.1 spelled)

-- a match by its kind and its length
abbrev pub match_of : TokenKind → ℕ → Match
match_of k n = record { kind = k; length = n }

match-eta : (f : Match) (k : TokenKind) (n : ℕ) → f.kind ≡ k → f.length ≡ n → f ≡ match_of k n
match-eta f k n is_kind is_length =
    let one : f ≡ match_of k f.length = ap (λ j. match_of j f.length) is_kind in
    one ∙ ap (match_of k) is_length

-- the match that is found is that of the text
pub match-found : (m : Bool) (text rest : List ℕ) (k : TokenKind) → 0 < length text → IsSpelled m text k → IsLast m text rest →
    match_at m (text ++ rest) ≡ match_of k (length text)
match-found m text rest k some spelled last =
    let bytes = text ++ rest in
    let f = match_at m bytes in
    let whole = length-append text rest in
    let front : take (length text) bytes ≡ text = take-append_seam text rest in
    let long : length text ≤ f.length = match_at-longest m (length text) bytes k (omega (arith, whole)) (subst (λ t. IsSpelled m t k) (sym front) spelled) in
    let is : IsSpelled m (take f.length bytes) f.kind = match_at-spelled m bytes (omega arith) in
    let size : f.length ≡ length text =
    ⊎_elim (λ less. absurd (last f.length f.kind less (match-within m bytes) is)) (λ more. omega (arith, long)) (order (length text) f.length) in
    let kinds : f.kind ≡ k =
    one_kind m text f.kind k (subst (λ t. IsSpelled m t f.kind) (ap (λ n. take n bytes) size ∙ front) is) spelled in
    match-eta f k (length text) kinds size

-- a number that isn't 0
not_zero : (n : ℕ) → 0 < n → (n == 0) ≡ false
not_zero n some = grind (arith, nat_tests)

-- the token of a kind that leaves what is open
abbrev pub read_of : TokenKind → List ℕ → Read
read_of k text = record { kind = k; length = length text; change = Stay; before = before_behind k text }

match_found-token : (f : Match) (bytes : List ℕ) (k : TokenKind) (text : List ℕ) → f ≡ match_of k (length text) → 0 < length text → take (length text) bytes ≡ text →
    match_found f bytes ≡ found.Token (read_of k text)
unfolding match_found
match_found-token f bytes k text is some front =
    ap (λ f. match_found f bytes) is
    ∙ ap (λ b. cond b found.Nothing (found.Token (record { kind = k; length = length text; change = Stay; before = before_behind k (take (length text) bytes) }))) (not_zero (length text) some)
    ∙ ap (λ t. found.Token (record { kind = k; length = length text; change = Stay; before = before_behind k t })) front

-- the token is found
pub token-found : (l : Level) (b : Before) (text rest : List ℕ) (k : TokenKind) → 0 < length text → IsSpelled (may_be_signed b) text k →
    IsLast (may_be_signed b) text rest → separator_length (text ++ rest) ≡ 0 → mark_at l (slice_index (text ++ rest) 0) ≡ None →
    code_found l b (text ++ rest) ≡ found.Token (read_of k text)
unfolding code_found token_found
token-found l b text rest k some spelled last separator mark =
    let bytes = text ++ rest in
    ap (λ n. cond (nat_lt 0 n) (found.Gap n (slice_index bytes 0 == 10)) (token_found (mark_at l (slice_index bytes 0)) (match_at (may_be_signed b) bytes) bytes)) separator
    ∙ ap (λ mark. token_found mark (match_at (may_be_signed b) bytes) bytes) mark
    ∙ match_found-token (match_at (may_be_signed b) bytes) bytes k text (match-found (may_be_signed b) text rest k some spelled last) some (take-append_seam text rest)

-- no blank and no comment begins so
pub separator-none : (bytes : List ℕ) → is_blank (slice_index bytes 0) ≡ false → (slice_index bytes 0 == 35) ≡ false → separator_length bytes ≡ 0
unfolding separator_length
separator-none bytes no_blank no_hash = rw no_blank (rw no_hash refl)

-- no quote and no brace begins so
pub mark-none : (l : Level) (byte : ℕ) → is_quote byte ≡ false → (byte == 123) ≡ false → (byte == 125) ≡ false → mark_at l byte ≡ None
unfolding mark_at brace_at
mark-none level.Outside byte no_quote no_left no_right = rw no_quote refl
mark-none (level.Text quote) byte no_quote no_left no_right = rw no_quote refl
mark-none level.Embedded byte no_quote no_left no_right = rw no_quote (rw no_left (rw no_right refl))
mark-none level.Braces byte no_quote no_left no_right = rw no_quote (rw no_left (rw no_right refl))
