-- What a scanner reads, case by case.
use Rattle.std.proofs.Common.{◌≡◌, ℕ, zero, suc, ◌<◌, Bool, true, false, cond, ◌==◌, List, take, Option, None, Some, refl, arith, ap, ◌∙◌, subst, nat_lt, eqb-true}
use Rattle.std.specs.Prelude.{slice_index}
use Rattle.ink_tokens.specs.declared.reading.Level.{Level}
use Rattle.ink_tokens.specs.declared.reading.Before.{Before}
use Rattle.ink_tokens.specs.declared.reading.Change.TheVariants.{Stay}
use Rattle.ink_tokens.specs.declared.reading.Read.{Read}
use Rattle.ink_tokens.specs.declared.reading.Found.{Found}
use Rattle.ink_tokens.specs.declared.reading.Found.TheVariants as found
use Rattle.ink_tokens.specs.Bytes.{is_quote}
use Rattle.ink_tokens.specs.Gap.{separator_length}
use Rattle.ink_tokens.specs.Part.{part_length, begins_opening}
use Rattle.ink_tokens.specs.Found.{match_at, brace_at, mark_at, opening_quote, closing_quote, opening, part_of, before_behind, may_be_signed, match_found, token_found, code_found, text_found}

-- outside of texts, or in a `${`: a quote, a brace that is paired, or the longest match
pub data CodeRead (l : Level) (bytes : List ℕ) : Read → Type 0 where
  quote : is_quote (slice_index bytes 0) ≡ true → CodeRead l bytes (opening_quote (slice_index bytes 0))
  brace : {read : Read} → brace_at l (slice_index bytes 0) ≡ Some read → CodeRead l bytes read
  longest : {before : Before} (flag : Bool) → brace_at l (slice_index bytes 0) ≡ None → 0 < (match_at flag bytes).length →
      CodeRead l bytes (record { kind = (match_at flag bytes).kind; length = (match_at flag bytes).length; change = Stay; before = before })

-- in a text: its quote, a `${`, or a part
pub data TextRead (q : ℕ) (bytes : List ℕ) : Read → Type 0 where
  closes : slice_index bytes 0 ≡ q → TextRead q bytes closing_quote
  opens : begins_opening bytes ≡ true → TextRead q bytes opening
  part : 0 < part_length q bytes → TextRead q bytes (part_of (part_length q bytes))

not_zero : (n : ℕ) → (n == 0) ≡ false → 0 < n
not_zero zero is = cc
not_zero (suc n) is = omega arith

-- a match that is found takes a byte
match-read : (l : Level) (bytes : List ℕ) (flag : Bool) (read : Read) (b : Bool) → ((match_at flag bytes).length == 0) ≡ b →
    brace_at l (slice_index bytes 0) ≡ None →
    cond b found.Nothing (found.Token (record { kind = (match_at flag bytes).kind; length = (match_at flag bytes).length; change = Stay; before = before_behind (match_at flag bytes).kind (take (match_at flag bytes).length bytes) })) ≡ found.Token read →
    CodeRead l bytes read
match-read l bytes flag read true none outside is = cc
match-read l bytes flag read false some outside is =
    let same : record { kind = (match_at flag bytes).kind; length = (match_at flag bytes).length; change = Stay; before = before_behind (match_at flag bytes).kind (take (match_at flag bytes).length bytes) } ≡ read = cc in
    subst (CodeRead l bytes) same (longest flag outside (not_zero (match_at flag bytes).length some))

-- a brace, or else a match
brace-read : (l : Level) (bytes : List ℕ) (flag : Bool) (read : Read) (o : Option Read) → brace_at l (slice_index bytes 0) ≡ o →
    token_found o (match_at flag bytes) bytes ≡ found.Token read → CodeRead l bytes read
unfolding token_found match_found
brace-read l bytes flag read None outside is = match-read l bytes flag read ((match_at flag bytes).length == 0) refl outside is
brace-read l bytes flag read (Some mark) paired is =
    let same : mark ≡ read = cc in brace (paired ∙ ap (λ r. Some r) same)

-- a quote, or else that
quote-read : (l : Level) (bytes : List ℕ) (flag : Bool) (read : Read) (b : Bool) → is_quote (slice_index bytes 0) ≡ b →
    token_found (cond b (Some (opening_quote (slice_index bytes 0))) (brace_at l (slice_index bytes 0))) (match_at flag bytes) bytes ≡ found.Token read →
    CodeRead l bytes read
unfolding token_found
quote-read l bytes flag read true is_quote is =
    let same : opening_quote (slice_index bytes 0) ≡ read = cc in subst (CodeRead l bytes) same (quote is_quote)
quote-read l bytes flag read false other is = brace-read l bytes flag read (brace_at l (slice_index bytes 0)) refl is

-- a token is no gap
no_gap : (b : Bool) (n : ℕ) (line : Bool) (rest : Found) (read : Read) → cond b (found.Gap n line) rest ≡ found.Token read → rest ≡ found.Token read
no_gap true n line rest read is = cc
no_gap false n line rest read is = is

pub code-read : (l : Level) (before : Before) (bytes : List ℕ) (read : Read) → code_found l before bytes ≡ found.Token read → CodeRead l bytes read
unfolding code_found mark_at
code-read l before bytes read is =
    quote-read l bytes (may_be_signed before) read (is_quote (slice_index bytes 0)) refl
    (no_gap (nat_lt 0 (separator_length bytes)) _ _ _ read is)

-- a part takes a byte
part-read : (q : ℕ) (bytes : List ℕ) (read : Read) (b : Bool) → (part_length q bytes == 0) ≡ b →
    cond b found.Nothing (found.Token (part_of (part_length q bytes))) ≡ found.Token read → TextRead q bytes read
part-read q bytes read true none is = cc
part-read q bytes read false some is =
    let same : part_of (part_length q bytes) ≡ read = cc in subst (TextRead q bytes) same (part (not_zero (part_length q bytes) some))

opening-read : (q : ℕ) (bytes : List ℕ) (read : Read) (b : Bool) → begins_opening bytes ≡ b →
    cond b (found.Token opening) (cond (part_length q bytes == 0) found.Nothing (found.Token (part_of (part_length q bytes)))) ≡ found.Token read → TextRead q bytes read
opening-read q bytes read true begins is = let same : opening ≡ read = cc in subst (TextRead q bytes) same (opens begins)
opening-read q bytes read false other is = part-read q bytes read (part_length q bytes == 0) refl is

closing-read : (q : ℕ) (bytes : List ℕ) (read : Read) (b : Bool) → (slice_index bytes 0 == q) ≡ b →
    cond b (found.Token closing_quote) (cond (begins_opening bytes) (found.Token opening) (cond (part_length q bytes == 0) found.Nothing (found.Token (part_of (part_length q bytes))))) ≡ found.Token read → TextRead q bytes read
closing-read q bytes read true closing is =
    let same : closing_quote ≡ read = cc in subst (TextRead q bytes) same (closes (eqb-true (slice_index bytes 0) q closing))
closing-read q bytes read false other is = opening-read q bytes read (begins_opening bytes) refl is

pub text-read : (q : ℕ) (bytes : List ℕ) (read : Read) → text_found q bytes ≡ found.Token read → TextRead q bytes read
unfolding text_found
text-read q bytes read is = closing-read q bytes read (slice_index bytes 0 == q) refl is

-- in a text nothing separates
one_of-three : (a b c : Bool) (x y z : Read) (n : ℕ) (line : Bool) →
    cond a (found.Token x) (cond b (found.Token y) (cond c found.Nothing (found.Token z))) ≡ found.Gap n line → ⊥
one_of-three true b c x y z n line is = cc
one_of-three false true c x y z n line is = cc
one_of-three false false true x y z n line is = cc
one_of-three false false false x y z n line is = cc

pub text-no_gap : (q : ℕ) (bytes : List ℕ) (n : ℕ) (line : Bool) → text_found q bytes ≡ found.Gap n line → ⊥
unfolding text_found
text-no_gap q bytes n line is =
    one_of-three (slice_index bytes 0 == q) (begins_opening bytes) (part_length q bytes == 0) _ _ _ n line is
