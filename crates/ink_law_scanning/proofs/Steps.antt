-- The steps of a scanner over the bytes of a print.
use Rattle.std.proofs.Common.{◌≡◌, ℕ, ◌+◌, ◌-◌, ◌<◌, ◌≤◌, Bool, true, false, cond, List, [], ◌∷◌, ◌++◌, map, length, take, drop, refl, arith, sym, ap, ◌∙◌, length-append, length-drop, Option, None, Some}
use Rattle.std.specs.Prelude.{slice_range}
use Rattle.std.proofs.Math.Seq.{take-append_seam, drop-append_seam}
use Rattle.std.proofs.lemmas.List.{drop-drop}
use Rattle.ink_base.specs.declared.token.TokenKind.{TokenKind}
use Rattle.ink_base.specs.declared.token.Token as scanned
use Rattle.ink_tokens.specs.declared.reading.Before.{Before}
use Rattle.ink_tokens.specs.declared.reading.Found.TheVariants as found
use Rattle.ink_tokens.specs.declared.reading.Level as scan_level
use Rattle.ink_tokens.specs.declared.reading.Level.TheVariants as level
use Rattle.ink_tokens.specs.declared.reading.Read.{Read}
use Rattle.ink_tokens.specs.Fault.{wide_behind, is_wide_integer}
use Rattle.ink_tokens.specs.Gap.{separator_length}
use Rattle.ink_tokens.specs.Found.{found_at, code_found}
use Rattle.ink_tokens.specs.Nest.{Nest, changed}
use Rattle.ink_tokens.specs.Scan.{Scan, begins_line, behind_line, gap_behind}
use Rattle.ink_tokens.specs.Lexes.{Goes, step_by, Lexes, goes}
use Rattle.ink_tokens.proofs.LexesLemmas.{step_at-inside}
use Rattle.ink_law_categories.specs.Nested.{Level, Outside, Inside, Embedded, Braces, IsCode}
use Rattle.ink_law_categories.specs.Written.{quote_of}

-- from a place on, the print is these bytes
pub record At (print : List ℕ) (at : ℕ) (bytes : List ℕ) : Type 0 where
  pub rest : drop at print ≡ bytes
  pub inside : at ≤ length print

-- so many bytes are left
left : (print : List ℕ) (at : ℕ) (bytes : List ℕ) → At print at bytes → at + length bytes ≡ length print
left print at bytes here = omega (arith, length-drop at print, ap length here.rest, here.inside)

-- behind the first of the bytes
pub moved : (print : List ℕ) (at : ℕ) (text rest : List ℕ) → At print at (text ++ rest) → At print (at + length text) rest
moved print at text rest here = record {
  rest = sym (drop-drop (length text) at print) ∙ ap (drop (length text)) here.rest ∙ drop-append_seam text rest;
  inside = omega (arith, left print at (text ++ rest) here, length-append text rest);
}

-- the bytes at the front
pub range-at : (print : List ℕ) (at : ℕ) (text rest : List ℕ) → At print at (text ++ rest) → slice_range print at (at + length text) ≡ text
range-at print at text rest here =
    let size : at + length text - at ≡ length text = omega arith in
    ap (λ n. take n (drop at print)) size ∙ ap (take (length text)) here.rest ∙ take-append_seam text rest

-- a place before some bytes is inside
pub before-some : (print : List ℕ) (at : ℕ) (text rest : List ℕ) → At print at (text ++ rest) → 0 < length text → at < length print
before-some print at text rest here some = omega (arith, left print at (text ++ rest) here, length-append text rest)

-- what a scanner has open where this is open
abbrev pub level_of : List ℕ → Level → scan_level.Level
level_of source Outside = level.Outside
level_of source (Inside quote ends) = level.Text (quote_of source quote)
level_of source Embedded = level.Embedded
level_of source Braces = level.Braces

-- what is open, as a scanner has it
abbrev pub nest_at : List ℕ → Level → List Level → ℕ → Nest
nest_at source l ls opened = record { level = level_of source l; outer = map (level_of source) ls; opened = opened }

-- a scanner that saw no integer too wide
abbrev pub state : ℕ → Before → Nest → List scanned.Token → Scan
state at b nest ts = record { at = at; before = b; nest = nest; wide = None; tokens = ts }

-- outside of texts
pub found-code : (source : List ℕ) (l : Level) (b : Before) (bytes : List ℕ) → IsCode l → found_at (level_of source l) b bytes ≡ code_found (level_of source l) b bytes
unfolding found_at
found-code source Outside b bytes code = refl
found-code source (Inside quote ends) b bytes code = absurd code
found-code source Embedded b bytes code = refl
found-code source Braces b bytes code = refl

-- the token that is found
abbrev pub token_of : ℕ → Before → TokenKind → ℕ → scanned.Token
token_of at b k n = record { kind = k; start = at; end = at + n; new_line = begins_line b }

-- a token that is found is read
pub token-step : (print : List ℕ) (at : ℕ) (b : Before) (nest : Nest) (ts : List scanned.Token) (text rest : List ℕ) (read : Read) →
    Lexes print (state at b nest ts) → At print at (text ++ rest) → 0 < length text → read.length ≡ length text → is_wide_integer read.kind text ≡ false →
    found_at nest.level b (text ++ rest) ≡ found.Token read →
    Lexes print (state (at + length text) read.before (changed nest read.change at) (ts ++ token_of at b read.kind (length text) ∷ []))
unfolding step_by wide_behind
token-step print at b nest ts text rest read lexes here some size narrow is =
    let behind : ℕ → Option ℕ → Scan =
    λ n wide. record { at = at + n; before = read.before; nest = changed nest read.change at; wide = wide; tokens = ts ++ token_of at b read.kind n ∷ [] } in
    let range : slice_range print at (at + read.length) ≡ text = ap (λ n. slice_range print at (at + n)) size ∙ range-at print at text rest here in
    let wide : wide_behind None at read.kind (slice_range print at (at + read.length)) ≡ None =
    ap (wide_behind None at read.kind) range ∙ ap (λ w. cond w (Some at) None) narrow in
    goes lexes
    (step_at-inside print (state at b nest ts) (found.Token read) (before-some print at text rest here some) (sym is ∙ ap (found_at nest.level b) (sym here.rest))
    ∙ ap (λ wide. Goes (behind read.length wide)) wide
    ∙ ap (λ n. Goes (behind n None)) size)

-- a blank or a line feed is passed
pub gap-step : (print : List ℕ) (at : ℕ) (b : Before) (nest : Nest) (ts : List scanned.Token) (text rest : List ℕ) (feeds : Bool) →
    Lexes print (state at b nest ts) → At print at (text ++ rest) → 0 < length text →
    found_at nest.level b (text ++ rest) ≡ found.Gap (length text) feeds →
    Lexes print (state (at + length text) (gap_behind b feeds) nest ts)
unfolding step_by
gap-step print at b nest ts text rest feeds lexes here some is =
    goes lexes
    (step_at-inside print (state at b nest ts) (found.Gap (length text) feeds) (before-some print at text rest here some) (sym is ∙ ap (found_at nest.level b) (sym here.rest)))

-- a blank in code
blank-found : (source : List ℕ) (l : Level) (b : Before) (rest : List ℕ) → IsCode l → found_at (level_of source l) b (32 ∷ rest) ≡ found.Gap 1 false
unfolding code_found separator_length
blank-found source l b rest code = found-code source l b (32 ∷ rest) code

-- a line feed in code
feed-found : (source : List ℕ) (l : Level) (b : Before) (rest : List ℕ) → IsCode l → found_at (level_of source l) b (10 ∷ rest) ≡ found.Gap 1 true
unfolding code_found separator_length
feed-found source l b rest code = found-code source l b (10 ∷ rest) code

-- blanks alone
pub data Blanks : List ℕ → Type 0 where
  no_blank : Blanks []
  blank_more : {bytes : List ℕ} → Blanks bytes → Blanks (32 ∷ bytes)

-- a place behind blanks
pub record Behind (print : List ℕ) (b : Before) (nest : Nest) (ts : List scanned.Token) (rest : List ℕ) : Type 0 where
  pub place : ℕ
  pub lexes : Lexes print (state place b nest ts)
  pub here : At print place rest

-- blanks are passed
pub skip : (source print : List ℕ) (l : Level) (ls : List Level) (opened : ℕ) (b : Before) (ts : List scanned.Token) {gap : List ℕ} (at : ℕ) (rest : List ℕ) → Blanks gap → IsCode l →
    Lexes print (state at b (nest_at source l ls opened) ts) → At print at (gap ++ rest) → Behind print b (nest_at source l ls opened) ts rest
unfolding gap_behind
skip source print l ls opened b ts at rest no_blank code lexes here = record { place = at; lexes = lexes; here = here }
skip source print l ls opened b ts at rest (blank_more {bytes} blanks) code lexes here =
    skip source print l ls opened b ts (at + 1) rest blanks code
    (gap-step print at b (nest_at source l ls opened) ts (32 ∷ []) (bytes ++ rest) false lexes here (omega arith) (blank-found source l b (bytes ++ rest) code))
    (moved print at (32 ∷ []) (bytes ++ rest) here)

-- a line feed is passed
pub feed : (source print : List ℕ) (l : Level) (ls : List Level) (opened : ℕ) (b : Before) (ts : List scanned.Token) (at : ℕ) (rest : List ℕ) → IsCode l →
    Lexes print (state at b (nest_at source l ls opened) ts) → At print at (10 ∷ rest) → Lexes print (state (at + 1) (behind_line b) (nest_at source l ls opened) ts)
unfolding gap_behind
feed source print l ls opened b ts at rest code lexes here =
    gap-step print at b (nest_at source l ls opened) ts (10 ∷ []) rest true lexes here (omega arith) (feed-found source l b rest code)
