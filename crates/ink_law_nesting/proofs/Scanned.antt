-- The tokens of a source nest.
use Rattle.std.proofs.Common.{◌≡◌, ℕ, ◌+◌, ◌<◌, ◌≤◌, Bool, true, false, cond, ◌&&◌, List, [], ◌∷◌, ◌++◌, length, take, drop, map, Option, None, Some, refl, arith, sym, ap, ◌∙◌, subst, nat_lt, nat_le}
use Rattle.std.proofs.lemmas.List.{length-drop, map-append}
use Rattle.std.specs.Prelude.{slice_range}
use Rattle.ink_base.specs.declared.token.Token as scanned
use Rattle.ink_base.specs.declared.token.TokenKind.{TokenKind}
use Rattle.ink_tokens.specs.declared.fault.Fault.{Fault}
use Rattle.ink_tokens.specs.declared.reading.Level.{Level}
use Rattle.ink_tokens.specs.declared.reading.Level.TheVariants as level
use Rattle.ink_tokens.specs.declared.reading.Read.{Read}
use Rattle.ink_tokens.specs.declared.reading.Found.{Found}
use Rattle.ink_tokens.specs.declared.reading.Found.TheVariants as found
use Rattle.ink_tokens.specs.Fault.{is_wide_integer, wide_behind, end_fault}
use Rattle.ink_tokens.specs.Found.{found_at}
use Rattle.ink_tokens.specs.Scan.{Scan, behind_gap, behind_token, token_at}
use Rattle.ink_tokens.specs.Lexes.{Gives, Goes, Ends, end_outcome, step_by, step_at, Lexes, begins, goes, AreTokens}
use Rattle.ink_grammar.specs.declared.token.Terminal.{Terminal}
use Rattle.ink_shapes.specs.Terminals.{terminal_of, shape_by}
use Rattle.ink_print.specs.Layout.{token_text}
use Rattle.ink_law_categories.specs.Nested as nested
use Rattle.ink_law_nesting.specs.Opened.{IsOpen, outside, in_text, in_value, in_braces, in_inner_braces, NoPartBehind}
use Rattle.ink_law_nesting.proofs.Onward.{IsRead, onward, gap-stops, found-within}

-- tokens behind tokens
pub nested-then : {source : List ℕ} {a b c : List nested.Level} {ts us : List Terminal} → nested.Nested source a ts b → nested.Nested source b us c → nested.Nested source a (ts ++ us) c
nested-then nested.none more = more
nested-then (nested.flat code is worded rest) more = nested.flat code is worded (nested-then rest more)
nested-then (nested.left_brace is rest) more = nested.left_brace is (nested-then rest more)
nested-then (nested.right_brace is rest) more = nested.right_brace is (nested-then rest more)
nested-then (nested.opens_in_value is rest) more = nested.opens_in_value is (nested-then rest more)
nested-then (nested.opens_in_braces is rest) more = nested.opens_in_braces is (nested-then rest more)
nested-then (nested.closes_braces is rest) more = nested.closes_braces is (nested-then rest more)
nested-then (nested.opens_text code is written rest) more = nested.opens_text code is written (nested-then rest more)
nested-then (nested.closes_text is rest) more = nested.closes_text is (nested-then rest more)
nested-then (nested.part is written rest) more = nested.part is written (nested-then rest more)
nested-then (nested.opens_value is rest) more = nested.opens_value is (nested-then rest more)
nested-then (nested.closes_value is rest) more = nested.closes_value is (nested-then rest more)

-- what stands of a source that was read up to a place
record Stands (source : List ℕ) (scan : Scan) : Type 0 where
  pub levels : List nested.Level
  pub nests : nested.Nested source (nested.Outside ∷ []) (map (terminal_of source) scan.tokens) levels
  pub opened : IsOpen source scan.nest.level scan.nest.outer levels
  pub stops : NoPartBehind source levels scan.at

-- the text of a token that lies inside
both-pass : (a b : Bool) → a ≡ true → b ≡ true → (a && b) ≡ true
both-pass true b first second = second
both-pass false b first second = first

passed : (b : Bool) (text : List ℕ) → b ≡ true → cond b text [] ≡ text
passed true text is = refl
passed false text is = cc

le-leb : (a b : ℕ) → a ≤ b → nat_le a b ≡ true
le-leb a b le = grind arith

text-inside : (source : List ℕ) (t : Terminal) → t.start ≤ t.end → t.end ≤ length source → token_text source t ≡ slice_range source t.start t.end
text-inside source t ordered inside =
    passed (nat_le t.start t.end && nat_le t.end (length source)) _ (both-pass _ _ (le-leb t.start t.end ordered) (le-leb t.end (length source) inside))

-- a token's bytes are those at the front
slice-front : (source : List ℕ) (at n : ℕ) → slice_range source at (at + n) ≡ take n (drop at source)
slice-front source at n = ap (λ k. take k (drop at source)) (omega arith)

-- the token that was read there
is-read : (source : List ℕ) (scan : Scan) (read : Read) → scan.at + read.length ≤ length source →
    is_wide_integer read.kind (slice_range source scan.at (scan.at + read.length)) ≡ false →
    IsRead source (drop scan.at source) read (terminal_of source (token_at scan read))
is-read source scan read inside narrow =
    let front = slice-front source scan.at read.length in
    record {
      text = text-inside source (terminal_of source (token_at scan read)) (omega arith) inside ∙ front;
      shape = ap (shape_by read.kind) front;
      narrow = ap (is_wide_integer read.kind) (sym front) ∙ narrow;
    }

-- one more token
stands-token : (source : List ℕ) (scan : Scan) (read : Read) → Stands source scan → scan.at < length source →
    found_at scan.nest.level scan.before (drop scan.at source) ≡ found.Token read →
    is_wide_integer read.kind (slice_range source scan.at (scan.at + read.length)) ≡ false → Stands source (behind_token source scan read)
stands-token source scan read stands inside is narrow =
    let some : 0 < length (drop scan.at source) = omega (arith, length-drop scan.at source) in
    let within : scan.at + read.length ≤ length source =
    omega (arith, length-drop scan.at source, found-within scan.nest.level scan.before (drop scan.at source) read some is) in
    let on = onward source (terminal_of source (token_at scan read)) scan.nest.level scan.nest.outer stands.levels scan.nest.opened scan.at scan.before read
    stands.opened stands.stops some is (is-read source scan read within narrow) in
    record {
      levels = on.behind;
      nests = subst (λ ts. nested.Nested source (nested.Outside ∷ []) ts on.behind)
          (sym (map-append (terminal_of source) scan.tokens (token_at scan read ∷ []))) (nested-then stands.nests on.nests);
      opened = on.opened;
      stops = on.stops;
    }

-- a gap
stands-gap : (source : List ℕ) (scan : Scan) (n : ℕ) (line : Bool) → Stands source scan →
    found_at scan.nest.level scan.before (drop scan.at source) ≡ found.Gap n line → Stands source (behind_gap scan n line)
stands-gap source scan n line stands is = record {
  levels = stands.levels;
  nests = stands.nests;
  opened = stands.opened;
  stops = gap-stops source scan.nest.level scan.nest.outer stands.levels scan.at (scan.at + n) scan.before n line stands.opened stands.stops is;
}

-- where no integer is too wide behind a token, none was before it, and it is none
narrow-before : (wide : Option ℕ) (at : ℕ) (kind : TokenKind) (text : List ℕ) → wide_behind wide at kind text ≡ None → wide ≡ None
unfolding wide_behind
narrow-before None at kind text none = refl
narrow-before (Some first) at kind text none = none

chosen-none : (b : Bool) (at : ℕ) → cond b (Some at) None ≡ None → b ≡ false
chosen-none true at none = cc
chosen-none false at none = refl

narrow-here : (wide : Option ℕ) (at : ℕ) (kind : TokenKind) (text : List ℕ) → wide_behind wide at kind text ≡ None → is_wide_integer kind text ≡ false
unfolding wide_behind
narrow-here None at kind text none = chosen-none (is_wide_integer kind text) at none
narrow-here (Some first) at kind text none = cc

-- what a step goes to
step-stands : (source : List ℕ) (scan next : Scan) (what : Found) → (scan.wide ≡ None → Stands source scan) → scan.at < length source →
    found_at scan.nest.level scan.before (drop scan.at source) ≡ what → step_by source scan what ≡ Goes next → next.wide ≡ None → Stands source next
unfolding step_by
step-stands source scan next (found.Gap n line) stands inside is step none =
    let same : behind_gap scan n line ≡ next = cc in
    subst (Stands source) same
    (stands-gap source scan n line (stands (subst (λ s. s.wide ≡ None) (sym same) none)) is)
step-stands source scan next (found.Token read) stands inside is step none =
    let same : behind_token source scan read ≡ next = cc in
    let wide : (behind_token source scan read).wide ≡ None = subst (λ s. s.wide ≡ None) (sym same) none in
    subst (Stands source) same
    (stands-token source scan read (stands (narrow-before scan.wide scan.at read.kind _ wide)) inside is (narrow-here scan.wide scan.at read.kind _ wide))
step-stands source scan next found.Nothing stands inside is step none = cc

-- within the source
chosen-step : (source : List ℕ) (scan next : Scan) (b : Bool) → nat_lt scan.at (length source) ≡ b → (scan.wide ≡ None → Stands source scan) →
    cond b (step_by source scan (found_at scan.nest.level scan.before (drop scan.at source))) (Ends (end_outcome (end_fault scan.nest.level scan.wide scan.nest.opened) scan.tokens)) ≡ Goes next →
    next.wide ≡ None → Stands source next
chosen-step source scan next true inside stands step none =
    step-stands source scan next (found_at scan.nest.level scan.before (drop scan.at source)) stands (grind (arith, inside)) refl step none
chosen-step source scan next false past stands step none = cc

-- all that is read stands so
scanned-stands : {source : List ℕ} {scan : Scan} → Lexes source scan → scan.wide ≡ None → Stands source scan
unfolding step_at
scanned-stands begins none = record { levels = nested.Outside ∷ []; nests = nested.none; opened = outside; stops = tt }
scanned-stands {source} (goes {scan} {next} before step) none =
    chosen-step source scan next (nat_lt scan.at (length source)) refl (λ narrow. scanned-stands before narrow) step none

-- where nothing is wrong at the end, nothing is open there
ends-outside : (l : Level) (wide : Option ℕ) (opened : ℕ) → end_fault l wide opened ≡ None → (l ≡ level.Outside) × (wide ≡ None)
unfolding end_fault
ends-outside level.Outside None opened none = (refl, refl)
ends-outside level.Outside (Some first) opened none = cc
ends-outside (level.Text q) wide opened none = cc
ends-outside level.Embedded wide opened none = cc
ends-outside level.Braces wide opened none = cc

-- outside of texts, nothing is open
outside-levels : (source : List ℕ) (l : Level) (ls : List Level) (ms : List nested.Level) → IsOpen source l ls ms → l ≡ level.Outside → ms ≡ nested.Outside ∷ []
outside-levels source _ _ _ outside is = refl
outside-levels source _ _ _ (in_text same code inner) is = cc
outside-levels source _ _ _ (in_value inner) is = cc
outside-levels source _ _ _ (in_braces inner) is = cc
outside-levels source _ _ _ (in_inner_braces inner) is = cc

-- what the end gives
given : (fault : Option Fault) (tokens other : List scanned.Token) → Ends (end_outcome fault tokens) ≡ Ends (Gives other) → (fault ≡ None) × (tokens ≡ other)
unfolding end_outcome
given None tokens other same = (refl, cc)
given (Some fault) tokens other same = cc

-- nothing within the source gives tokens
no-end : (source : List ℕ) (scan : Scan) (what : Found) (tokens : List scanned.Token) → step_by source scan what ≡ Ends (Gives tokens) → ⊥
unfolding step_by
no-end source scan (found.Gap n line) tokens same = cc
no-end source scan (found.Token read) tokens same = cc
no-end source scan found.Nothing tokens same = cc

-- what was read up to the end
chosen-end : (source : List ℕ) (scan : Scan) (tokens : List scanned.Token) (b : Bool) →
    cond b (step_by source scan (found_at scan.nest.level scan.before (drop scan.at source))) (Ends (end_outcome (end_fault scan.nest.level scan.wide scan.nest.opened) scan.tokens)) ≡ Ends (Gives tokens) →
    (end_fault scan.nest.level scan.wide scan.nest.opened ≡ None) × (scan.tokens ≡ tokens)
chosen-end source scan tokens true same = absurd (no-end source scan (found_at scan.nest.level scan.before (drop scan.at source)) tokens same)
chosen-end source scan tokens false same = given (end_fault scan.nest.level scan.wide scan.nest.opened) scan.tokens tokens same

-- the tokens of a source nest
pub tokens-nest : (source : List ℕ) (tokens : List scanned.Token) → AreTokens source tokens →
    nested.Nested source (nested.Outside ∷ []) (map (terminal_of source) tokens) (nested.Outside ∷ [])
unfolding step_at
tokens-nest source tokens are =
    let scan = are.scan in
    let end = chosen-end source scan tokens (nat_lt scan.at (length source)) are.ends in
    let out = ends-outside scan.nest.level scan.wide scan.nest.opened end.0 in
    let stands = scanned-stands are.lexes out.1 in
    subst (λ ts. nested.Nested source (nested.Outside ∷ []) (map (terminal_of source) ts) (nested.Outside ∷ [])) end.1
    (subst (λ ms. nested.Nested source (nested.Outside ∷ []) (map (terminal_of source) scan.tokens) ms)
    (outside-levels source scan.nest.level scan.nest.outer stands.levels stands.opened out.0) stands.nests)
