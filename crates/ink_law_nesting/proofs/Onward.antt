-- What is open behind a token that was read.
use Rattle.std.proofs.Common.{◌≡◌, ℕ, ◌+◌, ◌<◌, ◌≤◌, ◌⊎◌, Bool, true, false, cond, ◌&&◌, ◌==◌, List, [], ◌∷◌, length, take, drop, None, Some, refl, arith, sym, ap, ◌∙◌, subst, inl, inr, eqb-true, length-take-le, ⊎_elim}
use Rattle.std.proofs.lemmas.List.{drop-drop}
use Rattle.std.specs.Prelude.{slice_index}
use Rattle.ink_base.specs.declared.token.TokenKind.TheVariants as kind
use Rattle.ink_tokens.specs.declared.reading.Level.{Level}
use Rattle.ink_tokens.specs.declared.reading.Level.TheVariants as level
use Rattle.ink_tokens.specs.declared.reading.Before.{Before}
use Rattle.ink_tokens.specs.declared.reading.Change.TheVariants.{Stay}
use Rattle.ink_tokens.specs.declared.reading.Read.{Read}
use Rattle.ink_tokens.specs.Bytes.{is_quote as is_quote'}
use Rattle.ink_tokens.specs.Fault.{is_wide_integer}
use Rattle.ink_tokens.specs.declared.reading.Found.TheVariants as found
use Rattle.ink_tokens.specs.Found.{found_at, match_at, brace_at, opening_quote, closing, opened_brace, closed_brace, part_of}
use Rattle.ink_tokens.specs.Nest.{Nest, changed, left}
use Rattle.ink_tokens.specs.Part.{part_length, begins_opening}
use Rattle.ink_tokens.specs.Spelling.{IsSpelled}
use Rattle.ink_tokens.proofs.MatchLemmas.{match_at-spelled}
use Rattle.ink_tokens.proofs.SpellingLemmas.{first_byte}
use Rattle.ink_grammar.specs.declared.token.Terminal.{Terminal}
use Rattle.ink_grammar.specs.declared.token.Mark.TheVariants as mark
use Rattle.ink_grammar.specs.declared.token.Shape.TheVariants as shape
use Rattle.ink_shapes.specs.Terminals.{shape_by, mark_shape}
use Rattle.ink_shapes.specs.Marks.{mark_of, is_written}
use Rattle.ink_print.specs.Layout.{token_text}
use Rattle.ink_law_categories.specs.Written.{IsWorded, IsQuote, IsPartOf, quote_of}
use Rattle.ink_law_categories.specs.Nested as nested
use Rattle.ink_law_nesting.specs.Opened.{IsOpen, outside, in_text, in_value, in_braces, in_inner_braces, NoPartBehind}
use Rattle.ink_tokens.proofs.LengthLemmas.{match-within}
use Rattle.ink_law_nesting.proofs.Spelled.{with_sign, Tells, spelled-tells}
use Rattle.ink_law_nesting.proofs.Spelled as tells
use Rattle.ink_law_nesting.proofs.Parts.{part-within, part-stops, part-alone}
use Rattle.ink_law_nesting.proofs.ReadCases.{CodeRead, quote, brace, longest, TextRead, closes, opens, part, code-read, text-read, text-no_gap}

-- a token that was read at the front of these bytes, of so many of them
pub record IsRead (source bytes : List ℕ) (read : Read) (t : Terminal) : Type 0 where
  pub text : token_text source t ≡ take read.length bytes
  pub shape : t.shape ≡ shape_by read.kind (take read.length bytes)
  pub narrow : is_wide_integer read.kind (take read.length bytes) ≡ false

-- what a token leads to
pub record Onward (source : List ℕ) (t : Terminal) (nest : Nest) (before : List nested.Level) (at : ℕ) : Type 0 where
  pub behind : List nested.Level
  pub nests : nested.Nested source before (t ∷ []) behind
  pub opened : IsOpen source nest.level nest.outer behind
  pub stops : NoPartBehind source behind at

-- in code, no part stands behind a part
code-stops : (source : List ℕ) (m : nested.Level) (ms : List nested.Level) (at : ℕ) → nested.IsCode m → NoPartBehind source (m ∷ ms) at
code-stops source nested.Outside ms at code = tt
code-stops source (nested.Inside q ends) ms at code = absurd code
code-stops source nested.Embedded ms at code = tt
code-stops source nested.Braces ms at code = tt

-- a match that was read takes a byte, and is spelled as its kind
match-spelled : (bytes : List ℕ) (flag : Bool) (read : Read) → read.kind ≡ (match_at flag bytes).kind → read.length ≡ (match_at flag bytes).length →
    0 < (match_at flag bytes).length → IsSpelled true (take read.length bytes) read.kind
match-spelled bytes flag read kind' length' some =
    with_sign flag (take read.length bytes) read.kind
    (subst (λ n. IsSpelled flag (take n bytes) read.kind) (sym length')
    (subst (IsSpelled flag (take (match_at flag bytes).length bytes)) (sym kind') (match_at-spelled flag bytes some)))

-- its token is written so
match-worded : (source bytes : List ℕ) (t : Terminal) (read : Read) → IsSpelled true (take read.length bytes) read.kind → IsRead source bytes read t → IsWorded source t
match-worded source bytes t read spelled is = record {
  kind = read.kind;
  shape = ap (shape_by read.kind) is.text ∙ sym is.shape;
  spelled = subst (λ text. IsSpelled true text read.kind) (sym is.text) spelled;
  narrow = ap (is_wide_integer read.kind) is.text ∙ is.narrow;
}

-- and its shape tells its first byte, if it is a brace
match-tells : (source bytes : List ℕ) (t : Terminal) (read : Read) → 0 < read.length → IsSpelled true (take read.length bytes) read.kind → IsRead source bytes read t →
    Tells t.shape (slice_index bytes 0)
match-tells source bytes t read some spelled is =
    subst (Tells t.shape) (first_byte read.length bytes some)
    (subst (λ x. Tells x (slice_index (take read.length bytes) 0)) (sym is.shape) (spelled-tells (take read.length bytes) read.kind spelled))

-- the first byte alone
one-byte : (bytes : List ℕ) → 0 < length bytes → take 1 bytes ≡ slice_index bytes 0 ∷ []
one-byte [] some = absurd (omega arith)
one-byte (byte ∷ bytes) some = refl

-- a quote that opens a text
quote-onward : (source bytes : List ℕ) (l : Level) (ls : List Level) (m : nested.Level) (ms : List nested.Level) (t : Terminal) (opened at later : ℕ) →
    nested.IsCode m → IsOpen source l ls (m ∷ ms) → 0 < length bytes → is_quote' (slice_index bytes 0) ≡ true → IsRead source bytes (opening_quote (slice_index bytes 0)) t →
    Onward source t (changed (record { level = l; outer = ls; opened = opened }) (opening_quote (slice_index bytes 0)).change at) (m ∷ ms) later
unfolding changed shape_by
quote-onward source bytes l ls m ms t opened at later code opens' some is_quote is =
    let text : token_text source t ≡ slice_index bytes 0 ∷ [] = is.text ∙ one-byte bytes some in
    let first : quote_of source t ≡ slice_index bytes 0 = ap (λ bytes'. slice_index bytes' 0) text in
    let written : IsQuote source t = record {
      quote = ap is_quote' first ∙ is_quote;
      alone = text ∙ ap (λ byte. byte ∷ []) (sym first);
    } in
    record {
      behind = nested.Inside t false ∷ m ∷ ms;
      nests = nested.opens_text code is.shape written nested.none;
      opened = in_text first code opens';
      stops = tt;
    }

-- a token that opens and closes nothing
flat-onward : (source : List ℕ) (l : Level) (ls : List Level) (m : nested.Level) (ms : List nested.Level) (t : Terminal) (opened later : ℕ) →
    nested.IsCode m → IsOpen source l ls (m ∷ ms) → nested.is_flat t.shape ≡ true → IsWorded source t →
    Onward source t (record { level = l; outer = ls; opened = opened }) (m ∷ ms) later
flat-onward source l ls m ms t opened later code opens' flat worded = record {
  behind = m ∷ ms;
  nests = nested.flat code flat worded nested.none;
  opened = opens';
  stops = code-stops source m ms later code;
}

-- a match as it is read
abbrev match-of : Bool → Before → List ℕ → Read
match-of flag before bytes = record { kind = (match_at flag bytes).kind; length = (match_at flag bytes).length; change = Stay; before = before }

-- outside of texts
outside-onward : (source bytes : List ℕ) (t : Terminal) (read : Read) (opened at later : ℕ) → 0 < length bytes → CodeRead level.Outside bytes read → IsRead source bytes read t →
    Onward source t (changed (record { level = level.Outside; outer = []; opened = opened }) read.change at) (nested.Outside ∷ []) later
unfolding changed brace_at
outside-onward source bytes t _ opened at later some (quote is_quote) is =
    quote-onward source bytes level.Outside [] nested.Outside [] t opened at later tt outside some is_quote is
outside-onward source bytes t read opened at later some (brace paired) is = cc
outside-onward source bytes t _ opened at later some (longest {before} flag none takes) is =
    let spelled = match-spelled bytes flag (match-of flag before bytes) refl refl takes in
    elim (match-tells source bytes t (match-of flag before bytes) takes spelled is) [
      | tells.flat flat ↦ flat-onward source level.Outside [] nested.Outside [] t opened later tt outside flat (match-worded source bytes t (match-of flag before bytes) spelled is)
      | tells.left left first ↦ record { behind = nested.Outside ∷ []; nests = nested.left_brace left nested.none; opened = outside; stops = tt }
      | tells.right right first ↦ record { behind = nested.Outside ∷ []; nests = nested.right_brace right nested.none; opened = outside; stops = tt }
    ]

-- the shape of a brace
left-shape : shape_by kind.Symbol (123 ∷ []) ≡ shape.Mark mark.LeftBrace
unfolding shape_by mark_shape mark_of is_written
left-shape = refl

right-shape : shape_by kind.Symbol (125 ∷ []) ≡ shape.Mark mark.RightBrace
unfolding shape_by mark_shape mark_of is_written
right-shape = refl

-- of a brace the text is one byte
brace-text : (bytes : List ℕ) (byte : ℕ) → 0 < length bytes → (slice_index bytes 0 == byte) ≡ true → take 1 bytes ≡ byte ∷ []
brace-text bytes byte some same = one-byte bytes some ∙ ap (λ b. b ∷ []) (eqb-true (slice_index bytes 0) byte same)

-- where braces are paired, none is a match
no-brace-left : (first : ℕ) → brace_at level.Embedded first ≡ None → first ≡ 123 → ⊥
unfolding brace_at
no-brace-left first none is = let never : brace_at level.Embedded 123 ≡ None = subst (λ b. brace_at level.Embedded b ≡ None) is none in cc

no-brace-right : (first : ℕ) → brace_at level.Embedded first ≡ None → first ≡ 125 → ⊥
unfolding brace_at
no-brace-right first none is = let never : brace_at level.Embedded 125 ≡ None = subst (λ b. brace_at level.Embedded b ≡ None) is none in cc

no-inner-left : (first : ℕ) → brace_at level.Braces first ≡ None → first ≡ 123 → ⊥
unfolding brace_at
no-inner-left first none is = let never : brace_at level.Braces 123 ≡ None = subst (λ b. brace_at level.Braces b ≡ None) is none in cc

no-inner-right : (first : ℕ) → brace_at level.Braces first ≡ None → first ≡ 125 → ⊥
unfolding brace_at
no-inner-right first none is = let never : brace_at level.Braces 125 ≡ None = subst (λ b. brace_at level.Braces b ≡ None) is none in cc

-- a paired brace is one of two
paired-cases : (first : ℕ) (open' close read : Read) (a b : Bool) → (first == 123) ≡ a → (first == 125) ≡ b →
    cond a (Some open') (cond b (Some close) None) ≡ Some read →
    (((first == 123) ≡ true) × (open' ≡ read)) ⊎ (((first == 125) ≡ true) × (close ≡ read))
paired-cases first open' close read true b is_left is_right is = inl (is_left, cc)
paired-cases first open' close read false true is_left is_right is = inr (is_right, cc)
paired-cases first open' close read false false is_left is_right is = cc

-- directly in a `${`
value-onward : (source bytes : List ℕ) (t : Terminal) (read : Read) (q : ℕ) (ls : List Level) (open-quote : Terminal) (ms : List nested.Level) (opened at later : ℕ) →
    IsOpen source (level.Text q) ls (nested.Inside open-quote false ∷ ms) → 0 < length bytes → CodeRead level.Embedded bytes read → IsRead source bytes read t →
    Onward source t (changed (record { level = level.Embedded; outer = level.Text q ∷ ls; opened = opened }) read.change at) (nested.Embedded ∷ nested.Inside open-quote false ∷ ms) later
unfolding changed brace_at shape_by
value-onward source bytes t _ q ls open-quote ms opened at later inner some (quote is_quote) is =
    quote-onward source bytes level.Embedded (level.Text q ∷ ls) nested.Embedded (nested.Inside open-quote false ∷ ms) t opened at later tt (in_value inner) some is_quote is
value-onward source bytes t read q ls open-quote ms opened at later inner some (brace paired) is =
    ⊎_elim
    (λ left. subst (λ r. IsRead source bytes r t → Onward source t (changed (record { level = level.Embedded; outer = level.Text q ∷ ls; opened = opened }) r.change at) (nested.Embedded ∷ nested.Inside open-quote false ∷ ms) later) left.1
    (λ is'. record {
      behind = nested.Braces ∷ nested.Embedded ∷ nested.Inside open-quote false ∷ ms;
      nests = nested.opens_in_value (is'.shape ∙ ap (shape_by kind.Symbol) (brace-text bytes 123 some left.0) ∙ left-shape) nested.none;
      opened = in_braces (in_value inner);
      stops = tt;
    }) is)
    (λ right. subst (λ r. IsRead source bytes r t → Onward source t (changed (record { level = level.Embedded; outer = level.Text q ∷ ls; opened = opened }) r.change at) (nested.Embedded ∷ nested.Inside open-quote false ∷ ms) later) right.1
    (λ is'. record {
      behind = nested.Inside open-quote false ∷ ms;
      nests = nested.closes_value is'.shape nested.none;
      opened = inner;
      stops = tt;
    }) is)
    (paired-cases (slice_index bytes 0) opened_brace closing read (slice_index bytes 0 == 123) (slice_index bytes 0 == 125) refl refl paired)
value-onward source bytes t _ q ls open-quote ms opened at later inner some (longest {before} flag none takes) is =
    let spelled = match-spelled bytes flag (match-of flag before bytes) refl refl takes in
    elim (match-tells source bytes t (match-of flag before bytes) takes spelled is) [
      | tells.flat flat ↦ flat-onward source level.Embedded (level.Text q ∷ ls) nested.Embedded (nested.Inside open-quote false ∷ ms) t opened later tt (in_value inner) flat (match-worded source bytes t (match-of flag before bytes) spelled is)
      | tells.left left first ↦ absurd (no-brace-left (slice_index bytes 0) none first)
      | tells.right right first ↦ absurd (no-brace-right (slice_index bytes 0) none first)
    ]

-- in braces within a `${`
braces-onward : (source bytes : List ℕ) (t : Terminal) (read : Read) (l : Level) (ls : List Level) (m : nested.Level) (ms : List nested.Level) (opened at later : ℕ) →
    nested.IsCode m → IsOpen source l ls (m ∷ ms) → IsOpen source level.Braces (l ∷ ls) (nested.Braces ∷ m ∷ ms) → 0 < length bytes → CodeRead level.Braces bytes read → IsRead source bytes read t →
    Onward source t (changed (record { level = level.Braces; outer = l ∷ ls; opened = opened }) read.change at) (nested.Braces ∷ m ∷ ms) later
unfolding changed brace_at shape_by
braces-onward source bytes t _ l ls m ms opened at later code inner whole some (quote is_quote) is =
    quote-onward source bytes level.Braces (l ∷ ls) nested.Braces (m ∷ ms) t opened at later tt whole some is_quote is
braces-onward source bytes t read l ls m ms opened at later code inner whole some (brace paired) is =
    ⊎_elim
    (λ left. subst (λ r. IsRead source bytes r t → Onward source t (changed (record { level = level.Braces; outer = l ∷ ls; opened = opened }) r.change at) (nested.Braces ∷ m ∷ ms) later) left.1
    (λ is'. record {
      behind = nested.Braces ∷ nested.Braces ∷ m ∷ ms;
      nests = nested.opens_in_braces (is'.shape ∙ ap (shape_by kind.Symbol) (brace-text bytes 123 some left.0) ∙ left-shape) nested.none;
      opened = in_inner_braces whole;
      stops = tt;
    }) is)
    (λ right. subst (λ r. IsRead source bytes r t → Onward source t (changed (record { level = level.Braces; outer = l ∷ ls; opened = opened }) r.change at) (nested.Braces ∷ m ∷ ms) later) right.1
    (λ is'. record {
      behind = m ∷ ms;
      nests = nested.closes_braces (is'.shape ∙ ap (shape_by kind.Symbol) (brace-text bytes 125 some right.0) ∙ right-shape) nested.none;
      opened = inner;
      stops = code-stops source m ms later code;
    }) is)
    (paired-cases (slice_index bytes 0) opened_brace closed_brace read (slice_index bytes 0 == 123) (slice_index bytes 0 == 125) refl refl paired)
braces-onward source bytes t _ l ls m ms opened at later code inner whole some (longest {before} flag none takes) is =
    let spelled = match-spelled bytes flag (match-of flag before bytes) refl refl takes in
    elim (match-tells source bytes t (match-of flag before bytes) takes spelled is) [
      | tells.flat flat ↦ flat-onward source level.Braces (l ∷ ls) nested.Braces (m ∷ ms) t opened later tt whole flat (match-worded source bytes t (match-of flag before bytes) spelled is)
      | tells.left left first ↦ absurd (no-inner-left (slice_index bytes 0) none first)
      | tells.right right first ↦ absurd (no-inner-right (slice_index bytes 0) none first)
    ]

-- a part behind which none stands
part-onward : (source : List ℕ) (t open-quote : Terminal) (q at : ℕ) (l : Level) (ls : List Level) (m : nested.Level) (ms : List nested.Level) (opened : ℕ) (ends : Bool) →
    quote_of source open-quote ≡ q → nested.IsCode m → IsOpen source l ls (m ∷ ms) → NoPartBehind source (nested.Inside open-quote ends ∷ m ∷ ms) at →
    0 < part_length q (drop at source) → IsRead source (drop at source) (part_of (part_length q (drop at source))) t →
    Onward source t (record { level = level.Text q; outer = l ∷ ls; opened = opened }) (nested.Inside open-quote ends ∷ m ∷ ms) (at + part_length q (drop at source))
unfolding shape_by
part-onward source t open-quote q at l ls m ms opened true same code inner none some is =
    absurd (let zero' : part_length q (drop at source) ≡ 0 = ap (λ b. part_length b (drop at source)) (sym same) ∙ none in omega (arith, zero'))
part-onward source t open-quote q at l ls m ms opened false same code inner none some is =
    let bytes = drop at source in
    let n = part_length q bytes in
    let size : length (token_text source t) ≡ n = ap length is.text ∙ length-take-le n bytes (part-within q bytes) in
    let whole : part_length (quote_of source open-quote) (token_text source t) ≡ n =
    ap (λ b. part_length b (token_text source t)) same ∙ ap (part_length q) is.text ∙ part-alone q bytes in
    let written : IsPartOf source open-quote t = record { some = omega (arith, size); whole = whole ∙ sym size } in
    record {
      behind = nested.Inside open-quote true ∷ m ∷ ms;
      nests = nested.part is.shape written nested.none;
      opened = in_text same code inner;
      stops = ap (λ b. part_length b (drop (at + n) source)) same ∙ ap (part_length q) (sym (drop-drop n at source)) ∙ part-stops q bytes;
    }

-- in a text
text-onward : (source : List ℕ) (t open-quote : Terminal) (q at : ℕ) (read : Read) (l : Level) (ls : List Level) (m : nested.Level) (ms : List nested.Level) (opened : ℕ) (ends : Bool) →
    quote_of source open-quote ≡ q → nested.IsCode m → IsOpen source l ls (m ∷ ms) → NoPartBehind source (nested.Inside open-quote ends ∷ m ∷ ms) at →
    TextRead q (drop at source) read → IsRead source (drop at source) read t →
    Onward source t (changed (record { level = level.Text q; outer = l ∷ ls; opened = opened }) read.change at) (nested.Inside open-quote ends ∷ m ∷ ms) (at + read.length)
unfolding changed shape_by
text-onward source t open-quote q at _ l ls m ms opened ends same code inner none (closes is_quote) is = record {
  behind = m ∷ ms;
  nests = nested.closes_text is.shape nested.none;
  opened = inner;
  stops = code-stops source m ms (at + 1) code;
}
text-onward source t open-quote q at _ l ls m ms opened ends same code inner none (opens begins) is = record {
  behind = nested.Embedded ∷ nested.Inside open-quote false ∷ m ∷ ms;
  nests = nested.opens_value is.shape nested.none;
  opened = in_value (in_text same code inner);
  stops = tt;
}
text-onward source t open-quote q at _ l ls m ms opened ends same code inner none (part some) is =
    part-onward source t open-quote q at l ls m ms opened ends same code inner none some is

-- whatever is open, a token leads on
pub onward : (source : List ℕ) (t : Terminal) (l : Level) (ls : List Level) (ms : List nested.Level) (opened at : ℕ) (before : Before) (read : Read) →
    IsOpen source l ls ms → NoPartBehind source ms at → 0 < length (drop at source) →
    found_at l before (drop at source) ≡ found.Token read → IsRead source (drop at source) read t →
    Onward source t (changed (record { level = l; outer = ls; opened = opened }) read.change at) ms (at + read.length)
unfolding found_at
onward source t _ _ _ opened at before read outside none some stands is =
    outside-onward source (drop at source) t read opened at (at + read.length) some (code-read level.Outside before (drop at source) read stands) is
onward source t _ _ _ opened at before read (in_text {q} {quote = open-quote} {ends} {l} {ls} {m} {ms} same code inner) none some stands is =
    text-onward source t open-quote q at read l ls m ms opened ends same code inner none (text-read q (drop at source) read stands) is
onward source t _ _ _ opened at before read (in_value {q} {ls} {quote = open-quote} {ms} inner) none some stands is =
    value-onward source (drop at source) t read q ls open-quote ms opened at (at + read.length) inner some (code-read level.Embedded before (drop at source) read stands) is
onward source t _ _ _ opened at before read (in_braces {ls} {ms} inner) none some stands is =
    braces-onward source (drop at source) t read level.Embedded ls nested.Embedded ms opened at (at + read.length) tt inner (in_braces inner) some
    (code-read level.Braces before (drop at source) read stands) is
onward source t _ _ _ opened at before read (in_inner_braces {ls} {ms} inner) none some stands is =
    braces-onward source (drop at source) t read level.Braces ls nested.Braces ms opened at (at + read.length) tt inner (in_inner_braces inner) some
    (code-read level.Braces before (drop at source) read stands) is

-- a gap leaves what is open
pub gap-stops : (source : List ℕ) (l : Level) (ls : List Level) (ms : List nested.Level) (at later : ℕ) (before : Before) (n : ℕ) (line : Bool) →
    IsOpen source l ls ms → NoPartBehind source ms at → found_at l before (drop at source) ≡ found.Gap n line → NoPartBehind source ms later
unfolding found_at
gap-stops source _ _ _ at later before n line outside none stands = tt
gap-stops source _ _ _ at later before n line (in_text {q} same code inner) none stands = absurd (text-no_gap q (drop at source) n line stands)
gap-stops source _ _ _ at later before n line (in_value inner) none stands = tt
gap-stops source _ _ _ at later before n line (in_braces inner) none stands = tt
gap-stops source _ _ _ at later before n line (in_inner_braces inner) none stands = tt

-- a token takes no more than there is
code-within : (l : Level) (bytes : List ℕ) (read : Read) → 0 < length bytes → CodeRead l bytes read → read.length ≤ length bytes
unfolding brace_at
code-within l bytes _ some (quote is) = some
code-within level.Outside bytes read some (brace paired) = cc
code-within (level.Text q) bytes read some (brace paired) = cc
code-within level.Embedded bytes read some (brace paired) =
    ⊎_elim (λ left. subst (λ r. r.length ≤ length bytes) left.1 some) (λ right. subst (λ r. r.length ≤ length bytes) right.1 some)
    (paired-cases (slice_index bytes 0) opened_brace closing read (slice_index bytes 0 == 123) (slice_index bytes 0 == 125) refl refl paired)
code-within level.Braces bytes read some (brace paired) =
    ⊎_elim (λ left. subst (λ r. r.length ≤ length bytes) left.1 some) (λ right. subst (λ r. r.length ≤ length bytes) right.1 some)
    (paired-cases (slice_index bytes 0) opened_brace closed_brace read (slice_index bytes 0 == 123) (slice_index bytes 0 == 125) refl refl paired)
code-within l bytes _ some (longest flag none takes) = match-within flag bytes

-- no second byte is no {
second-there : (first : ℕ) (b : Bool) → (b && (0 == 123)) ≡ true → 2 ≤ length (first ∷ [])
second-there first true is = let never : false ≡ true = is in cc
second-there first false is = cc

-- a `${` takes two bytes
opening-within : (bytes : List ℕ) → begins_opening bytes ≡ true → 2 ≤ length bytes
opening-within [] begins = let never : false ≡ true = begins in cc
opening-within (first ∷ []) begins = second-there first (first == 36) begins
opening-within (first ∷ second ∷ bytes) begins = omega arith

text-within : (q : ℕ) (bytes : List ℕ) (read : Read) → 0 < length bytes → TextRead q bytes read → read.length ≤ length bytes
text-within q bytes _ some (closes is) = some
text-within q bytes _ some (opens begins) = opening-within bytes begins
text-within q bytes _ some (part takes) = part-within q bytes

pub found-within : (l : Level) (before : Before) (bytes : List ℕ) (read : Read) → 0 < length bytes → found_at l before bytes ≡ found.Token read → read.length ≤ length bytes
unfolding found_at
found-within level.Outside before bytes read some stands = code-within level.Outside bytes read some (code-read level.Outside before bytes read stands)
found-within (level.Text q) before bytes read some stands = text-within q bytes read some (text-read q bytes read stands)
found-within level.Embedded before bytes read some stands = code-within level.Embedded bytes read some (code-read level.Embedded before bytes read stands)
found-within level.Braces before bytes read some stands = code-within level.Braces bytes read some (code-read level.Braces before bytes read stands)
