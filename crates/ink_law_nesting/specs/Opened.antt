-- What is open where a scanner stands, as the tokens before it tell.
use Rattle.std.specs.Prelude.{◌≡◌, ℕ, Bool, true, false, List, [], ◌∷◌, drop}
use Rattle.ink_tokens.specs.declared.reading.Level.{Level}
use Rattle.ink_tokens.specs.declared.reading.Level.TheVariants as level
use Rattle.ink_tokens.specs.Part.{part_length}
use Rattle.ink_grammar.specs.declared.token.Terminal.{Terminal}
use Rattle.ink_law_categories.specs.Written.{quote_of}
use Rattle.ink_law_categories.specs.Nested as nested

-- A scanner's level and those around it are what the tokens opened.
pub data IsOpen (source : List ℕ) : Level → List Level → List nested.Level → Type 0 where
  outside : IsOpen source level.Outside [] (nested.Outside ∷ [])
  in_text : {q : ℕ} {quote : Terminal} {ends : Bool} {l : Level} {ls : List Level} {m : nested.Level} {ms : List nested.Level} →
      quote_of source quote ≡ q → nested.IsCode m → IsOpen source l ls (m ∷ ms) →
      IsOpen source (level.Text q) (l ∷ ls) (nested.Inside quote ends ∷ m ∷ ms)
  in_value : {q : ℕ} {ls : List Level} {quote : Terminal} {ms : List nested.Level} →
      IsOpen source (level.Text q) ls (nested.Inside quote false ∷ ms) →
      IsOpen source level.Embedded (level.Text q ∷ ls) (nested.Embedded ∷ nested.Inside quote false ∷ ms)
  in_braces : {ls : List Level} {ms : List nested.Level} →
      IsOpen source level.Embedded ls (nested.Embedded ∷ ms) →
      IsOpen source level.Braces (level.Embedded ∷ ls) (nested.Braces ∷ nested.Embedded ∷ ms)
  in_inner_braces : {ls : List Level} {ms : List nested.Level} →
      IsOpen source level.Braces ls (nested.Braces ∷ ms) →
      IsOpen source level.Braces (level.Braces ∷ ls) (nested.Braces ∷ nested.Braces ∷ ms)

-- Behind a part of a text no part stands.
abbrev pub NoPartBehind : List ℕ → List nested.Level → ℕ → Type 0
NoPartBehind source [] at = Unit {0}
NoPartBehind source (nested.Outside ∷ ms) at = Unit {0}
NoPartBehind source (nested.Inside quote false ∷ ms) at = Unit {0}
NoPartBehind source (nested.Inside quote true ∷ ms) at = part_length (quote_of source quote) (drop at source) ≡ 0
NoPartBehind source (nested.Embedded ∷ ms) at = Unit {0}
NoPartBehind source (nested.Braces ∷ ms) at = Unit {0}
