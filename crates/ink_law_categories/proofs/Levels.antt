-- What a token opens and closes, by its shape.
use Rattle.std.proofs.Common.{◌≡◌, ℕ, ◌==◌, Bool, true, false, List, ◌∷◌, refl, sym, ap, ◌∙◌}
use Rattle.ink_grammar.specs.declared.token.Mark.TheVariants as mark
use Rattle.ink_grammar.specs.declared.token.Shape.{Shape}
use Rattle.ink_grammar.specs.declared.token.Shape.TheVariants as shape
use Rattle.ink_grammar.specs.declared.token.Terminal.{Terminal}
use Rattle.ink_grammar.specs.Shapes.{number}
use Rattle.ink_grammar.proofs.Bools.{equal_self}
use Rattle.ink_law_categories.specs.Written.{IsWorded, IsQuote, IsPartOf}
use Rattle.ink_law_categories.specs.Nested.{Level, Outside, Inside, Embedded, Braces, IsCode, is_flat, Nested, flat, left_brace, right_brace, opens_in_value, opens_in_braces, closes_braces, opens_text, closes_text, part, opens_value, closes_value}

-- a shape that opens or closes something isn't flat
not_flat : {C : Type 0} {x y : Shape} → is_flat x ≡ true → x ≡ y → is_flat y ≡ false → C
not_flat h e f = let bad : true ≡ false = sym h ∙ ap is_flat e ∙ f in cc

-- one shape has one number
clash : {C : Type 0} {x y z : Shape} → x ≡ y → x ≡ z → number y == number z ≡ false → C
clash {y = y} e f g = let bad : true ≡ false = sym (equal_self (number y)) ∙ ap (λ w. number y == number w) (sym e ∙ f) ∙ g in cc

-- what is open within a brace: its level, and those round it
abbrev pub inner_level : Level → Level
inner_level Outside = Outside
inner_level _ = Braces

abbrev pub inner_rest : Level → List Level → List Level
inner_rest Outside ls = ls
inner_rest l ls = l ∷ ls

pub inner_code : (l : Level) → IsCode l → IsCode (inner_level l)
inner_code Outside c = tt
inner_code (Inside quote ends) c = tt
inner_code Embedded c = tt
inner_code Braces c = tt

module _ {source : List ℕ} where
  pub flat_in : {l : Level} {ls last : List Level} {t : Terminal} {ts : List Terminal} → is_flat t.shape ≡ true → Nested source (l ∷ ls) (t ∷ ts) last → IsWorded source t × Nested source (l ∷ ls) ts last
  flat_in h (flat c f w n) = (w, n)
  flat_in h (left_brace e n) = not_flat h e refl
  flat_in h (right_brace e n) = not_flat h e refl
  flat_in h (opens_in_value e n) = not_flat h e refl
  flat_in h (opens_in_braces e n) = not_flat h e refl
  flat_in h (closes_braces e n) = not_flat h e refl
  flat_in h (opens_text c e q n) = not_flat h e refl
  flat_in h (closes_text e n) = not_flat h e refl
  flat_in h (part e p n) = not_flat h e refl
  flat_in h (opens_value e n) = not_flat h e refl
  flat_in h (closes_value e n) = not_flat h e refl

  pub quote_in : {l : Level} {ls last : List Level} {t : Terminal} {ts : List Terminal} → IsCode l → t.shape ≡ shape.Quote → Nested source (l ∷ ls) (t ∷ ts) last → IsQuote source t × Nested source (Inside t false ∷ l ∷ ls) ts last
  quote_in c h (flat d f w n) = not_flat f h refl
  quote_in c h (left_brace e n) = clash h e refl
  quote_in c h (right_brace e n) = clash h e refl
  quote_in c h (opens_in_value e n) = clash h e refl
  quote_in c h (opens_in_braces e n) = clash h e refl
  quote_in c h (closes_braces e n) = clash h e refl
  quote_in c h (opens_text d e q n) = (q, n)
  quote_in c h (closes_text e n) = absurd c
  quote_in c h (part e p n) = absurd c
  quote_in c h (opens_value e n) = absurd c
  quote_in c h (closes_value e n) = clash h e refl

  pub quote_out : {quote : Terminal} {ends : Bool} {ls last : List Level} {t : Terminal} {ts : List Terminal} → t.shape ≡ shape.Quote → Nested source (Inside quote ends ∷ ls) (t ∷ ts) last → Nested source ls ts last
  quote_out h (flat c f w n) = absurd c
  quote_out h (opens_text c e q n) = absurd c
  quote_out h (closes_text e n) = n
  quote_out h (part e p n) = clash h e refl
  quote_out h (opens_value e n) = clash h e refl

  pub part_in : {quote : Terminal} {ends : Bool} {ls last : List Level} {t : Terminal} {ts : List Terminal} → t.shape ≡ shape.TextPart → Nested source (Inside quote ends ∷ ls) (t ∷ ts) last → (ends ≡ false) × IsPartOf source quote t × Nested source (Inside quote true ∷ ls) ts last
  part_in h (flat c f w n) = absurd c
  part_in h (opens_text c e q n) = absurd c
  part_in h (closes_text e n) = clash h e refl
  part_in h (part e p n) = (refl, p, n)
  part_in h (opens_value e n) = clash h e refl

  pub value_in : {quote : Terminal} {ends : Bool} {ls last : List Level} {t : Terminal} {ts : List Terminal} → t.shape ≡ shape.Opening → Nested source (Inside quote ends ∷ ls) (t ∷ ts) last → Nested source (Embedded ∷ Inside quote false ∷ ls) ts last
  value_in h (flat c f w n) = absurd c
  value_in h (opens_text c e q n) = absurd c
  value_in h (closes_text e n) = clash h e refl
  value_in h (part e p n) = clash h e refl
  value_in h (opens_value e n) = n

  pub value_out : {ls last : List Level} {t : Terminal} {ts : List Terminal} → t.shape ≡ shape.Closing → Nested source (Embedded ∷ ls) (t ∷ ts) last → Nested source ls ts last
  value_out h (flat c f w n) = not_flat f h refl
  value_out h (opens_in_value e n) = clash h e refl
  value_out h (opens_text c e q n) = clash h e refl
  value_out h (closes_value e n) = n

  pub brace_in : {l : Level} {ls last : List Level} {t : Terminal} {ts : List Terminal} → IsCode l → t.shape ≡ shape.Mark mark.LeftBrace → Nested source (l ∷ ls) (t ∷ ts) last → Nested source (inner_level l ∷ inner_rest l ls) ts last
  brace_in c h (flat d f w n) = not_flat f h refl
  brace_in c h (left_brace e n) = n
  brace_in c h (right_brace e n) = clash h e refl
  brace_in c h (opens_in_value e n) = n
  brace_in c h (opens_in_braces e n) = n
  brace_in c h (closes_braces e n) = clash h e refl
  brace_in c h (opens_text d e q n) = clash h e refl
  brace_in c h (closes_text e n) = absurd c
  brace_in c h (part e p n) = absurd c
  brace_in c h (opens_value e n) = absurd c
  brace_in c h (closes_value e n) = clash h e refl

  outside_out : {ls last : List Level} {t : Terminal} {ts : List Terminal} → t.shape ≡ shape.Mark mark.RightBrace → Nested source (Outside ∷ ls) (t ∷ ts) last → Nested source (Outside ∷ ls) ts last
  outside_out h (flat c f w n) = not_flat f h refl
  outside_out h (left_brace e n) = clash h e refl
  outside_out h (right_brace e n) = n
  outside_out h (opens_text c e q n) = clash h e refl

  braces_out : {ls last : List Level} {t : Terminal} {ts : List Terminal} → t.shape ≡ shape.Mark mark.RightBrace → Nested source (Braces ∷ ls) (t ∷ ts) last → Nested source ls ts last
  braces_out h (flat c f w n) = not_flat f h refl
  braces_out h (opens_in_braces e n) = clash h e refl
  braces_out h (closes_braces e n) = n
  braces_out h (opens_text c e q n) = clash h e refl

  pub brace_out : (l : Level) {ls last : List Level} {t : Terminal} {ts : List Terminal} → IsCode l → t.shape ≡ shape.Mark mark.RightBrace → Nested source (inner_level l ∷ inner_rest l ls) (t ∷ ts) last → Nested source (l ∷ ls) ts last
  brace_out Outside c h n = outside_out h n
  brace_out (Inside quote ends) c h n = absurd c
  brace_out Embedded c h n = braces_out h n
  brace_out Braces c h n = braces_out h n
