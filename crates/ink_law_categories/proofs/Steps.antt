-- What tokens are, one after the other, from what is open before them to what is open behind them.
use Rattle.std.proofs.Common.{◌≡◌, ℕ, Bool, true, false, List, [], ◌∷◌, ◌++◌, ap, subst, ◌∙◌, append_assoc}
use Rattle.ink_grammar.specs.declared.token.Mark.TheVariants as mark
use Rattle.ink_grammar.specs.declared.token.Shape.{Shape}
use Rattle.ink_grammar.specs.declared.token.Shape.TheVariants as shape
use Rattle.ink_grammar.specs.declared.token.Terminal.{Terminal}
use Rattle.ink_grammar.specs.declared.symbol.Wanted.{Wanted}
use Rattle.ink_grammar.specs.Shapes.{same, is}
use Rattle.ink_law_categories.specs.Written.{IsQuote, IsPartOf, IsToken, IsWanted}
use Rattle.ink_law_categories.specs.Nested.{Level, Inside, Embedded, IsCode, is_flat, Nested}
use Rattle.ink_law_categories.proofs.Shapes.{one_shape, is_said, said_flat}
use Rattle.ink_law_categories.proofs.Levels.{inner_level, inner_rest, flat_in, quote_in, quote_out, part_in, value_in, value_out, brace_in, brace_out}

-- Where these tokens stand, with anything behind them, this holds, and they lead from what is open before them to what is
-- open behind them.
pub record Leads (source : List ℕ) (last before : List Level) (ts : List Terminal) (after : List Level) (Q : Type 0) : Type 0 where
  pub step : (more : List Terminal) → Nested source before (ts ++ more) last → Q × Nested source after more last

module _ {source : List ℕ} {last : List Level} where
  -- no tokens
  pub done : {ls : List Level} {Q : Type 0} → Q → Leads source last ls [] ls Q
  done q = record { step = λ more n. (q, n) }

  -- first these, then others
  pub then : {a b c : List Level} {us ws : List Terminal} {P Q : Type 0} → Leads source last a us b P → (P → Leads source last b ws c Q) → Leads source last a (us ++ ws) c Q
  then {a = a} {us = us} {ws = ws} x f = record {
    step = λ more n.
        let (p, m) = x.step (ws ++ more) (subst (λ z. Nested source a z last) (append_assoc us ws more) n) in
        (f p).step more m;
  }

  -- what holds says something else
  pub so : {a b : List Level} {us : List Terminal} {P Q : Type 0} → Leads source last a us b P → (P → Q) → Leads source last a us b Q
  so x f = record { step = λ more n. let (p, m) = x.step more n in (f p, m) }

  -- a token that opens and closes nothing
  pub token : {l : Level} {ls c : List Level} {t : Terminal} {ws : List Terminal} {Q : Type 0} (x : Shape) → same x t.shape ≡ true → is_flat x ≡ true → (IsToken source x t → Leads source last (l ∷ ls) ws c Q) → Leads source last (l ∷ ls) (t ∷ ws) c Q
  token {t = t} x h e f = record {
    step = λ more n.
        let i = one_shape x t.shape h in
        let (w, m) = flat_in (ap is_flat i ∙ e) n in
        (f (record { shape = i; written = w })).step more m;
  }

  pub wanted_token : {l : Level} {ls c : List Level} {t : Terminal} {ws : List Terminal} {Q : Type 0} (w : Wanted) → is w t.shape ≡ true → is_said w ≡ true → (IsWanted source w t → Leads source last (l ∷ ls) ws c Q) → Leads source last (l ∷ ls) (t ∷ ws) c Q
  wanted_token {t = t} w h e f = record {
    step = λ more n.
        let (i, m) = flat_in (said_flat w e t.shape h) n in
        (f (record { shape = h; written = i })).step more m;
  }

  -- a brace and what stands behind it
  pub left_brace : {l : Level} {ls c : List Level} {t : Terminal} {ws : List Terminal} {Q : Type 0} → IsCode l → same (shape.Mark mark.LeftBrace) t.shape ≡ true → (t.shape ≡ shape.Mark mark.LeftBrace → Leads source last (inner_level l ∷ inner_rest l ls) ws c Q) → Leads source last (l ∷ ls) (t ∷ ws) c Q
  left_brace {t = t} d h f = record {
    step = λ more n.
        let i = one_shape (shape.Mark mark.LeftBrace) t.shape h in
        (f i).step more (brace_in d i n);
  }

  pub right_brace : (l : Level) {ls c : List Level} {t : Terminal} {ws : List Terminal} {Q : Type 0} → IsCode l → same (shape.Mark mark.RightBrace) t.shape ≡ true → (t.shape ≡ shape.Mark mark.RightBrace → Leads source last (l ∷ ls) ws c Q) → Leads source last (inner_level l ∷ inner_rest l ls) (t ∷ ws) c Q
  right_brace l {t = t} d h f = record {
    step = λ more n.
        let i = one_shape (shape.Mark mark.RightBrace) t.shape h in
        (f i).step more (brace_out l d i n);
  }

  -- the quote that opens a text, what stands in it, and the quote that closes it
  pub left_quote : {l : Level} {ls c : List Level} {t : Terminal} {ws : List Terminal} {Q : Type 0} → IsCode l → same shape.Quote t.shape ≡ true → (t.shape ≡ shape.Quote → IsQuote source t → Leads source last (Inside t false ∷ l ∷ ls) ws c Q) → Leads source last (l ∷ ls) (t ∷ ws) c Q
  left_quote {t = t} d h f = record {
    step = λ more n.
        let i = one_shape shape.Quote t.shape h in
        let (q, m) = quote_in d i n in
        (f i q).step more m;
  }

  pub right_quote : {quote : Terminal} {ends : Bool} {ls c : List Level} {t : Terminal} {ws : List Terminal} {Q : Type 0} → same shape.Quote t.shape ≡ true → Leads source last ls ws c Q → Leads source last (Inside quote ends ∷ ls) (t ∷ ws) c Q
  right_quote {t = t} h x = record { step = λ more n. x.step more (quote_out (one_shape shape.Quote t.shape h) n) }

  pub quoted_part : {quote : Terminal} {ends : Bool} {ls c : List Level} {t : Terminal} {ws : List Terminal} {Q : Type 0} → same shape.TextPart t.shape ≡ true → (ends ≡ false → t.shape ≡ shape.TextPart → IsPartOf source quote t → Leads source last (Inside quote true ∷ ls) ws c Q) → Leads source last (Inside quote ends ∷ ls) (t ∷ ws) c Q
  quoted_part {t = t} h f = record {
    step = λ more n.
        let i = one_shape shape.TextPart t.shape h in
        let (e, p, m) = part_in i n in
        (f e i p).step more m;
  }

  pub opening : {quote : Terminal} {ends : Bool} {ls c : List Level} {t : Terminal} {ws : List Terminal} {Q : Type 0} → same shape.Opening t.shape ≡ true → Leads source last (Embedded ∷ Inside quote false ∷ ls) ws c Q → Leads source last (Inside quote ends ∷ ls) (t ∷ ws) c Q
  opening {t = t} h x = record { step = λ more n. x.step more (value_in (one_shape shape.Opening t.shape h) n) }

  pub closing : {ls c : List Level} {t : Terminal} {ws : List Terminal} {Q : Type 0} → same shape.Closing t.shape ≡ true → Leads source last ls ws c Q → Leads source last (Embedded ∷ ls) (t ∷ ws) c Q
  closing {t = t} h x = record { step = λ more n. x.step more (value_out (one_shape shape.Closing t.shape h) n) }
