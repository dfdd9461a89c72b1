-- Steps of one process, one after another, and the one action to which they come.
use Rattle.std.proofs.Common.{◌≡◌, ℕ, zero, suc, ◌+◌, ◌-◌, Option, None, Some, ap, sym, ◌∙◌, inl, inr, arith, zero-add}
use Rattle.std.proofs.lemmas.Bool.{cases_lt}
use Rattle.ink_base.specs.Actions.{Action}
use Rattle.ink_law_turns.specs.Machines.{Machine, Move, Goes, Comes, gone, then_on, steps_on, ComesTo}
use Rattle.ink_law_turns.proofs.Numbering.{none_some, some_is}

on_both : {P Q : Type 0} (o : Option P) (f g : P → Option Q) (a b : Q) → ((x : P) → f x ≡ Some a → g x ≡ Some b) → then_on o f ≡ Some a → then_on o g ≡ Some b
on_both None f g a b h e = absurd (none_some a e)
on_both (Some x) f g a b h e = h x e

on_same : {P Q : Type 0} (o : Option P) (f g : P → Option Q) (a : Q) (r : Option Q) → ((x : P) → f x ≡ Some a → g x ≡ r) → then_on o f ≡ Some a → then_on o g ≡ r
on_same None f g a r h e = absurd (none_some a e)
on_same (Some x) f g a r h e = h x e

module _ {P V : Type 0} (m : Machine P V) where
  -- one step more
  pub steps_more : (n : ℕ) (t q r : P) → steps_on m n t ≡ Some q → m.step q ≡ Goes r → steps_on m (suc n) t ≡ Some r
  steps_more zero t q r e s = ap (λ (x : P). then_on (gone (m.step x)) (λ y. Some y)) (some_is t q e) ∙ ap (λ (v : Move P V). then_on (gone v) (λ y. Some y)) s
  steps_more (suc n) t q r e s = on_both (gone (m.step t)) (λ x. steps_on m n x) (λ x. steps_on m (suc n) x) q r (λ x d. steps_more n x q r d s) e

  -- some steps, and then more
  pub steps_split : (n k : ℕ) (t b : P) → steps_on m n t ≡ Some b → steps_on m (n + k) t ≡ steps_on m k b
  steps_split zero k t b e = ap (λ i. steps_on m i t) (zero-add k) ∙ ap (λ (x : P). steps_on m k x) (some_is t b e)
  steps_split (suc n) k t b e =
      let more : suc n + k ≡ suc (n + k) = omega arith in
      ap (λ i. steps_on m i t) more ∙ on_same (gone (m.step t)) (λ x. steps_on m n x) (λ x. steps_on m (n + k) x) b (steps_on m k b) (λ x d. steps_split n k x b d) e

  -- from a process at an action no step goes on
  stays_there : (k : ℕ) (x y w : P) (wish : Action V) → m.step x ≡ Comes wish w → steps_on m k x ≡ Some y → x ≡ y
  stays_there zero x y w wish at e = some_is x y e
  stays_there (suc k) x y w wish at e = absurd (none_some y (sym (ap (λ (v : Move P V). then_on (gone v) (λ z. steps_on m k z)) at) ∙ e))

  later : (n k : ℕ) (p x y w : P) (wish : Action V) → steps_on m n p ≡ Some x → m.step x ≡ Comes wish w → steps_on m (n + k) p ≡ Some y → x ≡ y
  later n k p x y w wish e at d = stays_there k x y w wish at (sym (steps_split n k p x e) ∙ d)

  same_before : (p a b v w : P) (wish wanted : Action V) (i j : ℕ) → steps_on m i p ≡ Some a → steps_on m j p ≡ Some b → m.step a ≡ Comes wish v → m.step b ≡ Comes wanted w → a ≡ b
  same_before p a b v w wish wanted i j e d s t =
      elim (cases_lt j i) [
        | inl low ↦ (let k : ℕ = i - j in let all : i ≡ j + k = omega arith in sym (later j k p b a w wanted d t (ap (λ (n : ℕ). steps_on m n p) (sym all) ∙ e)))
        | inr up ↦ (let k : ℕ = j - i in let all : j ≡ i + k = omega arith in later i k p a b v wish e s (ap (λ (n : ℕ). steps_on m n p) (sym all) ∙ d))
      ]

  both_come : (wish wanted : Action V) (v w : P) → ◌≡◌ {A = Move P V} (Comes wish v) (Comes wanted w) → (wish ≡ wanted) × (v ≡ w)
  both_come wish wanted v w e = (cc, cc)

  -- a process comes to one action
  pub comes_once : (p v w : P) (wish wanted : Action V) → ComesTo m p wish v → ComesTo m p wanted w → (wish ≡ wanted) × (v ≡ w)
  comes_once p v w wish wanted c d =
      both_come wish wanted v w (sym c.comes ∙ (ap m.step (same_before p c.before d.before v w wish wanted c.steps d.steps c.goes d.goes c.comes d.comes) ∙ d.comes))
