-- Lists in which one place changes, or to which one is added.
use Rattle.std.proofs.Common.{◌≡◌, ◌≢◌, ◌⊎◌, ℕ, zero, suc, List, [], ◌∷◌, ◌++◌, map, length, set, sym, refl, ap, ◌∙◌, subst, ⊎_elim, inl, inr, Option, Some, None, unwrap_or}
use mathlib.Core.Option.{some, some-injective, some-ne-none}
use lib.ListN.{get_elem?}
use Rattle.atomic_table.proofs.Lists.{at_set}
use Rattle.ink_lease.specs.Ranges.{Pairs}

module _ {A : Type 0} where
  pub none_not_some : (x : A) → None ≡ Some x → ⊥
  none_not_some x e = cc

  pub same_some : (a b : A) → Some a ≡ Some b → a ≡ b
  same_some a b e = ap (λ (o : Option A). unwrap_or o a) e

  pub one_there : (l : List A) (i : ℕ) (a b : A) → get_elem? l i ≡ some a → get_elem? l i ≡ some b → a ≡ b
  one_there l i a b e f = some-injective a b (sym e ∙ f)

  pub at_here : (l : List A) (i : ℕ) (a b : A) → get_elem? l i ≡ some a → get_elem? (set l i b) i ≡ some b
  at_here [] i a b e = absurd (some-ne-none a (sym e))
  at_here (x ∷ xs) zero a b e = refl
  at_here (x ∷ xs) (suc i) a b e = at_here xs i a b e

  pub set_swap : (l : List A) (i j : ℕ) (a b : A) → i ≢ j → set (set l i a) j b ≡ set (set l j b) i a
  set_swap [] i j a b n = refl
  set_swap (x ∷ xs) zero zero a b n = absurd (n refl)
  set_swap (x ∷ xs) zero (suc j) a b n = refl
  set_swap (x ∷ xs) (suc i) zero a b n = refl
  set_swap (x ∷ xs) (suc i) (suc j) a b n = λ k. x ∷ set_swap xs i j a b (λ e. n (ap suc e)) k

  -- the state of a list of slots, or d
  abbrev pub first_state : A → List (ℕ × Option A) → A
  first_state d [] = d
  first_state d (x ∷ xs) = unwrap_or x.1 d

  pub map_at : {B : Type 0} (f : A → B) (l : List A) (i : ℕ) (b : B) → get_elem? (map f l) i ≡ some b → (a : A) × (get_elem? l i ≡ some a) × (f a ≡ b)
  map_at f [] i b e = absurd (some-ne-none b (sym e))
  map_at f (x ∷ xs) zero b e = (x, refl, some-injective (f x) b e)
  map_at f (x ∷ xs) (suc i) b e = map_at f xs i b e

  at_end : (l : List A) (a b : A) (j : ℕ) → get_elem? (l ++ a ∷ []) j ≡ some b → (get_elem? l j ≡ some b) ⊎ ((j ≡ length l) × (a ≡ b))
  at_end [] a b zero e = inr (refl, some-injective a b e)
  at_end [] a b (suc j) e = absurd (some-ne-none b (sym e))
  at_end (x ∷ xs) a b zero e = inl e
  at_end (x ∷ xs) a b (suc j) e = ⊎_elim (λ t. inl t) (λ t. inr (ap suc t.0, t.1)) (at_end xs a b j e)

  pub all_set : (F : ℕ → A → Type 0) (l : List A) (i : ℕ) (w : A) → F i w → ((j : ℕ) (u : A) → j ≢ i → get_elem? l j ≡ some u → F j u) → (j : ℕ) (u : A) → get_elem? (set l i w) j ≡ some u → F j u
  all_set F l i w mine others j u e = ⊎_elim (λ (x : (j ≡ i) × (w ≡ u)). subst (λ (y : ℕ × A). F y.0 y.1) (λ k. (sym x.0 k, x.1 k)) mine)
      (λ (x : (j ≢ i) × (get_elem? l j ≡ some u)). others j u x.0 x.1) (at_set l i j w u e)

  pub all_snoc : (F : ℕ → A → Type 0) (l : List A) (w : A) → F (length l) w → ((j : ℕ) (u : A) → get_elem? l j ≡ some u → F j u) → (j : ℕ) (u : A) → get_elem? (l ++ w ∷ []) j ≡ some u → F j u
  all_snoc F l w mine others j u e = ⊎_elim (λ (x : get_elem? l j ≡ some u). others j u x)
      (λ (x : (j ≡ length l) × (w ≡ u)). subst (λ (y : ℕ × A). F y.0 y.1) (λ k. (sym x.0 k, x.1 k)) mine) (at_end l w u j e)

  module _ (P : A → A → Type 0) (turn : (a b : A) → P a b → P b a) where
    pub pairs_set : (l : List A) (i : ℕ) (w : A) → Pairs P l → ((j : ℕ) (b : A) → j ≢ i → get_elem? l j ≡ some b → P w b) → Pairs P (set l i w)
    pairs_set l i w old new = λ j k a b ea eb ne.
        all_set (λ j a. (k : ℕ) (b : A) → get_elem? (set l i w) k ≡ some b → j ≢ k → P a b) l i w
        (all_set (λ k b. i ≢ k → P w b) l i w (λ n. absurd (n refl)) (λ k b n e _. new k b n e))
        (λ j a n e. all_set (λ k b. j ≢ k → P a b) l i w (λ _. turn w a (new j a n e)) (λ k b _ f m. old j k a b e f m))
        j a ea k b eb ne

    pub pairs_snoc : (l : List A) (w : A) → Pairs P l → ((j : ℕ) (b : A) → get_elem? l j ≡ some b → P w b) → Pairs P (l ++ w ∷ [])
    pairs_snoc l w old new = λ j k a b ea eb ne.
        all_snoc (λ j a. (k : ℕ) (b : A) → get_elem? (l ++ w ∷ []) k ≡ some b → j ≢ k → P a b) l w
        (all_snoc (λ k b. length l ≢ k → P w b) l w (λ n. absurd (n refl)) (λ k b e _. new k b e))
        (λ j a e. all_snoc (λ k b. j ≢ k → P a b) l w (λ _. turn w a (new j a e)) (λ k b f m. old j k a b e f m))
        j a ea k b eb ne
