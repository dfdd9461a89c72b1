-- A variable that arrives moved somewhere is moved by a point.
use Rattle.std.proofs.Common.{◌≡◌, ℕ, zero, suc, Bool, true, false, eqb, not, ◌&&◌, ◌||◌, List, [], ◌∷◌, ◌⊎◌, inl, inr, ⊎_elim, refl, subst}
use Rattle.std.specs.List.{Contains}
use Rattle.std.proofs.lemmas.Bool.{false≢true, eqb-true}
use Rattle.std.proofs.lemmas.List.Elements.{Contains-append_left, Contains-append_right}
use Rattle.ink_paths.specs.declared.flow.Event.TheVariants as event
use Rattle.ink_paths.specs.declared.flow.Point.{Point}
use Rattle.ink_paths.specs.declared.flow.Point.TheVariants as point
use Rattle.ink_paths.specs.Paths.{point_at, behind, is_moved, Arrives, moved_at, moved_in}
use Rattle.ink_paths.proofs.Walk.{cons_head}

or_cases : (a b : Bool) → a || b ≡ true → (a ≡ true) ⊎ (b ≡ true)
or_cases true b h = inl refl
or_cases false b h = inr h

left_true : (a b : Bool) → a && b ≡ true → a ≡ true
left_true true b h = refl
left_true false b h = h

here : (q : Point) (x : ℕ) (m : Bool) → behind q x m ≡ true → (m ≡ true) ⊎ Contains (moved_at q) x
here (point.Then (event.Moves y) site a) x m h = ⊎_elim (λ e. inl e) (λ e. inr (subst (λ z. Contains (y ∷ []) z) (eqb-true y x e) (cons_head y []))) (or_cases m (eqb y x) h)
here (point.Then (event.Writes y) site a) x m h = inl (left_true m (not (eqb y x)) h)
here (point.Then (event.Uses y) site a) x m h = inl h
here (point.Then event.Exit site a) x m h = inl h
here (point.Fork a b) x m h = inl h
here point.Stop x m h = inl h

-- what a point moves is moved in all
listed : (flow : List Point) (n x : ℕ) → Contains (moved_at (point_at flow n)) x → Contains (moved_in flow) x
listed [] n x c = c
listed (q ∷ qs) zero x c = Contains-append_left (moved_at q) (moved_in qs) x c
listed (q ∷ qs) (suc n) x c = Contains-append_right (moved_at q) (moved_in qs) x (listed qs n x c)

along : (flow : List Point) (x : ℕ) (p : List ℕ) → is_moved flow x p ≡ true → Contains (moved_in flow) x
along flow x [] h = absurd (false≢true h)
along flow x (n ∷ p) h = ⊎_elim (λ e. along flow x p e) (λ c. listed flow n x c) (here (point_at flow n) x (is_moved flow x p) h)

pub arrives_listed : (flow points : List Point) (moved : List ℕ) → points ≡ flow → moved ≡ moved_in points → (start x n : ℕ) → Arrives flow start x n true → Contains moved x
arrives_listed flow points moved e m start x n a = rw (m, e) (along flow x a.0 a.2)
