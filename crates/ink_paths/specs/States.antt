-- A point and what is of a variable there as one number, and the lists of a search.
use Rattle.std.specs.Prelude.{◌≡◌, ℕ, ◌+◌, ◌*◌, ◌/◌, ◌%◌, Bool, true, false, cond, eqb, not, List, [], ◌∷◌, ◌++◌, length, slice_index_or, slice_set, count_by, ◌⊎◌}
use Rattle.std.specs.List.{Contains}
use Rattle.ink_paths.specs.declared.flow.Point.{Point}
use Rattle.ink_paths.specs.declared.flow.Point.TheVariants as point
use Rattle.ink_paths.specs.Paths.{after, point_at}

abbrev pub bit : Bool → ℕ
bit true = 1
bit false = 0

abbrev pub state : ℕ → Bool → ℕ
state n moved = 2 * n + bit moved

-- the mark of a point with the variable moved, or whole
abbrev pub is_marked : List Bool → ℕ → Bool → Bool
is_marked marks n moved = slice_index_or marks (state n moved) false

-- the states that may follow
abbrev pub point_states : Point → ℕ → Bool → List ℕ
point_states (point.Then e site a) x moved = state a (after e x moved) ∷ []
point_states (point.Fork a b) x moved = state a moved ∷ (state b moved ∷ [])
point_states point.Stop x moved = []

abbrev pub next_states : List Point → ℕ → ℕ → List ℕ
next_states flow x s = point_states (point_at flow (s / 2)) x (eqb (s % 2) 1)

-- what is reached by steps
pub data Reach (next : ℕ → List ℕ) (start : ℕ) : ℕ → Type 0 where
  here : Reach next start start
  step : {a b : ℕ} → Reach next start a → Contains (next a) b → Reach next start b

abbrev pub IsSeen : List Bool → ℕ → Type 0
IsSeen seen s = slice_index_or seen s false ≡ true

-- what marking these states leaves
abbrev pub seen_after : List ℕ → List Bool → List Bool
seen_after [] seen = seen
seen_after (t ∷ ts) seen = seen_after ts (slice_set seen t true)

abbrev pub todo_after : List ℕ → List Bool → List ℕ → List ℕ
todo_after [] seen todo = todo
todo_after (t ∷ ts) seen todo = todo_after ts (slice_set seen t true) (cond (slice_index_or seen t false) todo (todo ++ t ∷ []))

-- all that was seen is reached, and what follows it was seen too or is still to look at
pub record Walks (next : ℕ → List ℕ) (start : ℕ) (seen : List Bool) (todo : List ℕ) : Type 0 where
  pub sound : (s : ℕ) → IsSeen seen s → Reach next start s
  pub waits : (s : ℕ) → Contains todo s → IsSeen seen s
  pub closed : (s : ℕ) → IsSeen seen s → Contains todo s ⊎ ((t : ℕ) → Contains (next s) t → IsSeen seen t)
  pub begun : IsSeen seen start

-- how much is left to do
abbrev pub left : List Bool → List ℕ → ℕ
left seen todo = 2 * count_by not seen + length todo
