-- Paths of a flow graph, and what they do to a variable.
use Rattle.std.specs.Prelude.{◌≡◌, ℕ, ◌<◌, ◌^◌, Bool, false, eqb, not, ◌&&◌, ◌||◌, List, [], ◌∷◌, ◌++◌, length, slice_index_or}
use Rattle.std.specs.List.{All, Contains}
use Rattle.ink_paths.specs.declared.flow.Event.{Event}
use Rattle.ink_paths.specs.declared.flow.Event.TheVariants as event
use Rattle.ink_paths.specs.declared.flow.Point.{Point}
use Rattle.ink_paths.specs.declared.flow.Point.TheVariants as point

-- whether a variable is moved behind an event: a move makes it so, and a write ends it
abbrev pub after : Event → ℕ → Bool → Bool
after (event.Moves y) x moved = moved || eqb y x
after (event.Writes y) x moved = moved && not (eqb y x)
after (event.Uses y) x moved = moved
after event.Exit x moved = moved

-- the points that may follow one
abbrev pub nexts : Point → List ℕ
nexts (point.Then e site a) = a ∷ []
nexts (point.Fork a b) = a ∷ b ∷ []
nexts point.Stop = []

-- those that may follow are among the first so many
abbrev pub IsWithin : ℕ → Point → Type 0
IsWithin n (point.Then e site a) = a < n
IsWithin n (point.Fork a b) = (a < n) × (b < n)
IsWithin n point.Stop = Unit {0}

abbrev pub AreWithin : List Point → Type 0
AreWithin flow = All (IsWithin (length flow)) flow

-- the greatest number of points
abbrev pub most_points : ℕ
most_points = 2 ^ 30

-- what stands at a number, and an end where no point has it
abbrev pub point_at : List Point → ℕ → Point
point_at flow n = slice_index_or flow n point.Stop

-- a path from the start, its last point first
pub data IsPath (flow : List Point) (start : ℕ) : List ℕ → Type 0 where
  begins : IsPath flow start (start ∷ [])
  follows : {a b : ℕ} {p : List ℕ} → IsPath flow start (a ∷ p) → Contains (nexts (point_at flow a)) b → IsPath flow start (b ∷ (a ∷ p))

-- whether a variable is moved behind a point
abbrev pub behind : Point → ℕ → Bool → Bool
behind (point.Then e site a) x moved = after e x moved
behind (point.Fork a b) x moved = moved
behind point.Stop x moved = moved

-- whether a variable is moved behind these points, the last of which is first
abbrev pub is_moved : List Point → ℕ → List ℕ → Bool
is_moved flow x [] = false
is_moved flow x (n ∷ p) = behind (point_at flow n) x (is_moved flow x p)

-- some path arrives at a point with the variable moved there, or whole
abbrev pub Arrives : List Point → ℕ → ℕ → ℕ → Bool → Type 0
Arrives flow start x n moved = (p : List ℕ) × IsPath flow start (n ∷ p) × (is_moved flow x p ≡ moved)

-- the variable that a point moves
abbrev pub moved_at : Point → List ℕ
moved_at (point.Then (event.Moves x) site a) = x ∷ []
moved_at (point.Then (event.Writes x) site a) = []
moved_at (point.Then (event.Uses x) site a) = []
moved_at (point.Then event.Exit site a) = []
moved_at (point.Fork a b) = []
moved_at point.Stop = []

abbrev pub moved_in : List Point → List ℕ
moved_in [] = []
moved_in (q ∷ qs) = moved_at q ++ moved_in qs
