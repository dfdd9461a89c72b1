-- What a part of the core form is made: its tree, numbered from the first free number on.
use Rattle.std.specs.Prelude.{◌≡◌, ℕ, suc, ◌<◌, List, [], ◌∷◌, map, Option, Some, None}
use Rattle.ink_forms.specs.declared.arena.Arena.{Arena}
use Rattle.ink_forms.specs.declared.pattern.FieldPattern.{FieldPattern}
use Rattle.ink_forms.specs.Trees.{Spot, Pat, Written, OneField}
use Rattle.ink_forms.specs.Numbers.{number_pat, number_written, number_option}
use Rattle.ink_forms.specs.Views as view

-- a node without a number that stands at its first token, and one that stands elsewhere
abbrev pub here : ℕ → Spot
here start = record { number = 0; start = start; place = start }

abbrev pub at : ℕ → ℕ → Spot
at start place = record { number = 0; start = start; place = place }

-- these trees, numbered one behind the other from a number on, and the number behind the last
abbrev pub number_each : {X : Type 0} → (X → ℕ → X × ℕ) → List X → ℕ → List X × ℕ
number_each f [] n = ([], n)
number_each f (x ∷ xs) n = let r = f x n in let q = number_each f xs r.1 in (r.0 ∷ q.0, q.1)

abbrev pub number_field : OneField → ℕ → OneField × ℕ
number_field x n = let r = number_pat x.pattern n in (record { field = x.field; pattern = r.0 }, r.1)

-- At this number stands the tree, whose nodes are all that is new.
pub record IsType (tree : Written) (old new : Arena) (n : ℕ) : Type 0 where
  pub made : view.written new n ≡ (number_written tree (view.count old)).0
  pub next : view.count new ≡ (number_written tree (view.count old)).1

pub record IsPat (tree : Pat) (old new : Arena) (n : ℕ) : Type 0 where
  pub made : view.pat new n ≡ (number_pat tree (view.count old)).0
  pub next : view.count new ≡ (number_pat tree (view.count old)).1

-- At these numbers stand the trees, one made behind the other, and their nodes are all that is new.
pub record AreTypes (trees : List Written) (old new : Arena) (ns : List ℕ) : Type 0 where
  pub made : map (view.written new) ns ≡ (number_each number_written trees (view.count old)).0
  pub next : view.count new ≡ (number_each number_written trees (view.count old)).1

pub record ArePats (trees : List Pat) (old new : Arena) (ns : List ℕ) : Type 0 where
  pub made : map (view.pat new) ns ≡ (number_each number_pat trees (view.count old)).0
  pub next : view.count new ≡ (number_each number_pat trees (view.count old)).1

pub record AreFields (trees : List OneField) (old new : Arena) (xs : List FieldPattern) : Type 0 where
  pub made : map (view.field new) xs ≡ (number_each number_field trees (view.count old)).0
  pub next : view.count new ≡ (number_each number_field trees (view.count old)).1

abbrev pub written_in : Arena → Option ℕ → Option Written
written_in a None = None
written_in a (Some n) = Some (view.written a n)

pub record IsOptional (tree : Option Written) (old new : Arena) (o : Option ℕ) : Type 0 where
  pub made : written_in new o ≡ (number_option tree (view.count old)).0
  pub next : view.count new ≡ (number_option tree (view.count old)).1

-- A node over parts that were made just before it: whatever trees they are, it is this one over them.
abbrev pub IsTypeOver : ℕ → (Written → Written) → Arena → Arena → ℕ → Type 0
IsTypeOver part make old new n = (tree : Written) (first : Arena) → IsType tree first old part → IsType (make tree) first new n

abbrev pub IsTypeOverAll : List ℕ → (List Written → Written) → Arena → Arena → ℕ → Type 0
IsTypeOverAll parts make old new n = (trees : List Written) (first : Arena) → AreTypes trees first old parts → IsType (make trees) first new n

abbrev pub IsPatOverAll : List ℕ → (List Pat → Pat) → Arena → Arena → ℕ → Type 0
IsPatOverAll parts make old new n = (trees : List Pat) (first : Arena) → ArePats trees first old parts → IsPat (make trees) first new n

abbrev pub IsPatOverFields : List FieldPattern → (List OneField → Pat) → Arena → Arena → ℕ → Type 0
IsPatOverFields parts make old new n = (trees : List OneField) (first : Arena) → AreFields trees first old parts → IsPat (make trees) first new n
