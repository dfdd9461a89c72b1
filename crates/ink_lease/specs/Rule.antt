-- The rule of the shared state, and what each step tells.
-- The word is the turn: 0 while it is free, else the first number of the pass that holds it. The slot has the state while the turn is free, and is out with the holder else.
use Rattle.std.specs.Prelude.{◌≡◌, ◌≢◌, ◌⊎◌, ℕ, ◌+◌, ◌≤◌, Bool, false, cond, leb, List, [], ◌∷◌, ◌++◌, map, length, Option, Some, None, IsSomeAnd}
use mathlib.Core.Option as maybe
use lib.ListN.{get_elem?}
use Rattle.ink_leasing.specs.Leases.{Lease, Spares, Named}
use Rattle.atomic_table.specs.Table.{State, Me, Step}
use Rattle.atomic_table.specs.declared.shared.Seat.{Seat}
use Rattle.ink_lease.specs.declared.view.View.{View}
use Rattle.ink_lease.specs.Ranges.{Range, Clear, Pairs, FirstOnly}

-- the journal begins with what was seen, and no entry behind that is of a leased process
abbrev pub Since : List ℕ → Lease → List ℕ → Type 0
Since seen lease journal = (more : List ℕ) × (journal ≡ seen ++ more) × Spares lease more

abbrev pub longer : List ℕ → List ℕ → List ℕ
longer a b = cond (leb (length a) (length b)) b a

module _ {S F : Type 0} where
  abbrev pub range : View S F → Range
  range v = (v.from, v.to)

  abbrev pub Live : View S F → Type 0
  Live v = v.from ≤ v.to

  abbrev pub holding : S → View S F → View S F
  holding x v = record v { held = Some x }

  abbrev pub lost : View S F → View S F
  lost v = record v { lost = v.lost + 1 }

  -- the two views of a split: the first number, and the others
  abbrev pub first_one : View S F → View S F
  first_one v = record v { to = v.from }

  abbrev pub others : View S F → View S F
  others v = record { from = v.from + 1; to = v.to; seats = v.seats; lease = []; fixed = v.fixed; seen = v.seen; lost = 0; held = None; rest = false }

  -- the view of two passes that were joined, and of the one that went
  abbrev pub both : View S F → View S F → View S F
  both v w = record v { to = w.to; seen = longer v.seen w.seen }

  abbrev pub spent : View S F
  spent = record { from = 1; to = 0; seats = 0; lease = []; fixed = None; seen = []; lost = 0; held = None; rest = false }

  abbrev pub first_view : ℕ → F → List ℕ → View S F
  first_view seats part journal = record { from = 1; to = seats; seats = seats; lease = []; fixed = Some part; seen = journal; lost = 0; held = None; rest = false }

  -- the turn is free, and the state at home is x
  abbrev pub Free : List ℕ → List (maybe.Option (Option S)) → List (View S F) → S → Type 0
  Free ws hs vs x = (ws ≡ 0 ∷ []) × (hs ≡ maybe.some (Some x) ∷ []) × ((j : ℕ) (u : View S F) → get_elem? vs j ≡ maybe.some u → u.held ≡ None)

  -- one pass holds the turn, and took the state x
  pub record Taken (ws : List ℕ) (hs : List (maybe.Option (Option S))) (vs : List (View S F)) (x : S) : Type 0 where
    pub holder : ℕ
    pub view : View S F
    pub there : get_elem? vs holder ≡ maybe.some view
    pub holds : view.held ≡ Some x
    pub live : view.from ≤ view.to
    pub word : ws ≡ view.from ∷ []
    pub out : hs ≡ maybe.none ∷ []
    pub no_other : (j : ℕ) (u : View S F) → get_elem? vs j ≡ maybe.some u → j ≢ holder → u.held ≡ None

module _ {S F : Type 0} (lease : S → ℕ → Lease) (journal : S → List ℕ) (stands : S → F → Type 0) where
  -- what a view with numbers knows of the state that is at home, or that the holder took
  pub record Fits (part : F) (seats : ℕ) (x : S) (v : View S F) : Type 0 where
    pub leased : v.lease ≡ lease x v.from
    pub since : Since v.seen v.lease (journal x)
    pub part_is : v.fixed ≡ Some part
    pub seats_are : v.seats ≡ seats
    pub first : 1 ≤ v.from
    pub last : v.to ≤ seats

  -- the rule
  pub record Kept (s : State (Option S) (View S F)) : Type 0 where
    pub base : S
    pub part : F
    pub seats : ℕ
    pub standing : stands base part
    pub place : Free s.words s.homes s.views base ⊎ Taken s.words s.homes s.views base
    pub each : (j : ℕ) (u : View S F) → get_elem? s.views j ≡ maybe.some u → Live u → Fits part seats base u
    pub ranges : Pairs Clear (map range s.views)
    pub first_only : FirstOnly (lease base) (map range s.views)

  -- what a pass learns of the state that it takes
  pub record Took (v : View S F) (x : S) : Type 0 where
    -- it stands for the fixed part
    pub stands_for : IsSomeAnd v.fixed (stands x)
    -- it has the leases that the pass knows
    pub leased : lease x v.from ≡ v.lease
    -- and no entry since the journal that the pass saw last is of one of them
    pub since : Since v.seen v.lease (journal x)

  -- what a pass owes of the state y that it gives, where it took x
  pub record Owes (v : View S F) (x y : S) : Type 0 where
    -- it stands for the fixed part
    pub stands_for : IsSomeAnd v.fixed (stands y)
    -- others lease what they leased
    pub other_leases : (k : ℕ) → k ≢ v.from → lease y k ≡ lease x k
    -- and new entries are of processes that the pass had leased
    pub events : (es : List ℕ) × (journal y ≡ journal x ++ es) × Named v.lease es

  -- the turn was free, and the state was taken; or it was held, and one more try is lost
  abbrev pub won_or_lost : Step (Option S) → Me (Option S) (View S F) → ℕ → Me (Option S) (View S F) → Type 0
  won_or_lost st m n m' =
      (n ≡ 0 → (x : S) × (m' ≡ (holding x m.0, (0, Some x) ∷ m.1)) × Took m.0 x)
      × (n ≢ 0 → m' ≡ (lost m.0, m.1))

  module _ (rests : S → Bool) where
    -- the view of a pass that gave y: it knows what y has for it, and whether y rests
    abbrev pub given : S → View S F → View S F
    given y v = record v { held = None; lease = lease y v.from; seen = journal y; rest = rests y }

    abbrev pub gave : Step (Option S) → Me (Option S) (View S F) → ℕ → Me (Option S) (View S F) → Type 0
    gave st m n m' = (y : S) → m.1 ≡ (0, Some y) ∷ [] → m' ≡ (given y m.0, [])

-- what clauses say of a seat at the table
module _ {S F : Type 0} where
  abbrev pub view : Seat (Option S) (View S F) → View S F
  view s = s.me.0

  -- it doesn't hold the turn
  abbrev pub IsIdle : Seat (Option S) (View S F) → Type 0
  IsIdle s = (s.me.0.held ≡ None) × (s.me.1 ≡ [])

  -- it holds the turn, and took the state x
  abbrev pub Holds : Seat (Option S) (View S F) → S → Type 0
  Holds s x = (s.me.0.held ≡ Some x) × (s.me.1 ≡ (0, None) ∷ [])

  abbrev pub IsSameSeat : Seat (Option S) (View S F) → Seat (Option S) (View S F) → Type 0
  IsSameSeat s t = (t.table_id ≡ s.table_id) × (t.id ≡ s.id)
