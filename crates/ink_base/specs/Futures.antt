-- The futures of a run, by number. V is the value that is set.
use Rattle.std.specs.Prelude.{ℕ, Bool, true, false, Option, None, Some, List, ◌∷◌, [], ◌++◌}
use Rattle.ink_base.specs.declared.future.FutureState.{FutureState}
use Rattle.ink_base.specs.declared.future.FutureState.TheVariants.{Open, Set, Broken, Taken}
use Rattle.ink_base.specs.Numbered.{numbered, set_numbered}

abbrev pub Futures : Type 0 → Type 0
Futures V = List (FutureState V)

-- what a set leaves of a future: an open one gets the value, any other stays
abbrev pub after_set : {V : Type 0} → FutureState V → V → FutureState V
after_set Open value = Set value
after_set (Set had) value = Set had
after_set Broken value = Broken
after_set Taken value = Taken

-- what a break leaves of a future: an open one is broken, any other stays
abbrev pub after_break : {V : Type 0} → FutureState V → FutureState V
after_break Open = Broken
after_break (Set had) = Set had
after_break Broken = Broken
after_break Taken = Taken

-- what a get leaves of a future: a value that was set is taken
abbrev pub after_get : {V : Type 0} → FutureState V → FutureState V
after_get Open = Open
after_get (Set had) = Taken
after_get Broken = Broken
after_get Taken = Taken

-- what a value that was got and comes back leaves of a future: one that was taken has it again, any other stays
abbrev pub after_value_back : {V : Type 0} → FutureState V → V → FutureState V
after_value_back Open value = Open
after_value_back (Set had) value = Set had
after_value_back Broken value = Broken
after_value_back Taken value = Set value

-- the value that a get gives: only one that was set and not taken
abbrev pub value_of : {V : Type 0} → FutureState V → Option V
value_of Open = None
value_of (Set had) = Some had
value_of Broken = None
value_of Taken = None

abbrev pub is_open : {V : Type 0} → FutureState V → Bool
is_open Open = true
is_open (Set had) = false
is_open Broken = false
is_open Taken = false

abbrev pub is_broken : {V : Type 0} → FutureState V → Bool
is_broken Open = false
is_broken (Set had) = false
is_broken Broken = true
is_broken Taken = false

-- whether a get need not wait: a value is there, or none will come
abbrev pub is_ready : {V : Type 0} → FutureState V → Bool
is_ready Open = false
is_ready (Set had) = true
is_ready Broken = true
is_ready Taken = false

abbrev pub change_at : {V : Type 0} → Option (FutureState V) → Futures V → ℕ → (FutureState V → FutureState V) → Futures V
change_at None futures number change = futures
change_at (Some state) futures number change = set_numbered futures number (change state)

-- the futures after that of one number changed so; all as before where there is none
abbrev pub changed_future : {V : Type 0} → Futures V → ℕ → (FutureState V → FutureState V) → Futures V
changed_future futures number change = change_at (numbered futures number) futures number change

-- the futures after one more was made, which is open
abbrev pub after_make : {V : Type 0} → Futures V → Futures V
after_make futures = futures ++ Open ∷ []
