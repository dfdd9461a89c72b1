-- What passes have put and were given, and the rule of a deque and of the queue.
use Rattle.std.specs.Prelude.{◌≡◌, ◌⊎◌, ℕ, ◌+◌, cond, eqb, List, [], ◌∷◌, ◌++◌}
use Rattle.ink_deck.specs.declared.hand.Hand.{Hand}

abbrev pub hand : List ℕ → List ℕ → Hand
hand put taken = record { put = put; taken = taken }

-- this number is put too
abbrev pub and_put : ℕ → Hand → Hand
and_put x v = hand (v.put ++ x ∷ []) v.taken

-- this number is given too
abbrev pub and_taken : ℕ → Hand → Hand
and_taken x v = hand v.put (v.taken ++ x ∷ [])

-- how often x stands in the list
abbrev pub times : ℕ → List ℕ → ℕ
times x [] = 0
times x (y ∷ ys) = cond (eqb y x) 1 0 + times x ys

abbrev pub total : (Hand → ℕ) → List Hand → ℕ
total f [] = 0
total f (v ∷ vs) = f v + total f vs

-- each number was put as often as it was given and still stands there, all passes together
abbrev pub Balanced : List ℕ → List Hand → Type 0
Balanced items views = (x : ℕ) → total (λ v. times x v.put) views ≡ total (λ v. times x v.taken) views + times x items

-- two passes have put and were given what they had before
abbrev pub SameHands : Hand × Hand → Hand × Hand → Type 0
SameHands old new = (new.0 ≡ old.0) × (new.1 ≡ old.1)

-- one of two passes has put this number too, and the other is as it was
abbrev pub PutOne : ℕ → Hand × Hand → Hand × Hand → Type 0
PutOne x old new = ((new.0 ≡ and_put x old.0) × (new.1 ≡ old.1)) ⊎ ((new.0 ≡ old.0) × (new.1 ≡ and_put x old.1))

-- one of two passes was given this number too, and the other is as it was
abbrev pub TookOne : ℕ → Hand × Hand → Hand × Hand → Type 0
TookOne x old new = ((new.0 ≡ and_taken x old.0) × (new.1 ≡ old.1)) ⊎ ((new.0 ≡ old.0) × (new.1 ≡ and_taken x old.1))
