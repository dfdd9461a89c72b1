-- The order of work, over what a room makes of an expression: what is worked before the arguments or the written value,
-- and what after them.

pub record Worked (R : Type 0) : Type 0 where
  pub early : R
  pub late : R

-- a variable or `self` is read late
abbrev pub read : {R : Type 0} → R → R → Worked R
read nothing r = record { early = nothing; late = r }

-- what is no path is worked early
abbrev pub done : {R : Type 0} → R → R → Worked R
done nothing r = record { early = r; late = nothing }

-- a field is read behind its base, whenever that is
abbrev pub behind : {R : Type 0} → (R → R → R) → Worked R → R → Worked R
behind then' w r = record { early = w.early; late = then' w.late r }

-- a receiver, base or written place, with the arguments or the written value in between
abbrev pub around : {R : Type 0} → (R → R → R) → Worked R → R → R
around then' w between = then' (then' w.early between) w.late

-- one with nothing in between
abbrev pub whole : {R : Type 0} → (R → R → R) → Worked R → R
whole then' w = then' w.early w.late
