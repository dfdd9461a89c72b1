-- Parts of a pattern.
use Rattle.std.specs.Prelude.{ℕ, ◌<◌, IfSome}
use Rattle.ink_arms.specs.declared.parts.Part.{Part}

-- the pattern of a part, if there is one, comes before a number
abbrev pub IsPartBefore : ℕ → Part → Type 0
IsPartBefore n part = IfSome part.pattern (λ p. p < n)
