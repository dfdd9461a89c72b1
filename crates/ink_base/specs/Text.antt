use Rattle.std.specs.Prelude.{◌≡◌, ℕ, ◌<◌, ◌≤◌}
use Rattle.ink_base.specs.declared.text.TextFault.{TextFault}
use Rattle.ink_base.specs.declared.text.TextFault.TheVariants.{TooLong, OutOfMemory}

-- what a fault tells of the length that the joined text would have, where so many bytes are allowed at most
abbrev pub TellsLength : ℕ → ℕ → TextFault → Type 0
TellsLength sum most (TooLong n) = (n ≡ sum) × (most < sum)
TellsLength sum most OutOfMemory = sum ≤ most
