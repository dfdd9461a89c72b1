-- The least of the rules that are broken in a phase.
use Rattle.std.specs.Prelude.{◌≡◌, ℕ, ◌≤◌, ◌<◌, ◌+◌, Bool, false, ◌&&◌, ◌||◌, ◌==◌, nat_lt, List, [], Option, Some, None, All, Contains, length}
use Rattle.ink_base.specs.declared.refusal.Rule.{Rule}
use Rattle.ink_base.specs.declared.refusal.Refusal.{Refusal}
use Rattle.ink_base.specs.Refusal.{rule_code}
use Rattle.ink_text.specs.Place.{place_at, place_bound}
use Rattle.ink_tables.specs.Lines.{line_starts}
use Rattle.ink_names.specs.declared.least.Broken.{Broken}

-- a rule that is told as broken at a byte
abbrev pub Told : Type 0
Told = Broken

abbrev pub told : Rule → ℕ → Told
told rule byte = record { byte = byte; rule = rule }

-- whether the first of two is told rather than the second: at a lesser byte, or at that byte with a lesser code
abbrev pub is_before : Broken → Broken → Bool
is_before a b = nat_lt a.byte b.byte || (a.byte == b.byte && nat_lt (rule_code a.rule) (rule_code b.rule))

-- Of these, this is the one to tell: it is one of them, and none of them is before it.
abbrev pub IsLeastOf : List Told → Option Broken → Type 0
IsLeastOf broken None = broken ≡ []
IsLeastOf broken (Some b) = Contains broken b × All (λ a. is_before a b ≡ false) broken

-- a rule with a code from 10 on, if one is kept
abbrev pub IsLate : Option Broken → Type 0
IsLate None = Unit {0}
IsLate (Some b) = 10 ≤ rule_code b.rule

-- the refusal of a broken rule, in a source with these lines
abbrev pub IsRefusalOf : Option Broken → List ℕ → Refusal → Type 0
IsRefusalOf None lines refusal = ⊥
IsRefusalOf (Some b) lines refusal =
    (refusal.rule ≡ b.rule) × (refusal.place.byte ≡ b.byte) × (refusal.detail ≡ None)
    × ((source : List ℕ) → lines ≡ line_starts source → b.byte ≤ length source → b.byte + 1 < place_bound → refusal.place ≡ place_at source b.byte)
