-- How a file is read, byte by byte.
use Rattle.std.specs.Prelude.{◌≡◌, ◌↔◌, ℕ, suc, ◌<◌, ◌/◌, ◌^◌, List, [], ◌∷◌, ◌++◌, length, drop, Option, None, Some, option_to_list}
use Rattle.std.specs.List.{AllByRecursion}
use Rattle.ink_journal.specs.File.{front, word, words, counted, IsProcess, AreEvents}
use Rattle.ink_journal.specs.declared.step.Awaited.{Awaited}
use Rattle.ink_journal.specs.declared.step.Awaited.TheVariants as awaited
use Rattle.ink_journal.specs.declared.step.Digit.{Digit}
use Rattle.ink_journal.specs.declared.step.Digit.TheVariants as digit

-- the number that the bytes of a word before this one are
abbrev pub begun : Digit → ℕ → ℕ
begun digit.First n = 0
begun digit.Second n = n / 2 ^ 24
begun digit.Third n = n / 2 ^ 16
begun digit.Last n = n / 2 ^ 8

-- the bytes of a word from this one on
abbrev pub rest_from : Digit → ℕ → List ℕ
rest_from digit.First n = word n
rest_from digit.Second n = drop 1 (word n)
rest_from digit.Third n = drop 2 (word n)
rest_from digit.Last n = drop 3 (word n)

-- bytes that go on from here to the end of a file, with the entries that they tell
abbrev pub Goes : ℕ → Awaited → List ℕ → List ℕ → Type 0
Goes most (awaited.Front index) bytes entries =
    (index < length front) × AreEvents most entries × (bytes ≡ drop index front ++ counted entries)
Goes most (awaited.Count place number) bytes entries =
    AreEvents most entries × (number ≡ begun place (length entries)) × (bytes ≡ rest_from place (length entries) ++ words entries)
Goes most (awaited.Entry left place number) bytes [] = (left ≡ 0) × (bytes ≡ [])
Goes most (awaited.Entry left place number) bytes (entry ∷ entries) =
    (left ≡ suc (length entries)) × IsProcess entry × AllByRecursion IsProcess entries
    × (number ≡ begun place entry) × (bytes ≡ rest_from place entry ++ words entries)

-- some bytes go on from here
abbrev pub IsOpen : ℕ → Awaited → Type 0
IsOpen most here = (bytes entries : List ℕ) × Goes most here bytes entries

-- The byte leads from one place to the next, and may end an entry: what goes on from there, goes on from here behind it.
abbrev pub Leads : ℕ → Awaited → ℕ → Awaited → Option ℕ → Type 0
Leads most here byte next ended = (bytes entries : List ℕ) → Goes most here (byte ∷ bytes) entries
    ↔ ((more : List ℕ) × (entries ≡ option_to_list ended ++ more) × Goes most next bytes more)

-- nothing goes on with the byte
abbrev pub LeadsNowhere : ℕ → Awaited → ℕ → Type 0
LeadsNowhere most here byte = (bytes entries : List ℕ) → Goes most here (byte ∷ bytes) entries → ⊥

-- what a number that ends with this byte has to be multiplied by in the whole one
abbrev pub worth : Digit → ℕ
worth digit.First = 2 ^ 24
worth digit.Second = 2 ^ 16
worth digit.Third = 2 ^ 8
worth digit.Last = 1

-- the byte of a number behind this one
abbrev pub digit_behind : Digit → Option Digit
digit_behind digit.First = Some digit.Second
digit_behind digit.Second = Some digit.Third
digit_behind digit.Third = Some digit.Last
digit_behind digit.Last = None
