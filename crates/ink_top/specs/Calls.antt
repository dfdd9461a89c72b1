-- What came of the words before it is told.
use Rattle.std.specs.Prelude.{◌≡◌, ℕ, ◌⊎◌, List}
use Rattle.ink_words.specs.Commands.{Word, Asked, IsOrder, IsWrongWord}
use Rattle.ink_causes.specs.declared.cause.Cause.TheVariants.{Usage}
use Rattle.ink_commands.specs.Orders.{Deed, Did, ReadsWell}
use Rattle.ink_commands.specs.Sources.{IsIdle}

-- What came of the words: they are wrong, or they ask for one thing, and that was done.
abbrev pub Performed : List Word → Deed → Type 0
Performed words deed =
    ((number : ℕ) × (deed.cause ≡ Usage number) × IsWrongWord words number × IsIdle deed.journal deed.out × ReadsWell deed)
    ⊎ ((asked : Asked) × IsOrder asked words × ((other : Asked) → IsOrder other words → other ≡ asked) × Did asked deed)
