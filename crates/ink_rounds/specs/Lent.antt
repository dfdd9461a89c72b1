-- Processes that are lent for a round, and how they come home.
use Rattle.std.specs.Prelude.{◌≡◌, ◌≢◌, ℕ, List, [], ◌∷◌}
use Rattle.ink_code.specs.declared.code.Code.{Code}
use Rattle.ink_post.specs.Asks.{ComesOn, IsComing}
use Rattle.ink_post.specs.Worlds.{Stands}
use Rattle.ink_post.specs.declared.answer.Came.TheVariants as c
use Rattle.ink_post.specs.declared.post.Post.{Post}
use Rattle.ink_proc.specs.State.{state_of}
use Rattle.ink_rounds.specs.Machine.{CameFrom}
use Rattle.ink_rounds.specs.declared.lent.Lent.{Lent}

-- it is lent under the seat of its own number, and stands as the journal leaves it
abbrev pub IsAway : Code → Post → Lent → Type 0
IsAway code post x = IsComing code post x.number x.number c.Went (state_of x.proc)

-- it is lent, and comes home from where it stood
abbrev pub IsHomeward : Code → Post → Lent → Type 0
IsHomeward code post x = IsComing code post x.number x.number x.came (state_of x.proc)

-- none of these has that number
abbrev pub IsApart : ℕ → List Lent → Type 0
IsApart number [] = Unit {0}
IsApart number (x ∷ lent) = (number ≢ x.number) × IsApart number lent

-- each of these is lent, once
abbrev pub AreAway : Code → Post → List Lent → Type 0
AreAway code post [] = Unit {0}
AreAway code post (x ∷ lent) = IsAway code post x × IsApart x.number lent × AreAway code post lent

-- each of these comes home, once
abbrev pub AreHomeward : Code → Post → List Lent → Type 0
AreHomeward code post [] = Unit {0}
AreHomeward code post (x ∷ lent) = IsHomeward code post x × IsApart x.number lent × AreHomeward code post lent

-- a lent process made its slice: from wherever it stood, it comes home from there, with what the slice came to
pub record IsSliced (code : Code) (limits : List ℕ) (old new : Lent) : Type 0 where
  pub number : new.number ≡ old.number
  pub comes : (journal : List ℕ) → ComesOn code limits journal old.number c.Went (state_of old.proc) → ComesOn code limits journal old.number new.came (state_of new.proc)
  pub from : CameFrom code limits (state_of old.proc) new

-- each of them did
abbrev pub AreSliced : Code → List ℕ → List Lent → List Lent → Type 0
AreSliced code limits [] [] = Unit {0}
AreSliced code limits [] (x ∷ new) = ⊥
AreSliced code limits (x ∷ old) [] = ⊥
AreSliced code limits (x ∷ old) (y ∷ new) = IsSliced code limits x y × AreSliced code limits old new

-- the world is ahead of its journal, and each of these is lent
pub record HasLent (code : Code) (post : Post) (lent : List Lent) : Type 0 where
  pub stands : Stands code post
  pub each : AreAway code post lent
