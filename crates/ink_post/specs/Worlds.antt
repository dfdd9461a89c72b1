-- The world that is kept, in the words of worlds as plain data.
use Rattle.std.specs.Prelude.{◌≡◌, ℕ, Option, None, Some, List, map}
use Rattle.ink_code.specs.declared.code.Code.{Code}
use Rattle.ink_code.specs.Process.{Process}
use Rattle.ink_code.specs.Trees.{Parcel}
use Rattle.ink_law_worlds.specs.Coming.{StandsForCode}
use Rattle.ink_mail.specs.Boxes.{mail_of}
use Rattle.ink_post.specs.declared.post.Post.{Post}
use Rattle.ink_proc.specs.declared.process.Proc.{Proc}
use Rattle.ink_proc.specs.State.{state_of}
use Rattle.ink_worlds.specs.State.{State}

abbrev pub CodeState : Type 0
CodeState = State Process Parcel

abbrev pub home_of : Option Proc → Option Process
home_of None = None
home_of (Some proc) = Some (state_of proc)

-- the process at home under a number
abbrev pub proc_at : Option (Option Proc) → Option Proc
proc_at None = None
proc_at (Some home) = home

-- the world that is kept, where so much was printed: what was printed is not kept
abbrev pub world_of : Post → List ℕ → CodeState
world_of post output =
    record {
      homes = map home_of post.homes.items;
      statuses = post.statuses.items;
      shared = record { mail = mail_of post.mail; futures = post.futures.items; output = output };
      journal = post.journal.entries;
      text = post.text;
      halt = post.halt;
    }

-- all that a world tells is as before
abbrev pub Same : Post → Post → Type 0
Same old new = (output : List ℕ) → world_of new output ≡ world_of old output

-- the limits stay, whose code was found wrong, and the room for more processes
pub record Keeps (old new : Post) : Type 0 where
  pub limits : new.limits ≡ old.limits
  pub wrong : new.wrong ≡ old.wrong
  pub homes : new.homes.spare ≡ old.homes.spare
  pub statuses : new.statuses.spare ≡ old.statuses.spare
  pub mail : new.mail.spare ≡ old.mail.spare

-- only room was made
pub record OnlyMakesRoom (old new : Post) : Type 0 where
  pub homes : new.homes.items ≡ old.homes.items
  pub statuses : new.statuses.items ≡ old.statuses.items
  pub mail : new.mail.items ≡ old.mail.items
  pub futures : new.futures ≡ old.futures
  pub journal : new.journal ≡ old.journal
  pub text : new.text ≡ old.text
  pub halt : new.halt ≡ old.halt
  pub wrong : new.wrong ≡ old.wrong
  pub limits : new.limits ≡ old.limits

-- only what the processes share changed
pub record OnlyShares (old new : Post) : Type 0 where
  pub homes : new.homes ≡ old.homes
  pub statuses : new.statuses ≡ old.statuses
  pub journal : new.journal ≡ old.journal
  pub text : new.text ≡ old.text
  pub halt : new.halt ≡ old.halt
  pub wrong : new.wrong ≡ old.wrong
  pub limits : new.limits ≡ old.limits
  pub room : new.mail.spare ≡ old.mail.spare

-- the world is ahead of its journal, where so much was printed
abbrev pub StandsAfter : Code → Post → List ℕ → Type 0
StandsAfter code post output = StandsForCode code post.limits (world_of post output)

-- and so it is with some output
abbrev pub Stands : Code → Post → Type 0
Stands code post = (output : List ℕ) × StandsAfter code post output
