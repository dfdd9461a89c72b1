-- What becomes of a world to which processes come home.
use Rattle.std.specs.Prelude.{◌≡◌, ℕ}
use Rattle.ink_code.specs.declared.code.Code.{Code}
use Rattle.ink_post.specs.Answers.{OthersStay}
use Rattle.ink_post.specs.Worlds.{Stands}
use Rattle.ink_post.specs.declared.post.Post.{Post}
use Rattle.ink_run.specs.Sinks.{SinkState}
use Rattle.ink_run.specs.Written.{IsWritten}

-- one came home: the world is ahead of its journal, and the others that are lent can come home as before
pub record Leaves (code : Code) (number : ℕ) (old new : Post) : Type 0 where
  pub stands : Stands code new
  pub others : OthersStay code number old new

-- what went out is the output of the journal, where it was so before
abbrev pub WritesOn : Code → Post → Post → SinkState → SinkState → Type 0
WritesOn code old new before after = (first : SinkState) → IsWritten code old first before → IsWritten code new first after

-- a world without memory for what one process came to: it is ahead of its journal still, what went out is the output of
-- that, and the limits are the same
pub record LeavesOn (code : Code) (old new : Post) (before after : SinkState) : Type 0 where
  pub stands : Stands code new
  pub written : WritesOn code old new before after
  pub limits : new.limits ≡ old.limits
