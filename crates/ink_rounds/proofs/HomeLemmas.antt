-- A process that comes home to a world leaves the others lent.
use Rattle.std.proofs.Common.{◌≢◌, ℕ, refl}
use Rattle.ink_code.specs.declared.code.Code.{Code}
use Rattle.ink_post.specs.Answers.{OthersStay}
use Rattle.ink_post.specs.Worlds.{Stands}
use Rattle.ink_post.specs.declared.post.Post.{Post}
use Rattle.ink_rounds.specs.Homes.{Leaves, WritesOn}
use Rattle.ink_run.specs.Sinks.{SinkState}
use Rattle.ink_run.specs.Written.{StandsOn, StaysWritten}
use Rattle.ink_run.specs.declared.applied.Applied.{Applied}
use Rattle.ink_run.specs.declared.applied.Applied.TheVariants as got

module _ (code : Code) where
  -- the world is ahead of its journal, unless the code is wrong
  pub stands_right : (new : Post) (g : Applied) → g ≢ got.Wrong → StandsOn code new g → Stands code new
  stands_right new got.Kept right h = h
  stands_right new got.Moved right h = h
  stands_right new got.Waits right h = h
  stands_right new got.Panicked right h = h
  stands_right new got.SinkFailed right h = h
  stands_right new got.JournalFull right h = h
  stands_right new (got.Spent steps) right h = h
  stands_right new got.Wrong right h = absurd (right refl)

  -- what went out is the output of the journal, unless the code is wrong
  pub written_right : (old new : Post) (before after : SinkState) (g : Applied) → g ≢ got.Wrong → StaysWritten code old new before after g → WritesOn code old new before after
  written_right old new before after got.Kept right h = h
  written_right old new before after got.Moved right h = h
  written_right old new before after got.Waits right h = h
  written_right old new before after got.Panicked right h = h
  written_right old new before after got.SinkFailed right h = h
  written_right old new before after got.JournalFull right h = h
  written_right old new before after (got.Spent steps) right h = h
  written_right old new before after got.Wrong right h = absurd (right refl)

  pub home_leaves : (process : ℕ) (old new : Post) (g : Applied) → g ≢ got.Wrong → StandsOn code new g → OthersStay code process old new → Leaves code process old new
  home_leaves process old new g right stands others = record { stands = stands_right new g right stands; others = others }

  -- first the others stay, and then a process comes home
  pub leaves_behind : (process : ℕ) (old middle new : Post) → OthersStay code process old middle → Leaves code process middle new → Leaves code process old new
  leaves_behind process old middle new others leaves = record {
    stands = leaves.stands;
    others = λ other seat came p differ comes. leaves.others other seat came p differ (others other seat came p differ comes);
  }

  pub writes_behind : (old middle new : Post) (before between after : SinkState) → WritesOn code old middle before between → WritesOn code middle new between after → WritesOn code old new before after
  writes_behind old middle new before between after first second whole written = second whole (first whole written)
