-- A world that is leased, and the one with which it began.
use Rattle.std.specs.Prelude.{◌≡◌, ℕ, List}
use Rattle.ink_code.specs.declared.code.Code.{Code}
use Rattle.ink_leased.specs.Standing.{StandsFor}
use Rattle.ink_leased.specs.declared.away.Away.{Away}
use Rattle.ink_leased.specs.declared.leased.Began.{Began}
use Rattle.ink_leased.specs.declared.leased.Leased.{Leased}
use Rattle.ink_post.specs.Asks.{ComesOn}
use Rattle.ink_proc.specs.State.{state_of}
use Rattle.ink_run.specs.Sinks.{SinkState}

-- it came of the world with which it began, and knows that one still
pub record IsLeased {K : Type 0} (seen : K → SinkState) (leased : Leased K) (began : Began K) : Type 0 where
  pub same : leased.began ≡ began
  pub stands : StandsFor began.code.value began.world.value.post (seen began.world.value.sink) leased.world.post (seen leased.world.sink) leased.is_over

-- a process that is away comes home from where this journal leaves it
abbrev pub IsRun : {K : Type 0} → Began K → List ℕ → ℕ → Away → Type 0
IsRun began journal process away = ComesOn began.code.value began.world.value.post.limits journal process away.came (state_of away.proc)

-- this code and these limits are those of the world with which it began
abbrev pub Fits : {K : Type 0} → Began K → Code → List ℕ → Type 0
Fits began code limits = (code ≡ began.code.value) × (limits ≡ began.world.value.post.limits)
