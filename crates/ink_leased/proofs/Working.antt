-- What the calls of workers make of a leased world.
use Rattle.std.proofs.Common.{◌≡◌, ◌≢◌, ℕ, Bool, false, None, List, sym, ◌∙◌, subst}
use Rattle.ink_code.specs.declared.code.Code.{Code}
use Rattle.ink_leased.proofs.Homecoming.{is_apart, is_less}
use Rattle.ink_leased.proofs.Keeping.{comes_for, kept_for, no_end}
use Rattle.ink_leased.proofs.Lent.{abandoned_keeps, is_coming, is_lent}
use Rattle.ink_leased.specs.Homecoming.{ComesIn, IsHome}
use Rattle.ink_leased.specs.Leased.{Fits, IsLeased, IsRun}
use Rattle.ink_leased.specs.Lending.{lease_of}
use Rattle.ink_leased.specs.Standing.{StandsFor}
use Rattle.ink_leased.specs.declared.away.Away.{Away}
use Rattle.ink_leased.specs.declared.leased.Began.{Began}
use Rattle.ink_leased.specs.declared.leased.Leased.{Leased}
use Rattle.ink_leasing.specs.Leases.{Has, Loses}
use Rattle.ink_post.specs.Asks.{IsComing}
use Rattle.ink_post.specs.Worlds.{Stands, world_of}
use Rattle.ink_proc.specs.State.{state_of}
use Rattle.ink_run.specs.Sinks.{SinkState}
use Rattle.ink_worlds.specs.State.{put_in}
use Rattle.ink_worlds.specs.declared.status.Status.{Status}
use Rattle.ink_worlds.specs.declared.status.Status.TheVariants.{Stopped}

module _ {K : Type 0} (seen : K → SinkState) (leased : Leased K) where
  -- a world that goes on has no end
  pub goes : (began : Began K) → IsLeased seen leased began → leased.is_over ≡ false → (leased.world.post.halt ≡ None) × (leased.world.post.wrong ≡ None)
  goes began is on = no_end leased.world.post.halt leased.world.post.wrong (sym on ∙ is.stands.over)

  pub stands_in : (began : Began K) (code : Code) (limits : List ℕ) → IsLeased seen leased began → Fits began code limits → leased.is_over ≡ false → Stands code leased.world.post
  stands_in began code limits is fits on = subst (λ (x : Code). Stands x leased.world.post) (sym fits.0) (is.stands.stands (goes began is on).1)

  pub comes_home : (began : Began K) (code : Code) (limits : List ℕ) (process seat : ℕ) (away : Away) → IsLeased seen leased began → Fits began code limits → Has process (lease_of leased.world.post.statuses.items seat) → IsRun began leased.world.post.journal.entries process away → IsComing code leased.world.post process seat away.came (state_of away.proc)
  comes_home began code limits process seat away is fits has run =
      subst (λ (x : Code). IsComing x leased.world.post process seat away.came (state_of away.proc)) (sym fits.0)
      (is_coming began.code.value leased.world.post began.world.value.post.limits process seat away.came (state_of away.proc) is.stands.limits has run)

  -- the next state of a world, where that stands for what this one stood for
  pub leased_on : (began : Began K) (new : Leased K) → new.began ≡ leased.began → IsLeased seen leased began
      → (StandsFor began.code.value began.world.value.post (seen began.world.value.sink) leased.world.post (seen leased.world.sink) leased.is_over → StandsFor began.code.value began.world.value.post (seen began.world.value.sink) new.world.post (seen new.world.sink) new.is_over) → IsLeased seen new began
  leased_on began new same is leads = record { same = same ∙ is.same; stands = leads is.stands }

  pub came_home : (began : Began K) (code : Code) (limits : List ℕ) (process : ℕ) (new : Leased K) → new.began ≡ leased.began → Fits began code limits → leased.is_over ≡ false
      → ComesIn code process leased.world.post new.world.post (seen leased.world.sink) (seen new.world.sink) new.is_over → IsLeased seen leased began → IsLeased seen new began
  came_home began code limits process new same fits on comes is = leased_on began new same is (λ stands.
      comes_for began.code.value leased.world.post new.world.post (seen leased.world.sink) (seen new.world.sink) began.world.value.post (seen began.world.value.sink) process new.is_over
      (subst (λ (x : Code). ComesIn x process leased.world.post new.world.post (seen leased.world.sink) (seen new.world.sink) new.is_over) fits.0 comes)
      (subst (λ (b : Bool). StandsFor began.code.value began.world.value.post (seen began.world.value.sink) leased.world.post (seen leased.world.sink) b) on stands))

  pub abandoned : (began : Began K) (process seat : ℕ) (new : Leased K) → new.began ≡ leased.began → new.is_over ≡ leased.is_over → new.world.post.limits ≡ leased.world.post.limits → new.world.post.wrong ≡ leased.world.post.wrong → seen new.world.sink ≡ seen leased.world.sink
      → Has process (lease_of leased.world.post.statuses.items seat) → ((output : List ℕ) → world_of new.world.post output ≡ put_in process None Stopped (world_of leased.world.post output)) → IsLeased seen leased began → IsLeased seen new began
  abandoned began process seat new same over limits wrong sink has after is = leased_on began new same is (λ stands.
      subst (λ (b : Bool). StandsFor began.code.value began.world.value.post (seen began.world.value.sink) new.world.post (seen new.world.sink) b) (sym over)
      (kept_for began.code.value leased.world.post new.world.post (seen leased.world.sink) (seen new.world.sink) began.world.value.post (seen began.world.value.sink) leased.is_over
      (abandoned_keeps leased.world.post new.world.post (seen leased.world.sink) (seen new.world.sink) limits wrong sink began.code.value process seat (is_lent process seat leased.world.post.statuses.items has) after) stands))

-- who came home is leased no more
pub loses : (process seat : ℕ) (old new : List Status) → Has process (lease_of old seat) → IsHome process old new → Loses process (lease_of old seat) (lease_of new seat)
loses process seat old new has home = let lent = is_lent process seat old has in is_less process seat lent.ran old new lent.at home

pub apart_from : (process seat : ℕ) (old new : List Status) → Has process (lease_of old seat) → IsHome process old new → (k : ℕ) → k ≢ seat → lease_of new k ≡ lease_of old k
apart_from process seat old new has home k differ = let lent = is_lent process seat old has in is_apart process seat lent.ran old new lent.at home k differ
