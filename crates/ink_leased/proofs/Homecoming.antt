-- What a check-in makes of the leases: the process is home, and all else is leased as before.
use Rattle.std.proofs.Common.{◌≡◌, ◌≢◌, ℕ, Bool, true, false, Option, None, Some, List, refl, ap, ◌∙◌, length}
use Rattle.std.specs.Prelude.{nat_le}
use Rattle.ink_base.specs.declared.limits.Limit.TheVariants as limit
use Rattle.ink_base.specs.Actions.{Action, Take, Print, Spawn, Send, NewFuture, SetFuture, BreakFuture, GetFuture, Panic, is_enabled, as_made}
use Rattle.ink_base.specs.Limits.{limit_of}
use Rattle.ink_base.specs.Numbered.{numbered, set_numbered}
use Rattle.ink_law_turns.specs.Machines.{Machine}
use Rattle.ink_leased.proofs.Leases.{home_apart, home_less, woken_leases}
use Rattle.ink_leased.specs.Homecoming.{IsHome}
use Rattle.ink_leased.specs.Lending.{lease_of}
use Rattle.ink_leasing.specs.Leases.{Loses}
use Rattle.ink_statuses.specs.Readings.{is_out}
use Rattle.ink_worlds.specs.State.{State, Came, Went, GivesUp, Wants, Spent, Answer, ChecksIn, ChecksInBy, ComesBack, ActsBy, Makes, acted, status_after, waits_at}
use Rattle.ink_worlds.specs.declared.halt.Halt.{Halt}
use Rattle.ink_worlds.specs.declared.status.Status.{Status}
use Rattle.ink_worlds.specs.declared.status.Status.TheVariants.{Ready, Out, Stopped}

pub put_home : (process : ℕ) (status : Status) (old new : List Status) → is_out status ≡ false → new ≡ set_numbered old process status → IsHome process old new
put_home process status old new home is = record { status = status; home = home; leases = λ seat. ap (λ (ss : List Status). lease_of ss seat) is }

module _ (process seat ran : ℕ) (old new : List Status) (at : numbered old process ≡ Some (Out seat ran)) (home : IsHome process old new) where
  pub is_less : Loses process (lease_of old seat) (lease_of new seat)
  is_less = let less = home_less process seat ran old home.status home.home at in record {
    front = less.front;
    back = less.back;
    ran = less.ran;
    before = home.leases seat ∙ less.before;
    after = less.after;
  }

  pub is_apart : (other : ℕ) → other ≢ seat → lease_of new other ≡ lease_of old other
  is_apart other differ = home.leases other ∙ home_apart process seat ran old home.status home.home at other differ

module _ {P V : Type 0} (m : Machine P V) (limits : List ℕ) (process : ℕ) where
  after_home : (made : Action V) → is_out (status_after made) ≡ false
  after_home (Panic text) = refl
  after_home Take = refl
  after_home (Print text) = refl
  after_home (Spawn kind fields) = refl
  after_home (Send to method values) = refl
  after_home NewFuture = refl
  after_home (SetFuture future value) = refl
  after_home (BreakFuture future) = refl
  after_home (GetFuture future) = refl

  waits_home : (wish : Action V) → is_out (waits_at wish) ≡ false
  waits_home (GetFuture future) = refl
  waits_home Take = refl
  waits_home (Print text) = refl
  waits_home (Spawn kind fields) = refl
  waits_home (Send to method values) = refl
  waits_home NewFuture = refl
  waits_home (SetFuture future value) = refl
  waits_home (BreakFuture future) = refl
  waits_home (Panic text) = refl

  module _ (p : P) (old : State P V) where
    put_back : (status : Status) (new made : State P V) → is_out status ≡ false → new ≡ made → made.statuses ≡ set_numbered old.statuses process status → IsHome process old.statuses new.statuses
    put_back status new made home is statuses = put_home process status old.statuses new.statuses home (ap (λ (s : State P V). s.statuses) is ∙ statuses)

    acted_home : (made : Action V) (left : P) (new : State P V) → new ≡ acted m made process left old → IsHome process old.statuses new.statuses
    acted_home made left new is = record {
      status = status_after made;
      home = after_home made;
      leases = λ seat. ap (λ (s : State P V). lease_of s.statuses seat) is ∙ woken_leases made (set_numbered old.statuses process (status_after made)) seat;
    }

    makes_home : (made : Action V) (left : Option P) (answer : Answer) (new : State P V) → Makes m made process left old answer new → IsHome process old.statuses new.statuses
    makes_home made None answer new makes = put_back Stopped new _ refl makes.1 refl
    makes_home made (Some left) answer new makes = acted_home made left new makes.1

    acts_home : (wish : Action V) (enabled full : Bool) (answer : Answer) (new : State P V) → ActsBy m limits process wish p old enabled full answer new → IsHome process old.statuses new.statuses
    acts_home wish false full answer new acts = put_back (waits_at wish) new _ (waits_home wish) acts.1 refl
    acts_home wish true true answer new acts = put_back Stopped new _ refl acts.1 refl
    acts_home wish true false answer new acts = makes_home (as_made wish old.shared limits) (m.left (as_made wish old.shared limits) process old.shared p) answer new acts

    comes_home : (came : Came V) (answer : Answer) (new : State P V) → ComesBack m limits process came p old answer new → IsHome process old.statuses new.statuses
    comes_home Went answer new back = put_back Ready new _ refl back.1 refl
    comes_home GivesUp answer new back = put_back Stopped new _ refl back.1 refl
    comes_home (Wants wish) answer new back = acts_home wish (is_enabled wish process old.shared) (nat_le (limit_of limit.Events limits) (length old.journal)) answer new back
    comes_home (Spent steps) answer new back = put_back Stopped new _ refl back.1 refl

  checks_by : (came : Came V) (p : P) (old : State P V) (halt : Option Halt) (answer : Answer) (new : State P V) → ChecksInBy m limits process came p old halt answer new → IsHome process old.statuses new.statuses
  checks_by came p old None answer new checks = comes_home p old came answer new checks
  checks_by came p old (Some halt) answer new checks = put_back p old Stopped new _ refl checks.1 refl

  pub checks_home : (came : Came V) (p : P) (old : State P V) (answer : Answer) (new : State P V) → ChecksIn m limits process came p old answer new → IsHome process old.statuses new.statuses
  checks_home came p old answer new checks = checks_by came p old old.halt answer new checks
