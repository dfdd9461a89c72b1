-- What a process that goes out or comes home makes of the leases.
use Rattle.std.proofs.Common.{◌≡◌, ◌≢◌, ℕ, zero, suc, ◌+◌, Bool, true, false, cond, eqb, Option, None, Some, List, [], ◌∷◌, ◌++◌, map, set, refl, sym, ap, ◌∙◌, append_assoc, arith}
use Rattle.std.specs.List.{slice_get}
use Rattle.std.proofs.lemmas.Bool.{eq-eqb, ne_eqb}
use Rattle.ink_base.specs.Actions.{Action, Take, Print, Spawn, Send, NewFuture, SetFuture, BreakFuture, GetFuture, Panic}
use Rattle.ink_base.specs.Numbered.{numbered, set_numbered}
use Rattle.ink_law_turns.proofs.Numbering.{numbered-suc, set_numbered-suc}
use Rattle.ink_leased.specs.Lending.{lease_at, lease_from, lease_of}
use Rattle.ink_leasing.specs.Leases.{Gains, Loses}
use Rattle.ink_statuses.specs.Readings.{is_out}
use Rattle.ink_worlds.specs.State.{woken, woken_at, woken_from_get, woken_from_take}
use Rattle.ink_worlds.specs.declared.status.Status.{Status}
use Rattle.ink_worlds.specs.declared.status.Status.TheVariants.{Ready, Out, Idle, Held, Stopped}

-- the leases before and behind a process, whatever its status is
record Splits (process number n : ℕ) (statuses : List Status) (old new : Status) : Type 0 where
  front : ℕ → List (ℕ × ℕ)
  back : ℕ → List (ℕ × ℕ)
  before : (seat : ℕ) → lease_from number statuses seat ≡ front seat ++ (lease_at process old seat ++ back seat)
  after : (seat : ℕ) → lease_from number (set statuses n new) seat ≡ front seat ++ (lease_at process new seat ++ back seat)

splits : (process number n : ℕ) (statuses : List Status) (old new : Status) → process ≡ number + n → slice_get statuses n ≡ Some old → Splits process number n statuses old new
splits process number n [] old new is at = absurd (cc)
splits process number zero (s ∷ statuses) old new is at =
    let here : number ≡ process = omega arith in
    let same : s ≡ old = cc in
    record {
      front = λ seat. [];
      back = λ seat. lease_from (suc number) statuses seat;
      before = λ seat. ap (λ (k : ℕ). lease_at k s seat ++ lease_from (suc number) statuses seat) here ∙ ap (λ (x : Status). lease_at process x seat ++ lease_from (suc number) statuses seat) same;
      after = λ seat. ap (λ (k : ℕ). lease_at k new seat ++ lease_from (suc number) statuses seat) here;
    }
splits process number (suc n) (s ∷ statuses) old new is at =
    let rest = splits process (suc number) n statuses old new (omega arith) at in
    record {
      front = λ seat. lease_at number s seat ++ rest.front seat;
      back = rest.back;
      before = λ seat. ap (λ (l : List (ℕ × ℕ)). lease_at number s seat ++ l) (rest.before seat) ∙ sym (append_assoc (lease_at number s seat) (rest.front seat) (lease_at process old seat ++ rest.back seat));
      after = λ seat. ap (λ (l : List (ℕ × ℕ)). lease_at number s seat ++ l) (rest.after seat) ∙ sym (append_assoc (lease_at number s seat) (rest.front seat) (lease_at process new seat ++ rest.back seat));
    }

-- so it is of all processes, by number
record SplitsAll (process : ℕ) (statuses : List Status) (old new : Status) : Type 0 where
  front : ℕ → List (ℕ × ℕ)
  back : ℕ → List (ℕ × ℕ)
  before : (seat : ℕ) → lease_of statuses seat ≡ front seat ++ (lease_at process old seat ++ back seat)
  after : (seat : ℕ) → lease_of (set_numbered statuses process new) seat ≡ front seat ++ (lease_at process new seat ++ back seat)

splits_all : (process : ℕ) (statuses : List Status) (old new : Status) → numbered statuses process ≡ Some old → SplitsAll process statuses old new
splits_all zero statuses old new at = absurd (cc)
splits_all (suc k) statuses old new at =
    let parts = splits (suc k) 1 k statuses old new (omega arith) (sym (numbered-suc statuses k) ∙ at) in
    record {
      front = parts.front;
      back = parts.back;
      before = parts.before;
      after = λ seat. ap (λ (ss : List Status). lease_of ss seat) (set_numbered-suc statuses k new) ∙ parts.after seat;
    }

-- a process that isn't lent is no seat's
no_lease : (process seat : ℕ) (status : Status) → is_out status ≡ false → lease_at process status seat ≡ []
no_lease process seat Ready home = refl
no_lease process seat (Out other ran) home = absurd (cc)
no_lease process seat Idle home = refl
no_lease process seat (Held future) home = refl
no_lease process seat Stopped home = refl

own_lease : (process seat ran : ℕ) → lease_at process (Out seat ran) seat ≡ (process, ran) ∷ []
own_lease process seat ran = ap (λ (b : Bool). cond b ((process, ran) ∷ []) []) (eq-eqb seat seat refl)

other_lease : (process seat other ran : ℕ) → other ≢ seat → lease_at process (Out seat ran) other ≡ []
other_lease process seat other ran differ = ap (λ (b : Bool). cond b ((process, ran) ∷ []) []) (ne_eqb seat other (λ e. differ (sym e)))

-- where one status of a process is a lease and the other isn't, only its seat's leases differ
module _ (process seat ran : ℕ) (statuses : List Status) where
  module _ (old : Status) (home : is_out old ≡ false) (at : numbered statuses process ≡ Some old) where
    abbrev parts : SplitsAll process statuses old (Out seat ran)
    parts = splits_all process statuses old (Out seat ran) at

    pub lent_more : Gains process (lease_of statuses seat) (lease_of (set_numbered statuses process (Out seat ran)) seat)
    lent_more = record {
      front = parts.front seat;
      back = parts.back seat;
      ran = ran;
      before = parts.before seat ∙ ap (λ (l : List (ℕ × ℕ)). parts.front seat ++ (l ++ parts.back seat)) (no_lease process seat old home);
      after = parts.after seat ∙ ap (λ (l : List (ℕ × ℕ)). parts.front seat ++ (l ++ parts.back seat)) (own_lease process seat ran);
    }

    pub lent_apart : (other : ℕ) → other ≢ seat → lease_of (set_numbered statuses process (Out seat ran)) other ≡ lease_of statuses other
    lent_apart other differ =
        parts.after other
        ∙ (ap (λ (l : List (ℕ × ℕ)). parts.front other ++ (l ++ parts.back other)) (other_lease process seat other ran differ ∙ sym (no_lease process other old home))
        ∙ sym (parts.before other))

  module _ (new : Status) (home : is_out new ≡ false) (at : numbered statuses process ≡ Some (Out seat ran)) where
    abbrev whole : SplitsAll process statuses (Out seat ran) new
    whole = splits_all process statuses (Out seat ran) new at

    pub home_less : Loses process (lease_of statuses seat) (lease_of (set_numbered statuses process new) seat)
    home_less = record {
      front = whole.front seat;
      back = whole.back seat;
      ran = ran;
      before = whole.after seat ∙ ap (λ (l : List (ℕ × ℕ)). whole.front seat ++ (l ++ whole.back seat)) (no_lease process seat new home);
      after = whole.before seat ∙ ap (λ (l : List (ℕ × ℕ)). whole.front seat ++ (l ++ whole.back seat)) (own_lease process seat ran);
    }

    pub home_apart : (other : ℕ) → other ≢ seat → lease_of (set_numbered statuses process new) other ≡ lease_of statuses other
    home_apart other differ =
        whole.after other
        ∙ (ap (λ (l : List (ℕ × ℕ)). whole.front other ++ (l ++ whole.back other)) (no_lease process other new home ∙ sym (other_lease process seat other ran differ))
        ∙ sym (whole.before other))

-- who is woken was at home
no_lease_either : (process seat future : ℕ) (b : Bool) → lease_at process (cond b Ready (Held future)) seat ≡ []
no_lease_either process seat future true = refl
no_lease_either process seat future false = refl

get_leases : (made number : ℕ) (status : Status) (seat : ℕ) → lease_at number (woken_from_get made status) seat ≡ lease_at number status seat
get_leases made number Ready seat = refl
get_leases made number (Out other ran) seat = refl
get_leases made number Idle seat = refl
get_leases made number (Held future) seat = no_lease_either number seat future (eqb future made)
get_leases made number Stopped seat = refl

take_leases : (number : ℕ) (status : Status) (seat : ℕ) → lease_at number (woken_from_take status) seat ≡ lease_at number status seat
take_leases number Ready seat = refl
take_leases number (Out other ran) seat = refl
take_leases number Idle seat = refl
take_leases number (Held future) seat = refl
take_leases number Stopped seat = refl

map_leases : (made number : ℕ) (statuses : List Status) (seat : ℕ) → lease_from number (map (woken_from_get made) statuses) seat ≡ lease_from number statuses seat
map_leases made number [] seat = refl
map_leases made number (s ∷ statuses) seat =
    ap (λ (l : List (ℕ × ℕ)). l ++ lease_from (suc number) (map (woken_from_get made) statuses) seat) (get_leases made number s seat)
    ∙ ap (λ (l : List (ℕ × ℕ)). lease_at number s seat ++ l) (map_leases made (suc number) statuses seat)

more_leases : (number : ℕ) (statuses : List Status) (seat : ℕ) → lease_from number (statuses ++ Ready ∷ []) seat ≡ lease_from number statuses seat
more_leases number [] seat = refl
more_leases number (s ∷ statuses) seat = ap (λ (l : List (ℕ × ℕ)). lease_at number s seat ++ l) (more_leases (suc number) statuses seat)

woken_at_leases : (found : Option Status) (statuses : List Status) (to seat : ℕ) → numbered statuses to ≡ found → lease_of (woken_at found statuses to) seat ≡ lease_of statuses seat
woken_at_leases None statuses to seat is = refl
woken_at_leases (Some status) statuses to seat is =
    let parts = splits_all to statuses status (woken_from_take status) is in
    parts.after seat
    ∙ (ap (λ (l : List (ℕ × ℕ)). parts.front seat ++ (l ++ parts.back seat)) (take_leases to status seat) ∙ sym (parts.before seat))

pub woken_leases : {V : Type 0} (made : Action V) (statuses : List Status) (seat : ℕ) → lease_of (woken made statuses) seat ≡ lease_of statuses seat
woken_leases (Send to method values) statuses seat = woken_at_leases (numbered statuses to) statuses to seat refl
woken_leases (SetFuture future value) statuses seat = map_leases future 1 statuses seat
woken_leases (BreakFuture future) statuses seat = map_leases future 1 statuses seat
woken_leases (Spawn kind fields) statuses seat = more_leases 1 statuses seat
woken_leases Take statuses seat = refl
woken_leases (Print text) statuses seat = refl
woken_leases NewFuture statuses seat = refl
woken_leases (GetFuture future) statuses seat = refl
woken_leases (Panic text) statuses seat = refl
