-- No process is leased twice: each has one status.
use Rattle.std.proofs.Common.{◌≡◌, ℕ, suc, ◌+◌, ◌<◌, ◌≤◌, Bool, true, false, cond, eqb, Some, List, [], ◌∷◌, ◌++◌, refl, sym, ap, ◌∙◌, subst, inl, inr, arith}
use Rattle.std.specs.List.{slice_get}
use Rattle.std.proofs.lemmas.Bool.{cases_eq, eq-eqb, ne_eqb}
use Rattle.ink_leasing.specs.Leases.{AreApart, Has, times}
use Rattle.ink_leased.specs.Lending.{lease_from, lease_of}
use Rattle.ink_worlds.specs.declared.status.Status.{Status}
use Rattle.ink_worlds.specs.declared.status.Status.TheVariants.{Ready, Out, Idle, Held, Stopped}

-- what a seat leases is a process that stands so
pub record Found (number : ℕ) (statuses : List Status) (seat p : ℕ) : Type 0 where
  pub place : ℕ
  pub ran : ℕ
  pub is : p ≡ number + place
  pub at : slice_get statuses place ≡ Some (Out seat ran)

later : (number : ℕ) (status : Status) (statuses : List Status) (seat p : ℕ) → Found (suc number) statuses seat p → Found number (status ∷ statuses) seat p
later number status statuses seat p found = record {
  place = suc found.place;
  ran = found.ran;
  is = let e : p ≡ suc number + found.place = found.is in omega arith;
  at = found.at;
}

here : (number : ℕ) (statuses : List Status) (seat ran p : ℕ) → number ≡ p → Found number (Out seat ran ∷ statuses) seat p
here number statuses seat ran p is = record { place = 0; ran = ran; is = omega arith; at = refl }

pub found : (number : ℕ) (statuses : List Status) (seat p : ℕ) → Has p (lease_from number statuses seat) → Found number statuses seat p
found number [] seat p has = absurd has
found number (Ready ∷ statuses) seat p has = later number Ready statuses seat p (found (suc number) statuses seat p has)
found number (Idle ∷ statuses) seat p has = later number Idle statuses seat p (found (suc number) statuses seat p has)
found number (Held future ∷ statuses) seat p has = later number (Held future) statuses seat p (found (suc number) statuses seat p has)
found number (Stopped ∷ statuses) seat p has = later number Stopped statuses seat p (found (suc number) statuses seat p has)
found number (Out other ran ∷ statuses) seat p has = elim (cases_eq other seat) [
  | inl same ↦ (
      let leased : Has p ((number, ran) ∷ lease_from (suc number) statuses seat) = subst (λ (b : Bool). Has p ((cond b ((number, ran) ∷ []) []) ++ lease_from (suc number) statuses seat)) (eq-eqb other seat same) has in
      elim leased [
        | inl is ↦ subst (λ (k : ℕ). Found number (Out other ran ∷ statuses) k p) same (here number statuses other ran p is)
        | inr more ↦ later number (Out other ran) statuses seat p (found (suc number) statuses seat p more)
      ])
  | inr differ ↦ later number (Out other ran) statuses seat p (found (suc number) statuses seat p
      (subst (λ (b : Bool). Has p ((cond b ((number, ran) ∷ []) []) ++ lease_from (suc number) statuses seat)) (ne_eqb other seat differ) has))
]

-- none of them has a number below
below_by : (number ran : ℕ) (statuses : List Status) (seat p : ℕ) → p < number → times p (lease_from (suc number) statuses seat) ≡ 0 → (b : Bool) → times p ((cond b ((number, ran) ∷ []) []) ++ lease_from (suc number) statuses seat) ≡ 0
below_by number ran statuses seat p low rest true = let none : 0 + times p (lease_from (suc number) statuses seat) ≡ 0 = omega (arith, rest) in ap (λ (c : Bool). cond c 1 0 + times p (lease_from (suc number) statuses seat)) (ne_eqb number p (λ e. omega arith)) ∙ none
below_by number ran statuses seat p low rest false = rest

none_below : (number : ℕ) (statuses : List Status) (seat p : ℕ) → p < number → times p (lease_from number statuses seat) ≡ 0
none_below number [] seat p low = refl
none_below number (Ready ∷ statuses) seat p low = none_below (suc number) statuses seat p (omega arith)
none_below number (Idle ∷ statuses) seat p low = none_below (suc number) statuses seat p (omega arith)
none_below number (Held future ∷ statuses) seat p low = none_below (suc number) statuses seat p (omega arith)
none_below number (Stopped ∷ statuses) seat p low = none_below (suc number) statuses seat p (omega arith)
none_below number (Out other ran ∷ statuses) seat p low = below_by number ran statuses seat p low (none_below (suc number) statuses seat p (omega arith)) (eqb other seat)

one_more : (number : ℕ) (statuses : List Status) (seat p : ℕ) → times p (lease_from (suc number) statuses seat) ≤ 1 → (b : Bool) → eqb number p ≡ b → cond b 1 0 + times p (lease_from (suc number) statuses seat) ≤ 1
one_more number statuses seat p rest true is = elim (cases_eq number p) [
  | inl same ↦ (let none : times p (lease_from (suc number) statuses seat) ≡ 0 = none_below (suc number) statuses seat p (omega arith) in omega arith)
  | inr differ ↦ absurd (let e : false ≡ true = sym (ne_eqb number p differ) ∙ is in cc)
]
one_more number statuses seat p rest false is = let one : 0 + times p (lease_from (suc number) statuses seat) ≤ 1 = omega (arith, rest) in one

once_by : (number ran : ℕ) (statuses : List Status) (seat p : ℕ) → times p (lease_from (suc number) statuses seat) ≤ 1 → (b : Bool) → times p ((cond b ((number, ran) ∷ []) []) ++ lease_from (suc number) statuses seat) ≤ 1
once_by number ran statuses seat p rest true = one_more number statuses seat p rest (eqb number p) refl
once_by number ran statuses seat p rest false = rest

at_most_once : (number : ℕ) (statuses : List Status) (seat p : ℕ) → times p (lease_from number statuses seat) ≤ 1
at_most_once number [] seat p = omega arith
at_most_once number (Ready ∷ statuses) seat p = at_most_once (suc number) statuses seat p
at_most_once number (Idle ∷ statuses) seat p = at_most_once (suc number) statuses seat p
at_most_once number (Held future ∷ statuses) seat p = at_most_once (suc number) statuses seat p
at_most_once number (Stopped ∷ statuses) seat p = at_most_once (suc number) statuses seat p
at_most_once number (Out other ran ∷ statuses) seat p = once_by number ran statuses seat p (at_most_once (suc number) statuses seat p) (eqb other seat)

out_seat : (a b ran more : ℕ) → Some (Out a ran) ≡ Some (Out b more) → a ≡ b
out_seat a b ran more e = cc

pub leases_apart : (statuses : List Status) → AreApart (lease_of statuses)
leases_apart statuses = (
  (λ a b p here there.
      let one = found 1 statuses a p here in
      let other = found 1 statuses b p there in
      let first : p ≡ 1 + one.place = one.is in
      let second : p ≡ 1 + other.place = other.is in
      let same : one.place ≡ other.place = omega arith in
      out_seat a b one.ran other.ran (sym one.at ∙ (ap (λ (n : ℕ). slice_get statuses n) same ∙ other.at))),
  (λ seat p. at_most_once 1 statuses seat p),
)
