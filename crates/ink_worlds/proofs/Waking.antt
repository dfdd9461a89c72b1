-- What an action makes of how each process stands.
use Rattle.std.proofs.Common.{◌≡◌, ◌≢◌, ℕ, Bool, eqb, cond, Option, None, Some, List, [], ◌∷◌, refl, ap, sym, ◌∙◌, inl, inr}
use Rattle.std.specs.Option.{option_map}
use Rattle.std.proofs.lemmas.Bool.{cases_eq, eq-eqb, ne_eqb}
use Rattle.ink_base.specs.Actions.{Action, Send, SetFuture, BreakFuture, Spawn}
use Rattle.ink_base.specs.Numbered.{numbered, set_numbered}
use Rattle.ink_law_turns.proofs.Numbering.{numbered-set_same, numbered-set_other, numbered-append, none_some, some_is, numbered-map}
use Rattle.ink_worlds.specs.State.{woken, woken_at, woken_from_take, woken_from_get}
use Rattle.ink_worlds.specs.declared.status.Status.{Status}
use Rattle.ink_worlds.specs.declared.status.Status.TheVariants.{Ready}

-- what an action makes of the status of a process
abbrev pub woken_one : {V : Type 0} → Action V → ℕ → Status → Status
woken_one (Send to method values) process status = cond (eqb process to) (woken_from_take status) status
woken_one (SetFuture future value) process status = woken_from_get future status
woken_one (BreakFuture future) process status = woken_from_get future status
woken_one other process status = status

woken_at_one : (o : Option Status) (statuses : List Status) (to process : ℕ) (status : Status) → numbered statuses to ≡ o → numbered statuses process ≡ Some status → numbered (woken_at o statuses to) process ≡ Some (cond (eqb process to) (woken_from_take status) status)
woken_at_one None statuses to process status at e =
    elim (cases_eq process to) [
      | inl same ↦ absurd (none_some status (sym at ∙ (ap (λ (i : ℕ). numbered statuses i) (sym same) ∙ e)))
      | inr differ ↦ (e ∙ ap (λ (b : Bool). Some (cond b (woken_from_take status) status)) (sym (ne_eqb process to differ)))
    ]
woken_at_one (Some found) statuses to process status at e =
    elim (cases_eq process to) [
      | inl same ↦ (
          let is : found ≡ status = some_is found status (sym at ∙ (ap (λ (i : ℕ). numbered statuses i) (sym same) ∙ e)) in
          ap (λ (i : ℕ). numbered (set_numbered statuses to (woken_from_take found)) i) same
          ∙ (numbered-set_same statuses to (woken_from_take found) found at
          ∙ (ap (λ (s : Status). Some (woken_from_take s)) is
          ∙ ap (λ (b : Bool). Some (cond b (woken_from_take status) status)) (sym (eq-eqb process to same)))))
      | inr differ ↦ (
          numbered-set_other statuses to process (woken_from_take found) differ
          ∙ (e ∙ ap (λ (b : Bool). Some (cond b (woken_from_take status) status)) (sym (ne_eqb process to differ))))
    ]

module _ {V : Type 0} where
  -- the statuses after an action, one by one
  pub woken_each : (made : Action V) (statuses : List Status) (process : ℕ) (status : Status) → numbered statuses process ≡ Some status → numbered (woken made statuses) process ≡ Some (woken_one made process status)
  woken_each (Send to method values) statuses process status e = woken_at_one (numbered statuses to) statuses to process status refl e
  woken_each (SetFuture future value) statuses process status e = numbered-map (woken_from_get future) statuses process ∙ ap (option_map (woken_from_get future)) e
  woken_each (BreakFuture future) statuses process status e = numbered-map (woken_from_get future) statuses process ∙ ap (option_map (woken_from_get future)) e
  woken_each (Spawn kind fields) statuses process status e = numbered-append statuses (Ready ∷ []) process status e
  woken_each other statuses process status e = e
