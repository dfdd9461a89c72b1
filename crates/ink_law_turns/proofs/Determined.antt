-- A journal's turns lead to one run, and leave the processes that they don't name where they stand.
use Rattle.std.proofs.Common.{◌≡◌, ◌≢◌, ℕ, ◌+◌, Some, List, [], ◌∷◌, ◌++◌, length, refl, ap, sym, ◌∙◌, subst}
use Rattle.ink_base.specs.Actions.{Action, Spawn, as_made}
use Rattle.ink_base.specs.Numbered.{numbered, set_numbered}
use Rattle.ink_law_turns.specs.Machines.{Machine, ComesTo}
use Rattle.ink_law_turns.specs.Turns.{Run, Turn, Turns, after_made, with_started}
use Rattle.ink_law_turns.specs.Ahead.{Led, StandsAt, IsNotNamed}
use Rattle.ink_law_turns.proofs.Numbering.{numbered-set_other, numbered-append, some_is}
use Rattle.ink_law_turns.proofs.Stepping.{comes_once}

module _ {P V : Type 0} (m : Machine P V) (limits : List ℕ) where
  made_same : (process : ℕ) (old : Run P V) (wish wanted : Action V) (v w a b : P) → wish ≡ wanted → v ≡ w → m.left (as_made wish old.shared limits) process old.shared v ≡ Some a → m.left (as_made wanted old.shared limits) process old.shared w ≡ Some b → after_made m (as_made wish old.shared limits) process a old ≡ after_made m (as_made wanted old.shared limits) process b old
  made_same process old wish wanted v w a b e d r s =
      let same : a ≡ b = some_is a b (sym r ∙ (ap (λ (x : Action V). m.left (as_made x old.shared limits) process old.shared v) e ∙ (ap (λ (x : P). m.left (as_made wanted old.shared limits) process old.shared x) d ∙ s))) in
      ap (λ (x : Action V). after_made m (as_made x old.shared limits) process a old) e ∙ ap (λ (x : P). after_made m (as_made wanted old.shared limits) process x old) same

  pub turn_once : (process : ℕ) (old new other : Run P V) → Turn m limits process old new → Turn m limits process old other → new ≡ other
  turn_once process old new other c d =
      let stood : c.p ≡ d.p = some_is c.p d.p (sym c.stands ∙ d.stands) in
      let came = comes_once m d.p c.waiting d.waiting c.wish d.wish (subst (λ (x : P). ComesTo m x c.wish c.waiting) stood c.comes) d.comes in
      c.after ∙ (made_same process old c.wish d.wish c.waiting d.waiting c.left d.left came.0 came.1 c.replied d.replied ∙ sym d.after)

  pub turns_once : (journal : List ℕ) (old new other : Run P V) → Turns m limits old journal new → Turns m limits old journal other → new ≡ other
  turns_once [] old new other c d = sym c ∙ d
  turns_once (process ∷ journal) old new other c d =
      let same : c.0 ≡ d.0 = turn_once process old c.0 d.0 c.1 d.1 in
      turns_once journal d.0 new other (subst (λ (x : Run P V). Turns m limits x journal new) same c.2) d.2

  -- one turn more
  pub turns_more : (journal : List ℕ) (process : ℕ) (old mid new : Run P V) → Turns m limits old journal mid → Turn m limits process mid new → Turns m limits old (journal ++ process ∷ []) new
  turns_more [] process old mid new c t = (new, subst (λ (x : Run P V). Turn m limits process x new) (sym c) t, refl)
  turns_more (first ∷ journal) process old mid new c t = (c.0, c.1, turns_more journal process c.0 mid new c.2 t)

  -- a journal that was made in two parts
  pub turns_parts : (journal further : List ℕ) (old new : Run P V) → Turns m limits old (journal ++ further) new → (mid : Run P V) × Turns m limits old journal mid × Turns m limits mid further new
  turns_parts [] further old new c = (old, refl, c)
  turns_parts (first ∷ journal) further old new c =
      let parts = turns_parts journal further c.0 new c.2 in
      (parts.0, (c.0, c.1, parts.1), parts.2)

  kept_started : (made : Action V) (ps : List P) (process : ℕ) (t : P) → numbered ps process ≡ Some t → numbered (with_started m made ps) process ≡ Some t
  kept_started (Spawn kind fields) ps process t e = numbered-append ps (m.begun (length ps + 1) kind fields ∷ []) process t e
  kept_started other ps process t e = e

  -- a turn leaves every other process as it stands
  pub turn_keeps : (process other : ℕ) (old new : Run P V) (t : P) → Turn m limits process old new → other ≢ process → numbered old.processes other ≡ Some t → numbered new.processes other ≡ Some t
  turn_keeps process other old new t c differ e =
      ap (λ (r : Run P V). numbered r.processes other) c.after
      ∙ kept_started (as_made c.wish old.shared limits) (set_numbered old.processes process c.left) other t (numbered-set_other old.processes process other c.left differ ∙ e)

  pub stands_once : (first : Run P V) (journal : List ℕ) (process : ℕ) (q : P) (turned : Run P V) → StandsAt m limits first journal process q → Turns m limits first journal turned → Led m turned.processes process q
  stands_once first journal process q turned s c = subst (λ (r : Run P V). Led m r.processes process q) (turns_once journal first s.turned turned s.turns c) s.led

  -- what another process stands at isn't changed by a turn
  pub stands_on : (first : Run P V) (journal : List ℕ) (process other : ℕ) (q : P) (mid new : Run P V) → StandsAt m limits first journal other q → Turns m limits first journal mid → Turn m limits process mid new → other ≢ process → StandsAt m limits first (journal ++ process ∷ []) other q
  stands_on first journal process other q mid new s c t differ =
      let led = stands_once first journal other q mid s c in
      record { turned = new; turns = turns_more journal process first mid new c t; led = (led.0, turn_keeps process other mid new led.0 t differ led.1, led.2) }

  turns_keep : (journal : List ℕ) (other : ℕ) (old new : Run P V) (t : P) → Turns m limits old journal new → IsNotNamed other journal → numbered old.processes other ≡ Some t → numbered new.processes other ≡ Some t
  turns_keep [] other old new t c free e = ap (λ (r : Run P V). numbered r.processes other) (sym c) ∙ e
  turns_keep (process ∷ journal) other old new t c free e = turns_keep journal other c.0 new t c.2 free.1 (turn_keeps process other old c.0 t c.1 free.0 e)

  -- entries of others leave a process where it stands
  pub stands_beyond : (first : Run P V) (journal further : List ℕ) (process : ℕ) (q : P) (new : Run P V) → StandsAt m limits first journal process q → Turns m limits first (journal ++ further) new → IsNotNamed process further → StandsAt m limits first (journal ++ further) process q
  stands_beyond first journal further process q new s c free =
      let parts = turns_parts journal further first new c in
      let led = stands_once first journal process q parts.0 s parts.1 in
      record { turned = new; turns = c; led = (led.0, turns_keep further process parts.0 new led.0 parts.2 free led.1, led.2) }
