-- Each call of a world keeps what the world claims.
use Rattle.std.proofs.Common.{◌≡◌, ◌≢◌, ◌≤◌, ℕ, ◌+◌, Bool, true, false, eqb, cond, Option, None, Some, List, [], ◌∷◌, ◌++◌, length, map, refl, ap, sym, ◌∙◌, subst, inl, inr, length-append, arith, leb-true}
use Rattle.std.specs.Option.{option_map}
use Rattle.std.specs.Prelude.{nat_le, IfSome}
use Rattle.std.proofs.lemmas.List.{length-map}
use Rattle.std.proofs.lemmas.Bool.{cases_eq, eq-eqb, ne_eqb}
use Rattle.ink_base.specs.declared.limits.Limit.TheVariants as limit
use Rattle.ink_base.specs.Actions.{Action, Take, Print, Spawn, Send, NewFuture, SetFuture, BreakFuture, GetFuture, Panic, SharedState, has_some, is_enabled, as_made, after_action}
use Rattle.ink_base.specs.Limits.{limit_of}
use Rattle.ink_base.specs.Numbered.{numbered, set_numbered}
use Rattle.ink_law_turns.specs.Ahead.{Ahead, Led, StandsAt, panicked, with_process}
use Rattle.ink_law_turns.specs.Machines.{Machine, Comes, IsLike, IsCounted, is_binding, steps_on}
use Rattle.ink_law_turns.specs.Turns.{Run, with_started, panic_by, after_made}
use Rattle.ink_law_turns.proofs.Commuting.{ahead_put, ahead_acts}
use Rattle.ink_law_turns.proofs.Determined.{stands_once}
use Rattle.ink_law_turns.proofs.Numbering.{numbered-set_same, numbered-set_other, numbered-append, numbered-append_last, none_some, some_is, length-set_numbered, numbered-set_found, numbered-append_cases, numbered-map, numbered_level}
use Rattle.ink_law_turns.proofs.Sharing.{unread_kept, future_kept}
use Rattle.ink_worlds.specs.Standing.{AtHome, CanAct, EndedBy, HasMade, StandsFor, ComesFrom, panic_in, text_in}
use Rattle.ink_worlds.specs.State.{State, Came, Went, GivesUp, Wants, Spent, Answer, ChecksInBy, ChecksIn, ComesBack, ActsBy, Makes, first_state, put_in, back_in, halted, checked_out, acted, woken, woken_at, woken_from_take, woken_from_get, home_started, halt_by, text_by, status_after, waits_at}
use Rattle.ink_worlds.specs.declared.halt.Halt.{Halt}
use Rattle.ink_worlds.specs.declared.halt.Halt.TheVariants.{Panicked, SinkFailed, Events, Local}
use Rattle.ink_worlds.specs.declared.status.Status.{Status}
use Rattle.ink_worlds.specs.declared.status.Status.TheVariants.{Ready, Out, Idle, Held, Stopped}
use Rattle.ink_worlds.proofs.Waking.{woken_one, woken_each}

-- a test that succeeds
le_of : {a b : ℕ} → nat_le a b ≡ true → a ≤ b
le_of {a} {b} e = leb-true a b e

none_le : {a b : ℕ} → a ≡ 0 → a ≤ b
none_le e = omega (arith, e)

same_either : {X : Type 0} (b : Bool) (x y : X) → x ≡ y → cond b x y ≡ y
same_either true x y e = e
same_either false x y e = refl

module _ {P V : Type 0} (m : Machine P V) where
  like_refl : (p : P) → IsLike m p p
  like_refl p = record { number = refl; kind = refl; ran = refl }

  found_status : (shared : SharedState V) (process : ℕ) (o : Option Status) (home : Option (Option P)) (q : P) → AtHome m shared process o home q → (s : Status) × (o ≡ Some s)
  found_status shared process None home q h = absurd h
  found_status shared process (Some s) home q h = (s, refl)

  found_home : (shared : SharedState V) (process : ℕ) (s : Status) (home : Option (Option P)) (q : P) → AtHome m shared process (Some s) home q → (x : Option P) × (home ≡ Some x)
  found_home shared process Ready home q h = (Some q, h)
  found_home shared process (Out seat ran) home q h = (None, h.0)
  found_home shared process Idle home q h = (Some q, h.0)
  found_home shared process (Held future) home q h = (Some q, h.0)
  found_home shared process Stopped home q h = (h.0, h.1)

  pub woken_calm : (made : Action V) (other : ℕ) (status : Status) → woken_from_take status ≡ status → ((f : ℕ) → woken_from_get f status ≡ status) → woken_one made other status ≡ status
  woken_calm (Send to method values) other status a b = same_either (eqb other to) (woken_from_take status) status a
  woken_calm (SetFuture f value) other status a b = b f
  woken_calm (BreakFuture f) other status a b = b f
  woken_calm Take other status a b = refl
  woken_calm (Print text) other status a b = refl
  woken_calm (Spawn kind fields) other status a b = refl
  woken_calm NewFuture other status a b = refl
  woken_calm (GetFuture f) other status a b = refl
  woken_calm (Panic text) other status a b = refl

  -- a process at a take, after an action of another
  module _ (by other : ℕ) (shared : SharedState V) (home : Option (Option P)) (q : P) (differ : other ≢ by) where
    still_idle : (made : Action V) → ((to method : ℕ) (values : V) → made ≡ Send to method values → other ≢ to) → AtHome m shared other (Some Idle) home q → AtHome m (after_action made by shared) other (Some Idle) home q
    still_idle made apart h = (h.0, h.1, ap has_some (unread_kept made by other shared differ apart) ∙ h.2)

    idle_after : (made : Action V) → AtHome m shared other (Some Idle) home q → AtHome m (after_action made by shared) other (Some (woken_one made other Idle)) home q
    idle_after (Send to method values) h =
        elim (cases_eq other to) [
          | inl same ↦ subst (λ (b : Bool). AtHome m (after_action (Send to method values) by shared) other (Some (cond b Ready Idle)) home q) (sym (eq-eqb other to same)) h.0
          | inr apart ↦ subst (λ (b : Bool). AtHome m (after_action (Send to method values) by shared) other (Some (cond b Ready Idle)) home q) (sym (ne_eqb other to apart)) (still_idle (Send to method values) (λ t k v e same. let is : t ≡ to = cc in apart (same ∙ is)) h)
        ]
    idle_after Take h = still_idle Take (λ t k v e same. cc) h
    idle_after (Print text) h = still_idle (Print text) (λ t k v e same. cc) h
    idle_after (Spawn kind fields) h = still_idle (Spawn kind fields) (λ t k v e same. cc) h
    idle_after NewFuture h = still_idle NewFuture (λ t k v e same. cc) h
    idle_after (SetFuture f value) h = still_idle (SetFuture f value) (λ t k v e same. cc) h
    idle_after (BreakFuture f) h = still_idle (BreakFuture f) (λ t k v e same. cc) h
    idle_after (GetFuture f) h = still_idle (GetFuture f) (λ t k v e same. cc) h
    idle_after (Panic text) h = still_idle (Panic text) (λ t k v e same. cc) h

    -- a process at a get
    module _ (g : ℕ) where
      still_held : (made : Action V) → ((f : ℕ) (value : V) → made ≡ SetFuture f value → g ≢ f) → ((f : ℕ) → made ≡ BreakFuture f → g ≢ f) → AtHome m shared other (Some (Held g)) home q → AtHome m (after_action made by shared) other (Some (Held g)) home q
      still_held made a b h = (h.0, h.1, future_kept made by g shared a b h.2)

      held_after : (made : Action V) → AtHome m shared other (Some (Held g)) home q → AtHome m (after_action made by shared) other (Some (woken_one made other (Held g))) home q
      held_after (SetFuture f value) h =
          elim (cases_eq g f) [
            | inl same ↦ subst (λ (b : Bool). AtHome m (after_action (SetFuture f value) by shared) other (Some (cond b Ready (Held g))) home q) (sym (eq-eqb g f same)) h.0
            | inr apart ↦ subst (λ (b : Bool). AtHome m (after_action (SetFuture f value) by shared) other (Some (cond b Ready (Held g))) home q) (sym (ne_eqb g f apart)) (still_held (SetFuture f value) (λ t v e same. let is : t ≡ f = cc in apart (same ∙ is)) (λ t e same. cc) h)
          ]
      held_after (BreakFuture f) h =
          elim (cases_eq g f) [
            | inl same ↦ subst (λ (b : Bool). AtHome m (after_action {V = V} (BreakFuture f) by shared) other (Some (cond b Ready (Held g))) home q) (sym (eq-eqb g f same)) h.0
            | inr apart ↦ subst (λ (b : Bool). AtHome m (after_action {V = V} (BreakFuture f) by shared) other (Some (cond b Ready (Held g))) home q) (sym (ne_eqb g f apart)) (still_held (BreakFuture f) (λ t v e same. cc) (λ t e same. let is : t ≡ f = cc in apart (same ∙ is)) h)
          ]
      held_after (Send to method values) h = subst (λ (s : Status). AtHome m (after_action (Send to method values) by shared) other (Some s) home q) (sym (same_either (eqb other to) (Held g) (Held g) refl)) (still_held (Send to method values) (λ t v e same. cc) (λ t e same. cc) h)
      held_after Take h = still_held Take (λ t v e same. cc) (λ t e same. cc) h
      held_after (Print text) h = still_held (Print text) (λ t v e same. cc) (λ t e same. cc) h
      held_after (Spawn kind fields) h = still_held (Spawn kind fields) (λ t v e same. cc) (λ t e same. cc) h
      held_after NewFuture h = still_held NewFuture (λ t v e same. cc) (λ t e same. cc) h
      held_after (GetFuture f) h = still_held (GetFuture f) (λ t v e same. cc) (λ t e same. cc) h
      held_after (Panic text) h = still_held (Panic text) (λ t v e same. cc) (λ t e same. cc) h

    -- each other process after an action: where it was, or awake
    calm_after : (made : Action V) (status : Status) → woken_from_take status ≡ status → ((f : ℕ) → woken_from_get f status ≡ status) → AtHome m (after_action made by shared) other (Some status) home q → AtHome m (after_action made by shared) other (Some (woken_one made other status)) home q
    calm_after made status a b h = subst (λ (s : Status). AtHome m (after_action made by shared) other (Some s) home q) (sym (woken_calm made other status a b)) h

    home_after : (made : Action V) (status : Status) → AtHome m shared other (Some status) home q → AtHome m (after_action made by shared) other (Some (woken_one made other status)) home q
    home_after made Ready h = calm_after made Ready refl (λ f. refl) h
    home_after made (Out seat ran) h = calm_after made (Out seat ran) refl (λ f. refl) h
    home_after made Idle h = idle_after made h
    home_after made (Held g) h = held_after g made h
    home_after made Stopped h = calm_after made Stopped refl (λ f. refl) h

  -- the lists of a state and of its run
  abbrev pub EachHome : SharedState V → List P → List Status → List (Option P) → Type 0
  EachHome shared ps ss hs = (process : ℕ) (q : P) → numbered ps process ≡ Some q → AtHome m shared process (numbered ss process) (numbered hs process) q

  -- one process is replaced in each of the three
  each_set : (shared : SharedState V) (ps : List P) (ss : List Status) (hs : List (Option P)) (process : ℕ) (p q : P) (s s' : Status) (h h' : Option P) → EachHome shared ps ss hs → numbered ps process ≡ Some p → numbered ss process ≡ Some s → numbered hs process ≡ Some h → AtHome m shared process (Some s') (Some h') q → EachHome shared (set_numbered ps process q) (set_numbered ss process s') (set_numbered hs process h')
  each_set shared ps ss hs process p q s s' h h' each at_p at_s at_h new other x e =
      elim (cases_eq other process) [
        | inl same ↦ (
            let is : x ≡ q = numbered-set_found ps process q x (subst (λ (i : ℕ). numbered (set_numbered ps process q) i ≡ Some x) same e) in
            let there : numbered (set_numbered ss process s') other ≡ Some s' = ap (λ (i : ℕ). numbered (set_numbered ss process s') i) same ∙ numbered-set_same ss process s' s at_s in
            let home : numbered (set_numbered hs process h') other ≡ Some h' = ap (λ (i : ℕ). numbered (set_numbered hs process h') i) same ∙ numbered-set_same hs process h' h at_h in
            subst (λ (o : Option Status). AtHome m shared other o (numbered (set_numbered hs process h') other) x) (sym there)
            (subst (λ (o : Option (Option P)). AtHome m shared other (Some s') o x) (sym home)
            (subst (λ (y : P). AtHome m shared other (Some s') (Some h') y) (sym is) (subst (λ (i : ℕ). AtHome m shared i (Some s') (Some h') q) (sym same) new))))
        | inr differ ↦ (
            subst (λ (o : Option Status). AtHome m shared other o (numbered (set_numbered hs process h') other) x) (sym (numbered-set_other ss process other s' differ))
            (subst (λ (o : Option (Option P)). AtHome m shared other (numbered ss other) o x) (sym (numbered-set_other hs process other h' differ))
            (each other x (sym (numbered-set_other ps process other q differ) ∙ e))))
      ]

  home_kept : (made : Action V) (hs : List (Option P)) (other : ℕ) (h : Option P) → numbered hs other ≡ Some h → numbered (home_started m made hs) other ≡ Some h
  home_kept (Spawn kind fields) hs other h e = numbered-append hs (Some (m.begun (length hs + 1) kind fields) ∷ []) other h e
  home_kept Take hs other h e = e
  home_kept (Print text) hs other h e = e
  home_kept (Send to method values) hs other h e = e
  home_kept NewFuture hs other h e = e
  home_kept (SetFuture f value) hs other h e = e
  home_kept (BreakFuture f) hs other h e = e
  home_kept (GetFuture f) hs other h e = e
  home_kept (Panic text) hs other h e = e

  -- the processes that are there stand so after an action, too
  at_all : (made : Action V) (by : ℕ) (shared : SharedState V) (ps : List P) (ss : List Status) (hs : List (Option P)) (other : ℕ) (q : P) → other ≢ by → EachHome shared ps ss hs → numbered ps other ≡ Some q → AtHome m (after_action made by shared) other (numbered (woken made ss) other) (numbered (home_started m made hs) other) q
  at_all made by shared ps ss hs other q differ each e =
      let h = each other q e in
      let s = found_status shared other (numbered ss other) (numbered hs other) q h in
      let at : AtHome m shared other (Some s.0) (numbered hs other) q = subst (λ (o : Option Status). AtHome m shared other o (numbered hs other) q) s.1 h in
      let x = found_home shared other s.0 (numbered hs other) q at in
      let after = home_after by other shared (numbered hs other) q differ made s.0 at in
      subst (λ (o : Option Status). AtHome m (after_action made by shared) other o (numbered (home_started m made hs) other) q) (sym (woken_each made ss other s.0 s.1))
      (subst (λ (o : Option (Option P)). AtHome m (after_action made by shared) other (Some (woken_one made other s.0)) o q) (x.1 ∙ sym (home_kept made hs other x.0 x.1)) after)

  -- the one that acted is home, ready or at rest
  status_calm : (made : Action V) (by : ℕ) → woken_one made by (status_after made) ≡ status_after made
  status_calm (Send to method values) by = same_either (eqb by to) Ready Ready refl
  status_calm Take by = refl
  status_calm (Print text) by = refl
  status_calm (Spawn kind fields) by = refl
  status_calm NewFuture by = refl
  status_calm (SetFuture f value) by = refl
  status_calm (BreakFuture f) by = refl
  status_calm (GetFuture f) by = refl
  status_calm (Panic text) by = refl

  at_after : (made : Action V) (by : ℕ) (shared : SharedState V) (after : P) → AtHome m shared by (Some (status_after made)) (Some (Some after)) after
  at_after (Panic text) by shared after = (Some after, refl, like_refl after)
  at_after Take by shared after = refl
  at_after (Print text) by shared after = refl
  at_after (Spawn kind fields) by shared after = refl
  at_after (Send to method values) by shared after = refl
  at_after NewFuture by shared after = refl
  at_after (SetFuture f value) by shared after = refl
  at_after (BreakFuture f) by shared after = refl
  at_after (GetFuture f) by shared after = refl

  module _ (made : Action V) (by : ℕ) (shared : SharedState V) (ps : List P) (ss : List Status) (hs : List (Option P)) (p after : P) (s : Status) (h : Option P) (each : EachHome shared ps ss hs) (at_p : numbered ps by ≡ Some p) (at_s : numbered ss by ≡ Some s) (at_h : numbered hs by ≡ Some h) where
    abbrev ps' : List P
    ps' = set_numbered ps by after

    abbrev ss' : List Status
    ss' = set_numbered ss by (status_after made)

    abbrev hs' : List (Option P)
    hs' = set_numbered hs by (Some after)

    at_old : (other : ℕ) (q : P) → numbered ps' other ≡ Some q → AtHome m (after_action made by shared) other (numbered (woken made ss') other) (numbered (home_started m made hs') other) q
    at_old other q e =
        elim (cases_eq other by) [
          | inl same ↦ (
              let is : q ≡ after = numbered-set_found ps by after q (subst (λ (i : ℕ). numbered ps' i ≡ Some q) same e) in
              let there : numbered (woken made ss') by ≡ Some (status_after made) = woken_each made ss' by (status_after made) (numbered-set_same ss by (status_after made) s at_s) ∙ ap (λ (x : Status). Some x) (status_calm made by) in
              let home : numbered (home_started m made hs') by ≡ Some (Some after) = home_kept made hs' by (Some after) (numbered-set_same hs by (Some after) h at_h) in
              subst (λ (i : ℕ). AtHome m (after_action made by shared) i (numbered (woken made ss') i) (numbered (home_started m made hs') i) q) (sym same)
              (subst (λ (o : Option Status). AtHome m (after_action made by shared) by o (numbered (home_started m made hs') by) q) (sym there)
              (subst (λ (o : Option (Option P)). AtHome m (after_action made by shared) by (Some (status_after made)) o q) (sym home)
              (subst (λ (y : P). AtHome m (after_action made by shared) by (Some (status_after made)) (Some (Some after)) y) (sym is) (at_after made by (after_action made by shared) after)))))
          | inr differ ↦ (
              at_all made by shared ps' ss' hs' other q differ (each_set shared ps ss hs by p after s (status_after made) h (Some after) each at_p at_s at_h (at_after made by shared after)) e)
        ]

  -- all processes after an action
  at_acted : (made : Action V) (by : ℕ) (shared : SharedState V) (ps : List P) (ss : List Status) (hs : List (Option P)) (p after : P) (s : Status) (h : Option P) → EachHome shared ps ss hs → numbered ps by ≡ Some p → numbered ss by ≡ Some s → numbered hs by ≡ Some h → length hs ≡ length ps → length ss ≡ length ps → EachHome (after_action made by shared) (with_started m made (set_numbered ps by after)) (woken made (set_numbered ss by (status_after made))) (home_started m made (set_numbered hs by (Some after)))
  at_acted (Spawn kind fields) by shared ps ss hs p after s h each at_p at_s at_h level_h level_s other q e =
      let made : Action V = Spawn kind fields in
      let ps' : List P = set_numbered ps by after in
      let ss' : List Status = set_numbered ss by Ready in
      let hs' : List (Option P) = set_numbered hs by (Some after) in
      let count_h : length hs' ≡ length ps' = length-set_numbered hs by (Some after) ∙ (level_h ∙ sym (length-set_numbered ps by after)) in
      let count_s : length ss' ≡ length ps' = length-set_numbered ss by Ready ∙ (level_s ∙ sym (length-set_numbered ps by after)) in
      elim (numbered-append_cases ps' (m.begun (length ps' + 1) kind fields) q other e) [
        | inl old ↦ at_old made by shared ps ss hs p after s h each at_p at_s at_h other q old
        | inr new ↦ (
            let there : numbered (ss' ++ Ready ∷ []) other ≡ Some Ready = ap (λ (i : ℕ). numbered (ss' ++ Ready ∷ []) i) (new.0 ∙ ap (λ (n : ℕ). n + 1) (sym count_s)) ∙ numbered-append_last ss' Ready in
            let home : numbered (hs' ++ Some (m.begun (length hs' + 1) kind fields) ∷ []) other ≡ Some (Some q) = ap (λ (i : ℕ). numbered (hs' ++ Some (m.begun (length hs' + 1) kind fields) ∷ []) i) (new.0 ∙ ap (λ (n : ℕ). n + 1) (sym count_h)) ∙ (numbered-append_last hs' (Some (m.begun (length hs' + 1) kind fields)) ∙ ap (λ (x : P). Some (Some x)) (ap (λ (n : ℕ). m.begun (n + 1) kind fields) count_h ∙ new.1)) in
            subst (λ (o : Option Status). AtHome m (after_action made by shared) other o (numbered (home_started m made hs') other) q) (sym there) home)
      ]
  at_acted Take by shared ps ss hs p after s h each at_p at_s at_h level_h level_s other q e = at_old Take by shared ps ss hs p after s h each at_p at_s at_h other q e
  at_acted (Print text) by shared ps ss hs p after s h each at_p at_s at_h level_h level_s other q e = at_old (Print text) by shared ps ss hs p after s h each at_p at_s at_h other q e
  at_acted (Send to method values) by shared ps ss hs p after s h each at_p at_s at_h level_h level_s other q e = at_old (Send to method values) by shared ps ss hs p after s h each at_p at_s at_h other q e
  at_acted NewFuture by shared ps ss hs p after s h each at_p at_s at_h level_h level_s other q e = at_old NewFuture by shared ps ss hs p after s h each at_p at_s at_h other q e
  at_acted (SetFuture f value) by shared ps ss hs p after s h each at_p at_s at_h level_h level_s other q e = at_old (SetFuture f value) by shared ps ss hs p after s h each at_p at_s at_h other q e
  at_acted (BreakFuture f) by shared ps ss hs p after s h each at_p at_s at_h level_h level_s other q e = at_old (BreakFuture f) by shared ps ss hs p after s h each at_p at_s at_h other q e
  at_acted (GetFuture f) by shared ps ss hs p after s h each at_p at_s at_h level_h level_s other q e = at_old (GetFuture f) by shared ps ss hs p after s h each at_p at_s at_h other q e
  at_acted (Panic text) by shared ps ss hs p after s h each at_p at_s at_h level_h level_s other q e = at_old (Panic text) by shared ps ss hs p after s h each at_p at_s at_h other q e

  panic_halts : (halt : Option Halt) (process : ℕ) → panic_in halt ≡ Some process → halt ≡ Some (Panicked process)
  panic_halts None process e = absurd (none_some process e)
  panic_halts (Some (Panicked other)) process e = ap (λ (i : ℕ). Some (Panicked i)) (some_is other process e)
  panic_halts (Some SinkFailed) process e = absurd (none_some process e)
  panic_halts (Some (Events other)) process e = absurd (none_some process e)
  panic_halts (Some (Local other steps)) process e = absurd (none_some process e)

  panic_of_halt : (made : Action V) (process : ℕ) → panic_in (halt_by made process) ≡ panicked (panic_by made process)
  panic_of_halt (Panic text) process = refl
  panic_of_halt Take process = refl
  panic_of_halt (Print text) process = refl
  panic_of_halt (Spawn kind fields) process = refl
  panic_of_halt (Send to method values) process = refl
  panic_of_halt NewFuture process = refl
  panic_of_halt (SetFuture f value) process = refl
  panic_of_halt (BreakFuture f) process = refl
  panic_of_halt (GetFuture f) process = refl

  rests_by : (made : Action V) (process other : ℕ) (ss : List Status) (s : Status) → numbered ss process ≡ Some s → halt_by made process ≡ Some (Panicked other) → numbered (woken made (set_numbered ss process (status_after made))) other ≡ Some Stopped
  rests_by (Panic text) process other ss s at e = let is : process ≡ other = cc in ap (λ (i : ℕ). numbered (set_numbered ss process Stopped) i) (sym is) ∙ numbered-set_same ss process Stopped s at
  rests_by Take process other ss s at e = absurd (cc)
  rests_by (Print text) process other ss s at e = absurd (cc)
  rests_by (Spawn kind fields) process other ss s at e = absurd (cc)
  rests_by (Send to method values) process other ss s at e = absurd (cc)
  rests_by NewFuture process other ss s at e = absurd (cc)
  rests_by (SetFuture f value) process other ss s at e = absurd (cc)
  rests_by (BreakFuture f) process other ss s at e = absurd (cc)
  rests_by (GetFuture f) process other ss s at e = absurd (cc)

  kept_by : (made : Action V) (process other : ℕ) (hs : List (Option P)) (ps : List P) (left x : P) (h : Option P) → numbered hs process ≡ Some h → halt_by made process ≡ Some (Panicked other) → numbered (with_started m made (set_numbered ps process left)) other ≡ Some x → numbered (home_started m made (set_numbered hs process (Some left))) other ≡ Some (Some x)
  kept_by (Panic text) process other hs ps left x h at e found =
      let is : process ≡ other = cc in
      let same : x ≡ left = numbered-set_found ps process left x (subst (λ (i : ℕ). numbered (set_numbered ps process left) i ≡ Some x) (sym is) found) in
      ap (λ (i : ℕ). numbered (set_numbered hs process (Some left)) i) (sym is) ∙ (numbered-set_same hs process (Some left) h at ∙ ap (λ (y : P). Some (Some y)) (sym same))
  kept_by Take process other hs ps left x h at e found = absurd (cc)
  kept_by (Print text) process other hs ps left x h at e found = absurd (cc)
  kept_by (Spawn kind fields) process other hs ps left x h at e found = absurd (cc)
  kept_by (Send to method values) process other hs ps left x h at e found = absurd (cc)
  kept_by NewFuture process other hs ps left x h at e found = absurd (cc)
  kept_by (SetFuture f value) process other hs ps left x h at e found = absurd (cc)
  kept_by (BreakFuture f) process other hs ps left x h at e found = absurd (cc)
  kept_by (GetFuture f) process other hs ps left x h at e found = absurd (cc)

  level_homes : (made : Action V) (hs : List (Option P)) (ps : List P) → length hs ≡ length ps → length (home_started m made hs) ≡ length (with_started m made ps)
  level_homes (Spawn kind fields) hs ps e = length-append hs (Some (m.begun (length hs + 1) kind fields) ∷ []) ∙ (ap (λ (n : ℕ). n + 1) e ∙ sym (length-append ps (m.begun (length ps + 1) kind fields ∷ [])))
  level_homes Take hs ps e = e
  level_homes (Print text) hs ps e = e
  level_homes (Send to method values) hs ps e = e
  level_homes NewFuture hs ps e = e
  level_homes (SetFuture f value) hs ps e = e
  level_homes (BreakFuture f) hs ps e = e
  level_homes (GetFuture f) hs ps e = e
  level_homes (Panic text) hs ps e = e

  length-woken_at : (o : Option Status) (ss : List Status) (to : ℕ) → length (woken_at o ss to) ≡ length ss
  length-woken_at None ss to = refl
  length-woken_at (Some s) ss to = length-set_numbered ss to (woken_from_take s)

  level_statuses : (made : Action V) (ss : List Status) (ps : List P) → length ss ≡ length ps → length (woken made ss) ≡ length (with_started m made ps)
  level_statuses (Spawn kind fields) ss ps e = length-append ss (Ready ∷ []) ∙ (ap (λ (n : ℕ). n + 1) e ∙ sym (length-append ps (m.begun (length ps + 1) kind fields ∷ [])))
  level_statuses (Send to method values) ss ps e = length-woken_at (numbered ss to) ss to ∙ e
  level_statuses (SetFuture f value) ss ps e = length-map ss (woken_from_get f) ∙ e
  level_statuses (BreakFuture f) ss ps e = length-map ss (woken_from_get f) ∙ e
  level_statuses Take ss ps e = e
  level_statuses (Print text) ss ps e = e
  level_statuses NewFuture ss ps e = e
  level_statuses (GetFuture f) ss ps e = e
  level_statuses (Panic text) ss ps e = e

  not_binding : (wish : Action V) (process : ℕ) (shared : SharedState V) → is_enabled wish process shared ≡ false → is_binding wish ≡ false
  not_binding Take process shared e = refl
  not_binding (GetFuture f) process shared e = refl
  not_binding NewFuture process shared e = refl
  not_binding (Print text) process shared e = absurd (cc)
  not_binding (Spawn kind fields) process shared e = absurd (cc)
  not_binding (Send to method values) process shared e = absurd (cc)
  not_binding (SetFuture f value) process shared e = absurd (cc)
  not_binding (BreakFuture f) process shared e = absurd (cc)
  not_binding (Panic text) process shared e = absurd (cc)

  waits_home : (wish : Action V) (process : ℕ) (shared : SharedState V) (q : P) → is_enabled wish process shared ≡ false → m.step q ≡ Comes wish q → AtHome m shared process (Some (waits_at wish)) (Some (Some q)) q
  waits_home Take process shared q e comes = (refl, comes, e)
  waits_home (GetFuture f) process shared q e comes = (refl, comes, e)
  waits_home NewFuture process shared q e comes = absurd (cc)
  waits_home (Print text) process shared q e comes = absurd (cc)
  waits_home (Spawn kind fields) process shared q e comes = absurd (cc)
  waits_home (Send to method values) process shared q e comes = absurd (cc)
  waits_home (SetFuture f value) process shared q e comes = absurd (cc)
  waits_home (BreakFuture f) process shared q e comes = absurd (cc)
  waits_home (Panic text) process shared q e comes = absurd (cc)

  text_of_made : (made : Action V) (process : ℕ) → text_by made ≡ text_in (panic_by made process)
  text_of_made (Panic text) process = refl
  text_of_made Take process = refl
  text_of_made (Print text) process = refl
  text_of_made (Spawn kind fields) process = refl
  text_of_made (Send to method values) process = refl
  text_of_made NewFuture process = refl
  text_of_made (SetFuture f value) process = refl
  text_of_made (BreakFuture f) process = refl
  text_of_made (GetFuture f) process = refl

  none_panicked : (panic : Option (ℕ × List ℕ)) → panicked panic ≡ None → panic ≡ None
  none_panicked None e = refl
  none_panicked (Some panic) e = absurd (cc)

  -- an action ends a run by a panic alone
  ended_made : (limits : List ℕ) (first : Run P V) (journal : List ℕ) (shared : SharedState V) (made : Action V) (process : ℕ) → EndedBy m limits first journal shared (halt_by made process)
  ended_made limits first journal shared (Panic text) process = tt
  ended_made limits first journal shared Take process = tt
  ended_made limits first journal shared (Print text) process = tt
  ended_made limits first journal shared (Spawn kind fields) process = tt
  ended_made limits first journal shared (Send to method values) process = tt
  ended_made limits first journal shared NewFuture process = tt
  ended_made limits first journal shared (SetFuture f value) process = tt
  ended_made limits first journal shared (BreakFuture f) process = tt
  ended_made limits first journal shared (GetFuture f) process = tt

  -- no process made more steps than so many
  abbrev Counts : ℕ → List P → Type 0
  Counts most ps = (process : ℕ) (q : P) → numbered ps process ≡ Some q → m.ran q ≤ most

  counts_set : (most : ℕ) (ps : List P) (process : ℕ) (q : P) → m.ran q ≤ most → Counts most ps → Counts most (set_numbered ps process q)
  counts_set most ps process q low counts other x e =
      elim (cases_eq other process) [
        | inl same ↦ (
            let is : x ≡ q = numbered-set_found ps process q x (subst (λ (i : ℕ). numbered (set_numbered ps process q) i ≡ Some x) same e) in
            subst (λ (y : P). m.ran y ≤ most) (sym is) low)
        | inr differ ↦ counts other x (sym (numbered-set_other ps process other q differ) ∙ e)
      ]

  counts_started : IsCounted m → (most : ℕ) (made : Action V) (ps : List P) → Counts most ps → Counts most (with_started m made ps)
  counts_started counted most (Spawn kind fields) ps counts other x e =
      elim (numbered-append_cases ps (m.begun (length ps + 1) kind fields) x other e) [
        | inl old ↦ counts other x old
        | inr new ↦ (
            let none : m.ran (m.begun (length ps + 1) kind fields) ≡ 0 = counted.begins (length ps + 1) kind fields in
            let low : m.ran (m.begun (length ps + 1) kind fields) ≤ most = omega (arith, none) in
            subst (λ (y : P). m.ran y ≤ most) new.1 low)
      ]
  counts_started counted most Take ps counts other x e = counts other x e
  counts_started counted most (Print text) ps counts other x e = counts other x e
  counts_started counted most (Send to method values) ps counts other x e = counts other x e
  counts_started counted most NewFuture ps counts other x e = counts other x e
  counts_started counted most (SetFuture f value) ps counts other x e = counts other x e
  counts_started counted most (BreakFuture f) ps counts other x e = counts other x e
  counts_started counted most (GetFuture f) ps counts other x e = counts other x e
  counts_started counted most (Panic text) ps counts other x e = counts other x e

  -- a world with something else at a number, and another end
  abbrev pub put_as : ℕ → Option P → Status → Option Halt → State P V → State P V
  put_as process home status halt state =
      record state {
        homes = set_numbered state.homes process home;
        statuses = set_numbered state.statuses process status;
        halt = halt;
      }

  module _ (limits : List ℕ) (first : Run P V) where
    abbrev pub Stands : State P V → Type 0
    Stands state = StandsFor m limits first state

    calm : (state : State P V) (s : Stands state) (process : ℕ) (status : Status) → numbered state.statuses process ≡ Some status → status ≢ Stopped → panicked s.run.panic ≡ Some process → ⊥
    calm state s process status at moves e =
        let rest = s.rests process (panic_halts state.halt process (s.panic ∙ e)) in
        moves (some_is status Stopped (sym at ∙ rest))

    pub at_run : (state : State P V) (s : Stands state) (process : ℕ) (status : Status) → numbered state.statuses process ≡ Some status → (p : P) × (numbered s.run.processes process ≡ Some p)
    at_run state s process status at = numbered_level state.statuses s.run.processes process status s.statuses at

    -- the run with the process that a lent one became
    pub ahead_lent : (state : State P V) (s : Stands state) (process seat ran : ℕ) (q : P) → numbered state.statuses process ≡ Some (Out seat ran) → StandsAt m limits first state.journal process q → Ahead m limits first state.journal (with_process process q s.run)
    ahead_lent state s process seat ran q at stood =
        ahead_put m limits first state.journal s.run process q s.ahead (calm state s process (Out seat ran) at (λ e. cc)) (stands_once m limits first state.journal process q s.ahead.turned stood s.ahead.turns)

    -- one process is put back, with its status
    stands_put : (state : State P V) (s : Stands state) (process : ℕ) (status s' : Status) (q : P) (h' : Option P) (halt : Option Halt) → numbered state.statuses process ≡ Some status → status ≢ Stopped → Led m s.ahead.turned.processes process q → AtHome m state.shared process (Some s') (Some h') q → panic_in halt ≡ panic_in state.halt → ((i : ℕ) → halt ≡ Some (Panicked i) → state.halt ≡ Some (Panicked i)) → m.ran q ≤ limit_of limit.Local limits → EndedBy m limits first state.journal state.shared halt → Stands (put_as process h' s' halt state)
    stands_put state s process status s' q h' halt at moves led home panic same low ended =
        let p = at_run state s process status at in
        let stood : AtHome m state.shared process (Some status) (numbered state.homes process) p.0 = subst (λ (o : Option Status). AtHome m state.shared process o (numbered state.homes process) p.0) at (s.each process p.0 p.1) in
        let h = found_home state.shared process status (numbered state.homes process) p.0 stood in
        record {
          run = with_process process q s.run;
          ahead = ahead_put m limits first state.journal s.run process q s.ahead (calm state s process status at moves) led;
          shared = s.shared;
          panic = panic ∙ s.panic;
          text = s.text;
          homes = length-set_numbered state.homes process h' ∙ (s.homes ∙ sym (length-set_numbered s.run.processes process q));
          statuses = length-set_numbered state.statuses process s' ∙ (s.statuses ∙ sym (length-set_numbered s.run.processes process q));
          counts = counts_set (limit_of limit.Local limits) s.run.processes process q low s.counts;
          ended = ended;
          rests = λ i e. numbered-set_other state.statuses process i s' (λ is. moves (some_is status Stopped (sym at ∙ (ap (λ (k : ℕ). numbered state.statuses k) (sym is) ∙ s.rests i (same i e))))) ∙ s.rests i (same i e);
          kept = λ i x e found.
              let differ : i ≢ process = λ is. moves (some_is status Stopped (sym at ∙ (ap (λ (k : ℕ). numbered state.statuses k) (sym is) ∙ s.rests i (same i e)))) in
              numbered-set_other state.homes process i h' differ ∙ s.kept i x (same i e) (sym (numbered-set_other s.run.processes process i q differ) ∙ found);
          each = each_set state.shared s.run.processes state.statuses state.homes process p.0 q status s' h.0 h' s.each p.1 at h.1 home;
        }

    -- a ready process is lent, and stands as the journal leaves it and its steps
    pub checks_out : (state : State P V) (process seat : ℕ) (p : P) → Stands state → numbered state.statuses process ≡ Some Ready → numbered state.homes process ≡ Some (Some p) → Stands (checked_out process seat (m.ran p) state) × StandsAt m limits first state.journal process p × (m.ran p ≤ limit_of limit.Local limits)
    checks_out state process seat p s at home =
        let q = at_run state s process Ready at in
        let stood : AtHome m state.shared process (Some Ready) (numbered state.homes process) q.0 = subst (λ (o : Option Status). AtHome m state.shared process o (numbered state.homes process) q.0) at (s.each process q.0 q.1) in
        let is : q.0 ≡ p = some_is q.0 p (some_is (Some q.0) (Some p) (sym stood ∙ home)) in
        let led = subst (λ (x : P). Led m s.ahead.turned.processes process x) is (s.ahead.each process q.0 q.1) in
        let low : m.ran p ≤ limit_of limit.Local limits = subst (λ (x : P). m.ran x ≤ limit_of limit.Local limits) is (s.counts process q.0 q.1) in
        (stands_put state s process Ready (Out seat (m.ran p)) p None state.halt at (λ e. cc) led (refl, refl) refl (λ i e. e) low s.ended, record { turned = s.ahead.turned; turns = s.ahead.turns; led = led }, low)

    module _ (counted : IsCounted m) where
      -- what came back is like what stood there
      like_before : (before p : P) (came : Came V) → ComesFrom m limits before came p → IsLike m p before
      like_before before p Went from = subst (λ (x : P). IsLike m x before) (sym from) (like_refl before)
      like_before before p GivesUp from = from
      like_before before p (Wants wish) from = counted.waits before p wish from
      like_before before p (Spent steps) from = subst (λ (x : P). IsLike m x before) (sym from.0) (like_refl before)

      module _ (state : State P V) (s : Stands state) (process seat ran : ℕ) (at : numbered state.statuses process ≡ Some (Out seat ran)) (before p : P) (stood : StandsAt m limits first state.journal process before) (low : m.ran before ≤ limit_of limit.Local limits) where
        led_back : Led m s.ahead.turned.processes process before
        led_back = stands_once m limits first state.journal process before s.ahead.turned stood s.ahead.turns

        stopped_as : (kept : Option P) (halt : Option Halt) → IfSome kept (λ x. IsLike m x before) → panic_in halt ≡ panic_in state.halt → ((i : ℕ) → halt ≡ Some (Panicked i) → state.halt ≡ Some (Panicked i)) → EndedBy m limits first state.journal state.shared halt → Stands (put_as process kept Stopped halt state)
        stopped_as kept halt like panic same ended = stands_put state s process (Out seat ran) Stopped before kept halt at (λ e. cc) led_back (kept, refl, like) panic same low ended

        acts_made : (wish : Action V) (left : P) (new : State P V) → state.halt ≡ None → m.step before ≡ Comes wish p → is_enabled wish process state.shared ≡ true → m.left (as_made wish state.shared limits) process state.shared p ≡ Some left → new ≡ acted m (as_made wish state.shared limits) process left state → Stands new
        acts_made wish left new halt comes enabled replied result =
            let run : Run P V = s.run in
            let q = at_run state s process (Out seat ran) at in
            let made : Action V = as_made wish state.shared limits in
            let stood_home : AtHome m state.shared process (Some (Out seat ran)) (numbered state.homes process) q.0 = subst (λ (o : Option Status). AtHome m state.shared process o (numbered state.homes process) q.0) at (s.each process q.0 q.1) in
            let quiet : run.panic ≡ None = none_panicked run.panic (sym s.panic ∙ ap panic_in halt) in
            let ahead = ahead_acts m limits first counted state.journal run process before p left wish q.0 s.ahead quiet q.1 led_back comes (sym (ap (λ (x : SharedState V). is_enabled wish process x) s.shared) ∙ enabled) (sym (ap (λ (x : SharedState V). m.left (as_made wish x limits) process x p) s.shared) ∙ replied) in
            let none : m.ran left ≡ 0 = counted.leaves made process state.shared p left replied in
            let kept : m.ran left ≤ limit_of limit.Local limits = omega (arith, none) in
            subst Stands (sym result) (record {
              run = after_made m made process left run;
              ahead = subst (λ (x : SharedState V). Ahead m limits first (state.journal ++ process ∷ []) (after_made m (as_made wish x limits) process left run)) (sym s.shared) ahead;
              shared = ap (λ (x : SharedState V). after_action made process x) s.shared;
              panic = panic_of_halt made process;
              text = text_of_made made process;
              homes = level_homes made (set_numbered state.homes process (Some left)) (set_numbered run.processes process left) (length-set_numbered state.homes process (Some left) ∙ (s.homes ∙ sym (length-set_numbered run.processes process left)));
              statuses = level_statuses made (set_numbered state.statuses process (status_after made)) (set_numbered run.processes process left) (length-set_numbered state.statuses process (status_after made) ∙ (s.statuses ∙ sym (length-set_numbered run.processes process left)));
              counts = counts_started counted (limit_of limit.Local limits) made (set_numbered run.processes process left) (counts_set (limit_of limit.Local limits) run.processes process left kept s.counts);
              ended = ended_made limits first (state.journal ++ process ∷ []) (after_action made process state.shared) made process;
              rests = λ i e. rests_by made process i state.statuses (Out seat ran) at e;
              kept = λ i x e found. kept_by made process i state.homes run.processes left x None stood_home.0 e found;
              each = at_acted made process state.shared run.processes state.statuses state.homes q.0 left (Out seat ran) None s.each q.1 at stood_home.0 s.homes s.statuses;
            })

        makes_by : (wish : Action V) (o : Option P) (answer : Answer) (new : State P V) → m.left (as_made wish state.shared limits) process state.shared p ≡ o → state.halt ≡ None → m.step before ≡ Comes wish p → is_enabled wish process state.shared ≡ true → Makes m (as_made wish state.shared limits) process o state answer new → Stands new
        makes_by wish None answer new replied halt comes enabled makes = subst Stands (sym makes.1) (stopped_as None state.halt tt refl (λ i e. e) s.ended)
        makes_by wish (Some left) answer new replied halt comes enabled makes = acts_made wish left new halt comes enabled replied makes.1

        acts_by : (wish : Action V) (enabled full : Bool) (answer : Answer) (new : State P V) → state.halt ≡ None → m.step before ≡ Comes wish p → is_enabled wish process state.shared ≡ enabled → nat_le (limit_of limit.Events limits) (length state.journal) ≡ full → ActsBy m limits process wish p state enabled full answer new → Stands new
        acts_by wish false full answer new halt comes enabled room acts =
            let same : p ≡ before = counted.stays before p wish comes (not_binding wish process state.shared enabled) in
            let there : m.step p ≡ Comes wish p = subst (λ (x : P). m.step x ≡ Comes wish p) (sym same) comes in
            let led : Led m s.ahead.turned.processes process p = subst (λ (x : P). Led m s.ahead.turned.processes process x) (sym same) led_back in
            subst Stands (sym acts.1) (stands_put state s process (Out seat ran) (waits_at wish) p (Some p) state.halt at (λ e. cc) led (waits_home wish process state.shared p enabled there) refl (λ i e. e) (subst (λ (x : P). m.ran x ≤ limit_of limit.Local limits) (sym same) low) s.ended)
        acts_by wish true true answer new halt comes enabled room acts =
            let can : CanAct m limits first state.journal state.shared process = record { before = before; stood = stood; wish = wish; waiting = p; comes = comes; enabled = enabled } in
            subst Stands (sym acts.1) (stopped_as (Some p) (Some (Events process)) (counted.waits before p wish comes) (sym (ap panic_in halt)) (λ i e. cc) (le_of room, can))
        acts_by wish true false answer new halt comes enabled room acts = makes_by wish (m.left (as_made wish state.shared limits) process state.shared p) answer new refl halt comes enabled acts

        back_by : (came : Came V) (answer : Answer) (new : State P V) → state.halt ≡ None → ComesFrom m limits before came p → ComesBack m limits process came p state answer new → Stands new
        back_by Went answer new halt from back = subst Stands (sym back.1) (stands_put state s process (Out seat ran) Ready p (Some p) state.halt at (λ e. cc) (subst (λ (x : P). Led m s.ahead.turned.processes process x) (sym from) led_back) refl refl (λ i e. e) (subst (λ (x : P). m.ran x ≤ limit_of limit.Local limits) (sym from) low) s.ended)
        back_by GivesUp answer new halt from back = subst Stands (sym back.1) (stopped_as (Some p) state.halt from refl (λ i e. e) s.ended)
        back_by (Wants wish) answer new halt from back = acts_by wish (is_enabled wish process state.shared) (nat_le (limit_of limit.Events limits) (length state.journal)) answer new halt from refl refl back
        back_by (Spent steps) answer new halt from back =
            let made : HasMade m limits first state.journal process steps = record { q = before; stood = stood; made = ap m.ran (sym from.0) ∙ from.1 } in
            subst Stands (sym back.1) (stopped_as (Some p) (Some (Local process steps)) (subst (λ (x : P). IsLike m x before) (sym from.0) (like_refl before)) (sym (ap panic_in halt)) (λ i e. cc) (from.2, made))

        in_by : (came : Came V) (halt : Option Halt) (answer : Answer) (new : State P V) → state.halt ≡ halt → ComesFrom m limits before came p → ChecksInBy m limits process came p state halt answer new → Stands new
        in_by came None answer new halt from checks = back_by came answer new halt from checks
        in_by came (Some end) answer new halt from checks = subst Stands (sym checks.1) (stopped_as (Some p) state.halt (like_before before p came from) refl (λ i e. e) s.ended)

        -- a check-in, whatever it comes to
        pub checks_in : (came : Came V) (answer : Answer) (new : State P V) → ComesFrom m limits before came p → ChecksIn m limits process came p state answer new → Stands new
        checks_in came answer new from checks = in_by came state.halt answer new refl from checks

    -- a sink that fails takes the output only in part, and the run is as after the print
    pub sink_fails : (state : State P V) → Stands state → state.halt ≡ None → Stands (halted SinkFailed state)
    sink_fails state s halt = record {
      run = s.run;
      ahead = s.ahead;
      shared = s.shared;
      panic = sym (ap panic_in halt) ∙ s.panic;
      text = s.text;
      homes = s.homes;
      statuses = s.statuses;
      counts = s.counts;
      ended = tt;
      rests = λ i e. absurd (cc);
      kept = λ i x e found. absurd (cc);
      each = s.each;
    }

    -- a run of processes that made no step
    pub world_begins : first.panic ≡ None → ((process : ℕ) (q : P) → numbered first.processes process ≡ Some q → m.ran q ≡ 0) → Stands (first_state first)
    world_begins quiet none = record {
      run = first;
      ahead = record {
        turned = first;
        turns = refl;
        count = refl;
        each = λ process q e. (q, e, ap (λ (n : ℕ). steps_on m n q) (none process q e));
        shared = refl;
        panic = refl;
        rests = λ process e. refl;
      };
      shared = refl;
      panic = sym (ap panicked quiet);
      text = sym (ap text_in quiet);
      homes = length-map first.processes (λ (p : P). Some p);
      statuses = length-map first.processes (λ (p : P). Ready);
      counts = λ process q e. none_le (none process q e);
      ended = tt;
      rests = λ process e. absurd (cc);
      kept = λ process q e found. absurd (cc);
      each = λ process q e.
          subst (λ (o : Option Status). AtHome m first.shared process o (numbered (map (λ (p : P). Some p) first.processes) process) q) (sym (numbered-map (λ (p : P). Ready) first.processes process ∙ ap (option_map (λ (p : P). Ready)) e))
          (numbered-map (λ (p : P). Some p) first.processes process ∙ ap (option_map (λ (p : P). Some p)) e);
    }
