-- A world of which a lent process is gone is ahead of its journal still.
use Rattle.std.proofs.Common.{◌≡◌, ◌≢◌, ℕ, Option, None, Some, List, sym, ap, ◌∙◌, subst, inl, inr}
use Rattle.std.proofs.lemmas.Bool.{cases_eq}
use Rattle.ink_base.specs.Numbered.{numbered, set_numbered}
use Rattle.ink_law_turns.proofs.Numbering.{length-set_numbered, numbered-set_other, numbered-set_same}
use Rattle.ink_law_turns.specs.Machines.{Machine}
use Rattle.ink_law_turns.specs.Turns.{Run}
use Rattle.ink_worlds.specs.Standing.{AtHome, StandsFor}
use Rattle.ink_worlds.specs.State.{State, put_in}
use Rattle.ink_worlds.specs.declared.halt.Halt.TheVariants.{Panicked}
use Rattle.ink_worlds.specs.declared.status.Status.{Status}
use Rattle.ink_worlds.specs.declared.status.Status.TheVariants.{Out, Stopped}

out_stopped : (seat ran : ℕ) → Some (Out seat ran) ≡ Some Stopped → ⊥
out_stopped seat ran e = cc

module _ {P V : Type 0} (m : Machine P V) (limits : List ℕ) (first : Run P V) (state : State P V) (process seat ran : ℕ) (at : numbered state.statuses process ≡ Some (Out seat ran)) (s : StandsFor m limits first state) where
  -- it is not the process that panicked
  differs : (i : ℕ) → state.halt ≡ Some (Panicked i) → i ≢ process
  differs i e is = out_stopped seat ran (sym at ∙ (ap (λ (k : ℕ). numbered state.statuses k) (sym is) ∙ s.rests i e))

  one_home : (i : ℕ) (q : P) → i ≡ process → AtHome m state.shared i (numbered state.statuses i) (numbered state.homes i) q → AtHome m state.shared i (numbered (set_numbered state.statuses process Stopped) i) (numbered (set_numbered state.homes process None) i) q
  one_home i q same stood =
      let lent : AtHome m state.shared i (Some (Out seat ran)) (numbered state.homes i) q = subst (λ (o : Option Status). AtHome m state.shared i o (numbered state.homes i) q) (ap (λ (k : ℕ). numbered state.statuses k) same ∙ at) stood in
      let away : numbered state.homes process ≡ Some None = ap (λ (k : ℕ). numbered state.homes k) (sym same) ∙ lent.0 in
      let status : numbered (set_numbered state.statuses process Stopped) i ≡ Some Stopped = ap (λ (k : ℕ). numbered (set_numbered state.statuses process Stopped) k) same ∙ numbered-set_same state.statuses process Stopped (Out seat ran) at in
      let home : numbered (set_numbered state.homes process None) i ≡ Some None = ap (λ (k : ℕ). numbered (set_numbered state.homes process None) k) same ∙ numbered-set_same state.homes process None None away in
      subst (λ (o : Option Status). AtHome m state.shared i o (numbered (set_numbered state.homes process None) i) q) (sym status)
      (None, home, tt)

  other_home : (i : ℕ) (q : P) → i ≢ process → AtHome m state.shared i (numbered state.statuses i) (numbered state.homes i) q → AtHome m state.shared i (numbered (set_numbered state.statuses process Stopped) i) (numbered (set_numbered state.homes process None) i) q
  other_home i q differ stood =
      subst (λ (o : Option Status). AtHome m state.shared i o (numbered (set_numbered state.homes process None) i) q) (sym (numbered-set_other state.statuses process i Stopped differ))
      (subst (λ (o : Option (Option P)). AtHome m state.shared i (numbered state.statuses i) o q) (sym (numbered-set_other state.homes process i None differ)) stood)

  pub abandons : StandsFor m limits first (put_in process None Stopped state)
  abandons = record {
    run = s.run;
    ahead = s.ahead;
    shared = s.shared;
    panic = s.panic;
    text = s.text;
    homes = length-set_numbered state.homes process None ∙ s.homes;
    statuses = length-set_numbered state.statuses process Stopped ∙ s.statuses;
    counts = s.counts;
    ended = s.ended;
    rests = λ i e. numbered-set_other state.statuses process i Stopped (differs i e) ∙ s.rests i e;
    kept = λ i q e found. numbered-set_other state.homes process i None (differs i e) ∙ s.kept i q e found;
    each = λ i q found. elim (cases_eq i process) [
      | inl same ↦ one_home i q same (s.each i q found)
      | inr differ ↦ other_home i q differ (s.each i q found)
    ];
  }
