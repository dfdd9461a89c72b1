-- Processes that are lent, one after another, and that make their slices.
use Rattle.std.proofs.Common.{◌≡◌, ◌≢◌, ℕ, suc, ◌<◌, Option, Some, List, [], ◌∷◌, ◌++◌, length, get_or, take, drop, reverse, refl, sym, ap, ◌∙◌, subst, arith}
use Rattle.std.proofs.Math.Seq.{take-append_seam}
use Rattle.std.proofs.lemmas.List.{reverse-append, reverse-reverse}
use Rattle.ink_base.specs.Numbered.{numbered}
use Rattle.ink_code.specs.declared.code.Code.{Code}
use Rattle.ink_code.specs.Process.{Process}
use Rattle.ink_law_runs.specs.CodeMachine.{code_machine, opening_run}
use Rattle.ink_law_worlds.specs.Coming.{StandsForCode}
use Rattle.ink_post.specs.Answers.{Lends, LendsBy, OthersStay}
use Rattle.ink_post.specs.Asks.{ComesOn, IsComing, IsLent}
use Rattle.ink_post.specs.Worlds.{CodeState, Same, Stands, world_of}
use Rattle.ink_post.specs.declared.answer.Came.TheVariants as c
use Rattle.ink_post.specs.declared.post.Post.{Post}
use Rattle.ink_proc.specs.State.{state_of}
use Rattle.ink_rounds.specs.Homes.{Leaves, WritesOn}
use Rattle.ink_rounds.specs.Lent.{IsAway, IsHomeward, IsApart, AreAway, AreHomeward, HasLent, IsSliced, AreSliced}
use Rattle.ink_rounds.specs.declared.lent.Lent.{Lent}
use Rattle.ink_run.specs.Sinks.{SinkState}
use Rattle.ink_run.specs.Written.{GotBy}
use Rattle.ink_worlds.specs.State.{checked_out}
use Rattle.ink_worlds.specs.declared.halt.Halt.{Halt}
use Rattle.ink_worlds.specs.declared.status.Status.TheVariants.{Out, Ready}
use Rattle.ink_worlds.proofs.Stands.{checks_out}

out_ready : (seat ran : ℕ) → Some (Out seat ran) ≡ Some Ready → ⊥
out_ready seat ran e = cc

module _ (code : Code) where
  -- the same world
  stands_as : (old new : Post) (output : List ℕ) → new.limits ≡ old.limits → (state : CodeState) → world_of new output ≡ state → StandsForCode code old.limits state → StandsForCode code new.limits (world_of new output)
  stands_as old new output limits state is stands =
      subst (λ (l : List ℕ). StandsForCode code l (world_of new output)) (sym limits) (subst (λ (s : CodeState). StandsForCode code old.limits s) (sym is) stands)

  got_as : (output : List ℕ) (first before after : SinkState) (l l' js js' : List ℕ) (h h' : Option Halt) → l' ≡ l → js' ≡ js → h' ≡ h → after ≡ before → GotBy code l js output h first before → GotBy code l' js' output h' first after
  got_as output first before after l l' js js' h h' limits journal halt sink g =
      subst (λ (x : List ℕ). GotBy code x js' output h' first after) (sym limits)
      (subst (λ (x : List ℕ). GotBy code l x output h' first after) (sym journal)
      (subst (λ (x : Option Halt). GotBy code l js output x first after) (sym halt)
      (subst (λ (x : SinkState). GotBy code l js output h first x) (sym sink) g)))

  pub same_written : (old new : Post) (before after : SinkState) → new.limits ≡ old.limits → Same old new → after ≡ before → WritesOn code old new before after
  same_written old new before after limits same sink first written = record {
    output = written.output;
    stands = stands_as old new written.output limits (world_of old written.output) (same written.output) written.stands;
    got = got_as written.output first before after old.limits new.limits old.journal.entries new.journal.entries old.halt new.halt limits
        (ap (λ (s : CodeState). s.journal) (same [])) (ap (λ (s : CodeState). s.halt) (same [])) sink written.got;
  }

  module _ (number : ℕ) (p : Process) (old new : Post) (lends : Lends number number old new p) where
    lent_by : (output : List ℕ) → LendsBy number number (world_of old output) (world_of new output) p
    lent_by output = lends output

    state_lent : new.limits ≡ old.limits → (output : List ℕ) → StandsForCode code old.limits (world_of old output) → StandsForCode code new.limits (world_of new output)
    state_lent limits output stands =
        let by = lent_by output in
        stands_as old new output limits (checked_out number number p.ran (world_of old output)) by.2
        (checks_out (code_machine code old.limits) old.limits (opening_run code) (world_of old output) number number p stands by.0 by.1).0

    pub lent_written : new.limits ≡ old.limits → (before after : SinkState) → after ≡ before → WritesOn code old new before after
    lent_written limits before after sink first written = record {
      output = written.output;
      stands = state_lent limits written.output written.stands;
      got = got_as written.output first before after old.limits new.limits old.journal.entries new.journal.entries old.halt new.halt limits
          (ap (λ (s : CodeState). s.journal) (lent_by []).2) (ap (λ (s : CodeState). s.halt) (lent_by []).2) sink written.got;
    }

    -- what is lent already has another number
    lent_other : (y : Lent) → IsAway code old y → y.number ≢ number
    lent_other y away e = out_ready y.number away.ran (sym away.lent ∙ (ap (λ (i : ℕ). numbered old.statuses.items i) e ∙ (lent_by []).0))

    module _ (others : OthersStay code number old new) (x : Lent) (is : x.number ≡ number) (away : IsAway code new x) where
      apart_more : (other : ℕ) (xs : List Lent) → other ≢ number → IsApart other xs → IsApart other (xs ++ x ∷ [])
      apart_more other [] differ h = ((λ e. differ (e ∙ is)), tt)
      apart_more other (y ∷ ys) differ h = (h.0, apart_more other ys differ h.1)

      are_more : (xs : List Lent) → AreAway code old xs → AreAway code new (xs ++ x ∷ [])
      are_more [] h = (away, tt, tt)
      are_more (y ∷ ys) h =
          (others y.number y.number c.Went (state_of y.proc) (lent_other y h.0) h.0, apart_more y.number ys (lent_other y h.0) h.1, are_more ys h.2)

  -- the process that was lent stands where the journal leaves it
  away_of : (post : Post) (x : Lent) (number : ℕ) (p : Process) → x.number ≡ number → state_of x.proc ≡ p → IsLent code post number number p → IsAway code post x
  away_of post x number p is holds lent =
      subst (λ (n : ℕ). IsComing code post n n c.Went (state_of x.proc)) (sym is)
      (subst (λ (q : Process). IsComing code post number number c.Went q) (sym holds) (record {
        ran = p.ran;
        lent = lent.lent;
        comes = record { before = p; stood = lent.stood; within = lent.within; from = refl };
      }))

  -- where nothing is told otherwise the same are lent
  coming_same : (old new : Post) → new.limits ≡ old.limits → Same old new → (x : Lent) → IsAway code old x → IsAway code new x
  coming_same old new limits same x away = record {
    ran = away.ran;
    lent = ap (λ (s : CodeState). numbered s.statuses x.number) (same []) ∙ away.lent;
    comes = subst (λ (l : List ℕ). ComesOn code l new.journal.entries x.number c.Went (state_of x.proc)) (sym limits)
        (subst (λ (js : List ℕ). ComesOn code old.limits js x.number c.Went (state_of x.proc)) (sym (ap (λ (s : CodeState). s.journal) (same []))) away.comes);
  }

  same_away : (old new : Post) → new.limits ≡ old.limits → Same old new → (xs : List Lent) → AreAway code old xs → AreAway code new xs
  same_away old new limits same [] h = tt
  same_away old new limits same (x ∷ xs) h = (coming_same old new limits same x h.0, h.1, same_away old new limits same xs h.2)

  pub same_has : (old new : Post) → new.limits ≡ old.limits → Same old new → Stands code new → (xs : List Lent) → HasLent code old xs → HasLent code new xs
  same_has old new limits same stands xs has = record { stands = stands; each = same_away old new limits same xs has.each }

  -- one more is lent
  pub has_more : (number : ℕ) (p : Process) (old new : Post) → Lends number number old new p → OthersStay code number old new → Stands code new → IsLent code new number number p
      → (x : Lent) → x.number ≡ number → state_of x.proc ≡ p → (xs : List Lent) → HasLent code old xs → HasLent code new (xs ++ x ∷ [])
  has_more number p old new lends others stands lent x is holds xs has = record {
    stands = stands;
    each = are_more number p old new lends others x is (away_of new x number p is holds lent) xs has.each;
  }

  -- those that made their slices come home
  apart_sliced : (limits : List ℕ) (number : ℕ) (xs ys : List Lent) → AreSliced code limits xs ys → IsApart number xs → IsApart number ys
  apart_sliced limits number [] [] s h = tt
  apart_sliced limits number [] (y ∷ ys) s h = absurd s
  apart_sliced limits number (x ∷ xs) [] s h = absurd s
  apart_sliced limits number (x ∷ xs) (y ∷ ys) s h = ((λ e. h.0 (e ∙ s.0.number)), apart_sliced limits number xs ys s.1 h.1)

  one_homeward : (post : Post) (x y : Lent) → IsSliced code post.limits x y → IsAway code post x → IsHomeward code post y
  one_homeward post x y sliced away =
      subst (λ (n : ℕ). IsComing code post n n y.came (state_of y.proc)) (sym sliced.number) (record {
        ran = away.ran;
        lent = away.lent;
        comes = sliced.comes post.journal.entries away.comes;
      })

  pub sliced_homeward : (post : Post) (xs ys : List Lent) → AreSliced code post.limits xs ys → AreAway code post xs → AreHomeward code post ys
  sliced_homeward post [] [] s h = tt
  sliced_homeward post [] (y ∷ ys) s h = absurd s
  sliced_homeward post (x ∷ xs) [] s h = absurd s
  sliced_homeward post (x ∷ xs) (y ∷ ys) s h =
      (one_homeward post x y s.0 h.0, apart_sliced post.limits y.number xs ys s.1 (subst (λ (n : ℕ). IsApart n xs) (sym s.0.number) h.1), sliced_homeward post xs ys s.1 h.2)

  pub each_sliced : (limits : List ℕ) (xs ys : List Lent) → length ys ≡ length xs → ((i : ℕ) (d : Lent) → i < length xs → IsSliced code limits (get_or xs i d) (get_or ys i d)) → AreSliced code limits xs ys
  each_sliced limits [] [] same each = tt
  each_sliced limits [] (y ∷ ys) same each = absurd (omega (arith, same))
  each_sliced limits (x ∷ xs) [] same each = absurd (omega (arith, same))
  each_sliced limits (x ∷ xs) (y ∷ ys) same each = (each 0 x (omega arith), each_sliced limits xs ys (omega (arith, same)) (λ i d low. each (suc i) d (omega (arith, low))))

  pub all_sliced : (limits : List ℕ) (xs ys : List Lent) (n : ℕ) → n ≡ length xs → length ys ≡ length xs → ((i : ℕ) (d : Lent) → i < length xs → IsSliced code limits (get_or xs i d) (get_or ys i d)) → AreSliced code limits xs (take n (ys ++ drop (length ys) xs))
  all_sliced limits xs ys n size same each =
      subst (λ (zs : List Lent). AreSliced code limits xs zs)
      (sym (ap (λ (k : ℕ). take k (ys ++ drop (length ys) xs)) (size ∙ sym same) ∙ take-append_seam ys (drop (length ys) xs)))
      (each_sliced limits xs ys same each)

  -- the others stay homeward when one came home
  left_homeward : (number : ℕ) (old new : Post) → Leaves code number old new → (xs : List Lent) → IsApart number xs → AreHomeward code old xs → AreHomeward code new xs
  left_homeward number old new leaves [] apart h = tt
  left_homeward number old new leaves (y ∷ ys) apart h =
      (leaves.others y.number y.number y.came (state_of y.proc) (λ e. apart.0 (sym e)) h.0, h.1, left_homeward number old new leaves ys apart.1 h.2)

  front : (xs : List Lent) (x : Lent) → reverse (xs ++ x ∷ []) ≡ x ∷ reverse xs
  front xs x = reverse-append xs (x ∷ [])

  pub all_homeward : (post : Post) (limits : List ℕ) (xs ys zs : List Lent) → limits ≡ post.limits → AreSliced code limits xs ys → AreAway code post xs → zs ≡ reverse ys → AreHomeward code post (reverse zs)
  all_homeward post limits xs ys zs same sliced away turned =
      subst (λ (ls : List Lent). AreHomeward code post ls) (sym (ap reverse turned ∙ reverse-reverse ys))
      (sliced_homeward post xs ys (subst (λ (l : List ℕ). AreSliced code l xs ys) same sliced) away)

  -- the last of them comes home first
  pub last_homeward : (post : Post) (all rest : List Lent) (x : Lent) → all ≡ rest ++ x ∷ [] → AreHomeward code post (reverse all) → IsHomeward code post x
  last_homeward post all rest x is h = (subst (λ (xs : List Lent). AreHomeward code post xs) (ap reverse is ∙ front rest x) h).0

  pub rest_homeward : (old new : Post) (all rest : List Lent) (x : Lent) → all ≡ rest ++ x ∷ [] → AreHomeward code old (reverse all) → Leaves code x.number old new → AreHomeward code new (reverse rest)
  rest_homeward old new all rest x is h leaves =
      let parts = subst (λ (xs : List Lent). AreHomeward code old xs) (ap reverse is ∙ front rest x) h in
      left_homeward x.number old new leaves (reverse rest) parts.1 parts.2
