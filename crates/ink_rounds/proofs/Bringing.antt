-- Processes come home one after another, as in the machine.
use Rattle.std.proofs.Common.{◌≡◌, ℕ, true, false, List, [], ◌∷◌, ◌++◌, reverse, refl, sym, ap, ◌∙◌, subst}
use Rattle.std.proofs.lemmas.List.{reverse-append}
use Rattle.ink_code.specs.declared.code.Code.{Code}
use Rattle.ink_code.specs.Process.{Process}
use Rattle.ink_code.specs.Rounds.{RoundState, checked_in}
use Rattle.ink_post.specs.declared.post.Post.{Post}
use Rattle.ink_rounds.specs.Machine.{Awaits, Begins, Follows, FollowsNext, Gone, all_checked_in, slice_from}
use Rattle.ink_rounds.specs.declared.lent.Lent.{Lent}
use Rattle.ink_rounds.proofs.Following.{awaits_next}
use Rattle.ink_rounds.proofs.Growing.{all_grow, begins_on}

-- some came home; when these will have come too, it is as after all of them
pub record Leading (code : Code) (limits : List ℕ) (gone : Gone) (run : RoundState) (post : Post) (lent : List Lent) : Type 0 where
  pub left : Gone
  pub now : RoundState
  pub awaits : Awaits code left (reverse lent) post now
  pub leads : all_checked_in code limits left now ≡ all_checked_in code limits gone run

module _ (code : Code) (limits : List ℕ) (gone : Gone) (run : RoundState) where
  abbrev end_run : RoundState
  end_run = all_checked_in code limits gone run

  pub leads_first : (post : Post) (lent : List Lent) → Awaits code gone (reverse lent) post run → Leading code limits gone run post lent
  leads_first post lent awaits = record { left = gone; now = run; awaits = awaits; leads = refl }

  last_by : (post : Post) (left : Gone) (now : RoundState) → Awaits code left [] post now → all_checked_in code limits left now ≡ end_run → Follows true [] post end_run
  last_by post [] now awaits leads = subst (λ (r : RoundState). Follows true [] post r) leads awaits.follows
  last_by post (g ∷ left) now awaits leads = absurd awaits.came

  -- all are home
  pub leads_last : (post : Post) (lent : List Lent) → lent ≡ [] → Leading code limits gone run post lent → Follows true [] post end_run
  leads_last post lent none leading =
      last_by post leading.left leading.now (subst (λ (xs : List Lent). Awaits code leading.left (reverse xs) post leading.now) none leading.awaits) leading.leads

  module _ (old middle : Post) (x : Lent) (rest : List Lent) (limited : old.limits ≡ limits) where
    turned : (all : List Lent) → all ≡ rest ++ x ∷ [] → reverse all ≡ x ∷ reverse rest
    turned all is = ap reverse is ∙ reverse-append rest (x ∷ [])

    next_of : ℕ × Process → RoundState → RoundState
    next_of g now = checked_in code old.limits g.0 (slice_from code old.limits g.1) now

    leads_by : (g : ℕ × Process) (left : Gone) (now : RoundState) → all_checked_in code limits (g ∷ left) now ≡ end_run → all_checked_in code limits left (checked_in code old.limits g.0 (slice_from code old.limits g.1) now) ≡ end_run
    leads_by g left now leads =
        ap (λ (l : List ℕ). all_checked_in code limits left (checked_in code l g.0 (slice_from code l g.1) now)) limited ∙ leads

    on_by : (left : Gone) (now : RoundState) → Awaits code left (x ∷ reverse rest) old now → all_checked_in code limits left now ≡ end_run → middle.limits ≡ old.limits → FollowsNext code true x old middle → Leading code limits gone run middle rest
    on_by [] now awaits leads same follows = absurd awaits.came
    on_by (g ∷ left) now awaits leads same follows = record {
      left = left;
      now = checked_in code old.limits g.0 (slice_from code old.limits g.1) now;
      awaits = awaits_next code old middle x g left (reverse rest) now awaits same (follows g left (reverse rest) now awaits);
      leads = leads_by g left now leads;
    }

    -- one more is home
    pub leads_on : (all : List Lent) → all ≡ rest ++ x ∷ [] → middle.limits ≡ old.limits → FollowsNext code true x old middle → Leading code limits gone run old all → Leading code limits gone run middle rest
    leads_on all is same follows leading =
        on_by leading.left leading.now (subst (λ (xs : List Lent). Awaits code leading.left xs old leading.now) (turned all is) leading.awaits) leading.leads same follows

    off_by : (new : Post) (left : Gone) (now : RoundState) → Awaits code left (x ∷ reverse rest) old now → all_checked_in code limits left now ≡ end_run → FollowsNext code false x old middle → new.journal.entries ≡ middle.journal.entries → Follows false [] new end_run
    off_by new [] now awaits leads follows same = absurd awaits.came
    off_by new (g ∷ left) now awaits leads follows same =
        let next : RoundState = checked_in code old.limits g.0 (slice_from code old.limits g.1) now in
        record {
          exact = λ whole. absurd (cc);
          begins = subst (λ (js : List ℕ). Begins js end_run.journal) (sym same)
              (begins_on middle.journal.entries next.journal end_run.journal (follows g left (reverse rest) now awaits).begins
              (subst (λ (r : RoundState). Begins next.journal r.journal) (leads_by g left now leads) (all_grow code limits left next)));
        }

    -- one more is home, there was no memory for what it came to, and nothing was done of what the others came to
    pub leads_off : (new : Post) (all : List Lent) → all ≡ rest ++ x ∷ [] → FollowsNext code false x old middle → new.journal.entries ≡ middle.journal.entries → Leading code limits gone run old all → Follows false [] new end_run
    leads_off new all is follows same leading =
        off_by new leading.left leading.now (subst (λ (xs : List Lent). Awaits code leading.left xs old leading.now) (turned all is) leading.awaits) leading.leads follows same
