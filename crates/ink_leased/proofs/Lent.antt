-- What lending a process, and abandoning one, make of what a leased world stands for.
use Rattle.std.proofs.Common.{◌≡◌, ◌≢◌, ℕ, None, Some, List, [], refl, sym, ap, ◌∙◌, subst, arith, suc, ◌+◌}
use Rattle.ink_base.specs.Numbered.{numbered, set_numbered}
use Rattle.ink_code.specs.declared.code.Code.{Code}
use Rattle.ink_code.specs.Process.{Process}
use Rattle.ink_law_runs.specs.CodeMachine.{code_machine, opening_run}
use Rattle.ink_law_turns.proofs.Numbering.{numbered-suc}
use Rattle.ink_law_worlds.specs.Coming.{StandsForCode}
use Rattle.ink_leased.proofs.Abandoning.{abandons}
use Rattle.ink_leased.proofs.Keeping.{Keeps}
use Rattle.ink_leased.proofs.Leases.{lent_apart, lent_more}
use Rattle.ink_leased.specs.Apart.{found}
use Rattle.ink_leased.specs.Homecoming.{IsHome}
use Rattle.ink_leased.specs.Lending.{lease_of}
use Rattle.ink_leasing.specs.Leases.{Gains, Has}
use Rattle.ink_post.specs.Answers.{Lends, LendsBy}
use Rattle.ink_post.specs.Asks.{ComesOn, IsComing, IsLent}
use Rattle.ink_post.specs.Worlds.{CodeState, Same, StandsAfter, world_of}
use Rattle.ink_post.specs.declared.answer.Came.{Came}
use Rattle.ink_post.specs.declared.answer.Came.TheVariants as c
use Rattle.ink_post.specs.declared.post.Post.{Post}
use Rattle.ink_run.specs.Sinks.{SinkState}
use Rattle.ink_worlds.proofs.Stands.{checks_out}
use Rattle.ink_worlds.specs.State.{checked_out, put_in}
use Rattle.ink_worlds.specs.declared.status.Status.{Status}
use Rattle.ink_worlds.specs.declared.status.Status.TheVariants.{Out, Ready, Stopped}

-- who is leased is lent
pub record IsOut (process seat : ℕ) (statuses : List Status) : Type 0 where
  pub ran : ℕ
  pub at : numbered statuses process ≡ Some (Out seat ran)

pub is_lent : (process seat : ℕ) (statuses : List Status) → Has process (lease_of statuses seat) → IsOut process seat statuses
is_lent process seat statuses has =
    let one = found 1 statuses seat process has in
    let place : process ≡ suc one.place = (let e : process ≡ 1 + one.place = one.is in omega arith) in
    record {
      ran = one.ran;
      at = ap (λ (k : ℕ). numbered statuses k) place ∙ (numbered-suc statuses one.place ∙ one.at);
    }

pub is_coming : (code : Code) (post : Post) (limits : List ℕ) (process seat : ℕ) (came : Came) (p : Process) → post.limits ≡ limits → Has process (lease_of post.statuses.items seat) → ComesOn code limits post.journal.entries process came p → IsComing code post process seat came p
is_coming code post limits process seat came p same has comes =
    let lent = is_lent process seat post.statuses.items has in
    record {
      ran = lent.ran;
      lent = lent.at;
      comes = subst (λ (l : List ℕ). ComesOn code l post.journal.entries process came p) (sym same) comes;
    }

-- who goes out stands as the journal leaves it
pub goes_out : (code : Code) (post : Post) (process seat : ℕ) (came : Came) (p q : Process) → came ≡ c.Went → q ≡ p → IsLent code post process seat p → ComesOn code post.limits post.journal.entries process came q
goes_out code post process seat came p q went same lent =
    subst (λ (x : Came). ComesOn code post.limits post.journal.entries process x q) (sym went) (record { before = p; stood = lent.stood; within = lent.within; from = same })

module _ (old new : Post) (before after : SinkState) (limits : new.limits ≡ old.limits) (wrong : new.wrong ≡ old.wrong) (sink : after ≡ before) where
  -- the world is another, and ahead of its journal where it was so before
  keeps_as : (code : Code) (state : List ℕ → CodeState) → ((output : List ℕ) → world_of new output ≡ state output) → (state []).journal ≡ old.journal.entries → (state []).halt ≡ old.halt → ((output : List ℕ) → StandsAfter code old output → StandsForCode code old.limits (state output)) → Keeps code old new before after
  keeps_as code state is journal halt stands = record {
    limits = limits;
    journal = ap (λ (s : CodeState). s.journal) (is []) ∙ journal;
    halt = ap (λ (s : CodeState). s.halt) (is []) ∙ halt;
    wrong = wrong;
    sink = sink;
    stands = λ output stood.
        subst (λ (l : List ℕ). StandsForCode code l (world_of new output)) (sym limits)
        (subst (λ (s : CodeState). StandsForCode code old.limits s) (sym (is output)) (stands output stood));
  }

  pub same_keeps : (code : Code) → Same old new → Keeps code old new before after
  same_keeps code same = keeps_as code (λ output. world_of old output) same refl refl (λ output stood. stood)

  pub abandoned_keeps : (code : Code) (process seat : ℕ) → IsOut process seat old.statuses.items → ((output : List ℕ) → world_of new output ≡ put_in process None Stopped (world_of old output)) → Keeps code old new before after
  abandoned_keeps code process seat out is =
      keeps_as code (λ output. put_in process None Stopped (world_of old output)) is refl refl
      (λ output stood. abandons (code_machine code old.limits) old.limits (opening_run code) (world_of old output) process seat out.ran out.at stood)

  pub lent_keeps : (code : Code) (process seat : ℕ) (p : Process) → Lends process seat old new p → Keeps code old new before after
  lent_keeps code process seat p lends =
      keeps_as code (λ output. checked_out process seat p.ran (world_of old output)) (λ output. (lent_by lends output).2) refl refl
      (λ output stood. let by = lent_by lends output in
      (checks_out (code_machine code old.limits) old.limits (opening_run code) (world_of old output) process seat p stood by.0 by.1).0)
    where
      lent_by : Lends process seat old new p → (output : List ℕ) → LendsBy process seat (world_of old output) (world_of new output) p
      lent_by lends output = lends output

module _ (process seat : ℕ) (p : Process) (old new : Post) (lends : Lends process seat old new p) where
  abbrev by : LendsBy process seat (world_of old []) (world_of new []) p
  by = lends []

  out_now : new.statuses.items ≡ set_numbered old.statuses.items process (Out seat p.ran)
  out_now = ap (λ (s : CodeState). s.statuses) by.2

  pub lends_one : Gains process (lease_of old.statuses.items seat) (lease_of new.statuses.items seat)
  lends_one = subst (λ (ss : List Status). Gains process (lease_of old.statuses.items seat) (lease_of ss seat)) (sym out_now) (lent_more process seat p.ran old.statuses.items Ready refl by.0)

  pub lends_apart : (k : ℕ) → k ≢ seat → lease_of new.statuses.items k ≡ lease_of old.statuses.items k
  lends_apart k differ = ap (λ (ss : List Status). lease_of ss k) out_now ∙ lent_apart process seat p.ran old.statuses.items Ready refl by.0 k differ

  pub lends_journal : new.journal.entries ≡ old.journal.entries
  lends_journal = ap (λ (s : CodeState). s.journal) by.2

-- where nothing is told otherwise all leases are as before
pub same_leases : (old new : Post) → Same old new → (k : ℕ) → lease_of new.statuses.items k ≡ lease_of old.statuses.items k
same_leases old new same k = ap (λ (s : CodeState). lease_of s.statuses k) (same [])

pub same_journal : (old new : Post) → Same old new → new.journal.entries ≡ old.journal.entries
same_journal old new same = ap (λ (s : CodeState). s.journal) (same [])

pub abandoned_home : (process : ℕ) (old new : Post) → ((output : List ℕ) → world_of new output ≡ put_in process None Stopped (world_of old output)) → IsHome process old.statuses.items new.statuses.items
abandoned_home process old new is = record {
  status = Stopped;
  home = refl;
  leases = λ seat. ap (λ (s : CodeState). lease_of s.statuses seat) (is []);
}
