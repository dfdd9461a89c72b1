-- Events of others leave a process that is away as it is.
use Rattle.std.proofs.Common.{◌≡◌, ℕ, List, [], ◌∷◌, ◌++◌, sym, subst}
use Rattle.ink_code.specs.declared.code.Code.{Code}
use Rattle.ink_code.specs.Process.{Process}
use Rattle.ink_law_runs.specs.CodeMachine.{code_machine, opening_run}
use Rattle.ink_law_turns.proofs.Determined.{stands_beyond}
use Rattle.ink_law_turns.specs.Ahead.{IsNotNamed, StandsAt}
use Rattle.ink_law_turns.specs.Turns.{Turns}
use Rattle.ink_leased.specs.Leased.{IsLeased, IsRun}
use Rattle.ink_leased.specs.Standing.{HasTurned}
use Rattle.ink_leased.specs.declared.away.Away.{Away}
use Rattle.ink_leased.specs.declared.leased.Began.{Began}
use Rattle.ink_leased.specs.declared.leased.Leased.{Leased}
use Rattle.ink_leasing.specs.Leases.{Without}
use Rattle.ink_post.specs.Asks.{ComesOn}
use Rattle.ink_post.specs.declared.answer.Came.{Came}
use Rattle.ink_run.specs.Sinks.{SinkState}

not_named : (process : ℕ) (more : List ℕ) → Without process more → IsNotNamed process more
not_named process [] without = tt
not_named process (entry ∷ more) without = ((λ e. without.0 (sym e)), not_named process more without.1)

comes_beyond : (code : Code) (limits journal seen more : List ℕ) (process : ℕ) (came : Came) (p : Process) → HasTurned code limits journal → journal ≡ seen ++ more → Without process more → ComesOn code limits seen process came p → ComesOn code limits journal process came p
comes_beyond code limits journal seen more process came p turned longer without comes =
    let turns = subst (λ (js : List ℕ). Turns (code_machine code limits) limits (opening_run code) js turned.run) longer turned.turns in
    record {
      before = comes.before;
      stood = subst (λ (js : List ℕ). StandsAt (code_machine code limits) limits (opening_run code) js process comes.before) (sym longer)
          (stands_beyond (code_machine code limits) limits (opening_run code) seen more process comes.before turned.run comes.stood turns (not_named process more without));
      within = comes.within;
      from = comes.from;
    }

pub away_stays : {K : Type 0} (seen_of : K → SinkState) (began : Began K) (leased : Leased K) (seen more : List ℕ) (process : ℕ) (away : Away) → IsLeased seen_of leased began → leased.world.post.journal.entries ≡ seen ++ more → Without process more → IsRun began seen process away → IsRun began leased.world.post.journal.entries process away
away_stays seen_of began leased seen more process away is longer without comes =
    let turned = subst (λ (l : List ℕ). HasTurned began.code.value l leased.world.post.journal.entries) is.stands.limits is.stands.turned in
    comes_beyond began.code.value began.world.value.post.limits leased.world.post.journal.entries seen more process away.came _ turned longer without comes
