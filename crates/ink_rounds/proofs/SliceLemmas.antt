-- A slice leads a lent process from where it stands to where it comes home.
use Rattle.std.proofs.Common.{◌≡◌, ◌≤◌, ℕ, true, false, Result, Ok, Err, List, sym, subst, ◌∙◌}
use Rattle.ink_base.specs.declared.limits.Limit.TheVariants as limit
use Rattle.ink_base.specs.Limits.{limit_of}
use Rattle.ink_code.specs.declared.code.Code.{Code}
use Rattle.ink_code.specs.Process.{Process}
use Rattle.ink_code.specs.Slice.{slice_of}
use Rattle.ink_interp.specs.Slices.{AnswersSlice}
use Rattle.ink_law_runs.specs.CodeMachine.{code_machine, opening_run}
use Rattle.ink_law_turns.specs.Ahead.{StandsAt}
use Rattle.ink_post.specs.Asks.{ComesOn, came_with, has_memory}
use Rattle.ink_post.specs.declared.answer.Came.{Came}
use Rattle.ink_post.proofs.Slices.{comes_by}
use Rattle.ink_proc.specs.State.{state_of}
use Rattle.ink_rounds.specs.Lent.{IsSliced}
use Rattle.ink_rounds.specs.Machine.{CameFrom, IsOutcome, MakesNothing}
use Rattle.ink_rounds.specs.declared.lent.Lent.{Lent}
use Rattle.ink_steps.specs.declared.stepped.StepFault.{StepFault}
use Rattle.ink_steps.specs.declared.stepped.StepFault.TheVariants as fault
use Rattle.ink_steps.specs.declared.stepped.Stepped.{Stepped}
use Rattle.ink_steps.specs.declared.stepped.Stepped.TheVariants as stepped

module _ (code : Code) (limits : List ℕ) (turns : ℕ) (p q : Process) where
  outcome_by : (came : Result Stepped StepFault) → AnswersSlice turns code limits came p q → has_memory came ≡ true → IsOutcome (came_with came) q (slice_of turns code limits p)
  outcome_by (Ok stepped.Went) sliced whole = sliced
  outcome_by (Ok (stepped.Wants wish)) sliced whole = sliced
  outcome_by (Ok (stepped.Panics text)) sliced whole = sliced
  outcome_by (Ok (stepped.Spent steps)) sliced whole = sliced
  outcome_by (Err (fault.Wrong why)) sliced whole = tt
  outcome_by (Err fault.OutOfMemory) sliced whole = absurd (cc)

idle_by : (came : Result Stepped StepFault) → has_memory came ≡ false → MakesNothing (came_with came)
idle_by (Ok came) whole = absurd (cc)
idle_by (Err (fault.Wrong why)) whole = absurd (cc)
idle_by (Err fault.OutOfMemory) whole = tt

module _ (code : Code) (limits : List ℕ) (old new : Lent) (turns : ℕ) (stepped : Result Stepped StepFault) (sliced : AnswersSlice turns code limits stepped (state_of old.proc) (state_of new.proc)) (came : new.came ≡ came_with stepped) (whole : new.is_whole ≡ has_memory stepped) (most : turns ≡ limit_of limit.Slice limits) where
  came_from : CameFrom code limits (state_of old.proc) new
  came_from = record {
    whole = λ all.
        subst (λ (x : Came). IsOutcome x (state_of new.proc) (slice_of (limit_of limit.Slice limits) code limits (state_of old.proc))) (sym came)
        (subst (λ (n : ℕ). IsOutcome (came_with stepped) (state_of new.proc) (slice_of n code limits (state_of old.proc))) most
        (outcome_by code limits turns (state_of old.proc) (state_of new.proc) stepped sliced (sym whole ∙ all)));
    idle = λ none. subst (λ (x : Came). MakesNothing x) (sym came) (idle_by stepped (sym whole ∙ none));
  }

  pub is_sliced : new.number ≡ old.number → IsSliced code limits old new
  is_sliced number = record {
    number = number;
    comes = λ journal comes.
        let at : StandsAt (code_machine code limits) limits (opening_run code) journal old.number (state_of old.proc) =
        subst (λ (p : Process). StandsAt (code_machine code limits) limits (opening_run code) journal old.number p) (sym comes.from) comes.stood in
        let low : (state_of old.proc).ran ≤ limit_of limit.Local limits = subst (λ (p : Process). p.ran ≤ limit_of limit.Local limits) (sym comes.from) comes.within in
        subst (λ (x : Came). ComesOn code limits journal old.number x (state_of new.proc)) (sym came)
        (comes_by code limits journal old.number turns (state_of old.proc) (state_of new.proc) stepped at low sliced);
    from = came_from;
  }
