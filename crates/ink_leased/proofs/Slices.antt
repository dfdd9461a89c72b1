-- A slice leads a process that is away from where it stands to where it comes home.
use Rattle.std.proofs.Common.{◌≡◌, ◌≤◌, ℕ, Result, List, sym, subst}
use Rattle.ink_base.specs.Limits.{limit_of}
use Rattle.ink_base.specs.declared.limits.Limit.TheVariants as limit
use Rattle.ink_code.specs.declared.code.Code.{Code}
use Rattle.ink_code.specs.Process.{Process}
use Rattle.ink_interp.specs.Slices.{AnswersSlice}
use Rattle.ink_law_runs.specs.CodeMachine.{code_machine, opening_run}
use Rattle.ink_law_turns.specs.Ahead.{StandsAt}
use Rattle.ink_post.proofs.Slices.{comes_by}
use Rattle.ink_post.specs.Asks.{ComesOn, came_with}
use Rattle.ink_post.specs.declared.answer.Came.{Came}
use Rattle.ink_post.specs.declared.answer.Came.TheVariants as c
use Rattle.ink_steps.specs.declared.stepped.StepFault.{StepFault}
use Rattle.ink_steps.specs.declared.stepped.Stepped.{Stepped}

pub slice_comes : (code : Code) (limits : List ℕ) (was came : Came) (p q : Process) (turns : ℕ) (stepped : Result Stepped StepFault) → was ≡ c.Went → came ≡ came_with stepped → AnswersSlice turns code limits stepped p q → (journal : List ℕ) (process : ℕ) → ComesOn code limits journal process was p → ComesOn code limits journal process came q
slice_comes code limits was came p q turns stepped went is sliced journal process before =
    let comes = subst (λ (x : Came). ComesOn code limits journal process x p) went before in
    let at = subst (λ (x : Process). StandsAt (code_machine code limits) limits (opening_run code) journal process x) (sym comes.from) comes.stood in
    let low = subst (λ (x : Process). x.ran ≤ limit_of limit.Local limits) (sym comes.from) comes.within in
    subst (λ (x : Came). ComesOn code limits journal process x q) (sym is)
    (comes_by code limits journal process turns p q stepped at low sliced)

-- the same where the code and the limits are told to be these
pub comes_as : (code other : Code) (limits others journal : List ℕ) (process : ℕ) (was came : Came) (p q : Process) → (code ≡ other) × (limits ≡ others)
    → ((js : List ℕ) (number : ℕ) → ComesOn code limits js number was p → ComesOn code limits js number came q) → ComesOn other others journal process was p → ComesOn other others journal process came q
comes_as code other limits others journal process was came p q same leads before =
    let here = subst (λ (x : Code). ComesOn x limits journal process was p) (sym same.0) (subst (λ (l : List ℕ). ComesOn other l journal process was p) (sym same.1) before) in
    subst (λ (l : List ℕ). ComesOn other l journal process came q) same.1 (subst (λ (x : Code). ComesOn x limits journal process came q) same.0 (leads journal process here))
