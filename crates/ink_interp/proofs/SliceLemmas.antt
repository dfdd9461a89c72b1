-- One more step of a slice.
use Rattle.std.proofs.Common.{◌≡◌, ◌≢◌, ℕ, suc, ◌+◌, ◌-◌, ◌<◌, ◌≤◌, Result, Ok, Err, List, refl, ap, ◌∙◌, sym, arith}
use Rattle.ink_code.specs.declared.code.Code.{Code}
use Rattle.ink_code.specs.declared.wrong.Wrong.{Wrong}
use Rattle.ink_code.specs.Machine as machine
use Rattle.ink_code.specs.Process.{Process}
use Rattle.ink_code.specs.Slice.{goes_on, slice_of}
use Rattle.ink_code.specs.Step.{code_step}
use Rattle.ink_interp.specs.Slices.{AnswersSlice}
use Rattle.ink_quick.specs.Makes.{Leads as LeadsOn}
use Rattle.ink_steps.specs.Answers.{Answers, told}
use Rattle.ink_steps.specs.declared.stepped.StepFault.{StepFault}
use Rattle.ink_steps.specs.declared.stepped.StepFault.TheVariants as fault
use Rattle.ink_steps.specs.declared.stepped.Stepped.{Stepped}
use Rattle.ink_steps.specs.declared.stepped.Stepped.TheVariants as stepped

module _ (code : Code) (limits : List ℕ) (start : Process) where
  -- the process to which so many steps led, from which a longer slice goes on
  abbrev pub Leads : ℕ → Process → Type 0
  Leads made p = (rest : ℕ) → slice_of (made + rest) code limits start ≡ slice_of rest code limits p

  first_step : (rest : ℕ) (p : Process) → slice_of (suc rest) code limits p ≡ goes_on (code_step code limits p) (λ q. slice_of rest code limits q)
  unfolding slice_of
  first_step rest p = refl

  -- a step that went on leads one further
  pub leads_on : (made : ℕ) (p q : Process) → Leads made p → code_step code limits p ≡ Ok (machine.Went, q) → Leads (made + 1) q
  leads_on made p q leads step rest =
      let longer : made + 1 + rest ≡ made + suc rest = omega arith in
      ap (λ most. slice_of most code limits start) longer
      ∙ leads (suc rest)
      ∙ first_step rest p
      ∙ ap (λ outcome. goes_on outcome (λ q. slice_of rest code limits q)) step

  -- more steps that were made at once lead so many further
  pub leads_far : (made count : ℕ) (p q : Process) → Leads made p → LeadsOn code limits count p q → Leads (made + count) q
  leads_far made count p q leads far rest =
      let longer : made + count + rest ≡ made + (count + rest) = omega arith in
      ap (λ most. slice_of most code limits start) longer ∙ leads (count + rest) ∙ far rest

  -- a slice that is wrong behind so many steps
  pub wrong_far : (made most : ℕ) (p : Process) (why : Wrong) → made ≤ most → Leads made p → slice_of (most - made) code limits p ≡ Err why → slice_of most code limits start ≡ Err why
  wrong_far made most p why low leads wrong =
      let all : most ≡ made + (most - made) = omega (arith, low) in
      ap (λ most. slice_of most code limits start) all ∙ leads (most - made) ∙ wrong

  -- so many steps led to the process
  pub led : (made : ℕ) (p : Process) → Leads made p → slice_of made code limits start ≡ Ok (machine.Went, p)
  unfolding slice_of
  led made p leads =
      let all : made ≡ made + 0 = omega arith in
      ap (λ most. slice_of most code limits start) all ∙ leads 0

  stopped : (rest : ℕ) (came : Stepped) (q : Process) → came ≢ stepped.Went → goes_on (Ok (told came, q)) (λ q. slice_of rest code limits q) ≡ Ok (told came, q)
  stopped rest stepped.Went q other = absurd (other refl)
  stopped rest (stepped.Wants wanted) q other = refl
  stopped rest (stepped.Panics text) q other = refl
  stopped rest (stepped.Spent steps) q other = refl

  -- a step that came to something else ends the slice
  pub stops : (made most : ℕ) (p q : Process) (came : Stepped) → made < most → Leads made p → came ≢ stepped.Went → code_step code limits p ≡ Ok (told came, q) → slice_of most code limits start ≡ Ok (told came, q)
  stops made most p q came low leads other step =
      let rest : ℕ = most - made - 1 in
      let all : most ≡ made + suc rest = omega arith in
      ap (λ most. slice_of most code limits start) all
      ∙ leads (suc rest)
      ∙ first_step rest p
      ∙ ap (λ outcome. goes_on outcome (λ q. slice_of rest code limits q)) step
      ∙ stopped rest came q other

  -- a step that is wrong ends the slice
  pub goes_wrong : (made most : ℕ) (p : Process) (why : Wrong) → made < most → Leads made p → code_step code limits p ≡ Err why → slice_of most code limits start ≡ Err why
  goes_wrong made most p why low leads step =
      let rest : ℕ = most - made - 1 in
      let all : most ≡ made + suc rest = omega arith in
      ap (λ most. slice_of most code limits start) all
      ∙ leads (suc rest)
      ∙ first_step rest p
      ∙ ap (λ outcome. goes_on outcome (λ q. slice_of rest code limits q)) step

  -- what a step came to that didn't go on is what the slice came to
  pub slice_ends : (made most : ℕ) (p q : Process) (result : Result Stepped StepFault) → made < most → Leads made p → Answers (code_step code limits p) result p q → result ≢ Ok stepped.Went → AnswersSlice most code limits result start q
  slice_ends made most p q (Ok came) low leads answers other = stops made most p q came low leads (λ went. other (ap Ok went)) answers
  slice_ends made most p q (Err (fault.Wrong why)) low leads answers other = goes_wrong made most p why low leads answers
  slice_ends made most p q (Err fault.OutOfMemory) low leads answers other = (made, low, led made p leads ∙ ap (λ (r : Process). Ok (machine.Went, r)) (sym answers))
