use Rattle.std.proofs.Common.{◌≡◌, ◌+◌, ap, ◌∙◌, subst, arith, Result}
use Rattle.ink_code.specs.Slice.{slice_of}
use Rattle.ink_code.specs.Step.{code_step}
use Rattle.ink_proc.specs.State.{state_of}
use Rattle.ink_steps.specs.Answers.{Answers}
use Rattle.ink_steps.specs.declared.stepped.Stepped.{Stepped}
use Rattle.ink_steps.specs.declared.stepped.StepFault.{StepFault}
use Rattle.ink_interp.proofs.SliceLemmas.{Leads, led, leads_far, leads_on, slice_ends, wrong_far}
use Rattle.ink_interp.proofs.slicing.slice.Goals as goal

pub returns-in-Err : goal.returns-in-Err
returns-in-Err c =
    wrong_far c.args.code.now c.args.limits.now (state_of c.args.proc.now) c.loop.made c.args.turns (state_of c.loop.proc) c.in-Err.why c.loop.invariant.high c.loop.invariant.leads c.in-Err.ensures

pub returns-then-made-turns : goal.returns-then-made-turns
returns-then-made-turns c =
    let leads : Leads c.args.code.now c.args.limits.now (state_of c.args.proc.now) (c.loop.made + c.in-Ok.count) (state_of c.run_quick.new.proc) =
    leads_far c.args.code.now c.args.limits.now (state_of c.args.proc.now) c.loop.made c.in-Ok.count (state_of c.loop.proc) (state_of c.run_quick.new.proc) c.loop.invariant.leads c.in-Ok.ensures.1 in
    let all : c.args.turns ≡ c.loop.made + c.in-Ok.count = omega (arith, c.in-Ok.ensures.0) in
    ap (λ most. slice_of most c.args.code.now c.args.limits.now (state_of c.args.proc.now)) all
    ∙ led c.args.code.now c.args.limits.now (state_of c.args.proc.now) (c.loop.made + c.in-Ok.count) (state_of c.run_quick.new.proc) leads

pub returns-then-not-went_on : goal.returns-then-not-went_on
returns-then-not-went_on c =
    let leads : Leads c.args.code.now c.args.limits.now (state_of c.args.proc.now) (c.loop.made + c.in-Ok.count) (state_of c.run_quick.new.proc) =
    leads_far c.args.code.now c.args.limits.now (state_of c.args.proc.now) c.loop.made c.in-Ok.count (state_of c.loop.proc) (state_of c.run_quick.new.proc) c.loop.invariant.leads c.in-Ok.ensures.1 in
    slice_ends c.args.code.now c.args.limits.now (state_of c.args.proc.now) (c.loop.made + c.in-Ok.count) c.args.turns (state_of c.run_quick.new.proc) (state_of c.step-came.new.proc) c.step-came.result
    (omega arith) leads c.step-came.ensures c.if-not-went_on.ensures

pub loop-preserved : goal.loop-preserved
loop-preserved c =
    let leads : Leads c.args.code.now c.args.limits.now (state_of c.args.proc.now) (c.loop.made + c.in-Ok.count) (state_of c.run_quick.new.proc) =
    leads_far c.args.code.now c.args.limits.now (state_of c.args.proc.now) c.loop.made c.in-Ok.count (state_of c.loop.proc) (state_of c.run_quick.new.proc) c.loop.invariant.leads c.in-Ok.ensures.1 in
    record {
      leads = leads_on c.args.code.now c.args.limits.now (state_of c.args.proc.now) (c.loop.made + c.in-Ok.count) (state_of c.run_quick.new.proc) (state_of c.step-came.new.proc) leads
          (subst (λ (came : Result Stepped StepFault). Answers (code_step c.args.code.now c.args.limits.now (state_of c.run_quick.new.proc)) came (state_of c.run_quick.new.proc) (state_of c.step-came.new.proc)) c.if-not-went_on.ensures c.step-came.ensures);
      low = omega arith;
      high = omega arith;
    }

pub returns : goal.returns
returns c =
    let all : c.args.turns ≡ c.loop.made = omega (arith, c.loop-test.false, c.loop.invariant.low, c.loop.invariant.high) in
    ap (λ most. slice_of most c.args.code.now c.args.limits.now (state_of c.args.proc.now)) all
    ∙ led c.args.code.now c.args.limits.now (state_of c.args.proc.now) c.loop.made (state_of c.loop.proc) c.loop.invariant.leads
