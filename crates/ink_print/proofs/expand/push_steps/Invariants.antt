use Rattle.std.proofs.Common.{◌≡◌, ◌++◌, drop, map}
use Rattle.ink_print.specs.Work.{work_of}
use Rattle.ink_print.proofs.expand.push_steps.Given as goal

abbrev pub invariant-loop-i : goal.invariant-loop-i
invariant-loop-i l = l.stack ≡ map (work_of l.node l.number) (drop l.i l.steps) ++ l.fn.stack
