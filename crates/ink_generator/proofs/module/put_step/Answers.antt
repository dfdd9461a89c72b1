use Rattle.ink_generator.specs.Generated.{step_line}
use Rattle.ink_generator.proofs.Joined.{four}
use Rattle.ink_generator.proofs.module.put_step.Goals as goal

pub returns : goal.returns
unfolding step_line
returns c = four _ _ _ _ _ _ _ _ _ c.in_ok-put_numbered.ensures c.in_ok-put_numbered-2.ensures c.in_ok-put_numbered-3.ensures c.in_ok-extend_from_slice.ensures.items
